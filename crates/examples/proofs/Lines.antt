-- Lines and listings as docs/REFERENCE.md, 'The listing', and docs/DECISIONS.md have them, computed from `text` and `listing`.
use Prim.Native.Nat.{ℕ, zero, suc, ◌*◌}
use mathlib.Core.Bool.{true, false}
use mathlib.Core.List.{List, [], ◌∷◌, ◌++◌}
use mathlib.Core.Path.{◌≡◌, refl}
use native.Mathlib.Omega.{arith}
use lib.ListN.{length, replicate, take, length-append}
use Rattle.errors.specs.declared.Refusal.TheVariants.{InvalidInstructionsIndex, MSliceOutOfBounds, SaveBufferTooShort}
use Rattle.slices.specs.Same.{same}
use Rattle.storage.specs.Table.{lives, living_of}
use Rattle.storage.specs.Tasks.{blank}
use Rattle.storage.specs.declared.Task.{Task}
use Rattle.text.specs.Ascii.{ascii}
use Rattle.text.specs.Numbers.{digit, digits, decimal, hex, spaced, words, filled_in, numbers_left, filled}
use Rattle.text.specs.Escapes.{capital, is_escaped, shown, escaped}
use Rattle.text.specs.declared.Form.TheVariants.{Plain}
use Rattle.text.specs.Lines.{formed, line, said, lined, put_line, measure_line, tell_line, hex_count, parted, hex_part}
use Rattle.utf8.specs.Grammar.{UTF8_char}
use Rattle.utf8.specs.Utf8.{holds, lead, from, valid}
use Rattle.values.specs.Values.{make_vec_tagged, is_vec, raw_tag, fat_pointer, to_fat_pointer, vec_type, get_value_type}
use Rattle.memory.specs.Change.{inside}
use Rattle.memory.specs.Reads.{get_slice_as_str}
use Rattle.memory.specs.Unbox.{unbox_value, where_readable, text_at, by_type}
use Rattle.memory.specs.declared.unbox.Return.TheVariants.{U32, CallData, VecU32, Null, String}
use Rattle.listing.specs.declared.Head.TheVariants.{Done, Paused, Refused}
use Rattle.listing.specs.declared.Counted.TheVariants.{Values, Tasks}
use Rattle.listing.specs.Listing.{ValueRead, values_read, line_of_refusal, line_of_head, line_of_count, line_of_numbers, line_of_value, title_form, line_of_task, lines_of_values, lines_of_tasks, listing, height_of, line_behind, line_by, line_count, slot_shown}
use Rattle.listing.specs.Told.{ValueTold, value_told, values_told, tasks_told, told}
use Rattle.std.specs.Prelude.{Ok, Err}

-- C1, whole
pub c1 : listing (Done 5) (record { answer = Ok (U32 99); part = [] } ∷ []) [] ≡ ascii "done 5\nvalues 1\nu32 99\ntasks 0\n"
unfolding listing line_of_head line_of_count lines_of_values lines_of_tasks line_of_value said line formed filled filled_in numbers_left decimal digits digit ascii living_of
c1 = refl

-- its line 2, counted from 0, is the value, and line 3 the count of tasks
pub c1_value : line_by (Done 5) (record { answer = Ok (U32 99); part = [] } ∷ []) 0 blank 2 ≡ ascii "u32 99\n"
unfolding line_by line_behind line_of_value said line formed filled filled_in numbers_left decimal digits digit ascii
c1_value = refl

pub c1_tasks : line_by (Done 5) (record { answer = Ok (U32 99); part = [] } ∷ []) 0 blank 3 ≡ ascii "tasks 0\n"
unfolding line_by line_behind line_of_count said line formed filled filled_in numbers_left decimal digits digit ascii
c1_tasks = refl

-- with 256 slots it has 260 lines, with none 4
pub c1_lines : line_count 1 256 ≡ 260
unfolding line_count
c1_lines = refl

pub c1_before_slots : line_count 1 0 ≡ 4
unfolding line_count
c1_before_slots = refl

-- its line 4 shows slot 0, and line 6 shows slot 2
pub c1_first_slot : slot_shown 1 4 ≡ 0
unfolding slot_shown
c1_first_slot = refl

pub c1_third_slot : slot_shown 1 6 ≡ 2
unfolding slot_shown
c1_third_slot = refl

-- the values of a run that is done are listed, and those of a paused one are not
pub done_listed : height_of (Done 5) 3 ≡ 3
unfolding height_of
done_listed = refl

pub paused_not_listed : height_of (Paused 5) 3 ≡ 0
unfolding height_of
paused_not_listed = refl

-- the words that are listed are those at the bottom, and no more than there are
pub words_listed : take {A = ℕ} 2 (7 ∷ 8 ∷ 9 ∷ []) ≡ 7 ∷ 8 ∷ []
words_listed = refl

pub all_words_listed : take {A = ℕ} 4 (7 ∷ 8 ∷ []) ≡ 7 ∷ 8 ∷ []
all_words_listed = refl

-- details, one space before each
pub refused_14 : line_of_head (Refused (MSliceOutOfBounds 4 6)) ≡ ascii "refused 14 4 6\n"
unfolding line_of_head line_of_refusal spaced decimal digits digit ascii
refused_14 = refl

-- a paused call
pub paused : line_of_head (Paused 2) ≡ ascii "paused 2\n"
unfolding line_of_head said line formed filled filled_in numbers_left decimal digits digit ascii
paused = refl

-- how many values follow, and how many tasks
pub values : line_of_count Values 3 ≡ ascii "values 3\n"
unfolding line_of_count said line formed filled filled_in numbers_left decimal digits digit ascii
values = refl

pub tasks : line_of_count Tasks 4 ≡ ascii "tasks 4\n"
unfolding line_of_count said line formed filled filled_in numbers_left decimal digits digit ascii
tasks = refl

-- null
pub null : line_of_value (Ok Null) [] ≡ ascii "null\n"
unfolding line_of_value said line formed filled filled_in numbers_left ascii
null = refl

-- calldata in lower-case hex
pub calldata : line_of_value (Ok (CallData (record { 0 = 1 }))) (0x4a ∷ 0x62 ∷ []) ≡ ascii "calldata 4a62\n"
unfolding line_of_value line formed filled filled_in numbers_left hex digit ascii
calldata = refl

-- numbers, one space between
pub numbers : line_of_value (Ok (VecU32 (record { offset = 0; size = 8 }))) (0 ∷ 1 ∷ 0 ∷ 0 ∷ 255 ∷ 255 ∷ 255 ∷ 255 ∷ []) ≡ ascii "vec 256 4294967295\n"
unfolding line_of_value line_of_numbers words spaced decimal digits digit ascii
numbers = refl

-- no numbers leave the space
pub no_numbers : line_of_value (Ok (VecU32 (record { offset = 0; size = 0 }))) [] ≡ ascii "vec \n"
unfolding line_of_value line_of_numbers words ascii
no_numbers = refl

-- the number alone
pub bad : line_of_value (Err (InvalidInstructionsIndex 7)) [] ≡ ascii "bad 12\n"
unfolding line_of_value said line formed filled filled_in numbers_left decimal digits digit ascii
bad = refl

-- 15, and no byte, of a text that is not UTF-8
pub bad_text : lines_of_values (values_read (0x41 ∷ 0xff ∷ []) [] [] 0 (make_vec_tagged 0 2 4 ∷ [])) ≡ ascii "bad 15\n"
unfolding UTF8_char holds lead from valid make_vec_tagged is_vec raw_tag fat_pointer to_fat_pointer vec_type get_value_type get_slice_as_str where_readable text_at by_type inside unbox_value values_read lines_of_values line_of_value said line formed filled filled_in numbers_left decimal digits digit ascii
bad_text = refl

-- a byte 7 of a text takes three
controls_length : (count : ℕ) → length (escaped false (replicate count 7)) ≡ 3 * count
unfolding escaped shown is_escaped
controls_length zero = refl
controls_length (suc count) = omega (arith, controls_length count)

-- the longest line of a text, of 196,611 bytes
pub longest_text : length (line_of_value (Ok (String (record { offset = 0; size = 65535 }))) (replicate 65535 7)) ≡ 196611
unfolding line_of_value line formed filled filled_in ascii
longest_text = omega (arith, controls_length 65535, length-append (escaped false (replicate 65535 7)) (10 ∷ []))

-- id, state and title
pub task : line_of_task (record {
  living = true;
  id = record { 0 = 0 };
  state = record { len = 3; state = 1 };
  instructions_ref = record { 0 = 1 };
  title_len = 2;
  title = 65 ∷ 98 ∷ 0 ∷ [];
}) ≡ ascii "task 0 1 Ab\n"
unfolding line_of_task title_form UTF8_char holds lead from valid line formed escaped shown is_escaped filled filled_in numbers_left decimal digits digit ascii
task = refl

-- a task in state 254, its title this byte 128 times
abbrev repeated : ℕ → ℕ → Task
repeated id byte = record {
  living = true;
  id = record { 0 = id };
  state = record { len = 255; state = 254 };
  instructions_ref = record { 0 = 0 };
  title_len = 128;
  title = replicate 128 byte;
}

-- the longest line of a task, of 405 bytes: an id of ten digits, and each byte of its title escaped
pub longest_task : length (line_of_task (repeated 4294967295 7)) ≡ 405
unfolding line_of_task title_form UTF8_char holds lead from valid line formed escaped shown is_escaped filled filled_in numbers_left decimal digits ascii
longest_task = refl

-- with an id of three digits and a title of letters, 142
pub longest_plain_task : length (line_of_task (repeated 255 65)) ≡ 142
unfolding line_of_task title_form UTF8_char holds lead from valid line formed escaped shown is_escaped filled filled_in numbers_left decimal digits ascii
longest_plain_task = refl

-- a line goes to the buffer's start, and the bytes past it stay
pub put : put_line (7 ∷ 7 ∷ 7 ∷ []) (65 ∷ 10 ∷ []) ≡ lined (Ok 2) (65 ∷ 10 ∷ 7 ∷ [])
unfolding put_line
put = refl

-- one that the buffer does not hold is 24, and the buffer stays
pub not_put : put_line (7 ∷ []) (65 ∷ 10 ∷ []) ≡ lined (Err SaveBufferTooShort) (7 ∷ [])
unfolding put_line
not_put = refl

-- a line that is only measured leaves the buffer, which need not hold it
pub measured : tell_line false (7 ∷ []) (65 ∷ 10 ∷ []) ≡ lined (Ok 2) (7 ∷ [])
unfolding tell_line measure_line
measured = refl

pub not_written : tell_line false (7 ∷ 8 ∷ []) (65 ∷ 10 ∷ []) ≡ lined (Ok 2) (7 ∷ 8 ∷ [])
unfolding tell_line measure_line
not_written = refl

-- one that is written is put
pub written : tell_line true (7 ∷ 8 ∷ []) (65 ∷ 10 ∷ []) ≡ lined (Ok 2) (65 ∷ 10 ∷ [])
unfolding tell_line put_line
written = refl

-- as many bytes in hex as the buffer holds, two digits to a byte
pub in_hex : hex_part (7 ∷ 7 ∷ 7 ∷ []) (0 ∷ 31 ∷ 2 ∷ []) 1 ≡ parted (record { length = 2; next = 2 }) (49 ∷ 102 ∷ 7 ∷ [])
unfolding hex_part hex_count hex digit
in_hex = refl

-- ---- bytes that are escaped

-- so many numbers, from the first one up
unfoldable pub up_from : ℕ → ℕ → List ℕ
up_from first zero = []
up_from first (suc count) = first ∷ up_from (suc first) count

-- the bytes from 0 to 127, as a text and a title show them
abbrev low : List ℕ
low =
    ascii "\\00\\01\\02\\03\\04\\05\\06\\07\\08\\09\\0A\\0B\\0C\\0D\\0E\\0F"
    ++ ascii "\\10\\11\\12\\13\\14\\15\\16\\17\\18\\19\\1A\\1B\\1C\\1D\\1E\\1F"
    ++ ascii " !\"#$%&'()*+,-./0123456789:;<=>?@ABCDEFGHIJKLMNOPQRSTUVWXYZ["
    ++ ascii "\\5C"
    ++ ascii "]^_`abcdefghijklmnopqrstuvwxyz{|}~"
    ++ ascii "\\7F"

-- those from 128 to 255, as a title shows them that is not UTF-8
abbrev high : List ℕ
high =
    ascii "\\80\\81\\82\\83\\84\\85\\86\\87\\88\\89\\8A\\8B\\8C\\8D\\8E\\8F"
    ++ ascii "\\90\\91\\92\\93\\94\\95\\96\\97\\98\\99\\9A\\9B\\9C\\9D\\9E\\9F"
    ++ ascii "\\A0\\A1\\A2\\A3\\A4\\A5\\A6\\A7\\A8\\A9\\AA\\AB\\AC\\AD\\AE\\AF"
    ++ ascii "\\B0\\B1\\B2\\B3\\B4\\B5\\B6\\B7\\B8\\B9\\BA\\BB\\BC\\BD\\BE\\BF"
    ++ ascii "\\C0\\C1\\C2\\C3\\C4\\C5\\C6\\C7\\C8\\C9\\CA\\CB\\CC\\CD\\CE\\CF"
    ++ ascii "\\D0\\D1\\D2\\D3\\D4\\D5\\D6\\D7\\D8\\D9\\DA\\DB\\DC\\DD\\DE\\DF"
    ++ ascii "\\E0\\E1\\E2\\E3\\E4\\E5\\E6\\E7\\E8\\E9\\EA\\EB\\EC\\ED\\EE\\EF"
    ++ ascii "\\F0\\F1\\F2\\F3\\F4\\F5\\F6\\F7\\F8\\F9\\FA\\FB\\FC\\FD\\FE\\FF"

-- each of the 256 bytes in a text, or in a title that is UTF-8
pub all_in_a_text : escaped false (up_from 0 256) ≡ low ++ up_from 128 128
unfolding up_from escaped shown is_escaped capital ascii
all_in_a_text = refl

-- each of them in a title that is not
pub all_in_a_title : escaped true (up_from 0 256) ≡ low ++ high
unfolding up_from escaped shown is_escaped capital ascii
all_in_a_title = refl

-- a task in state 1 with this id and this title
abbrev titled : ℕ → List ℕ → Task
titled id title = record {
  living = true;
  id = record { 0 = id };
  state = record { len = 3; state = 1 };
  instructions_ref = record { 0 = 1 };
  title_len = length title;
  title = title;
}

-- its line as it was shown before, with the title byte by byte
abbrev shown_before : ℕ → List ℕ → List ℕ
shown_before id title = line (ascii "task # # ") (id ∷ 1 ∷ []) Plain title

-- a text with a backslash and a byte 127, as it is read
abbrev odd : ValueRead
odd = record { answer = Ok (String (record { offset = 0; size = 4 })); part = ascii "a\\b\u{7f}" }

-- two tasks; behind a line break in the first title stands what looks like a line
abbrev first_broken : List Task
first_broken = titled 0 (ascii "A\ntask 1 1 B") ∷ titled 1 (ascii "C") ∷ []

-- behind one in the second title
abbrev second_broken : List Task
second_broken = titled 0 (ascii "A") ∷ titled 1 (ascii "B\ntask 1 1 C") ∷ []

-- the examples
pub record Escapes : Type 0 where
  -- a title with a line break takes one line
  pub broken_title : line_of_task (titled 0 (ascii "Ab\nu32 5")) ≡ ascii "task 0 1 Ab\\0Au32 5\n"
  -- this is how it was shown before: it looks like two lines, the second that of a value
  pub broken_title_before : shown_before 0 (ascii "Ab\nu32 5") ≡ ascii "task 0 1 Ab\nu32 5\n"
  -- a text with a backslash and a byte 127
  pub odd_text : line_of_value odd.answer odd.part ≡ ascii "text a\\5Cb\\7F\n"
  -- the listing of a run with both
  pub odd_listing : listing (Done 4) (odd ∷ []) (titled 0 (ascii "Ab\nu32 5") ∷ blank ∷ [])
      ≡ ascii "done 4\nvalues 1\ntext a\\5Cb\\7F\ntasks 1\ntask 0 1 Ab\\0Au32 5\n"
  -- what that listing tells
  pub odd_told : told (Done 4) (odd ∷ []) (titled 0 (ascii "Ab\nu32 5") ∷ blank ∷ []) ≡ record {
    head = Done 4;
    values = ValueTold.text (ascii "a\\b\u{7f}") ∷ [];
    tasks = record { id = 0; state = 1; title = ascii "Ab\nu32 5" } ∷ [];
  }
  -- a title that is UTF-8 keeps its bytes from 128 up
  pub good_title : line_of_task (titled 0 (0xc3 ∷ 0xa4 ∷ [])) ≡ ascii "task 0 1 " ++ (0xc3 ∷ 0xa4 ∷ 10 ∷ [])
  -- in one that is not each of them is escaped, those of a good sequence too
  pub bad_title : line_of_task (titled 0 (0xc3 ∷ 0xa4 ∷ 0xff ∷ 0x41 ∷ [])) ≡ ascii "task 0 1 \\C3\\A4\\FFA\n"
  -- another title, another listing
  pub other_title : same (listing (Done 4) [] (titled 0 (ascii "Ab\nu32 5") ∷ [])) (listing (Done 4) [] (titled 0 (ascii "Ab") ∷ [])) ≡ false
  -- two tables whose lines were the same before, and are told apart
  pub alike_before : shown_before 0 (ascii "A\ntask 1 1 B") ++ shown_before 1 (ascii "C") ≡ shown_before 0 (ascii "A") ++ shown_before 1 (ascii "B\ntask 1 1 C")
  pub told_apart : same (listing (Done 4) [] first_broken) (listing (Done 4) [] second_broken) ≡ false

pub escapes : Escapes
unfolding same values_told value_told tasks_told blank living_of lives UTF8_char holds lead from valid ascii digit digits decimal filled_in numbers_left filled is_escaped capital shown escaped formed line said line_of_head line_of_count line_of_value title_form line_of_task lines_of_values lines_of_tasks listing
escapes = record {
  broken_title = refl;
  broken_title_before = refl;
  odd_text = refl;
  odd_listing = refl;
  odd_told = refl;
  good_title = refl;
  bad_title = refl;
  other_title = refl;
  alike_before = refl;
  told_apart = refl;
}
