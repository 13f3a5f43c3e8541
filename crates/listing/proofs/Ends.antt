-- Each line of a listing has one line feed, at its end; so equal texts of lines have the same first line, and the same behind it.
use Rattle.std.proofs.Common.{◌≡◌, ℕ, Bool, true, false, cond, not, List, [], ◌∷◌, ◌++◌, length, sym, refl, ap, ◌∙◌, append_assoc, arith, length-append}
use lib.Seq.{append_snoc}
use Rattle.errors.specs.Refusals.{number_of, details_of}
use Rattle.text.specs.Ascii.{ascii}
use Rattle.text.specs.Numbers.{decimal, hex, spaced, words, filled_in, numbers_left, filled}
use Rattle.text.specs.Escapes.{escaped}
use Rattle.text.specs.Lines.{formed, line, said}
use Rattle.text.specs.declared.Form.TheVariants.{Escaped, Ascii}
use Rattle.text.proofs.Feeds.{lacks, lacks_append, decimal_then, spaced_lacks, hex_lacks, escaped_lacks, cut_same}
use Rattle.utf8.specs.Utf8.{valid}
use Rattle.memory.specs.declared.unbox.Return.{Return}
use Rattle.memory.specs.declared.unbox.Return.TheVariants as kind
use Rattle.listing.specs.declared.Head.{Head}
use Rattle.listing.specs.declared.Head.TheVariants.{Done, Paused, Refused, Saved}
use Rattle.listing.specs.declared.Counted.{Counted}
use Rattle.listing.specs.declared.Counted.TheVariants.{Values, Tasks}
use Rattle.listing.specs.Listing.{title_form}
use Rattle.listing.specs.Listing.{line_of_refusal, line_of_head, line_of_count, line_of_bool, line_of_numbers, line_of_value}
use Rattle.listing.specs.Told.{TaskTold}
use Rattle.std.specs.Prelude.{Result, Ok, Err}
use Rattle.errors.specs.declared.Refusal.{Refusal}

-- ---- a line's end

-- one line feed, at the end
pub record Ended (line : List ℕ) : Type 0 where
  pub body : List ℕ
  pub is : line ≡ body ++ 10 ∷ []
  pub plain : lacks 10 body ≡ true

-- a word and a text behind it
ended : (word text : List ℕ) → lacks 10 word ≡ true → lacks 10 text ≡ true → Ended (word ++ (text ++ 10 ∷ []))
ended word text plain plain-too = record {
  body = word ++ text;
  is = sym (append_assoc word text (10 ∷ []));
  plain = lacks_append 10 word text ∙ rw (plain, plain-too);
}

-- a word and numbers behind it
numbers_ended : (word numbers : List ℕ) → lacks 10 word ≡ true → Ended (word ++ (spaced numbers ++ 10 ∷ []))
numbers_ended word numbers plain = ended word (spaced numbers) plain (spaced_lacks numbers)

-- how the call ended
pub head_ended : (head : Head) → Ended (line_of_head head)
unfolding lacks line_of_head line_of_refusal said line formed filled filled_in numbers_left ascii spaced
head_ended (Done n) = numbers_ended (ascii "done") (n ∷ []) refl
head_ended (Paused n) = numbers_ended (ascii "paused") (n ∷ []) refl
head_ended (Refused r) = numbers_ended (ascii "refused") (number_of r ∷ details_of r) refl
head_ended (Saved n) = numbers_ended (ascii "saved") (n ∷ []) refl

-- how many follow
pub count_ended : (counted : Counted) (n : ℕ) → Ended (line_of_count counted n)
unfolding lacks line_of_count said line formed filled filled_in numbers_left ascii spaced
count_ended Values n = numbers_ended (ascii "values") (n ∷ []) refl
count_ended Tasks n = numbers_ended (ascii "tasks") (n ∷ []) refl

-- numbers, or none
vec_ended : (numbers : List ℕ) → Ended (line_of_numbers numbers)
unfolding lacks line_of_numbers ascii spaced
vec_ended [] = ended (ascii "vec ") [] refl refl
vec_ended (n ∷ more) = numbers_ended (ascii "vec") (n ∷ more) refl

-- a value
pub value_ended : (kind : Result Return Refusal) (part : List ℕ) → Ended (line_of_value kind part)
unfolding lacks line_of_value line_of_bool said line formed filled filled_in numbers_left ascii spaced
value_ended (Ok (kind.U32 n)) part = numbers_ended (ascii "u32") (n ∷ []) refl
value_ended (Ok (kind.Boolean true)) part = ended (ascii "bool true") [] refl refl
value_ended (Ok (kind.Boolean false)) part = ended (ascii "bool false") [] refl refl
value_ended (Ok (kind.String pointer)) part = ended (ascii "text ") (escaped false part) refl (escaped_lacks false part)
value_ended (Ok (kind.CallData entry)) part = ended (ascii "calldata ") (hex part) refl (hex_lacks part)
value_ended (Ok (kind.VecU32 pointer)) part = vec_ended (words part)
value_ended (Ok kind.Null) part = ended (ascii "null") [] refl refl
value_ended (Err r) part = numbers_ended (ascii "bad") (number_of r ∷ []) refl

-- a title is escaped, whether it is UTF-8 or not
pub title_escaped : (title numbers : List ℕ) → formed (title_form title) title numbers ≡ escaped (not (valid title)) title
unfolding formed title_form
title_escaped title numbers = by (valid title)
  where
    by : (is-valid : Bool) → formed (cond is-valid Escaped Ascii) title numbers ≡ escaped (not is-valid) title
    by true = refl
    by false = refl

-- the line of a living task, by what is told of it
abbrev pub line_of_told : TaskTold → List ℕ
line_of_told task = line (ascii "task # # ") (task.id ∷ task.state ∷ []) (title_form task.title) task.title

-- a living task
pub task_ended : (task : TaskTold) → Ended (line_of_told task)
unfolding lacks line filled filled_in numbers_left ascii
task_ended task =
    ended (filled (ascii "task # # ") (task.id ∷ task.state ∷ []))
    (formed (title_form task.title) task.title (task.id ∷ task.state ∷ []))
    (decimal_then task.id (32 ∷ (decimal task.state ++ 32 ∷ [])) ∙ decimal_then task.state (32 ∷ []))
    (ap (lacks 10) (title_escaped task.title (task.id ∷ task.state ∷ [])) ∙ escaped_lacks (not (valid task.title)) task.title)

-- ---- the first line of a text

-- the first line's feed is the first of the text
first_feed : {line : List ℕ} (rest : List ℕ) (first : Ended line) → line ++ rest ≡ first.body ++ 10 ∷ rest
first_feed rest first = ap (λ (l : List ℕ). l ++ rest) first.is ∙ append_snoc first.body 10 rest

-- equal texts have the same first line, and the same behind it
pub first_same : {line other rest rests : List ℕ} → Ended line → Ended other → line ++ rest ≡ other ++ rests → (line ≡ other) × (rest ≡ rests)
first_same {rest} {rests} first second same =
    let parts = cut_same 10 first.plain second.plain (sym (first_feed rest first) ∙ same ∙ first_feed rests second) in
    (first.is ∙ ap (λ (l : List ℕ). l ++ 10 ∷ []) parts.0 ∙ sym second.is, parts.1)

-- a text with a line is not empty
pub not_empty : {line : List ℕ} (rest : List ℕ) → Ended line → [] ≡ line ++ rest → ⊥
not_empty rest first none = omega (arith, ap length (none ∙ first_feed rest first), length-append first.body (10 ∷ rest))
