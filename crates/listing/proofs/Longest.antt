-- 196,611 bytes hold the line of every value: of a text of 65,535 bytes, of 16,383 numbers, or of calldata of 65,536 bytes.
use Rattle.std.proofs.Common.{◌≡◌, ℕ, suc, ◌+◌, ◌*◌, ◌<◌, ◌≤◌, Bool, true, false, ltb, List, [], ◌∷◌, ◌++◌, length, get_or, refl, arith, length-append}
use Rattle.errors.specs.Refusals.{number_of, details_of}
use Rattle.errors.specs.declared.Refusal.{Refusal}
use Rattle.errors.specs.declared.Refusal.TheVariants as refusal
use Rattle.text.specs.Ascii.{ascii}
use Rattle.text.specs.Numbers.{decimal, hex, spaced, words, filled_in, numbers_left, filled}
use Rattle.text.specs.Escapes.{escaped}
use Rattle.text.specs.Lines.{formed, line, said}
use Rattle.text.proofs.Decimals.{few_digits}
use Rattle.text.proofs.Escaping.{escaped_short}
use Rattle.text.proofs.Hexes.{hex_length}
use Rattle.pools.specs.declared.InstructionsRef.{InstructionsRef}
use Rattle.memory.specs.declared.unbox.Return.{Return}
use Rattle.memory.specs.declared.unbox.Return.TheVariants.{U32, Boolean, String, CallData, VecU32, Null}
use Rattle.listing.specs.Listing.{line_of_bool, line_of_numbers, line_of_value}
use Rattle.std.specs.Prelude.{Ok, Err, Result}

-- a number of 32 bits has at most 10 digits
pub ten_digits : (n : ℕ) → n < 4294967296 → length (decimal n) ≤ 10
ten_digits n small = few_digits 9 n (ltb n 10) refl (omega arith)

-- a number and its space take at most 11 bytes for 4
spaced_short : (part : List ℕ) → ((i : ℕ) → get_or part i 0 < 256) → length (spaced (words part)) * 4 ≤ 11 * length part
unfolding spaced words
spaced_short [] byte = omega arith
spaced_short (a ∷ []) byte = omega arith
spaced_short (a ∷ b ∷ []) byte = omega arith
spaced_short (a ∷ b ∷ c ∷ []) byte = omega arith
spaced_short (a ∷ b ∷ c ∷ d ∷ more) byte =
    let rest : length (spaced (words more)) * 4 ≤ 11 * length more = spaced_short more (λ i. byte (suc (suc (suc (suc i))))) in
    let few : length (decimal (a + 256 * b + 65536 * c + 16777216 * d)) ≤ 10 = ten_digits (a + 256 * b + 65536 * c + 16777216 * d) (omega (arith, byte 0, byte 1, byte 2, byte 3)) in
    omega (arith, length-append (decimal (a + 256 * b + 65536 * c + 16777216 * d)) (spaced (words more)))

-- `vec ` and numbers take no more than their spaces and digits, and 5
numbers_length : (numbers : List ℕ) → length (line_of_numbers numbers) ≤ 5 + length (spaced numbers)
unfolding line_of_numbers spaced ascii
numbers_length [] = omega arith
numbers_length (n ∷ more) = omega (arith, length-append (decimal n ++ spaced more) (10 ∷ []))

-- every number of a refusal has two digits at most, and two details stand beside it at most
pub short_refusal : (r : Refusal) → (number_of r < 100) × (length (details_of r) ≤ 2)
short_refusal refusal.EmptyInstructions = omega arith
short_refusal refusal.UnexpectedEOB = omega arith
short_refusal refusal.StackUnderflow = omega arith
short_refusal refusal.StackOverflow = omega arith
short_refusal refusal.InvalidType = omega arith
short_refusal refusal.TypeMismatch = omega arith
short_refusal refusal.MultiplicationOverflowed = omega arith
short_refusal refusal.MaxStatesError = omega arith
short_refusal (refusal.TaskNotFound id) = omega arith
short_refusal (refusal.InvalidTaskField field) = omega arith
short_refusal (refusal.InvalidStatus state) = omega arith
short_refusal (refusal.InvalidInstructionsIndex index) = omega arith
short_refusal refusal.MSliceParamOverflow = omega arith
short_refusal (refusal.MSliceOutOfBounds index size) = omega arith
short_refusal refusal.BytesToStringConversionError = omega arith
short_refusal refusal.AlignmentMismatch = omega arith
short_refusal refusal.SliceSizeMismatch = omega arith
short_refusal refusal.TableFull = omega arith
short_refusal refusal.TitleTooLong = omega arith
short_refusal refusal.PoolFull = omega arith
short_refusal refusal.MemoryTooShort = omega arith
short_refusal refusal.SaveBufferTooShort = omega arith
short_refusal (refusal.BadImage place) = omega arith
short_refusal refusal.WrongPhaseOrUnsound = omega arith
short_refusal (refusal.NotAdmitted place) = omega arith
short_refusal refusal.ProgramTooLong = omega arith

-- a line of one number, behind its word
pub one_number : (n : ℕ) → length (decimal n ++ [] ++ 10 ∷ []) ≡ length (decimal n) + 1
one_number n = omega (arith, length-append (decimal n ++ []) (10 ∷ []), length-append (decimal n) [])

-- a number that was read has 32 bits
unfoldable pub number_fits : Result Return Refusal → Type 0
number_fits (Ok (U32 n)) = n < 4294967296
number_fits (Ok (Boolean truth)) = Unit
number_fits (Ok (String pointer)) = Unit
number_fits (Ok (CallData entry)) = Unit
number_fits (Ok (VecU32 pointer)) = Unit
number_fits (Ok Null) = Unit
number_fits (Err r) = Unit

bool_short : (truth : Bool) → length (line_of_bool truth) ≤ 196611
unfolding line_of_bool said line formed filled filled_in numbers_left ascii
bool_short true = omega arith
bool_short false = omega arith

-- the line of calldata fits into 196,611 bytes, whatever its bytes are
pub longest_calldata : (entry : InstructionsRef) (part : List ℕ) → length part ≤ 65536 → length (line_of_value (Ok (CallData entry)) part) ≤ 196611
unfolding line_of_value line formed filled filled_in numbers_left ascii
longest_calldata entry part few = omega (arith, length-append (hex part) (10 ∷ []), hex_length part)

-- the line of a value fits into 196,611 bytes
pub longest : (kind : Result Return Refusal) (part : List ℕ) → number_fits kind → length part ≤ 65535 → ((i : ℕ) → get_or part i 0 < 256)
    → length (line_of_value kind part) ≤ 196611
unfolding number_fits line_of_value said line formed filled filled_in numbers_left ascii
longest (Ok (U32 n)) part fits few byte = omega (arith, one_number n, ten_digits n fits)
longest (Ok (Boolean truth)) part fits few byte = bool_short truth
longest (Ok (String pointer)) part fits few byte = omega (arith, length-append (escaped false part) (10 ∷ []), escaped_short false part)
longest (Ok (CallData entry)) part fits few byte = longest_calldata entry part (omega arith)
longest (Ok (VecU32 pointer)) part fits few byte = omega (arith, numbers_length (words part), spaced_short part byte)
longest (Ok Null) part fits few byte = omega arith
longest (Err r) part fits few byte = omega (arith, one_number (number_of r), ten_digits (number_of r) (omega (arith, short_refusal r)))
