-- The bytes of a call: where they stand, and the numbers in them.
use Prim.Native.Nat.{ℕ, ◌+◌, ◌-◌, ◌*◌, ◌/◌, ◌<◌, ◌≤◌}
use mathlib.Core.List.{List, [], ◌∷◌}
use mathlib.Core.Path.{◌≡◌, sym, ap, ◌∙◌}
use native.Mathlib.Omega.{arith}
use lib.ListN.{length, take, drop, get_or, length-drop}
use lib.Seq.{take_all}
use borrow.Author.Tests.{le-leb, lt-leb}
use Rattle.std.specs.Int.{w64, from_le_bytes}
use Rattle.slices.specs.Numbers.{number_at}
use Rattle.printer.specs.Asked.{call_at}

-- ---- numbers

-- eight bytes from the second on, as a 64-bit number reads them
pub eight_read : (bytes : List ℕ)
    → from_le_bytes w64 (get_or bytes 1 0 ∷ get_or bytes 2 0 ∷ get_or bytes 3 0 ∷ get_or bytes 4 0 ∷ get_or bytes 5 0 ∷ get_or bytes 6 0 ∷ get_or bytes 7 0 ∷ get_or bytes 8 0 ∷ [])
    ≡ number_at 8 bytes 1
unfolding number_at
eight_read bytes = omega arith

-- ---- the bytes from a place on

rest_of : (calls : List ℕ) (start : ℕ) → take (length calls) (drop start calls) ≡ drop start calls
rest_of calls start =
    let count : length (drop start calls) ≡ length calls - start = length-drop start calls in
    let inside : length (drop start calls) ≤ length calls = omega arith in
    take_all (length calls) (drop start calls) inside

past_it : (calls : List ℕ) (start number : ℕ) → length (drop start calls) / 9 ≤ number → [] ≡ call_at calls start number
unfolding call_at
past_it calls start number past = simp (le-leb _ _ past)

within_it : (calls : List ℕ) (start number : ℕ) → number < length (drop start calls) / 9 → take 9 (drop (number * 9) (drop start calls)) ≡ call_at calls start number
unfolding call_at
within_it calls start number within = simp (lt-leb _ _ within)

-- no chunk of nine bytes of that number, and the chunk that there is
pub no_call : (calls : List ℕ) (start number : ℕ) {rest : List ℕ} → rest ≡ take (length calls) (drop start calls) → length rest / 9 ≤ number → [] ≡ call_at calls start number
no_call calls start number {rest} is past =
    let count : length rest ≡ length (drop start calls) = ap length (is ∙ rest_of calls start) in
    past_it calls start number (rw (sym count) past)

pub a_call : (calls : List ℕ) (start number : ℕ) {rest r : List ℕ} → rest ≡ take (length calls) (drop start calls) → number * 9 + 9 ≤ length rest → r ≡ take 9 (drop (number * 9) rest) → r ≡ call_at calls start number
a_call calls start number {rest} {r} is within some =
    let all : rest ≡ drop start calls = is ∙ rest_of calls start in
    let count : length rest ≡ length (drop start calls) = ap length all in
    let within_all : number < length (drop start calls) / 9 = omega arith in
    some ∙ ap (λ (l : List ℕ). take 9 (drop (number * 9) l)) all ∙ within_it calls start number within_all
