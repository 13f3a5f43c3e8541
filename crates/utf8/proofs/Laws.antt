-- How the test goes on, for the code.
use Prim.Native.Nat.{ℕ, zero, suc, ◌+◌, ◌-◌, ◌<◌, ◌≤◌}
use mathlib.Core.Path.{◌≡◌, refl, sym, ◌∙◌}
use mathlib.Core.List.{List, [], ◌∷◌}
use mathlib.Core.Bool.{true}
use native.Mathlib.Numerals.{add-one}
use native.Mathlib.Omega.{arith}
use borrow.Author.Tests.{eq-eqb, ne_eqb}
use lib.ListN.{length, get_or, drop, drop_of_length-le}
use lib.Seq.{drop-cons}
use lib.Dec.{eqb}
use Rattle.utf8.specs.Grammar.{Range, %x, UTF8_char, In}
use Rattle.utf8.specs.Utf8.{from, valid}
use Rattle.utf8.specs.Steps.{due, valid_after}
use Rattle.utf8.proofs.Lead.{in_holds, out_fails, Begins, rest_of, takes}
use Rattle.std.specs.Prelude.{Some, None, Option}

-- a first octet leaves what its alternative asks for
pub opens : (k b : ℕ) (s : List ℕ) → Begins UTF8_char k b → rest_of UTF8_char k (from s) ≡ from (b ∷ s) []
unfolding from
opens k b s u = sym (takes UTF8_char k b (from s) u)

-- octets below 0x80 are UTF-8
pub ascii : (s : List ℕ) → ((k : ℕ) → k < length s → get_or s k 0 < 0x80) → true ≡ valid s
unfolding valid from UTF8_char
ascii [] all = refl
ascii (b ∷ s) all = ascii s (λ k h. all (suc k) (omega arith)) ∙ opens 0 b s (omega (arith, all 0 (omega arith)))

-- an octet that is due leaves one less
pub due_in :
    (more low high b : ℕ) (s : List ℕ) → 0 < more → In (%x low high) b →
    valid_after (Some (more - 1, 0x80, 0xBF)) s ≡ from (b ∷ s) (due more low high)
unfolding valid_after from due
due_in zero low high b s h p = absurd (omega arith)
due_in (suc n) low high b s h p = let less : suc n - 1 ≡ n = omega arith in rw (in_holds p, less)

-- an octet that is not due ends the test
pub due_out :
    (more low high b : ℕ) (s : List ℕ) → 0 < more → (In (%x low high) b → ⊥) →
    valid_after None s ≡ from (b ∷ s) (due more low high)
unfolding valid_after from due
due_out zero low high b s h out = absurd (omega arith)
due_out (suc n) low high b s h out = rw (out_fails (%x low high) b out)

-- a turn of the loop keeps its invariant
pub turn :
    (s : List ℕ) (i : ℕ) (ranges : List Range) (r step : Option (ℕ × ℕ × ℕ)) → i < length s → from (drop i s) ranges ≡ valid s →
    ((t : List ℕ) → valid_after r t ≡ from (get_or s i 0 ∷ t) ranges) → r ≡ step → valid_after step (drop (i + 1) s) ≡ valid s
turn s i ranges r step h inv made is =
    let peel : drop i s ≡ get_or s i 0 ∷ drop (i + 1) s = rw (drop-cons s i 0, add-one) in
    cc (made (drop (i + 1) s))

-- at the end nothing may be due
pub ended : (s : List ℕ) (i more low high : ℕ) → length s ≤ i → eqb more 0 ≡ from (drop i s) (due more low high)
unfolding from due
ended s i zero low high h = rw (drop_of_length-le s h, eq-eqb 0 0 refl)
ended s i (suc n) low high h = rw (drop_of_length-le s h, ne_eqb (suc n) 0 (omega arith))
