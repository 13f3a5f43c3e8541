-- What the check answers, as its line tells it.
use Prim.Native.Nat.{ℕ, ◌+◌, ◌≤◌, ◌<◌}
use mathlib.Core.Bool.{Bool, true, false}
use mathlib.Core.List.{List, reverse}
use mathlib.Core.Path.{◌≡◌, refl, sym, ap, ◌∙◌}
use native.Mathlib.Omega.{arith}
use lib.Dec.{leb}
use lib.ListN.{length, take, drop, replicate, length-replicate, length-reverse, length-map}
use lib.Seq.{sets, sets-eq, take_all, take_at, length-take-le}
use borrow.Author.Tests.{leb-true, leb-false}
use Rattle.slices.proofs.SlicesWrites.{sets_whole, sets_cut}
use Rattle.errors.specs.declared.Refusal.{Refusal}
use Rattle.labels.specs.Labels.{letter, letters}
use Rattle.labels.specs.Check.{Verdict, admitted, refused}
use Rattle.admission.specs.Answer.{Answer, answer, answered}
use Rattle.listing.specs.Listing.{line_of_head}
use Rattle.listing.specs.declared.Head.TheVariants as head
use Rattle.verdict.specs.Verdicts.{line_of_kinds, line_of_verdict}
use Rattle.std.specs.Prelude.{Ok, Err, Result}

-- bytes written at the head of a buffer, and read back as far as it goes
pub read_back : (buffer bytes : List ℕ) (size : ℕ) → length buffer ≡ size → take (length bytes) (sets buffer 0 bytes) ≡ take size bytes
read_back buffer bytes size long = by (leb (length bytes) size) refl
  where
    by : (fits : Bool) → leb (length bytes) size ≡ fits → take (length bytes) (sets buffer 0 bytes) ≡ take size bytes
    by true test =
        let few : length bytes ≤ size = leb-true _ _ test in
        ap (take (length bytes)) (sets-eq bytes buffer 0 (omega (arith, long, few)))
        ∙ take_at bytes (drop (0 + length bytes) buffer) (length bytes) refl
        ∙ sym (take_all size bytes few)
    by false test =
        let more : size < length bytes = leb-false _ _ test in
        let whole : length (take size bytes) ≡ size = length-take-le size bytes (omega (arith, more)) in
        ap (take (length bytes)) (sym (sets_cut buffer bytes 0 size (omega (arith, more)) (omega (arith, long))) ∙ sets_whole buffer (take size bytes) (whole ∙ sym long))
        ∙ take_all (length bytes) (take size bytes) (omega (arith, whole, more))

-- the kinds of an admitted program
pub told_kinds : (verdict : Verdict) (kinds : List ℕ) (result : Result ℕ Refusal) (count : ℕ) → result ≡ Ok count → answer result kinds ≡ answered verdict (replicate 1000 0)
    → line_of_kinds (take count kinds) ≡ line_of_verdict verdict
unfolding answered line_of_verdict
told_kinds (admitted found) kinds result count told e =
    let a : result ≡ Ok (length found) = ap (λ (x : Answer). x.admission) e in
    let k : kinds ≡ sets (replicate 1000 0) 0 (letters (reverse found)) = ap (λ (x : Answer). x.kinds) e in
    let same : count ≡ length found = cc in
    let all : length (letters (reverse found)) ≡ length found = length-map (reverse found) letter ∙ length-reverse found in
    ap (λ (n : ℕ). line_of_kinds (take n kinds)) (same ∙ sym all)
    ∙ ap (λ (l : List ℕ). line_of_kinds (take (length (letters (reverse found))) l)) k
    ∙ ap line_of_kinds (read_back (replicate 1000 0) (letters (reverse found)) 1000 (length-replicate {A = ℕ} 1000 0))
told_kinds (refused refusal) kinds result count told e =
    let a : result ≡ Err refusal = ap (λ (x : Answer). x.admission) e in
    absurd (let z : ◌≡◌ {A = ℕ} 0 1 = cc in omega (arith, z))

-- the refusal of another one
pub told_refusal : (verdict : Verdict) (kinds : List ℕ) (result : Result ℕ Refusal) (refusal : Refusal) → result ≡ Err refusal → answer result kinds ≡ answered verdict (replicate 1000 0)
    → line_of_head (head.Refused refusal) ≡ line_of_verdict verdict
unfolding answered line_of_verdict
told_refusal (admitted found) kinds result refusal told e =
    let a : result ≡ Ok (length found) = ap (λ (x : Answer). x.admission) e in
    absurd (let z : ◌≡◌ {A = ℕ} 0 1 = cc in omega (arith, z))
told_refusal (refused given) kinds result refusal told e =
    let a : result ≡ Err given = ap (λ (x : Answer). x.admission) e in
    let same : refusal ≡ given = cc in
    ap (λ (r : Refusal). line_of_head (head.Refused r)) same
