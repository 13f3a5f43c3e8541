-- The place in 25: the start of the first record that is cut or breaks a rule.
use Prim.Native.Nat.{ℕ, zero, suc, ◌+◌, ◌<◌}
use mathlib.Core.Bool.{Bool, true, false, cond}
use mathlib.Core.List.{List, [], ◌++◌}
use mathlib.Core.Path.{◌≡◌, refl, sym, ◌∙◌, subst}
use native.Mathlib.Omega.{arith}
use lib.Dec.{eqb}
use lib.ListN.{length, drop, length-drop}
use borrow.Author.Tests.{eqb-false}
use Rattle.image.proofs.Endian.{bytes_drop}
use Rattle.roundtrips.proofs.LoadSave.{record_again, fine_is, task_id, whole_length}
use Rattle.image.proofs.Puts.{record_size}
use Rattle.image.proofs.Rules.{Rules, good_rules, rules_good, clash}
use Rattle.image.proofs.Walks.{read_next}
use Rattle.image.proofs.Readings.{not_bad, joined_sound, joined_bad}
use Rattle.image.specs.Image.{ImageTask, record_of, body, Fine, Parsed, sound, bad_at, body_length, id_in, task_at, good, task_before, read_from}
use Rattle.slices.specs.Numbers.{Bytes}

-- fine records, and then bytes that no such record starts
pub data Breaks (next_id : ℕ) : ℕ → ℕ → List ℕ → ℕ → Type 0 where
  here : {low at : ℕ} {bytes : List ℕ} → 0 < length bytes → (Rules next_id low bytes → ⊥) → Breaks next_id low at bytes at
  later : {low at place : ℕ} {bytes : List ℕ} {task : ImageTask} → Fine next_id low task → Breaks next_id (task.id + 1) (at + length (record_of 2 (body task))) bytes place → Breaks next_id low at (record_of 2 (body task) ++ bytes) place

-- one record on
after : {next_id low at place : ℕ} {bytes : List ℕ} → Bytes bytes → Rules next_id low bytes → Breaks next_id (id_in bytes + 1) (at + (6 + body_length bytes)) (drop (6 + body_length bytes) bytes) place → Breaks next_id low at bytes place
after {next_id} {low} {at} {place} {bytes} b r rest =
    let n : at + (6 + body_length bytes) ≡ at + length (record_of 2 (body (task_at bytes))) = omega (arith, record_size (task_at bytes), whole_length r) in
    subst (λ (l : List ℕ). Breaks next_id low at l place) (sym (record_again b r))
    (later (fine_is b r)
    (subst (λ (i : ℕ). Breaks next_id (i + 1) (at + length (record_of 2 (body (task_at bytes)))) (drop (6 + body_length bytes) bytes) place) (sym (task_id bytes))
    (subst (λ (k : ℕ). Breaks next_id (id_in bytes + 1) k (drop (6 + body_length bytes) bytes) place) n rest)))

not_sound : {A B : Type 0} {place : ℕ} {found : A} → sound found ≡ bad_at place → B
not_sound e = not_bad (sym e)

-- where reading stops, the first record that is cut or breaks a rule starts
pub bad_place : (bound next_id low at place : ℕ) (bytes : List ℕ) → Bytes bytes → length bytes < bound → read_from bound next_id low at bytes ≡ bad_at place → Breaks next_id low at bytes place
bad_place zero next_id low at place bytes b h e = absurd (omega arith)
bad_place (suc bound) next_id low at place bytes b h e =
    by_end (λ o q. bad_place bound next_id (id_in bytes + 1) (at + (6 + body_length bytes)) place (drop (6 + body_length bytes) bytes) (bytes_drop (6 + body_length bytes) b) (omega (arith, length-drop (6 + body_length bytes) bytes)) q)
    (eqb (length bytes) 0) refl (sym (read_next bound next_id low at bytes) ∙ e)
  where
    rest : Parsed (List ImageTask)
    rest = read_from bound next_id (id_in bytes + 1) (at + (6 + body_length bytes)) (drop (6 + body_length bytes) bytes)

    by_found : (rest ≡ bad_at place → Breaks next_id (id_in bytes + 1) (at + (6 + body_length bytes)) (drop (6 + body_length bytes) bytes) place) → (r : Parsed (List ImageTask)) → rest ≡ r → good next_id low bytes ≡ true → task_before (task_at bytes) r ≡ bad_at place → Breaks next_id low at bytes place
    by_found on (sound us) q g j = not_sound (sym (joined_sound (task_at bytes) us) ∙ j)
    by_found on (bad_at k) q g j = after b (good_rules next_id low bytes g) (on (q ∙ sym (joined_bad (task_at bytes) k) ∙ j))

    by_good : 0 < length bytes → (rest ≡ bad_at place → Breaks next_id (id_in bytes + 1) (at + (6 + body_length bytes)) (drop (6 + body_length bytes) bytes) place) → (c : Bool) → good next_id low bytes ≡ c → cond c (task_before (task_at bytes) rest) (bad_at at) ≡ bad_at place → Breaks next_id low at bytes place
    by_good o on true g j = by_found on rest refl g j
    by_good o on false g j =
        let n : at ≡ place = cc in
        subst (λ (k : ℕ). Breaks next_id low at bytes k) n (here o (λ r. clash (rules_good r) g))

    by_end : (0 < length bytes → rest ≡ bad_at place → Breaks next_id (id_in bytes + 1) (at + (6 + body_length bytes)) (drop (6 + body_length bytes) bytes) place) → (c : Bool) → eqb (length bytes) 0 ≡ c → cond c (sound []) (cond (good next_id low bytes) (task_before (task_at bytes) rest) (bad_at at)) ≡ bad_at place → Breaks next_id low at bytes place
    by_end on true q j = not_sound j
    by_end on false q j =
        let n : length bytes ≡ 0 → ⊥ = eqb-false (length bytes) 0 q in
        let o : 0 < length bytes = omega arith in
        by_good o (on o) (good next_id low bytes) refl j
