-- A state set in a table: inside it, and past the last slot.
use Rattle.std.proofs.Common.{◌≡◌, ℕ, ◌<◌, ◌≤◌, List, length, get_or, set, sym, ap, ◌∙◌, arith, le-leb}
use lib.ListN.{get_or-eq_default}
use Rattle.std.proofs.lemmas.List.{get_or_default}
use lib.Seq.{set_out}
use Rattle.storage.specs.declared.Task.{Task}
use Rattle.storage.specs.Tasks.{blank, no_such_state, with_state, After, after, set_state}
use Rattle.storage.specs.Table.{set_state_at}
use Rattle.std.specs.Prelude.{Result, ⊤}
use Rattle.errors.specs.declared.Refusal.{Refusal}

-- a slot put into a state
pub set_inside : (table : List Task) (slot new_state : ℕ) (r : Result ⊤ Refusal) (task other : Task) → slot < length table → after r task ≡ set_state (get_or table slot other) new_state
    → after r (set table slot task) ≡ set_state_at table slot new_state
unfolding set_state_at
set_inside table slot new_state r task other within e =
    ap (λ (s : After (Result ⊤ Refusal) Task). after s.answer (set table slot s.lent)) (e ∙ ap (λ (t : Task). set_state t new_state) (get_or_default table slot other blank within))

-- the blank record has no state to take
blank_refuses : (new_state : ℕ) → (set_state blank new_state).answer ≡ no_such_state new_state
unfolding set_state with_state blank
blank_refuses new_state = simp (le-leb 0 new_state (omega arith))

-- past the last slot
pub set_past : (table : List Task) (slot new_state : ℕ) (r : Result ⊤ Refusal) → length table ≤ slot → r ≡ no_such_state new_state
    → after r table ≡ set_state_at table slot new_state
unfolding set_state_at
set_past table slot new_state r past e =
    let none : get_or table slot blank ≡ blank = get_or-eq_default table blank past in
    ap (λ (s : Result ⊤ Refusal). after s table) (e ∙ sym (blank_refuses new_state) ∙ ap (λ (task : Task). (set_state task new_state).answer) (sym none))
    ∙ ap (after (set_state (get_or table slot blank) new_state).answer) (sym (set_out table slot _ past))
