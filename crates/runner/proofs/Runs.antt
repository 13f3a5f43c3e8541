-- How a machine on its way gets to the end of its run, a turn at a time.
use Rattle.std.proofs.Common.{◌≡◌, ℕ, zero, suc, ◌+◌, ◌-◌, ◌*◌, ◌^◌, ◌<◌, ◌≤◌, Bool, true, false, cond, eqb, ltb, leb, List, length, get_or, sym, refl, ap, ◌∙◌, subst, arith, ltb-false, ltb-true, eqb-true, le-leb}
use mathlib.Core.Option.{Option, none as not-refused, some as is-refused}
use borrow.Author.Tests.{lt-leb}
use Rattle.errors.specs.declared.Refusal.{Refusal}
use Rattle.bytecode.specs.Opcodes.{S_SAVE}
use Rattle.storage.specs.declared.Task.{Task}
use Rattle.mechanism.specs.Registers.{OnMemory, on_memory}
use Rattle.mechanism.specs.declared.Registers.{Registers}
use Rattle.image.specs.Table.{SavedTable, saved_table, saved_over, saved_unless, save_tasks, save_table}
use Rattle.mechanism.specs.Execute.{instruct}
use Rattle.mechanism.specs.Steps.{Halted, is_outer, halted, onward, turn as core-turn, steps}
use Rattle.machine.specs.declared.Machine.{Machine}
use Rattle.mechanism.specs.declared.Halt.TheVariants as halt
use Rattle.machine.specs.Machines.{code_of}
use Rattle.mechanism.specs.Registers.{registers_of, settled}
use Rattle.mechanism.specs.Advance.{ended as outcome-at, wanted, halted_at, after_steps, advance}
use Rattle.mechanism.specs.Turns.{going_on, turned, save_result}
use Rattle.mechanism.specs.declared.Standing.{Standing}
use Rattle.mechanism.specs.declared.Standing.TheVariants as standing
use Rattle.runner.specs.Behind.{next_of, save_answered, saved}
use Rattle.runner.proofs.Leaving.{inside, next_is}
use Rattle.mechanism.proofs.Whole.{step_is}
use Rattle.mechanism.specs.Act.{OnAll}
use Rattle.machine.specs.Machines.{op_at}
use Rattle.machine.specs.declared.Outcome.{Outcome}
use Rattle.machine.specs.declared.Outcome.TheVariants as outcomes
use Rattle.mechanism.proofs.Either.{either}
use Rattle.mechanism.proofs.Acts as acts-law
use Rattle.mechanism.proofs.Acts.{act_leaves}
use Rattle.mechanism.proofs.Memory.{Leaves, finished, kept}
use Rattle.mechanism.proofs.Instruction.{instruct_leaves}
use Rattle.machine.specs.World.{World, world, at_end}
use Rattle.machine.specs.Words.{StepResult, next, refused}
use Rattle.mechanism.specs.Step.{outer, inner, inner_result, acts_result, acts, saves_result, saves, step_by_parts}
use Rattle.machine.specs.Run.{End, end_at, follow, run}
use Rattle.runner.specs.Going.{Going, going, beside, Acting, acted, after_act, task_turn, after_save, save_turn, from_acting, from_saving, turn_by, turn, begins, goes_on}
use Rattle.runner.proofs.Stating.{acts_on_record}
use Rattle.mechanism.proofs.Settled.{on_bool, registers_settled, code_settled, place_settled, settled_twice, settled_same, op_settled, count_settled}
use Rattle.std.specs.Prelude.{Ok, Err, Result}

-- the machine with everything lent to it
abbrev pub world_of : Going → World
world_of g = world g.progress.machine g.table g.stack g.memory g.pool g.ends g.save

-- where it ends, between two turns
unfoldable pub comes_by : Going → Standing → End
comes_by g standing.Going = run g.progress.left (world_of g)
comes_by g (standing.AtHand op) = run g.progress.left (world_of g)
comes_by g (standing.Ended outcome) = end_at (world_of g) g.progress.left outcome

abbrev pub comes_to : Going → End
comes_to g = comes_by g g.progress.standing

-- where it ends, behind an instruction at hand
unfoldable finishes_by : Going → Standing → End
finishes_by g standing.Going = run g.progress.left (world_of g)
finishes_by g (standing.AtHand op) =
    follow (λ v. run (g.progress.left - 1) v) (world_of g) g.progress.left (outer (world_of g) (eqb op S_SAVE) (wanted g.stack g.progress.machine op))
finishes_by g (standing.Ended outcome) = end_at (world_of g) g.progress.left outcome

abbrev finishes : Going → End
finishes g = finishes_by g g.progress.standing

-- the turns that may still come: two to a unit of fuel, and one more before an outcome
unfoldable pub one_more : Standing → ℕ
one_more standing.Going = 1
one_more (standing.AtHand op) = 1
one_more (standing.Ended outcome) = 0

abbrev pub turns_left : Going → ℕ
turns_left g = g.progress.left * 2 + one_more g.progress.standing

-- it is not at an outcome
abbrev pub Onward : Going → Type 0
Onward g = (outcome : Outcome) → g.progress.standing ≡ standing.Ended outcome → ⊥

past : (a b : ℕ) → ltb a b ≡ true → leb b a ≡ false
past a b t = lt-leb b a (ltb-true a b t)

before : (a b : ℕ) → ltb a b ≡ false → leb b a ≡ true
before a b t = le-leb b a (ltb-false a b t)

one_less : (n : ℕ) → suc n - 1 ≡ n
one_less n = omega arith

-- the run of a code from its registers on, as a run of the machine that they are put back into
module _ (machine : Machine) (table : List Task) (pool ends save : List ℕ) where
  abbrev code : List ℕ
  code = code_of pool ends machine

  abbrev at : Registers → List ℕ → List ℕ → World
  at registers stack memory = world (settled machine registers) table stack memory pool ends save

  abbrev goes : Halted → Going
  goes h = beside (after_steps pool ends machine h) table save

  abbrev Claim : ℕ → Registers → List ℕ → List ℕ → Type 0
  Claim fuel registers stack memory = finishes (goes (steps fuel stack memory code registers machine.count)) ≡ run fuel (at registers stack memory)

  at_the_end : (fuel : ℕ) (registers : Registers) (stack memory : List ℕ) → ltb registers.place (length code) ≡ false → Claim fuel registers stack memory
  unfolding finishes_by after_steps halted_at steps run at_end
  at_the_end zero registers stack memory t = simp (code_settled, place_settled, t, before registers.place (length code) t)
  at_the_end (suc fuel) registers stack memory t = simp (code_settled, place_settled, t, before registers.place (length code) t)

  no_fuel : (registers : Registers) (stack memory : List ℕ) → ltb registers.place (length code) ≡ true → Claim zero registers stack memory
  unfolding finishes_by after_steps halted_at steps run at_end
  no_fuel registers stack memory t = simp (code_settled, place_settled, t, past registers.place (length code) t)

  at_outer : (fuel : ℕ) (registers : Registers) (stack memory : List ℕ) → ltb registers.place (length code) ≡ true → is_outer (get_or code registers.place 0) ≡ true → Claim (suc fuel) registers stack memory
  unfolding finishes_by after_steps halted_at steps core-turn run at_end step_by_parts
  at_outer fuel registers stack memory t o = simp (← step_is (at registers stack memory), code_settled, place_settled, op_settled, t, past registers.place (length code) t, o, one_less)

  -- an instruction that is finished
  runs_on : (fuel : ℕ) (registers reached : Registers) (stack memory s m : List ℕ) → ltb registers.place (length code) ≡ true → is_outer (get_or code registers.place 0) ≡ false
      → on_memory (Ok reached) s m ≡ instruct stack memory code registers machine.count → run (suc fuel) (at registers stack memory) ≡ run fuel (at reached s m)
  unfolding run at_end step_by_parts inner inner_result follow
  runs_on fuel registers reached stack memory s m t o e =
      simp (← step_is (at registers stack memory), code_settled, place_settled, registers_settled, op_settled, count_settled, settled_twice, past registers.place (length code) t, o, ← e)

  steps_on : (fuel : ℕ) (registers reached : Registers) (stack memory s m : List ℕ) → ltb registers.place (length code) ≡ true → is_outer (get_or code registers.place 0) ≡ false
      → on_memory (Ok reached) s m ≡ instruct stack memory code registers machine.count → steps (suc fuel) stack memory code registers machine.count ≡ steps fuel s m code reached machine.count
  unfolding steps core-turn onward
  steps_on fuel registers reached stack memory s m t o e = simp (t, o, ← e)

  -- one that is refused
  runs_not : (fuel : ℕ) (registers : Registers) (stack memory : List ℕ) (refusal : Refusal) → ltb registers.place (length code) ≡ true → is_outer (get_or code registers.place 0) ≡ false
      → on_memory (Err refusal) stack memory ≡ instruct stack memory code registers machine.count → Claim (suc fuel) registers stack memory
  unfolding finishes_by after_steps halted_at steps core-turn onward run at_end step_by_parts inner inner_result follow
  runs_not fuel registers stack memory refusal t o e =
      simp (← step_is (at registers stack memory), code_settled, place_settled, registers_settled, op_settled, count_settled, t, past registers.place (length code) t, o, ← e)

  at_inner : (fuel : ℕ) (registers : Registers) (stack memory : List ℕ) → ((r : Registers) (s m : List ℕ) → Claim fuel r s m)
      → ltb registers.place (length code) ≡ true → is_outer (get_or code registers.place 0) ≡ false
      → (a : OnMemory) → Leaves stack memory a → a ≡ instruct stack memory code registers machine.count → Claim (suc fuel) registers stack memory
  at_inner fuel registers stack memory others t o _ (finished reached s m) e =
      ap (λ (h : Halted). finishes (goes h)) (steps_on fuel registers reached stack memory s m t o e) ∙ others reached s m ∙ sym (runs_on fuel registers reached stack memory s m t o e)
  at_inner fuel registers stack memory others t o _ (kept refusal) e = runs_not fuel registers stack memory refusal t o e

  claim : (fuel : ℕ) (registers : Registers) (stack memory : List ℕ) → Claim fuel registers stack memory
  claim zero registers stack memory =
      on_bool (ltb registers.place (length code)) (no_fuel registers stack memory) (at_the_end zero registers stack memory)
  claim (suc fuel) registers stack memory =
      on_bool (ltb registers.place (length code))
      (λ t. on_bool (is_outer (get_or code registers.place 0)) (at_outer fuel registers stack memory t)
      (λ o. at_inner fuel registers stack memory (claim fuel) t o _ (instruct_leaves stack memory code registers machine.count) refl))
      (at_the_end (suc fuel) registers stack memory)

-- a run begins
begun : (fuel : ℕ) (w : World) → finishes (begins fuel w) ≡ run fuel w
unfolding begins advance
begun fuel w =
    claim w.machine w.table w.pool w.ends w.save fuel (registers_of w.machine) w.stack w.memory
    ∙ ap (λ (m : Machine). run fuel (world m w.table w.stack w.memory w.pool w.ends w.save)) (settled_same w.machine)

-- ---- fuel

-- steps that halt have no more fuel than before, and some where an instruction is at hand
data Spare (fuel : ℕ) : Halted → Type 0 where
  ends : (left : ℕ) (r : Registers) (s m : List ℕ) → left ≤ fuel → Spare fuel (halted halt.AtEnd left r s m)
  pauses : (left : ℕ) (r : Registers) (s m : List ℕ) → left ≤ fuel → Spare fuel (halted halt.OutOfFuel left r s m)
  refuses : (refusal : Refusal) (left : ℕ) (r : Registers) (s m : List ℕ) → left ≤ fuel → Spare fuel (halted (halt.Refused refusal) left r s m)
  waits : (left : ℕ) (r : Registers) (s m : List ℕ) → left ≤ fuel → 0 < left → Spare fuel (halted halt.Outer left r s m)

more : (fuel : ℕ) (h : Halted) → Spare fuel h → Spare (suc fuel) h
more fuel _ (ends left r s m less) = ends left r s m (omega arith)
more fuel _ (pauses left r s m less) = pauses left r s m (omega arith)
more fuel _ (refuses refusal left r s m less) = refuses refusal left r s m (omega arith)
more fuel _ (waits left r s m less some) = waits left r s m (omega arith) some

module _ (code : List ℕ) (count : ℕ) where
  onward_spare : (fuel : ℕ) → ((s m : List ℕ) (r : Registers) → Spare fuel (steps fuel s m code r count)) → (registers : Registers) (s m : List ℕ) (result : Result Registers Refusal)
      → Spare (suc fuel) (onward (λ s m r. steps fuel s m code r count) (suc fuel) registers s m result)
  unfolding onward
  onward_spare fuel others registers s m (Ok reached) = more fuel _ (others s m reached)
  onward_spare fuel others registers s m (Err refusal) = refuses refusal (suc fuel) registers s m (omega arith)

  spare : (fuel : ℕ) (s m : List ℕ) (r : Registers) → Spare fuel (steps fuel s m code r count)
  unfolding steps core-turn
  spare zero s m r = either (Spare 0) (ltb r.place (length code)) _ _ (pauses 0 r s m (omega arith)) (ends 0 r s m (omega arith))
  spare (suc fuel) s m r =
      either (Spare (suc fuel)) (ltb r.place (length code)) _ _
      (either (Spare (suc fuel)) (is_outer (get_or code r.place 0)) _ _ (waits (suc fuel) r s m (omega arith) (omega arith))
      (onward_spare fuel (spare fuel) r _ _ _))
      (ends (suc fuel) r s m (omega arith))

-- the opcode at the place, and a pool that is not too long to count in
record Seen (g : Going) (op : ℕ) : Type 0 where
  at_place : op_at g.pool g.ends g.progress.machine ≡ op
  fits : length g.pool < 2 ^ 64

-- at an outcome, or before the instruction at the place, with fuel for it
data Halts (fuel : ℕ) (g : Going) : Type 0 where
  at_outcome : (outcome : Outcome) → g.progress.standing ≡ standing.Ended outcome → g.progress.left ≤ fuel → Halts fuel g
  before_one : (op : ℕ) → g.progress.standing ≡ standing.AtHand op → g.progress.left ≤ fuel → 0 < g.progress.left → Seen g op → Halts fuel g

-- so the steps of a code halt
module _ (machine : Machine) (table : List Task) (pool e save : List ℕ) where
  goes_halts : (fuel : ℕ) (h : Halted) → length pool < 2 ^ 64 → Spare fuel h → Halts fuel (goes machine table pool e save h)
  unfolding after_steps halted_at
  goes_halts fuel _ fits (ends left r s m less) = at_outcome outcomes.Done refl less
  goes_halts fuel _ fits (pauses left r s m less) = at_outcome outcomes.Paused refl less
  goes_halts fuel _ fits (refuses refusal left r s m less) = at_outcome (outcomes.Refused refusal) refl less
  goes_halts fuel _ fits (waits left r s m less some) = before_one _ refl less some (record { at_place = op_settled pool e machine r; fits = fits })

begins_halts : (fuel : ℕ) (w : World) → length w.pool < 2 ^ 64 → Halts fuel (begins fuel w)
unfolding begins advance
begins_halts fuel w fits = goes_halts w.machine w.table w.pool w.ends w.save fuel _ fits (spare _ _ fuel _ _ _)

-- ---- a turn

-- where the machine goes on after an instruction that was finished, or stays after one that was refused
data Turns (g : Going) : Going → StepResult → Type 0 where
  on : (machine : Machine) (table : List Task) (s m p e save : List ℕ) → Turns g (going (going_on machine (g.progress.left - 1)) table s m p e save) (next (world machine table s m p e save))
  stays : (refusal : Refusal) → Turns g (going (outcome-at g.progress.machine g.progress.left (outcomes.Refused refusal)) g.table g.stack g.memory g.pool g.ends g.save) (refused refusal)

acts_turns : (g : Going) (slot : ℕ) (a : OnAll) → acts-law.Leaves g.stack g.memory g.pool g.ends a
    → Turns g (from_acting (after_act g.progress.machine g.progress.left slot g.table a) g.save) (acts_result (world_of g) slot a a.acted)
unfolding turned acts_result acted
acts_turns g slot _ (acts-law.finished machine change s m p e) = on machine _ s m p e g.save
acts_turns g slot _ (acts-law.kept refusal) = stays refusal

pub data Saves (save : List ℕ) : SavedTable → Type 0 where
  has_saved : (length : ℕ) (after : List ℕ) → Saves save (saved_table (Ok length) after)
  not_saved : (refusal : Refusal) → Saves save (saved_table (Err refusal) save)

saved_leaves : (refusal : Option Refusal) (image save : List ℕ) → Saves save (saved_unless refusal image save)
unfolding saved_unless saved_over
saved_leaves (is-refused refusal) image save = not_saved refusal
saved_leaves not-refused image save = either (Saves save) (leb (length image) (length save)) _ _ (has_saved _ _) (not_saved _)

pub save_leaves : (next_id : ℕ) (table : List Task) (pool e : List ℕ) (entries : ℕ) (save : List ℕ) → Saves save (save_table next_id table pool e entries save)
unfolding save_table save_tasks
save_leaves next_id table pool e entries save = saved_leaves _ _ save

saves_turns : (g : Going) (a : SavedTable) → Saves g.save a
    → next_of g.progress.machine ≡ (registers_of g.progress.machine).place + 1
    → Turns g (from_saving (after_save g.progress.machine g.progress.left g.table g.pool g.ends a) g.stack g.memory) (saves_result (world_of g) a.save (save_result g.progress.machine a.answer))
unfolding saved save_answered turned save_result saves_result
saves_turns g _ (has_saved length after) behind = rw behind (on _ g.table g.stack g.memory g.pool g.ends after)
saves_turns g _ (not_saved refusal) behind = stays refusal

-- an instruction that saves, or works on the record of the slot that it names
abbrev record_turn : Going → ℕ → Going
record_turn g op = from_acting (task_turn g.table g.stack g.memory g.pool g.ends g.progress.machine g.progress.left op) g.save

abbrev saving_turn : Going → Going
saving_turn g = from_saving (save_turn g.table g.pool g.ends g.save g.progress.machine g.progress.left) g.stack g.memory

-- the place behind a save
behind_save : (g : Going) (op : ℕ) → Seen g op → eqb op S_SAVE ≡ true → next_of g.progress.machine ≡ (registers_of g.progress.machine).place + 1
unfolding registers_of
behind_save g op seen is =
    next_is g.pool g.ends g.progress.machine seen.fits (inside g.pool g.ends g.progress.machine S_SAVE (seen.at_place ∙ eqb-true _ _ is) (λ none. omega arith))

turns_by : (g : Going) (op : ℕ) (b : Bool) → (b ≡ true → next_of g.progress.machine ≡ (registers_of g.progress.machine).place + 1) → Turns g (cond b (saving_turn g) (record_turn g op)) (outer (world_of g) b (wanted g.stack g.progress.machine op))
unfolding outer saves acts save_turn task_turn
turns_by g op true behind = saves_turns g _ (save_leaves _ g.table g.pool g.ends _ g.save) (behind refl)
turns_by g op false behind = acts_turns g (wanted g.stack g.progress.machine op) _ (act_leaves g.stack g.memory g.pool g.ends g.progress.machine _)

-- the instruction at hand turns it
at_work : (g : Going) (op : ℕ) → Seen g op → turn_by g (standing.AtHand op) ≡ cond (eqb op S_SAVE) (saving_turn g) (record_turn g op)
unfolding turn_by
at_work g op seen =
    ap (λ (a : Acting). cond (eqb op S_SAVE) (saving_turn g) (from_acting a g.save)) (acts_on_record g.table g.stack g.memory g.pool g.ends g.progress.machine g.progress.left op seen.fits seen.at_place)

turns : (g : Going) (op : ℕ) → Seen g op → Turns g (turn_by g (standing.AtHand op)) (outer (world_of g) (eqb op S_SAVE) (wanted g.stack g.progress.machine op))
turns g op seen =
    subst (λ (h : Going). Turns g h (outer (world_of g) (eqb op S_SAVE) (wanted g.stack g.progress.machine op))) (sym (at_work g op seen))
    (turns_by g op (eqb op S_SAVE) (behind_save g op seen))

-- ---- where it ends

on_its_way : (g : Going) (s : Standing) → ((outcome : Outcome) → s ≡ standing.Ended outcome → ⊥) → comes_by g s ≡ run g.progress.left (world_of g)
unfolding comes_by
on_its_way g standing.Going onward = refl
on_its_way g (standing.AtHand op) onward = refl
on_its_way g (standing.Ended outcome) onward = absurd (onward outcome refl)

-- at its outcome
pub ended : (g : Going) {outcome : Outcome} → g.progress.standing ≡ standing.Ended outcome → comes_to g ≡ end_at (world_of g) g.progress.left outcome
unfolding comes_by
ended g is = ap (comes_by g) is

-- after the instruction at hand
comes_after : (g h : Going) (stepped : StepResult) → Turns g h stepped → comes_to h ≡ follow (λ v. run (g.progress.left - 1) v) (world_of g) g.progress.left stepped
unfolding comes_by follow
comes_after g _ _ (on machine table s m p e save) = refl
comes_after g _ _ (stays refusal) = refl

turned_on : (fuel : ℕ) (g : Going) → Halts fuel g → comes_to (turn g) ≡ finishes g
unfolding turn_by finishes_by
turned_on fuel g (at_outcome outcome is less) = ap (λ (s : Standing). comes_to (turn_by g s)) is ∙ ended g is ∙ sym (ap (finishes_by g) is)
turned_on fuel g (before_one op is less some seen) = ap (λ (s : Standing). comes_to (turn_by g s)) is ∙ comes_after g _ _ (turns g op seen) ∙ sym (ap (finishes_by g) is)

-- after the current code and the instruction that it comes to
pub went_on : (g : Going) → length g.pool < 2 ^ 64 → Onward g → comes_to (goes_on g) ≡ comes_to g
unfolding goes_on
went_on g fits onward =
    turned_on g.progress.left (begins g.progress.left (world_of g)) (begins_halts g.progress.left (world_of g) fits)
    ∙ begun g.progress.left (world_of g) ∙ sym (on_its_way g g.progress.standing onward)

-- ---- with fewer turns to come

fewer_after : (fuel : ℕ) (g h : Going) (stepped : StepResult) → Turns g h stepped → g.progress.left ≤ fuel → 0 < g.progress.left → turns_left h < fuel * 2 + 1
unfolding one_more
fewer_after fuel g _ _ (on machine table s m p e save) less some = omega (arith, less, some)
fewer_after fuel g _ _ (stays refusal) less some = omega (arith, less)

fewer_at_rest : (fuel : ℕ) (g : Going) (outcome : Outcome) → g.progress.standing ≡ standing.Ended outcome → g.progress.left ≤ fuel → turns_left g < fuel * 2 + 1
unfolding one_more
fewer_at_rest fuel g outcome is less = let none : one_more g.progress.standing ≡ 0 = ap one_more is in omega (arith, less, none)

fewer_than : (fuel : ℕ) (g : Going) → Halts fuel g → turns_left (turn g) < fuel * 2 + 1
unfolding turn_by
fewer_than fuel g (at_outcome outcome is less) = subst (λ (s : Standing). turns_left (turn_by g s) < fuel * 2 + 1) (sym is) (fewer_at_rest fuel g outcome is less)
fewer_than fuel g (before_one op is less some seen) = subst (λ (s : Standing). turns_left (turn_by g s) < fuel * 2 + 1) (sym is) (fewer_after fuel g _ _ (turns g op seen) less some)

has_one : (s : Standing) → ((outcome : Outcome) → s ≡ standing.Ended outcome → ⊥) → one_more s ≡ 1
unfolding one_more
has_one standing.Going onward = refl
has_one (standing.AtHand op) onward = refl
has_one (standing.Ended outcome) onward = absurd (onward outcome refl)

pub fewer : (g : Going) → length g.pool < 2 ^ 64 → Onward g → turns_left (goes_on g) < turns_left g
unfolding goes_on
fewer g fits onward =
    let one = has_one g.progress.standing onward in
    let less = fewer_than g.progress.left (begins g.progress.left (world_of g)) (begins_halts g.progress.left (world_of g) fits) in
    omega (arith, one, less)
