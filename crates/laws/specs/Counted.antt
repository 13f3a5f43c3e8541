-- The finished instructions of a run, of a call and of a host's history, each as the world before it, and how many of them are T_CREATEs and T_DELETEs.
use Rattle.std.specs.Prelude.{ℕ, zero, suc, ◌+◌, cond, List, [], ◌∷◌, ◌++◌, eqb}
use Rattle.bytecode.specs.Opcodes.{T_CREATE, T_DELETE}
use Rattle.machine.specs.declared.Verb.{Verb}
use Rattle.machine.specs.Calls.{Permission}
use Rattle.machine.specs.World.{World, op, at_end, with_machine}
use Rattle.machine.specs.Words.{StepResult, next, refused}
use Rattle.machine.specs.Step.{step}
use Rattle.machine.specs.Calls.{allowed, is_sound}
use Rattle.machine.specs.History.{HostCall, runs, saves, reads_value, reads_task, left_by}

-- an instruction stands here where it is finished, with those after it
unfoldable pub with_others : World → (World → List World) → StepResult → List World
with_others w others (next v) = w ∷ others v
with_others w others (refused refusal) = []

-- the finished instructions of a run, the first one first
unfoldable pub run_finished : ℕ → World → List World
run_finished zero w = []
run_finished (suc fuel) w = cond (at_end w) [] (with_others w (λ v. run_finished fuel v) (step w))

-- whether a call is allowed, and the machine that it begins with
abbrev pub allowance : Verb → World → Permission
allowance verb w = allowed w.machine (is_sound w) verb

-- those of a call; one that is not allowed runs nothing, and neither do a save and a read
unfoldable pub call_finished : HostCall → World → List World
call_finished (runs verb fuel) w = cond (allowance verb w).allowed (run_finished fuel (with_machine w (allowance verb w).machine)) []
call_finished saves w = []
call_finished (reads_value position) w = []
call_finished (reads_task id) w = []

-- those of one call after the other
unfoldable pub history_finished : List HostCall → World → List World
history_finished [] w = []
history_finished (one ∷ others) w = call_finished one w ++ history_finished others (left_by one w)

-- 1 for T_CREATE, 0 for any other
unfoldable pub creates : ℕ → ℕ
creates op = cond (eqb op T_CREATE) 1 0

-- 1 for T_DELETE, 0 for any other
unfoldable pub deletes : ℕ → ℕ
deletes op = cond (eqb op T_DELETE) 1 0

-- these numbers of the opcodes of finished instructions, added up
unfoldable pub total : (ℕ → ℕ) → List World → ℕ
total counted [] = 0
total counted (w ∷ others) = counted (op w) + total counted others
