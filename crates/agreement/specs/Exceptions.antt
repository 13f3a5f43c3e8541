-- The instructions that demand 2 leaves out, told by the opcode and the values on top of the stack: what they are, what both machines answer, and which runs come to one.
use Rattle.std.specs.Prelude.{ℕ, zero, suc, ◌+◌, ◌-◌, Bool, true, false, cond, ◌&&◌, ◌||◌, not, ◌∷◌, eqb, leb, get_or, set}
use Rattle.errors.specs.declared.Refusal.TheVariants.{TypeMismatch}
use Rattle.bytecode.specs.Opcodes.{EQ, NEQ}
use Rattle.values.specs.Values.{is_qnan, is_vec, raw_tag, is_bool, one_vector, to_bool_val, bool_not}
use Rattle.inlinevec.specs.Stacks.{values_of}
use Rattle.machine.specs.Calls.{Permission}
use Rattle.machine.specs.declared.Verb.{Verb}
use Rattle.machine.specs.World.{World, op, place, height, at_end, moved, with_stack, with_machine}
use Rattle.machine.specs.Words.{StepResult, next, refused}
use Rattle.machine.specs.Step.{step}
use Rattle.machine.specs.Calls.{allowed, is_sound}
use Rattle.machine.specs.History.{HostCall, runs, saves, reads_value, reads_task}
use Rattle.rust.specs.Errors as rust
use Rattle.rust.specs.Errors.{Out, ok, err}
use Rattle.rust.specs.Values.{alike}
use Rattle.rust.specs.Vm.{VM, at}
use Rattle.agreement.specs.View.{view}

-- ---- the instruction at hand

-- a scalar with a vector of its tag, in either order; where the tags differ, both machines answer 6
unfoldable pub scalar_with_vector : ℕ → ℕ → Bool
scalar_with_vector left right = is_qnan left && is_qnan right && one_vector left right && eqb (raw_tag left) (raw_tag right)

-- TRUE with FALSE, in either order
unfoldable pub true_with_false : ℕ → ℕ → Bool
true_with_false left right = is_bool left && is_bool right && not (eqb (raw_tag left) (raw_tag right))

-- the two values on top
abbrev pub right_value : World → ℕ
right_value w = get_or w.stack (height w - 1) 0

abbrev pub left_value : World → ℕ
left_value w = get_or w.stack (height w - 2) 0

-- EQ or NEQ of such two
unfoldable pub excepted : World → Bool
excepted w =
    (eqb (op w) EQ || eqb (op w) NEQ) && leb 2 (height w)
    && (scalar_with_vector (left_value w) (right_value w) || true_with_false (left_value w) (right_value w))

-- what this machine answers there: 6 for a scalar with a vector; for TRUE with FALSE, EQ gives FALSE and NEQ gives TRUE
unfoldable pub excepted_answer : World → StepResult
excepted_answer w =
    cond (scalar_with_vector (left_value w) (right_value w)) (refused TypeMismatch)
    (next (moved (with_stack w (set w.stack (height w - 2) (to_bool_val (eqb (op w) NEQ)))) (place w + 1) (height w - 1)))

-- what the Rust answers there: 6 for TRUE with FALSE, 5 for a vector on the left; a scalar on the left is compared with what the vector reads as, by its tag
unfoldable pub rust_excepted_answer : ℕ → World → Out VM
rust_excepted_answer stale w =
    cond (true_with_false (left_value w) (right_value w)) (err rust.TypeMismatch)
    (cond (is_vec (left_value w)) (err rust.InvalidType)
    (alike (raw_tag (left_value w)) (left_value w) (right_value w) λ equal.
    ok (at (view stale w) (place w + 1) (cond (eqb (op w) EQ) equal (bool_not equal) ∷ values_of (height w - 2) w.stack))))

-- ---- a run that comes to one; up to there both machines are the same, so it is the Rust's run, too

-- on from an instruction that is finished
unfoldable pub comes_later : (World → Bool) → StepResult → Bool
comes_later others (next v) = others v
comes_later others (refused refusal) = false

unfoldable pub comes_to_excepted : ℕ → World → Bool
comes_to_excepted zero w = false
comes_to_excepted (suc fuel) w = cond (at_end w) false (cond (excepted w) true (comes_later (λ v. comes_to_excepted fuel v) (step w)))

-- the run of a start, of a rerun or of a continue, where it is allowed
unfoldable pub permitted_comes : ℕ → World → Permission → Bool
permitted_comes fuel w permission = cond permission.allowed (comes_to_excepted fuel (with_machine w permission.machine)) false

unfoldable pub call_comes : Verb → ℕ → World → Bool
call_comes verb fuel w = permitted_comes fuel w (allowed w.machine (is_sound w) verb)

-- of the calls of a host no other runs anything
unfoldable pub host_call_comes : HostCall → World → Bool
host_call_comes (runs verb fuel) w = call_comes verb fuel w
host_call_comes saves w = false
host_call_comes (reads_value position) w = false
host_call_comes (reads_task id) w = false
