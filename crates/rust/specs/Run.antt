-- vm.rs: init and run. The Rust has no fuel: its loop is bounded by a number of turns.
use Rattle.std.specs.Prelude.{ℕ, zero, suc, cond, List, [], eqb, ltb, length}
use Rattle.rust.specs.Errors.{VMError, Out, ok, err, panic, EmptyInstructions}
use Rattle.rust.specs.InlineVec.{push, last}
use Rattle.rust.specs.Instructions.{intern_instructions, get}
use Rattle.rust.specs.TaskTypes.{StorageData}
use Rattle.rust.specs.Storage.{load}
use Rattle.rust.specs.Vm.{VM, CALL_STACK_LIMIT, instructions, in_frame, with_memory, with_call_stack, at, last_pc, step}

-- a program, and what tasks.bin decodes to
unfoldable pub init : List ℕ → StorageData → Out VM
init program stored =
    cond (eqb (length program) 0) (err EmptyInstructions)
    (intern_instructions [] program λ program-ref vm-instructions.
    load stored vm-instructions λ storage instructions_pool.
    push CALL_STACK_LIMIT [] (record { instructions_ref = program-ref; pc = 0 }) λ call_stack.
    ok
    (record {
      stack = [];
      control_stack = [];
      storage = storage;
      instructions_pool = instructions_pool;
      call_stack = call_stack;
      memory = [];
      instructions_ref = program-ref;
      pc = 0;
    }))

-- what a run comes to: it returned the values on its stack, the last one first; it goes on; it failed, the machine being the one before what failed; it panicked
pub data Ran : Type 0 where
  returned : List ℕ → VM → Ran
  running : VM → Ran
  failed : VMError → VM → Ran
  panicked : Ran

-- on from a machine, by what a part of a run answers on it
unfoldable pub onward : (VM → Ran) → VM → Out VM → Ran
onward others before (ok vm) = others vm
onward others before (err error) = failed error before
onward others before panic = panicked

-- after the loop: the pc of the last frame becomes 0, and the stack is taken
unfoldable pub finish : VM → Out VM
finish vm = last vm.call_stack λ frame. ok (with_call_stack vm (last_pc vm.call_stack 0))

unfoldable pub finished : VM → Ran
finished vm = onward (λ after. returned after.stack (at after 0 [])) vm (finish vm)

-- while pc < instructions.len(), at most so many turns
unfoldable pub while : ℕ → VM → Ran
while zero vm = cond (ltb vm.pc (length (instructions vm))) (running vm) (finished vm)
while (suc turns) vm = cond (ltb vm.pc (length (instructions vm))) (onward (while turns) vm (step vm)) (finished vm)

-- before the loop: new memory, instructions_ref and pc of the last frame, whose instructions must be in the pool
unfoldable pub begin : VM → Out VM
begin vm =
    last vm.call_stack λ frame.
    get vm.instructions_pool frame.instructions_ref λ code.
    ok (in_frame (with_memory vm []) frame)

unfoldable pub run : ℕ → VM → Ran
run turns vm = onward (while turns) vm (begin vm)
