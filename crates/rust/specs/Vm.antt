-- vm.rs: the machine, and one turn of run's loop, arm by arm in the order of its match.
use Rattle.std.specs.Prelude.{ℕ, ◌+◌, ◌%◌, ◌^◌, Bool, true, false, cond, ◌||◌, List, [], ◌∷◌, eqb, ltb, length, get_or}
use Rattle.bytecode.specs.Opcodes.{PUSH_U32, PUSH_STATE, PUSH_CALLDATA, PUSH_TASK_FIELD, PUSH_MAX_STATES, T_CREATE, T_GET_FIELD, T_SET_FIELD, T_DELETE, S_SAVE, S_LEN, DO, LOOP, LOOP_INDEX, CALL, END_CALL, DROP, DUP, SWAP, EQ, NEQ, LT, GT, JUMP_IF_FALSE, M_STI, M_ST, M_MUTA, MULI, MUL}
use Rattle.values.specs.Values.{is_vec, to_u32, to_u32_val, to_calldata_val, to_bool_val, bool_not}
use Rattle.inlinevec.specs.declared.Loop.{Loop}
use Rattle.rust.specs.Errors.{Out, ok, err, MSliceParamOverflow, TypeMismatch, TaskNotFound}
use Rattle.rust.specs.InlineVec.{push, pop, last}
use Rattle.rust.specs.Values.{tag, to_fat_pointer, mul_checked, mul_checked_i, value_eq, value_neq, value_cmp}
use Rattle.rust.specs.Helpers.{byte, slice, prepare_u32_from_be_checked, prepare_u16_from_be_checked}
use Rattle.rust.specs.Memory.{alloc, mut_vec, get_slice_bytes, is_m_slice_eq}
use Rattle.rust.specs.Instructions as pool
use Rattle.rust.specs.TaskTypes.{TaskVM, TaskField, Title, State, Instructions, default, set_state, try_from}
use Rattle.rust.specs.Storage.{Storage, save, add, get, if_some, changed, delete, len}

abbrev pub STACK_LIMIT : ℕ
STACK_LIMIT = 1000

abbrev pub CONTROL_STACK_LIMIT : ℕ
CONTROL_STACK_LIMIT = 2

abbrev pub CALL_STACK_LIMIT : ℕ
CALL_STACK_LIMIT = 2

pub record InstructionsFrame : Type 0 where
  pub instructions_ref : ℕ
  pub pc : ℕ

-- the fields of VM, and run's locals instructions_ref and pc; a triple of the control stack is a Loop
pub record VM : Type 0 where
  pub stack : List ℕ
  pub control_stack : List Loop
  pub storage : Storage
  pub instructions_pool : List (List ℕ)
  pub call_stack : List InstructionsFrame
  pub memory : List ℕ
  pub instructions_ref : ℕ
  pub pc : ℕ

-- run's local instructions: it is fetched again wherever instructions_ref or the pool changes
abbrev pub instructions : VM → List ℕ
instructions vm = get_or vm.instructions_pool vm.instructions_ref []

-- ---- the machine with a part of it changed

abbrev pub at : VM → ℕ → List ℕ → VM
at vm pc stack = record {
  stack = stack;
  control_stack = vm.control_stack;
  storage = vm.storage;
  instructions_pool = vm.instructions_pool;
  call_stack = vm.call_stack;
  memory = vm.memory;
  instructions_ref = vm.instructions_ref;
  pc = pc;
}

abbrev pub with_control_stack : VM → List Loop → VM
with_control_stack vm control_stack = record {
  stack = vm.stack;
  control_stack = control_stack;
  storage = vm.storage;
  instructions_pool = vm.instructions_pool;
  call_stack = vm.call_stack;
  memory = vm.memory;
  instructions_ref = vm.instructions_ref;
  pc = vm.pc;
}

abbrev pub with_storage : VM → Storage → VM
with_storage vm storage = record {
  stack = vm.stack;
  control_stack = vm.control_stack;
  storage = storage;
  instructions_pool = vm.instructions_pool;
  call_stack = vm.call_stack;
  memory = vm.memory;
  instructions_ref = vm.instructions_ref;
  pc = vm.pc;
}

abbrev pub with_instructions_pool : VM → List (List ℕ) → VM
with_instructions_pool vm instructions_pool = record {
  stack = vm.stack;
  control_stack = vm.control_stack;
  storage = vm.storage;
  instructions_pool = instructions_pool;
  call_stack = vm.call_stack;
  memory = vm.memory;
  instructions_ref = vm.instructions_ref;
  pc = vm.pc;
}

abbrev pub with_memory : VM → List ℕ → VM
with_memory vm memory = record {
  stack = vm.stack;
  control_stack = vm.control_stack;
  storage = vm.storage;
  instructions_pool = vm.instructions_pool;
  call_stack = vm.call_stack;
  memory = memory;
  instructions_ref = vm.instructions_ref;
  pc = vm.pc;
}

abbrev pub with_call_stack : VM → List InstructionsFrame → VM
with_call_stack vm call_stack = record {
  stack = vm.stack;
  control_stack = vm.control_stack;
  storage = vm.storage;
  instructions_pool = vm.instructions_pool;
  call_stack = call_stack;
  memory = vm.memory;
  instructions_ref = vm.instructions_ref;
  pc = vm.pc;
}

-- instructions_ref and pc taken from a frame
abbrev pub in_frame : VM → InstructionsFrame → VM
in_frame vm frame = record {
  stack = vm.stack;
  control_stack = vm.control_stack;
  storage = vm.storage;
  instructions_pool = vm.instructions_pool;
  call_stack = vm.call_stack;
  memory = vm.memory;
  instructions_ref = frame.instructions_ref;
  pc = frame.pc;
}

-- call_stack.last_mut() with another pc
unfoldable pub last_pc : List InstructionsFrame → ℕ → List InstructionsFrame
last_pc [] pc = []
last_pc (frame ∷ frames) pc = record { instructions_ref = frame.instructions_ref; pc = pc } ∷ frames

-- self.stack.push(value)?, the end of most arms
unfoldable pub pushes : VM → ℕ → List ℕ → ℕ → Out VM
pushes vm pc stack value = push STACK_LIMIT stack value λ after. ok (at vm pc after)

-- the new vector on the stack, the end of M_STI, M_ST and of T_GET_FIELD with a title
unfoldable pub allocs : VM → ℕ → List ℕ → ℕ → ℕ → List ℕ → Out VM
allocs vm pc stack size tag payload =
    alloc vm.memory size tag payload λ val memory.
    push STACK_LIMIT stack val λ after.
    ok (with_memory (at vm pc after) memory)

-- ---- the arms; pc is past the opcode's byte

unfoldable pub push_u32 : List ℕ → ℕ → VM → Out VM
push_u32 instructions pc vm =
    prepare_u32_from_be_checked instructions pc λ val.
    pushes vm (pc + 4) vm.stack (to_u32_val val)

unfoldable pub push_calldata : List ℕ → ℕ → VM → Out VM
push_calldata instructions pc vm =
    prepare_u16_from_be_checked instructions pc λ size.
    slice instructions (pc + 2) size λ calldata-vec.
    pool.intern_instructions vm.instructions_pool calldata-vec λ val instructions_pool.
    push STACK_LIMIT vm.stack (to_calldata_val val) λ stack.
    ok (with_instructions_pool (at vm (pc + 2 + size) stack) instructions_pool)

-- PUSH_STATE | PUSH_MAX_STATES | PUSH_TASK_FIELD
unfoldable pub push_state : List ℕ → ℕ → VM → Out VM
push_state instructions pc vm =
    byte instructions pc λ val.
    pushes vm (pc + 1) vm.stack (to_u32_val val)

unfoldable pub mul : ℕ → VM → Out VM
mul pc vm =
    pop vm.stack λ lhs above.
    pop above λ rhs stack.
    mul_checked lhs rhs λ res.
    pushes vm pc stack res

unfoldable pub muli : List ℕ → ℕ → VM → Out VM
muli instructions pc vm =
    pop vm.stack λ lhs stack.
    prepare_u32_from_be_checked instructions pc λ rhs.
    mul_checked_i lhs rhs λ res.
    pushes vm (pc + 4) stack res

-- max_states as u8
unfoldable pub t_create : ℕ → VM → Out VM
t_create pc vm =
    pop vm.stack λ reference above.
    pop above λ max-states below.
    default (to_u32 max-states % 2 ^ 8) λ state.
    pop below λ title stack.
    to_fat_pointer title λ pointer.
    get_slice_bytes vm.memory pointer λ bytes-vec.
    ok
    (with_storage (at vm pc stack)
    (add vm.storage (record { id = vm.storage.next_id; title = bytes-vec; state = state; instructions_ref = to_u32 reference })))

-- bytes.len() as u16
unfoldable pub get_field : ℕ → VM → List ℕ → TaskVM → TaskField → Out VM
get_field pc vm stack task Title = allocs vm pc stack (length task.title % 2 ^ 16) 4 task.title
get_field pc vm stack task State = pushes vm pc stack (to_u32_val task.state.state)
get_field pc vm stack task Instructions = pushes vm pc stack (to_calldata_val task.instructions_ref)

unfoldable pub t_get_field : ℕ → VM → Out VM
t_get_field pc vm =
    pop vm.stack λ field-byte above.
    try_from (to_u32 field-byte) λ field.
    pop above λ id stack.
    if_some (get vm.storage (to_u32 id)) (λ task. get_field pc vm stack task field) (err (TaskNotFound (to_u32 id)))

-- the task after the match on its field, and the stack after the value's pop
unfoldable pub set_field : VM → List ℕ → TaskVM → TaskField → (TaskVM → List ℕ → Out VM) → Out VM
set_field vm above task Title onward =
    pop above λ val stack.
    to_fat_pointer val λ pointer.
    get_slice_bytes vm.memory pointer λ bytes-vec.
    onward (record { id = task.id; title = bytes-vec; state = task.state; instructions_ref = task.instructions_ref }) stack
set_field vm above task State onward =
    pop above λ val stack.
    set_state task.state (to_u32 val) λ state.
    onward (record { id = task.id; title = task.title; state = state; instructions_ref = task.instructions_ref }) stack
set_field vm above task Instructions onward =
    pop above λ val stack.
    onward (record { id = task.id; title = task.title; state = task.state; instructions_ref = to_u32 val }) stack

unfoldable pub t_set_field : ℕ → VM → Out VM
t_set_field pc vm =
    pop vm.stack λ field-byte above.
    try_from (to_u32 field-byte) λ field.
    pop above λ id below.
    if_some (get vm.storage (to_u32 id))
    (λ task. set_field vm below task field λ after stack. ok (with_storage (at vm pc stack) (changed vm.storage (to_u32 id) after)))
    (err (TaskNotFound (to_u32 id)))

unfoldable pub t_delete : ℕ → VM → Out VM
t_delete pc vm =
    pop vm.stack λ id stack.
    delete vm.storage (to_u32 id) λ storage.
    ok (with_storage (at vm pc stack) storage)

-- the file is no part of the machine
unfoldable pub s_save : ℕ → VM → Out VM
s_save pc vm = save vm.storage vm.instructions_pool λ stored. ok (at vm pc vm.stack)

unfoldable pub s_len : ℕ → VM → Out VM
s_len pc vm = pushes vm pc vm.stack (to_u32_val (len vm.storage))

unfoldable pub «do» : ℕ → VM → Out VM
«do» pc vm =
    pop vm.stack λ index above.
    pop above λ limit stack.
    push CONTROL_STACK_LIMIT vm.control_stack (record { place = pc; index = to_u32 index; limit = to_u32 limit }) λ control_stack.
    ok (with_control_stack (at vm pc stack) control_stack)

unfoldable pub loop : ℕ → VM → Out VM
loop pc vm =
    pop vm.control_stack λ innermost others.
    cond (ltb (innermost.index + 1) innermost.limit)
    (push CONTROL_STACK_LIMIT others (record { place = innermost.place; index = innermost.index + 1; limit = innermost.limit }) λ control_stack.
    ok (with_control_stack (at vm innermost.place vm.stack) control_stack))
    (ok (with_control_stack (at vm pc vm.stack) others))

unfoldable pub loop_index : ℕ → VM → Out VM
loop_index pc vm = last vm.control_stack λ last-val. pushes vm pc vm.stack (to_u32_val last-val.index)

unfoldable pub jump_if_false : List ℕ → ℕ → VM → Out VM
jump_if_false instructions pc vm =
    pop vm.stack λ v stack.
    cond (eqb v (to_bool_val false))
    (prepare_u32_from_be_checked instructions pc λ val.
    ok (at vm val stack))
    (ok (at vm (pc + 4) stack))

unfoldable pub dup : ℕ → VM → Out VM
dup pc vm = last vm.stack λ v. pushes vm pc vm.stack v

unfoldable pub swap : ℕ → VM → Out VM
swap pc vm =
    pop vm.stack λ b above.
    pop above λ a stack.
    push STACK_LIMIT stack b λ after.
    pushes vm pc after a

unfoldable pub eq : ℕ → VM → Out VM
eq pc vm =
    pop vm.stack λ right above.
    pop above λ left stack.
    tag left λ tag-left.
    tag right λ tag-right.
    cond (eqb tag-left tag-right)
    (cond (is_vec left)
    (to_fat_pointer left λ l.
    to_fat_pointer right λ r.
    is_m_slice_eq vm.memory l r λ equal.
    pushes vm pc stack equal)
    (value_eq left right λ equal.
    pushes vm pc stack equal))
    (err TypeMismatch)

unfoldable pub neq : ℕ → VM → Out VM
neq pc vm =
    pop vm.stack λ right above.
    pop above λ left stack.
    tag left λ tag-left.
    tag right λ tag-right.
    cond (eqb tag-left tag-right)
    (cond (is_vec left)
    (to_fat_pointer left λ l.
    to_fat_pointer right λ r.
    is_m_slice_eq vm.memory l r λ equal.
    pushes vm pc stack (bool_not equal))
    (value_neq left right λ unequal.
    pushes vm pc stack unequal))
    (err TypeMismatch)

-- LT, and GT where is_lt is false
unfoldable pub compare : Bool → ℕ → VM → Out VM
compare is_lt pc vm =
    pop vm.stack λ right above.
    pop above λ left stack.
    value_cmp left right is_lt λ res.
    pushes vm pc stack res

-- W_PAYLOAD is 1
unfoldable pub m_sti : List ℕ → ℕ → VM → Out VM
m_sti instructions pc vm =
    prepare_u16_from_be_checked instructions pc λ size.
    byte instructions (pc + 2) λ tag.
    byte instructions (pc + 3) λ signaling-byte.
    cond (eqb signaling-byte 1)
    (slice instructions (pc + 4) size λ payload.
    allocs vm (pc + 4 + size) vm.stack size tag payload)
    (allocs vm (pc + 4) vm.stack size tag [])

unfoldable pub m_st : List ℕ → ℕ → VM → Out VM
m_st instructions pc vm =
    pop vm.stack λ size stack.
    cond (ltb 65535 (to_u32 size)) (err MSliceParamOverflow)
    (byte instructions pc λ tag.
    allocs vm (pc + 1) stack (to_u32 size) tag [])

unfoldable pub m_muta : ℕ → VM → Out VM
m_muta pc vm =
    pop vm.stack λ payload above.
    pop above λ index stack.
    last stack λ value.
    to_fat_pointer value λ pointer.
    tag value λ value-tag.
    mut_vec vm.memory pointer (to_u32 index) (to_u32 payload) value-tag λ memory.
    ok (with_memory (at vm pc stack) memory)

unfoldable pub drop : ℕ → VM → Out VM
drop pc vm = pop vm.stack λ v stack. ok (at vm pc stack)

-- the caller's pc is noted before the task's instructions are looked at
unfoldable pub enters : ℕ → VM → TaskVM → Out VM
enters pc vm task =
    pool.get vm.instructions_pool task.instructions_ref λ code.
    cond (eqb (length code) 0) (ok vm)
    (push CALL_STACK_LIMIT vm.call_stack (record { instructions_ref = task.instructions_ref; pc = 0 }) λ call_stack.
    ok (in_frame (with_call_stack vm call_stack) (record { instructions_ref = task.instructions_ref; pc = 0 })))

unfoldable pub call : ℕ → VM → Out VM
call pc vm =
    pop vm.stack λ id stack.
    if_some (get vm.storage (to_u32 id)) (λ task. enters pc (with_call_stack (at vm pc stack) (last_pc vm.call_stack pc)) task)
    (ok (at vm pc stack))

unfoldable pub end_call : ℕ → VM → Out VM
end_call pc vm =
    cond (ltb 1 (length vm.call_stack))
    (pop vm.call_stack λ ended call_stack.
    last call_stack λ frame.
    pool.get vm.instructions_pool frame.instructions_ref λ code.
    ok (in_frame (with_call_stack vm call_stack) frame))
    (ok (at vm pc vm.stack))

-- match op; S_LOAD and the bytes without an opcode do nothing
unfoldable pub exec : ℕ → List ℕ → ℕ → VM → Out VM
exec op instructions pc vm =
    cond (eqb op PUSH_U32) (push_u32 instructions pc vm)
    (cond (eqb op PUSH_CALLDATA) (push_calldata instructions pc vm)
    (cond (eqb op PUSH_STATE || eqb op PUSH_MAX_STATES || eqb op PUSH_TASK_FIELD) (push_state instructions pc vm)
    (cond (eqb op MUL) (mul pc vm)
    (cond (eqb op MULI) (muli instructions pc vm)
    (cond (eqb op T_CREATE) (t_create pc vm)
    (cond (eqb op T_GET_FIELD) (t_get_field pc vm)
    (cond (eqb op T_SET_FIELD) (t_set_field pc vm)
    (cond (eqb op T_DELETE) (t_delete pc vm)
    (cond (eqb op S_SAVE) (s_save pc vm)
    (cond (eqb op S_LEN) (s_len pc vm)
    (cond (eqb op DO) («do» pc vm)
    (cond (eqb op LOOP) (loop pc vm)
    (cond (eqb op LOOP_INDEX) (loop_index pc vm)
    (cond (eqb op JUMP_IF_FALSE) (jump_if_false instructions pc vm)
    (cond (eqb op DUP) (dup pc vm)
    (cond (eqb op SWAP) (swap pc vm)
    (cond (eqb op EQ) (eq pc vm)
    (cond (eqb op NEQ) (neq pc vm)
    (cond (eqb op LT) (compare true pc vm)
    (cond (eqb op GT) (compare false pc vm)
    (cond (eqb op M_STI) (m_sti instructions pc vm)
    (cond (eqb op M_ST) (m_st instructions pc vm)
    (cond (eqb op M_MUTA) (m_muta pc vm)
    (cond (eqb op DROP) (drop pc vm)
    (cond (eqb op CALL) (call pc vm)
    (cond (eqb op END_CALL) (end_call pc vm)
    (ok (at vm pc vm.stack))))))))))))))))))))))))))))

-- one turn of the loop, where pc is below the code's length
unfoldable pub step : VM → Out VM
step vm = exec (get_or (instructions vm) vm.pc 0) (instructions vm) (vm.pc + 1) vm
