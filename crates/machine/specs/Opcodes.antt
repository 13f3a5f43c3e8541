-- What each opcode does, a definition each, in the order of opcodes.rs within its kind. The numbers are its refusals in the order of their tests.
use Rattle.std.specs.Prelude.{ℕ, ◌+◌, ◌%◌, Bool, false, cond, ◌&&◌, List, [], ◌++◌, eqb, ltb, leb, take, drop, set}
use Rattle.errors.specs.declared.Refusal.TheVariants.{StackOverflow, InvalidTaskField, TitleTooLong, TypeMismatch, MSliceParamOverflow}
use Rattle.values.specs.Values.{is_vec, raw_tag, fat_pointer, to_u32, to_u32_val, to_calldata_val, to_bool_val, mul_checked, mul_checked_i, value_eq, value_cmp, bool_not}
use Rattle.values.specs.declared.FatPointer.{FatPointer}
use Rattle.memory.specs.Change as change
use Rattle.memory.specs.Reads.{is_m_slice_eq}
use Rattle.pools.specs.Pool.{start_of, part_in_use}
use Rattle.pools.specs.declared.InstructionsRef.{InstructionsRef}
use Rattle.storage.specs.Storage.{len_after}
use Rattle.storage.specs.Tasks.{blank, default_state, new_task, restated, with_state}
use Rattle.storage.specs.declared.Task.{Task}
use Rattle.storage.specs.declared.TaskId.{TaskId}
use Rattle.image.specs.Table.{SavedTable, save_table}
use Rattle.machine.specs.Machines.{current}
use Rattle.machine.specs.Titles.{title_length, title_bytes, retitled, retargeted}
use Rattle.machine.specs.World.{World, code, place, height, memory_in_use, moved, with_stack, with_memory, looping, framed, with_task, numbering, with_save}
use Rattle.machine.specs.Words.{StepResult, next, test, operand, has_data, pop, last, push, calculated, pointer, bytes_of, store, element_changed, next_round, push_loop, pop_loop, last_loop, push_frame, pop_frame, bounds, intern, task_of, find, first_state, has_state, room, saved}

-- the world behind an opcode without operands, with another height
abbrev pub onward : World → ℕ → World
onward w height = moved w (place w + 1) height

-- ---- pushes

-- PUSH_U32: 2, 4
unfoldable pub push_u32 : World → StepResult
push_u32 w =
    operand w 1 4 λ number.
    push w (place w + 5) (height w) (to_u32_val number)

-- PUSH_STATE, PUSH_TASK_FIELD and PUSH_MAX_STATES: 2, 4
unfoldable pub push_byte : World → StepResult
push_byte w =
    operand w 1 1 λ number.
    push w (place w + 2) (height w) (to_u32_val number)

-- the data behind a size, in the pool's bytes in use
abbrev pub calldata : World → ℕ → List ℕ
calldata w size = part_in_use w.pool w.machine.pool (start_of w.ends (current w.machine.frames).entry.0 + place w + 3) size

-- PUSH_CALLDATA: 2 (size), 2 (data), 4, 22; the data, which stands in the pool itself, becomes one more entry
unfoldable pub push_calldata : World → StepResult
push_calldata w =
    operand w 1 2 λ size.
    has_data w 3 size
    (test (ltb (height w) 1000) StackOverflow
    (intern w (calldata w size) λ entry pooled.
    next (moved (with_stack pooled (set w.stack (height w) (to_calldata_val entry.0))) (place w + 3 + size) (height w + 1))))

-- ---- numbers

-- MUL: 3, 3, 5, 7
unfoldable pub mul : World → StepResult
mul w =
    pop w (height w) λ left above.
    pop w above λ right below.
    calculated (mul_checked left right) λ product.
    push w (place w + 1) below product

-- MULI: 3, 2, 5, 7
unfoldable pub muli : World → StepResult
muli w =
    pop w (height w) λ left below.
    operand w 1 4 λ right.
    calculated (mul_checked_i left right) λ product.
    push w (place w + 5) below product

-- LT, and GT where is_lt is false: 3, 3, 5; the right value is on top
unfoldable pub compare : Bool → World → StepResult
compare is_lt w =
    pop w (height w) λ right above.
    pop w above λ left below.
    calculated (value_cmp left right is_lt) λ answer.
    push w (place w + 1) below answer

-- ---- tasks

-- the id that a value gives
abbrev pub id_of : ℕ → TaskId
id_of value = record { 0 = to_u32 value }

-- the reference that a value gives
abbrev pub reference_of : ℕ → InstructionsRef
reference_of value = record { 0 = to_u32 value }

-- the id of the next task, and the world with that task
abbrev pub next_id : World → TaskId
next_id w = w.machine.next_id

abbrev pub with_next_task : World → Task → World
with_next_task w task = numbering (with_task w (next_id w) task) ((next_id w).0 + 1) (len_after w.machine.count (next_id w).0)

-- T_CREATE: 3 (reference), 3 (count), 8, 3 (title), 5, 14, 20, 21; the count is taken modulo 256
unfoldable pub t_create : World → StepResult
t_create w =
    pop w (height w) λ reference above.
    pop w above λ count below.
    first_state (default_state (to_u32 count % 256)) λ state.
    pop w below λ title left.
    pointer title λ vector.
    bytes_of w vector λ bytes.
    room w vector.size
    (next (with_next_task (onward w left) (new_task (next_id w) bytes state (reference_of reference))))

-- what field 0, the title, 1, the state, and 2, the instructions, push at a height
unfoldable pub get_field : World → ℕ → ℕ → Task → StepResult
get_field w height field task =
    cond (eqb field 0) (store w (place w + 1) height (title_length task % 65536) 4 (title_bytes task))
    (cond (eqb field 1) (push w (place w + 1) height (to_u32_val task.state.state))
    (push w (place w + 1) height (to_calldata_val task.instructions_ref.0)))

-- T_GET_FIELD: 3 (field), 10, 3 (id), 9, then 13, 23 for a title
unfoldable pub t_get_field : World → StepResult
t_get_field w =
    pop w (height w) λ field above.
    test (leb (to_u32 field) 2) (InvalidTaskField (to_u32 field))
    (pop w above λ id below.
    find w (id_of id) λ task.
    get_field w below (to_u32 field) task)

-- what they become
unfoldable pub set_field : World → ℕ → ℕ → ℕ → TaskId → Task → StepResult
set_field w height field value id task =
    cond (eqb field 0)
    (pointer value λ vector.
    bytes_of w vector λ bytes.
    test (leb vector.size 128) TitleTooLong
    (next (with_task (onward w height) id (retitled task bytes))))
    (cond (eqb field 1)
    (has_state (with_state task.state (to_u32 value)).answer
    (next (with_task (onward w height) id (restated task (to_u32 value)))))
    (next (with_task (onward w height) id (retargeted task (reference_of value)))))

-- T_SET_FIELD: 3 (field), 10, 3 (id), 9, 3 (value), then 5, 14, 21 for a title, 11 for a state
unfoldable pub t_set_field : World → StepResult
t_set_field w =
    pop w (height w) λ field above.
    test (leb (to_u32 field) 2) (InvalidTaskField (to_u32 field))
    (pop w above λ id below.
    find w (id_of id) λ task.
    pop w below λ value left.
    set_field w left (to_u32 field) value (id_of id) task)

-- T_DELETE: 3, 9; the slot becomes blank
unfoldable pub t_delete : World → StepResult
t_delete w =
    pop w (height w) λ id below.
    find w (id_of id) λ task.
    next (with_task (onward w below) (id_of id) blank)

-- what a save answers, and the buffer after it
abbrev pub saving : World → SavedTable
saving w = save_table w.machine.next_id.0 w.table w.pool w.ends w.machine.entries w.save

-- S_SAVE: 12 and 15 of each task by id, then 24; the length of the image is kept
unfoldable pub s_save : World → StepResult
s_save w =
    saved (saving w).answer λ length.
    next (with_save (onward w (height w)) (saving w).save length)

-- S_LEN: 4; the greatest id held since creation, plus 1
unfoldable pub s_len : World → StepResult
s_len w = push w (place w + 1) (height w) (to_u32_val w.machine.count)

-- ---- control

-- DO: 3, 3, 4; the index is on top, the limit below it
unfoldable pub «do» : World → StepResult
«do» w =
    pop w (height w) λ index above.
    pop w above λ limit below.
    push_loop w.machine.loops (record { place = place w + 1; index = to_u32 index; limit = to_u32 limit }) λ loops.
    next (looping (onward w below) loops)

-- LOOP: 3; back exactly if index + 1 is below the limit
unfoldable pub loop : World → StepResult
loop w =
    pop_loop w.machine.loops λ innermost others.
    cond (ltb (innermost.index + 1) innermost.limit)
    (push_loop others (next_round innermost) λ loops.
    next (looping (moved w innermost.place (height w)) loops))
    (next (looping (onward w (height w)) others))

-- LOOP_INDEX: 3, 4
unfoldable pub loop_index : World → StepResult
loop_index w =
    last_loop w.machine.loops λ innermost.
    push w (place w + 1) (height w) (to_u32_val innermost.index)

-- a task's instructions are entered: 12; empty ones do nothing; 4
unfoldable pub enter : World → InstructionsRef → StepResult
enter w entry =
    bounds w entry λ start end.
    cond (leb end start) (next w)
    (push_frame w.machine.frames (record { entry = entry; place = 0 }) λ frames.
    next (framed w frames))

-- CALL: 3; a missing task does nothing; 12; empty instructions do nothing; 4
unfoldable pub call_task : World → StepResult
call_task w =
    pop w (height w) λ id below.
    cond (task_of w (id_of id)).living
    (enter (onward w below) (task_of w (id_of id)).instructions_ref)
    (next (onward w below))

-- END_CALL: in main it does nothing
unfoldable pub end_call : World → StepResult
end_call w =
    cond (leb w.machine.frames.count 1) (next (onward w (height w)))
    (pop_frame w.machine.frames λ frames.
    next (framed w frames))

-- JUMP_IF_FALSE: 3; on FALSE 2, and to its operand; on any other value over its 4 bytes, even past the end
unfoldable pub jump_if_false : World → StepResult
jump_if_false w =
    pop w (height w) λ value below.
    cond (eqb value (to_bool_val false))
    (operand w 1 4 λ target.
    next (moved w target below))
    (next (moved w (place w + 5) below))

-- ---- the stack

-- DROP: 3
unfoldable pub drops : World → StepResult
drops w =
    pop w (height w) λ value below.
    next (onward w below)

-- DUP: 3, 4
unfoldable pub dup : World → StepResult
dup w =
    last w (height w) λ value.
    push w (place w + 1) (height w) value

-- SWAP: 3, 3
unfoldable pub swap : World → StepResult
swap w =
    pop w (height w) λ top above.
    pop w above λ second below.
    next (with_stack (onward w (height w)) (set (set w.stack below top) (below + 1) second))

-- ---- equality

-- like with like: two vectors, 6 for different tags, then by the bytes of memory in use, 14; any other two values, 5, 6
unfoldable pub equal : World → ℕ → ℕ → (ℕ → StepResult) → StepResult
equal w left right onward =
    cond (is_vec left && is_vec right)
    (test (eqb (raw_tag left) (raw_tag right)) TypeMismatch
    (calculated (is_m_slice_eq (memory_in_use w) (fat_pointer left) (fat_pointer right)) onward))
    (calculated (value_eq left right) onward)

-- EQ: 3, 3, then 5, 6, 14; the right value is on top
unfoldable pub eq : World → StepResult
eq w =
    pop w (height w) λ right above.
    pop w above λ left below.
    equal w left right λ answer.
    push w (place w + 1) below answer

-- NEQ: as EQ, and the answer turned round
unfoldable pub neq : World → StepResult
neq w =
    pop w (height w) λ right above.
    pop w above λ left below.
    equal w left right λ answer.
    push w (place w + 1) below (bool_not answer)

-- ---- memory

-- M_STI: 2 (size, tag, signal, payload), 5 or 13, 4, 23; the payload stands behind if the signal is 1, else the vector is zeros
unfoldable pub m_sti : World → StepResult
m_sti w =
    operand w 1 2 λ size.
    operand w 3 1 λ tag.
    operand w 4 1 λ signal.
    cond (eqb signal 1)
    (has_data w 5 size
    (store w (place w + 5 + size) (height w) (size % 65536) (tag % 256) (take size (drop (place w + 5) (code w)))))
    (store w (place w + 5) (height w) (size % 65536) (tag % 256) [])

-- M_ST: 3, 13, 2, 5 or 13, 23
unfoldable pub m_st : World → StepResult
m_st w =
    pop w (height w) λ size below.
    test (leb (to_u32 size) 65535) MSliceParamOverflow
    (operand w 1 1 λ tag.
    store w (place w + 2) below (to_u32 size) (tag % 256) [])

-- the memory in use with an element of a vector changed
abbrev pub changing : World → ℕ → FatPointer → ℕ → ℕ → change.AfterChange
changing w value vector index payload = change.mut_vec (memory_in_use w) vector (to_u32 index) (to_u32 payload) (raw_tag value)

-- M_MUTA: 3, 3, 3, 5, 5, 14, 14; the value is on top, the index below it, and the vector stays
unfoldable pub m_muta : World → StepResult
m_muta w =
    pop w (height w) λ payload above.
    pop w above λ index below.
    last w below λ value.
    pointer value λ vector.
    element_changed (changing w value vector index payload).answer
    (next (with_memory (onward w below) ((changing w value vector index payload).memory ++ drop w.machine.memory w.memory) w.machine.memory))
