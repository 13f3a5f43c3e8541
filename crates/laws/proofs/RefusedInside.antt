-- An instruction of a machine that passes the test of 26 is refused with another number than 26.
use Prim.Native.Nat.{ℕ, ◌+◌, ◌-◌, ◌*◌, ◌/◌, ◌^◌, ◌≤◌, min}
use mathlib.Core.Bool.{Bool, true, false, ◌&&◌, ◌||◌}
use mathlib.Core.List.{List, [], ◌∷◌}
use mathlib.Core.Option.{Option, none, some}
use mathlib.Core.Path.{◌≡◌, refl, subst}
use native.Mathlib.Omega.{arith}
use lib.Dec.{eqb, ltb, leb}
use lib.ListN.{length}
use borrow.Author.Tests.{leb-false}
use Rattle.errors.specs.declared.Refusal.{Refusal}
use Rattle.errors.specs.Refusals.{number_of}
use Rattle.bytecode.specs.Opcodes.{PUSH_U32, PUSH_STATE, PUSH_CALLDATA, PUSH_TASK_FIELD, PUSH_MAX_STATES, T_CREATE, T_GET_FIELD, T_SET_FIELD, T_DELETE, S_SAVE, S_LEN, DO, LOOP, LOOP_INDEX, CALL, END_CALL, DROP, DUP, SWAP, EQ, NEQ, LT, GT, JUMP_IF_FALSE, M_STI, M_ST, M_MUTA, MULI, MUL}
use Rattle.bytecode.specs.Operands as bytecode
use Rattle.inlinevec.specs.Stacks as stacks
use Rattle.inlinevec.specs.declared.Loop.{Loop}
use Rattle.inlinevec.specs.declared.Frame.{Frame}
use Rattle.values.specs.Values.{is_qnan, is_vec, is_u32_val, raw_tag, to_u32, to_bool_val, to_fat_pointer, one_vector, of_one_kind, product, mul_checked, mul_checked_i, alike, value_eq, value_cmp, to_vec_val}
use Rattle.values.specs.declared.FatPointer.{FatPointer}
use Rattle.memory.specs.Allocation.{is_element_tag, offset_aligned, vector, vector_stored, alloc}
use Rattle.memory.specs.Allocation as allocation
use Rattle.memory.specs.Change as change
use Rattle.memory.specs.Change.{element_size_bytes, changed, mut_vec, inside}
use Rattle.memory.specs.Reads.{is_m_slice_eq}
use Rattle.pools.specs.Pool as pools
use Rattle.pools.specs.declared.InstructionsRef.{InstructionsRef}
use Rattle.storage.specs.Storage as storage
use Rattle.storage.specs.Tasks.{default_state, with_state}
use Rattle.storage.specs.declared.Task.{Task}
use Rattle.storage.specs.declared.TaskId.{TaskId}
use Rattle.storage.specs.declared.TaskState.{TaskState}
use Rattle.storage.specs.declared.StateChange.{StateChange}
use Rattle.utf8.specs.Utf8.{valid}
use Rattle.image.specs.Image.{written}
use Rattle.image.specs.Slots.{title_in}
use Rattle.image.specs.Table.{living_tasks, refusal_by, task_refusal, or_else, first_refusal, image_of_tasks, SavedTable, saved_over, saved_unless, save_tasks, save_table}
use Rattle.machine.specs.World.{World, code, place, height, memory_in_use, op, at_end}
use Rattle.machine.specs.Words.{StepResult, next, refused, test, operand_found, operand, popped, pop, looked_at, last, push, calculated, pointed, pointer, bytes_of, allocated, store, element_changed, loop_pushed, push_loop, loop_popped, pop_loop, loop_looked_at, last_loop, frame_pushed, push_frame, frame_popped, pop_frame, bounds_found, bounds, interned, intern, task_of, found, first_state, has_state, with_room, room, saved}
use Rattle.machine.specs.Opcodes.{push_u32, push_calldata, push_byte, id_of, t_create, get_field, t_get_field, set_field, t_set_field, t_delete, saving, s_save, s_len, «do», loop, loop_index, enter, call_task, end_call, drops, dup, swap, equal, eq, neq, compare, jump_if_false, m_sti, m_st, m_muta, muli, mul}
use Rattle.machine.specs.Step.{execute, step}
use Rattle.laws.specs.Sound.{Passes}
use Rattle.laws.proofs.Either.{either}
use Rattle.machine.specs.declared.Outcome.TheVariants.{Refused}
use Rattle.machine.specs.Run.{End, run}
use Rattle.laws.specs.Finished.{Reaches, here, onto, Ends, is_done, is_paused, is_refused}
use Rattle.laws.proofs.Parts.{passes_kept}
use Rattle.laws.proofs.Frames.{few_frames}
use Rattle.laws.proofs.Step.{step_passes}
use Rattle.laws.proofs.Finished.{finished}
use Rattle.std.specs.Prelude.{Ok, Err, Result, ⊤}
use Rattle.inlinevec.specs.declared.Two.{Two}

-- another number than 26
abbrev Other : Refusal → Type 0
Other refusal = eqb (number_of refusal) 26 ≡ false

-- finished, or refused with another number
data Fine : StepResult → Type 0 where
  goes : (v : World) → Fine (next v)
  stops : (refusal : Refusal) → Other refusal → Fine (refused refusal)

-- ---- the words

test_fine : (holds : Bool) (refusal : Refusal) (onward : StepResult) → Other refusal → Fine onward → Fine (test holds refusal onward)
unfolding test
test_fine holds refusal onward other fine = either Fine holds _ _ (λ _. fine) (λ _. stops refusal other)

operand_fine : (w : World) (behind size : ℕ) (onward : ℕ → StepResult) → ((n : ℕ) → Fine (onward n)) → Fine (operand w behind size onward)
unfolding operand_found bytecode.operand
operand_fine w behind size onward fine = either (λ (r : Result ℕ Refusal). Fine (operand_found r onward)) (leb (place w + behind + size) (length (code w))) _ _ (λ _. fine _) (λ _. stops _ refl)

-- within the capacity, a pop or a look is refused for an empty stack alone
some_fine : {A : Type 0} (P : A → Type 0) (capacity height : ℕ) (refuse : Refusal → A) (answer : A) → height ≤ capacity → ((refusal : Refusal) → Other refusal → P (refuse refusal)) → P answer
    → P (stacks.if_some capacity height refuse answer)
unfolding stacks.if_some
some_fine P capacity height refuse answer low other fine =
    either P (eqb height 0) _ _ (λ _. other _ refl) (λ _. either P (leb height capacity) _ _ (λ _. fine) (λ over. absurd (let n = leb-false height capacity over in omega (arith, n))))

room_fine : {A : Type 0} (P : A → Type 0) (capacity height : ℕ) (refuse : Refusal → A) (answer : A) → ((refusal : Refusal) → Other refusal → P (refuse refusal)) → P answer
    → P (stacks.if_room capacity height refuse answer)
unfolding stacks.if_room
room_fine P capacity height refuse answer other fine = either P (ltb height capacity) _ _ (λ _. fine) (λ _. other _ refl)

pop_fine : (w : World) (height : ℕ) (onward : ℕ → ℕ → StepResult) → height ≤ 1000 → ((value below : ℕ) → below ≤ 1000 → Fine (onward value below)) → Fine (pop w height onward)
unfolding popped stacks.pop
pop_fine w height onward low fine =
    some_fine (λ (r : Result (ℕ × ℕ) Refusal). Fine (popped r onward)) 1000 height _ _ low (λ refusal other. stops refusal other) (fine _ (height - 1) (omega arith))

last_fine : (w : World) (height : ℕ) (onward : ℕ → StepResult) → height ≤ 1000 → ((value : ℕ) → Fine (onward value)) → Fine (last w height onward)
unfolding looked_at stacks.last
last_fine w height onward low fine = some_fine (λ (r : Result ℕ Refusal). Fine (looked_at r onward)) 1000 height _ _ low (λ refusal other. stops refusal other) (fine _)

push_fine : (w : World) (to height value : ℕ) → Fine (push w to height value)
unfolding push
push_fine w to height value = test_fine (ltb height 1000) _ _ refl (goes _)

-- what a calculation is refused with
data Calculates : Result ℕ Refusal → Type 0 where
  gives : (v : ℕ) → Calculates (Ok v)
  no_value : (refusal : Refusal) → Other refusal → Calculates (Err refusal)

calculated_fine : (result : Result ℕ Refusal) (onward : ℕ → StepResult) → Calculates result → ((v : ℕ) → Fine (onward v)) → Fine (calculated result onward)
unfolding calculated
calculated_fine _ onward (gives v) fine = fine v
calculated_fine _ onward (no_value refusal other) fine = stops refusal other

product_other : (left right : ℕ) → Calculates (product left right)
unfolding product
product_other left right = either Calculates (ltb (left * right) (2 ^ 32)) _ _ (λ _. gives _) (λ _. no_value _ refl)

mul_other : (lhs rhs : ℕ) → Calculates (mul_checked lhs rhs)
unfolding mul_checked
mul_other lhs rhs =
    either Calculates (is_u32_val lhs) _ _ (λ _. either Calculates (is_u32_val rhs) _ _ (λ _. product_other _ _) (λ _. no_value _ refl)) (λ _. no_value _ refl)

muli_other : (lhs rhs : ℕ) → Calculates (mul_checked_i lhs rhs)
unfolding mul_checked_i
muli_other lhs rhs = either Calculates (is_u32_val lhs) _ _ (λ _. product_other _ _) (λ _. no_value _ refl)

compare_other : (left right : ℕ) (is_lt : Bool) → Calculates (value_cmp left right is_lt)
unfolding value_cmp
compare_other left right is_lt =
    either Calculates (is_u32_val left) _ _ (λ _. either Calculates (is_u32_val right) _ _ (λ _. gives _) (λ _. no_value _ refl)) (λ _. no_value _ refl)

alike_other : (tag left right : ℕ) → Calculates (alike tag left right)
unfolding alike
alike_other tag left right =
    either Calculates (eqb tag 6) _ _ (λ _. gives _)
    (λ _. either Calculates (eqb tag 5) _ _ (λ _. gives _)
    (λ _. either Calculates (eqb tag 3) _ _ (λ _. gives _) (λ _. either Calculates (eqb tag 2) _ _ (λ _. gives _) (λ _. no_value _ refl))))

scalars_other : (left right : ℕ) → Calculates (value_eq left right)
unfolding value_eq
scalars_other left right =
    either Calculates (is_qnan left) _ _
    (λ _. either Calculates (is_qnan right) _ _
    (λ _. either Calculates (one_vector left right) _ _ (λ _. no_value _ refl)
    (λ _. either Calculates (of_one_kind left right) _ _ (λ _. alike_other _ _ _) (λ _. no_value _ refl))) (λ _. no_value _ refl))
    (λ _. no_value _ refl)

slices_other : (memory : List ℕ) (left right : FatPointer) → Calculates (is_m_slice_eq memory left right)
unfolding is_m_slice_eq
slices_other memory left right =
    either Calculates (eqb left.size right.size) _ _
    (λ _. either Calculates (eqb left.offset right.offset) _ _ (λ _. gives _)
    (λ _. either Calculates (inside memory left) _ _ (λ _. either Calculates (inside memory right) _ _ (λ _. gives _) (λ _. no_value _ refl)) (λ _. no_value _ refl)))
    (λ _. gives _)

vector_other : (used size tag : ℕ) → Calculates (vector used size tag)
unfolding vector to_vec_val
vector_other used size tag =
    either Calculates (is_element_tag tag) _ _ (λ _. either Calculates (ltb (offset_aligned used tag) (2 ^ 25)) _ _ (λ _. gives _) (λ _. no_value _ refl)) (λ _. no_value _ refl)

pointer_fine : (value : ℕ) (onward : FatPointer → StepResult) → ((vector : FatPointer) → Fine (onward vector)) → Fine (pointer value onward)
unfolding pointed to_fat_pointer
pointer_fine value onward fine = either (λ (r : Result FatPointer Refusal). Fine (pointed r onward)) (is_vec value) _ _ (λ _. fine _) (λ _. stops _ refl)

bytes_fine : (w : World) (vector : FatPointer) (onward : List ℕ → StepResult) → ((bytes : List ℕ) → Fine (onward bytes)) → Fine (bytes_of w vector onward)
unfolding bytes_of
bytes_fine w vector onward fine = test_fine (inside (memory_in_use w) vector) _ _ refl (fine _)

stored_fine : (w : World) (to height size offset : ℕ) (payload : List ℕ) (result : Result ℕ Refusal) → Calculates result
    → Fine (allocated w to height (vector_stored w.memory payload w.machine.memory size offset result).memory (vector_stored w.memory payload w.machine.memory size offset result).answer)
unfolding vector_stored allocated
stored_fine w to height size offset payload _ (gives v) =
    either (λ (a : allocation.AfterAllocation). Fine (allocated w to height a.memory a.answer)) (leb (offset + size) (length w.memory)) _ _ (λ _. goes _) (λ _. stops _ refl)
stored_fine w to height size offset payload _ (no_value refusal other) = stops refusal other

store_fine : (w : World) (to height size tag : ℕ) (payload : List ℕ) → Fine (store w to height size tag payload)
unfolding store alloc
store_fine w to height size tag payload =
    calculated_fine _ _ (vector_other w.machine.memory size tag)
    (λ v. test_fine (ltb height 1000) _ _ refl (stored_fine w to height size (offset_aligned w.machine.memory tag) payload _ (vector_other w.machine.memory size tag)))

changed_fine : (memory : List ℕ) (pointer : FatPointer) (index payload : ℕ) (onward : StepResult) (result : Result ℕ Refusal) → ((refusal : Refusal) → result ≡ Err refusal → Other refusal) → Fine onward
    → Fine (element_changed (changed memory pointer index payload result).answer onward)
unfolding changed element_changed
changed_fine memory pointer index payload onward (Err refusal) other fine = stops refusal (other refusal refl)
changed_fine memory pointer index payload onward (Ok width) other fine =
    either (λ (a : change.AfterChange). Fine (element_changed a.answer onward)) (leb (pointer.size / width) index) _ _ (λ _. stops _ refl)
    (λ _. either (λ (a : change.AfterChange). Fine (element_changed a.answer onward)) (inside memory pointer) _ _ (λ _. fine) (λ _. stops _ refl))

size_other : (tag : ℕ) (refusal : Refusal) → element_size_bytes tag ≡ Err refusal → Other refusal
unfolding element_size_bytes
size_other tag refusal =
    either (λ (r : Result ℕ Refusal). r ≡ Err refusal → Other refusal) (eqb tag 4) _ _ (λ _ e. absurd (let z : ◌≡◌ {A = ℕ} 0 1 = cc in omega arith))
    (λ _. either (λ (r : Result ℕ Refusal). r ≡ Err refusal → Other refusal) (eqb tag 6) _ _ (λ _ e. absurd (let z : ◌≡◌ {A = ℕ} 0 1 = cc in omega arith)) (λ _ e. other_by e refl))
  where
    other_by : {first second : Refusal} → ◌≡◌ {A = Result ℕ Refusal} (Err first) (Err second) → Other first → Other second
    other_by {first} {second} e other = let same : first ≡ second = cc in subst Other same other

push_loop_fine : (loops : Two Loop) (opened : Loop) (onward : Two Loop → StepResult) → ((after : Two Loop) → Fine (onward after)) → Fine (push_loop loops opened onward)
unfolding loop_pushed stacks.push_onto
push_loop_fine loops opened onward fine = room_fine (λ (r : Result (Two Loop) Refusal). Fine (loop_pushed r onward)) 2 loops.count _ _ (λ refusal other. stops refusal other) (fine _)

pop_loop_fine : (loops : Two Loop) (onward : Loop → Two Loop → StepResult) → loops.count ≤ 2 → ((innermost : Loop) (others : Two Loop) → Fine (onward innermost others)) → Fine (pop_loop loops onward)
unfolding loop_popped stacks.pop_off
pop_loop_fine loops onward few fine = some_fine (λ (r : Result (Loop × Two Loop) Refusal). Fine (loop_popped r onward)) 2 loops.count _ _ few (λ refusal other. stops refusal other) (fine _ _)

last_loop_fine : (loops : Two Loop) (onward : Loop → StepResult) → loops.count ≤ 2 → ((innermost : Loop) → Fine (onward innermost)) → Fine (last_loop loops onward)
unfolding loop_looked_at stacks.last_on
last_loop_fine loops onward few fine = some_fine (λ (r : Result Loop Refusal). Fine (loop_looked_at r onward)) 2 loops.count _ _ few (λ refusal other. stops refusal other) (fine _)

push_frame_fine : (frames : Two Frame) (entered : Frame) (onward : Two Frame → StepResult) → ((after : Two Frame) → Fine (onward after)) → Fine (push_frame frames entered onward)
unfolding frame_pushed stacks.push_onto
push_frame_fine frames entered onward fine = room_fine (λ (r : Result (Two Frame) Refusal). Fine (frame_pushed r onward)) 2 frames.count _ _ (λ refusal other. stops refusal other) (fine _)

pop_frame_fine : (frames : Two Frame) (onward : Two Frame → StepResult) → frames.count ≤ 2 → ((others : Two Frame) → Fine (onward others)) → Fine (pop_frame frames onward)
unfolding frame_popped stacks.pop_off
pop_frame_fine frames onward few fine = some_fine (λ (r : Result (Frame × Two Frame) Refusal). Fine (frame_popped r onward)) 2 frames.count _ _ few (λ refusal other. stops refusal other) (fine _)

bounds_fine : (w : World) (entry : InstructionsRef) (onward : ℕ → ℕ → StepResult) → ((start end : ℕ) → Fine (onward start end)) → Fine (bounds w entry onward)
unfolding bounds_found pools.bounds
bounds_fine w entry onward fine = either (λ (r : Result (ℕ × ℕ) Refusal). Fine (bounds_found r onward)) (ltb entry.0 (min w.machine.entries 1024)) _ _ (λ _. fine _ _) (λ _. stops _ refl)

intern_fine : (w : World) (calldata : List ℕ) (onward : InstructionsRef → World → StepResult) → ((entry : InstructionsRef) (after : World) → Fine (onward entry after)) → Fine (intern w calldata onward)
unfolding interned pools.interned
intern_fine w calldata onward fine =
    either (λ (p : pools.Pooled). Fine (interned w p p.answer onward)) (pools.has_room (length w.pool) w.machine.pool w.machine.entries (length calldata)) _ _
    (λ _. fine _ _) (λ _. stops _ refl)

find_fine : (task : Task) (id : TaskId) (onward : StepResult) → Fine onward → Fine (found (storage.find task id) onward)
unfolding found storage.find
find_fine task id onward fine = either (λ (r : Result ⊤ Refusal). Fine (found r onward)) task.living _ _ (λ _. fine) (λ _. stops _ refl)

state_fine : (len : ℕ) (onward : TaskState → StepResult) → ((state : TaskState) → Fine (onward state)) → Fine (first_state (default_state len) onward)
unfolding first_state default_state
state_fine len onward fine = either (λ (r : Result TaskState Refusal). Fine (first_state r onward)) (eqb len 0) _ _ (λ _. stops _ refl) (λ _. fine _)

has_state_fine : (state : TaskState) (new_state : ℕ) (onward : StepResult) → Fine onward → Fine (has_state (with_state state new_state).answer onward)
unfolding has_state with_state
has_state_fine state new_state onward fine =
    either (λ (c : StateChange). Fine (has_state c.answer onward)) (leb state.len new_state) _ _ (λ _. stops _ refl)
    (λ _. either (λ (c : StateChange). Fine (has_state c.answer onward)) (leb 255 new_state) _ _ (λ _. stops _ refl) (λ _. fine))

task_room_fine : (w : World) (title : ℕ) (onward : StepResult) → Fine onward → Fine (room w title onward)
unfolding with_room storage.room
task_room_fine w title onward fine =
    either (λ (r : Result ⊤ Refusal). Fine (with_room r onward)) (leb 256 w.machine.next_id.0) _ _ (λ _. stops _ refl)
    (λ _. either (λ (r : Result ⊤ Refusal). Fine (with_room r onward)) (ltb 128 title) _ _ (λ _. stops _ refl) (λ _. fine))

-- what a save is refused with
data Refuses : Option Refusal → Type 0 where
  not_refused : Refuses none
  other_refused : (refusal : Refusal) → Other refusal → Refuses (some refusal)

bounds_refuses : (ends : List ℕ) (entries : ℕ) (entry : InstructionsRef) (title : List ℕ) → Refuses (refusal_by title (pools.bounds ends entries entry))
unfolding pools.bounds refusal_by
bounds_refuses ends entries entry title =
    either (λ (r : Result (ℕ × ℕ) Refusal). Refuses (refusal_by title r)) (ltb entry.0 (min entries 1024)) _ _
    (λ _. either Refuses (valid title) _ _ (λ _. not_refused) (λ _. other_refused _ refl)) (λ _. other_refused _ refl)

either_refuses : (first later : Option Refusal) → Refuses first → Refuses later → Refuses (or_else first later)
unfolding or_else
either_refuses _ later (other_refused refusal other) l = other_refused refusal other
either_refuses _ later not_refused l = l

tasks_refuse : (ends : List ℕ) (entries : ℕ) (tasks : List Task) → Refuses (first_refusal ends entries tasks)
unfolding first_refusal task_refusal
tasks_refuse ends entries [] = not_refused
tasks_refuse ends entries (task ∷ tasks) =
    either_refuses _ _ (bounds_refuses ends entries task.instructions_ref (title_in task)) (tasks_refuse ends entries tasks)

unless_fine : (refusal : Option Refusal) (image save : List ℕ) (onward : ℕ → StepResult) → Refuses refusal → ((size : ℕ) → Fine (onward size)) → Fine (saved (saved_unless refusal image save).answer onward)
unfolding saved_unless saved_over saved
unless_fine _ image save onward (other_refused refusal other) fine = stops refusal other
unless_fine _ image save onward not_refused fine =
    either (λ (a : SavedTable). Fine (saved a.answer onward)) (leb (length image) (length save)) _ _ (λ _. fine _) (λ _. stops _ refl)

saved_fine : (w : World) (onward : ℕ → StepResult) → ((size : ℕ) → Fine (onward size)) → Fine (saved (saving w).answer onward)
unfolding save_table save_tasks
saved_fine w onward fine =
    unless_fine _ (written (image_of_tasks w.machine.next_id.0 (living_tasks w.table) w.pool w.ends)) w.save onward (tasks_refuse w.ends w.machine.entries (living_tasks w.table)) fine

-- ---- the opcodes

module _ (w : World) (high : w.machine.height ≤ 1000) (few : w.machine.loops.count ≤ 2) (framed : w.machine.frames.count ≤ 2) where
  push_u32_fine : Fine (push_u32 w)
  unfolding push_u32
  push_u32_fine = operand_fine w 1 4 _ (λ n. push_fine w _ _ _)

  push_byte_fine : Fine (push_byte w)
  unfolding push_byte
  push_byte_fine = operand_fine w 1 1 _ (λ n. push_fine w _ _ _)

  push_calldata_fine : Fine (push_calldata w)
  unfolding push_calldata
  push_calldata_fine =
      operand_fine w 1 2 _ (λ size. test_fine (leb (place w + 3 + size) (length (code w))) _ _ refl (test_fine (ltb (height w) 1000) _ _ refl (intern_fine w _ _ (λ entry after. goes _))))

  mul_fine : Fine (mul w)
  unfolding mul
  mul_fine = pop_fine w _ _ high (λ left above low. pop_fine w _ _ low (λ right below lower. calculated_fine _ _ (mul_other left right) (λ v. push_fine w _ _ _)))

  muli_fine : Fine (muli w)
  unfolding muli
  muli_fine = pop_fine w _ _ high (λ left below low. operand_fine w 1 4 _ (λ right. calculated_fine _ _ (muli_other left right) (λ v. push_fine w _ _ _)))

  compare_fine : (is_lt : Bool) → Fine (compare is_lt w)
  unfolding compare
  compare_fine is_lt = pop_fine w _ _ high (λ right above low. pop_fine w _ _ low (λ left below lower. calculated_fine _ _ (compare_other left right is_lt) (λ v. push_fine w _ _ _)))

  t_create_fine : Fine (t_create w)
  unfolding t_create
  t_create_fine =
      pop_fine w _ _ high
      (λ reference above low. pop_fine w _ _ low
      (λ count below lower. state_fine _ _
      (λ state. pop_fine w _ _ lower
      (λ title left lowest. pointer_fine title _ (λ vector. bytes_fine w vector _ (λ bytes. task_room_fine w _ _ (goes _)))))))

  get_field_fine : (below field : ℕ) (task : Task) → Fine (get_field w below field task)
  unfolding get_field
  get_field_fine below field task =
      either Fine (eqb field 0) _ _ (λ _. store_fine w _ _ _ _ _) (λ _. either Fine (eqb field 1) _ _ (λ _. push_fine w _ _ _) (λ _. push_fine w _ _ _))

  t_get_field_fine : Fine (t_get_field w)
  unfolding t_get_field
  t_get_field_fine =
      pop_fine w _ _ high
      (λ field above low. test_fine (leb (to_u32 field) 2) _ _ refl (pop_fine w _ _ low (λ id below lower. find_fine (task_of w (id_of id)) _ _ (get_field_fine below (to_u32 field) _))))

  set_field_fine : (left field value : ℕ) (id : TaskId) (task : Task) → Fine (set_field w left field value id task)
  unfolding set_field
  set_field_fine left field value id task =
      either Fine (eqb field 0) _ _ (λ _. pointer_fine value _ (λ vector. bytes_fine w vector _ (λ bytes. test_fine (leb vector.size 128) _ _ refl (goes _))))
      (λ _. either Fine (eqb field 1) _ _ (λ _. has_state_fine task.state (to_u32 value) _ (goes _)) (λ _. goes _))

  t_set_field_fine : Fine (t_set_field w)
  unfolding t_set_field
  t_set_field_fine =
      pop_fine w _ _ high
      (λ field above low. test_fine (leb (to_u32 field) 2) _ _ refl
      (pop_fine w _ _ low (λ id below lower. find_fine (task_of w (id_of id)) _ _ (pop_fine w _ _ lower (λ value left lowest. set_field_fine left (to_u32 field) value _ _)))))

  t_delete_fine : Fine (t_delete w)
  unfolding t_delete
  t_delete_fine = pop_fine w _ _ high (λ id below low. find_fine (task_of w (id_of id)) _ _ (goes _))

  s_save_fine : Fine (s_save w)
  unfolding s_save
  s_save_fine = saved_fine w _ (λ size. goes _)

  s_len_fine : Fine (s_len w)
  unfolding s_len
  s_len_fine = push_fine w _ _ _

  do_fine : Fine («do» w)
  unfolding «do»
  do_fine = pop_fine w _ _ high (λ index above low. pop_fine w _ _ low (λ limit below lower. push_loop_fine w.machine.loops _ _ (λ loops. goes _)))

  loop_fine : Fine (loop w)
  unfolding loop
  loop_fine =
      pop_loop_fine w.machine.loops _ few
      (λ innermost others. either Fine (ltb (innermost.index + 1) innermost.limit) _ _ (λ _. push_loop_fine others _ _ (λ loops. goes _)) (λ _. goes _))

  loop_index_fine : Fine (loop_index w)
  unfolding loop_index
  loop_index_fine = last_loop_fine w.machine.loops _ few (λ innermost. push_fine w _ _ _)

  enter_fine : (v : World) (entry : InstructionsRef) → Fine (enter v entry)
  unfolding enter
  enter_fine v entry = bounds_fine v entry _ (λ start end. either Fine (leb end start) _ _ (λ _. goes _) (λ _. push_frame_fine v.machine.frames _ _ (λ frames. goes _)))

  call_fine : Fine (call_task w)
  unfolding call_task
  call_fine = pop_fine w _ _ high (λ id below low. either Fine (task_of w (id_of id)).living _ _ (λ _. enter_fine _ _) (λ _. goes _))

  end_call_fine : Fine (end_call w)
  unfolding end_call
  end_call_fine = either Fine (leb w.machine.frames.count 1) _ _ (λ _. goes _) (λ _. pop_frame_fine w.machine.frames _ framed (λ frames. goes _))

  jump_fine : Fine (jump_if_false w)
  unfolding jump_if_false
  jump_fine = pop_fine w _ _ high (λ value below low. either Fine (eqb value (to_bool_val false)) _ _ (λ _. operand_fine w 1 4 _ (λ target. goes _)) (λ _. goes _))

  drop_fine : Fine (drops w)
  unfolding drops
  drop_fine = pop_fine w _ _ high (λ value below low. goes _)

  dup_fine : Fine (dup w)
  unfolding dup
  dup_fine = last_fine w _ _ high (λ value. push_fine w _ _ _)

  swap_fine : Fine (swap w)
  unfolding swap
  swap_fine = pop_fine w _ _ high (λ top above low. pop_fine w _ _ low (λ second below lower. goes _))

  equal_fine : (left right : ℕ) (onward : ℕ → StepResult) → ((answer : ℕ) → Fine (onward answer)) → Fine (equal w left right onward)
  unfolding equal
  equal_fine left right onward fine =
      either Fine (is_vec left && is_vec right) _ _
      (λ _. test_fine (eqb (raw_tag left) (raw_tag right)) _ _ refl (calculated_fine _ _ (slices_other (memory_in_use w) _ _) fine))
      (λ _. calculated_fine _ _ (scalars_other left right) fine)

  eq_fine : Fine (eq w)
  unfolding eq
  eq_fine = pop_fine w _ _ high (λ right above low. pop_fine w _ _ low (λ left below lower. equal_fine left right _ (λ answer. push_fine w _ _ _)))

  neq_fine : Fine (neq w)
  unfolding neq
  neq_fine = pop_fine w _ _ high (λ right above low. pop_fine w _ _ low (λ left below lower. equal_fine left right _ (λ answer. push_fine w _ _ _)))

  m_sti_fine : Fine (m_sti w)
  unfolding m_sti
  m_sti_fine =
      operand_fine w 1 2 _
      (λ size. operand_fine w 3 1 _
      (λ tag. operand_fine w 4 1 _
      (λ signal. either Fine (eqb signal 1) _ _ (λ _. test_fine (leb (place w + 5 + size) (length (code w))) _ _ refl (store_fine w _ _ _ _ _)) (λ _. store_fine w _ _ _ _ _))))

  m_st_fine : Fine (m_st w)
  unfolding m_st
  m_st_fine = pop_fine w _ _ high (λ size below low. test_fine (leb (to_u32 size) 65535) _ _ refl (operand_fine w 1 1 _ (λ tag. store_fine w _ _ _ _ _)))

  m_muta_fine : Fine (m_muta w)
  unfolding m_muta mut_vec
  m_muta_fine =
      pop_fine w _ _ high
      (λ payload above low. pop_fine w _ _ low
      (λ index below lower. last_fine w _ _ lower
      (λ value. pointer_fine value _ (λ vector. changed_fine (memory_in_use w) vector (to_u32 index) (to_u32 payload) _ (element_size_bytes (raw_tag value)) (size_other (raw_tag value)) (goes _)))))

  execute_fine : (opcode : ℕ) → Fine (execute opcode w)
  unfolding execute
  execute_fine opcode =
      either Fine (eqb opcode PUSH_U32) _ _ (λ _. push_u32_fine)
      (λ _. either Fine (eqb opcode PUSH_STATE || eqb opcode PUSH_TASK_FIELD || eqb opcode PUSH_MAX_STATES) _ _ (λ _. push_byte_fine)
      (λ _. either Fine (eqb opcode PUSH_CALLDATA) _ _ (λ _. push_calldata_fine)
      (λ _. either Fine (eqb opcode T_CREATE) _ _ (λ _. t_create_fine)
      (λ _. either Fine (eqb opcode T_GET_FIELD) _ _ (λ _. t_get_field_fine)
      (λ _. either Fine (eqb opcode T_SET_FIELD) _ _ (λ _. t_set_field_fine)
      (λ _. either Fine (eqb opcode T_DELETE) _ _ (λ _. t_delete_fine)
      (λ _. either Fine (eqb opcode S_SAVE) _ _ (λ _. s_save_fine)
      (λ _. either Fine (eqb opcode S_LEN) _ _ (λ _. s_len_fine)
      (λ _. either Fine (eqb opcode DO) _ _ (λ _. do_fine)
      (λ _. either Fine (eqb opcode LOOP) _ _ (λ _. loop_fine)
      (λ _. either Fine (eqb opcode LOOP_INDEX) _ _ (λ _. loop_index_fine)
      (λ _. either Fine (eqb opcode CALL) _ _ (λ _. call_fine)
      (λ _. either Fine (eqb opcode END_CALL) _ _ (λ _. end_call_fine)
      (λ _. either Fine (eqb opcode DROP) _ _ (λ _. drop_fine)
      (λ _. either Fine (eqb opcode DUP) _ _ (λ _. dup_fine)
      (λ _. either Fine (eqb opcode SWAP) _ _ (λ _. swap_fine)
      (λ _. either Fine (eqb opcode EQ) _ _ (λ _. eq_fine)
      (λ _. either Fine (eqb opcode NEQ) _ _ (λ _. neq_fine)
      (λ _. either Fine (eqb opcode LT) _ _ (λ _. compare_fine true)
      (λ _. either Fine (eqb opcode GT) _ _ (λ _. compare_fine false)
      (λ _. either Fine (eqb opcode JUMP_IF_FALSE) _ _ (λ _. jump_fine)
      (λ _. either Fine (eqb opcode M_STI) _ _ (λ _. m_sti_fine)
      (λ _. either Fine (eqb opcode M_ST) _ _ (λ _. m_st_fine)
      (λ _. either Fine (eqb opcode M_MUTA) _ _ (λ _. m_muta_fine)
      (λ _. either Fine (eqb opcode MULI) _ _ (λ _. muli_fine)
      (λ _. either Fine (eqb opcode MUL) _ _ (λ _. mul_fine) (λ _. goes _)))))))))))))))))))))))))))

  step_by : Fine (step w)
  unfolding step
  step_by = either Fine (at_end w) _ _ (λ _. stops _ refl) (λ _. execute_fine (op w))

-- ---- what is said of it

other_of : (refusal : Refusal) (s : StepResult) → Fine s → s ≡ refused refusal → Other refusal
other_of refusal _ (goes v) e = absurd (let z : ◌≡◌ {A = ℕ} 0 1 = cc in omega arith)
other_of refusal _ (stops found other) e = let same : found ≡ refusal = cc in subst Other same other

-- a refused instruction of a machine that passes the test of 26 is refused with another number
pub step_other : (w : World) (refusal : Refusal) → Passes w → step w ≡ refused refusal → eqb (number_of refusal) 26 ≡ false
step_other w refusal p e =
    let m = (passes_kept w p).machine_kept in
    other_of refusal (step w) (step_by w m.values.high m.values.few (few_frames w.machine.frames w.machine.entries m.frames)) e

passes_on : (n : ℕ) (w v : World) → Passes w → Reaches n w v → Passes v
passes_on n w _ p (here _) = p
passes_on _ w v p (onto n _ u _ inside s way) = passes_on n u v (step_passes w u p s) way

ends_other : (fuel : ℕ) (w : World) (refusal : Refusal) (e : End) → Passes w → Ends fuel w e → e.outcome ≡ Refused refusal → Other refusal
ends_other fuel w refusal _ p (is_done n left v sum way over) e = absurd (let z : ◌≡◌ {A = ℕ} 0 1 = cc in omega arith)
ends_other fuel w refusal _ p (is_paused v way over) e = absurd (let z : ◌≡◌ {A = ℕ} 0 1 = cc in omega arith)
ends_other fuel w refusal _ p (is_refused n left v found sum way over refuses) e =
    let same : found ≡ refusal = cc in
    subst Other same (step_other v found (passes_on n w v p way) refuses)

-- and so is a run
pub run_other : (fuel : ℕ) (w : World) (refusal : Refusal) → Passes w → (run fuel w).outcome ≡ Refused refusal → eqb (number_of refusal) 26 ≡ false
run_other fuel w refusal p e = ends_other fuel w refusal (run fuel w) p (finished fuel w) e
