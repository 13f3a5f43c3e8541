-- An instruction that needs a task, a frame or the pool, as the code goes about it, is what its opcode does.
use Prim.Native.Nat.{ℕ, ◌+◌, ◌-◌, ◌%◌, ◌^◌, ◌<◌, ◌≤◌}
use mathlib.Core.Bool.{cond}
use mathlib.Core.List.{List}
use mathlib.Core.Path.{◌≡◌, refl, ◌∙◌}
use native.Mathlib.Omega.{arith}
use lib.Dec.{eqb, ltb, leb}
use lib.ListN.{length, get_or, set}
use borrow.Author.Tests.{leb-true, leb-false, ltb-true, ltb-false, le-leb, lt-leb, lt-ltb, le-ltb, ne_eqb}
use Rattle.errors.specs.declared.Refusal.{Refusal}
use Rattle.errors.specs.declared.Refusal.TheVariants.{UnexpectedEOB, InvalidTaskField, TitleTooLong}
use Rattle.bytecode.specs.Opcodes.{PUSH_CALLDATA}
use Rattle.bytecode.specs.Operands as operands
use Rattle.inlinevec.specs.Stacks as stacks
use Rattle.values.specs.Values.{to_u32, to_u32_val, to_calldata_val, to_fat_pointer}
use Rattle.values.specs.declared.FatPointer.{FatPointer}
use Rattle.memory.specs.Change.{inside}
use Rattle.memory.specs.Reads.{get_slice_bytes}
use Rattle.pools.specs.Pool as pools
use Rattle.pools.specs.declared.InstructionsRef.{InstructionsRef}
use Rattle.storage.specs.Storage as storage
use Rattle.storage.specs.Table.{set_state_at}
use Rattle.storage.specs.Tasks as tasks
use Rattle.storage.specs.Tasks.{blank, new_task, restated}
use Rattle.storage.specs.declared.Task.{Task}
use Rattle.storage.specs.declared.TaskState.{TaskState}
use Rattle.machine.specs.Machines.{placed}
use Rattle.machine.specs.Titles.{within, title_length, title_bytes, retitled}
use Rattle.machine.specs.World.{World, code, place, height, memory_in_use, moved, with_stack, with_task, with_save, framed as with-frame}
use Rattle.machine.specs.Words.{StepResult, next, refused, test, pop, popped, pointed, bytes_of, operand_found, frame_pushed, frame_popped, bounds_found, interned, found, first_state, has_state, with_room, saved}
use Rattle.machine.specs.Opcodes as opcodes
use Rattle.mechanism.specs.Registers.{OnMemory, on_memory, registers_of, settled, machine_at}
use Rattle.mechanism.specs.Registers as registers
use Rattle.mechanism.specs.Changes.{applied}
use Rattle.mechanism.specs.Create as creating
use Rattle.mechanism.specs.Create.{op_t_create, with_two, with_state, titled, with_title, if_vector, if_within, op_t_delete, delete_popped, delete_found}
use Rattle.mechanism.specs.Fields as fields
use Rattle.mechanism.specs.Fields.{op_t_get_field, op_t_set_field, field_of, field_popped, owner, owner_popped, get_found, set_found, set_popped, set_title, title_within, title_vector, state_answered, set_instructions}
use Rattle.mechanism.specs.Frames as framing
use Rattle.mechanism.specs.Frames.{op_call, call_popped, enter_bounded, framed, op_end_call, left_frame, intern_calldata, intern_sized, with_entry, calldata_pushed}
use Rattle.mechanism.specs.Advance.{named, named_by}
use Rattle.mechanism.specs.Turns.{save_result}
use Rattle.mechanism.specs.Act.{keeping, on_all, settled_by, created, tasked_by, created_by, after_pool, after_memory, on_frames, act_by}
use Rattle.mechanism.specs.Step.{inner_result, on_registers, acts_result, on_record, saves_result, saves}
use Rattle.mechanism.specs.declared.Registers.{Registers}
use Rattle.mechanism.specs.declared.Change.{Change}
use Rattle.mechanism.specs.declared.Change.TheVariants.{Keep}
use Rattle.mechanism.proofs.Pops.{popped_one}
use Rattle.mechanism.proofs.Settled.{on_bool}
use Rattle.mechanism.proofs.Operands.{up_to}
use Rattle.mechanism.proofs.Parts.{one_off, two_off, pushes, stores}
use Rattle.std.specs.Prelude.{Ok, Err, Result, ⊤}
use Rattle.machine.specs.declared.Machine.{Machine}
use Rattle.inlinevec.specs.declared.Frame.{Frame}
use Rattle.inlinevec.specs.declared.Two.{Two}

module _ (w : World) where
  abbrev r : Registers
  r = registers_of w.machine

  -- the record of a slot, and an answer with its change there
  abbrev slot : ℕ → Task
  slot i = get_or w.table i blank

  abbrev on_slot : ℕ → Result (Registers × Change) Refusal → StepResult
  on_slot i answer = on_record w i (on_all (tasked_by w.machine answer) w.stack w.memory w.pool w.ends)

  -- the slot that the value on top names
  pub top_is : cond (eqb (height w) 0) 256 (named w.stack (height w)) ≡ named w.stack (height w)
  unfolding named named_by stacks.pop stacks.if_some
  top_is = on_bool (eqb (height w) 0) (λ t. rw t) (λ t. rw t)

  -- ---- T_DELETE

  pub delete_is : on_slot (named w.stack (height w)) (op_t_delete w.stack r (place w + 1) (slot (named w.stack (height w)))) ≡ opcodes.t_delete w
  unfolding op_t_delete delete_popped delete_found named named_by tasked_by settled_by acts_result applied opcodes.t_delete found storage.slot_of settled placed registers_of
  delete_is =
      one_off w (λ a. on_slot (named_by a) (delete_popped r (place w + 1) (slot (named_by a)) a)) _ (λ refusal. refl)
      (λ value below. by value below (storage.find (slot (to_u32 value)) (record { 0 = to_u32 value }))) (stacks.pop w.stack (height w))
    where
      by : (value below : ℕ) (a : Result ⊤ Refusal) → on_slot (to_u32 value) (delete_found (registers.moved r (place w + 1) below) a)
          ≡ found a (next (with_task (opcodes.onward w below) (opcodes.id_of value) blank))
      by value below (Ok tt) = refl
      by value below (Err refusal) = refl

  -- ---- T_CREATE

  abbrev next_id : ℕ
  next_id = w.machine.next_id.0

  abbrev on_next : Result (Registers × Change) Refusal → StepResult
  on_next answer = on_record w next_id (on_all (created_by w.machine answer) w.stack w.memory w.pool w.ends)

  -- the task in the next slot: 20, 21
  room_is : (left : ℕ) (v : FatPointer) (state : TaskState) (reference : InstructionsRef)
      → on_next (creating.with_room (memory_in_use w) (registers.moved r (place w + 1) left) v (record { 0 = next_id }) state reference (storage.room next_id v.size))
      ≡ with_room (storage.room next_id v.size) (next (opcodes.with_next_task (opcodes.onward w left) (new_task (record { 0 = next_id }) (get_slice_bytes (memory_in_use w) v) state reference)))
  unfolding creating.with_room created_by created acts_result applied storage.room with_room storage.slot_of settled placed registers_of
  room_is left v state reference =
      on_bool (leb 256 next_id) (λ t. rw t)
      (λ t. on_bool (ltb 128 v.size) (λ u. rw (t, u))
      (λ u. let less : next_id < 256 = leb-false 256 next_id t in
      let one : (next_id + 1) % 2 ^ 32 ≡ next_id + 1 = omega arith in
      rw (t, u, one)))

  -- its title in the memory in use: 14
  within_is : (left : ℕ) (v : FatPointer) (state : TaskState) (reference : InstructionsRef)
      → on_next (creating.new (memory_in_use w) (registers.moved r (place w + 1) left) v (record { 0 = next_id }) state reference)
      ≡ bytes_of w v (λ bytes. with_room (storage.room next_id v.size) (next (opcodes.with_next_task (opcodes.onward w left) (new_task (record { 0 = next_id }) bytes state reference))))
  unfolding creating.new if_within within bytes_of test created_by created acts_result
  within_is left v state reference = on_bool (inside (memory_in_use w) v) (λ t. rw t (room_is left v state reference)) (λ t. rw t)

  vector_is : (left : ℕ) (state : TaskState) (reference : InstructionsRef) (a : Result FatPointer Refusal)
      → on_next (if_vector (memory_in_use w) (registers.moved r (place w + 1) left) (record { 0 = next_id }) state reference a)
      ≡ pointed a (λ v. bytes_of w v (λ bytes. with_room (storage.room next_id v.size) (next (opcodes.with_next_task (opcodes.onward w left) (new_task (record { 0 = next_id }) bytes state reference)))))
  unfolding if_vector pointed created_by created acts_result
  vector_is left state reference (Ok v) = within_is left v state reference
  vector_is left state reference (Err refusal) = refl

  state_is : (below reference : ℕ) (a : Result TaskState Refusal)
      → on_next (with_state w.stack w.memory (registers.moved r (place w + 1) below) (record { 0 = next_id }) reference a)
      ≡ first_state a (λ state. pop w below λ title left. pointed (to_fat_pointer title) λ v. bytes_of w v λ bytes. with_room (storage.room next_id v.size)
      (next (opcodes.with_next_task (opcodes.onward w left) (new_task (record { 0 = next_id }) bytes state (opcodes.reference_of reference)))))
  unfolding with_state titled with_title first_state created_by created acts_result registers_of
  state_is below reference (Ok state) =
      one_off w (λ a. on_next (with_title w.memory (registers.moved r (place w + 1) below) (record { 0 = next_id }) state (opcodes.reference_of reference) a)) _ (λ refusal. refl)
      (λ title left. vector_is left state (opcodes.reference_of reference) (to_fat_pointer title)) (stacks.pop w.stack below)
  state_is below reference (Err refusal) = refl

  pub create_is : on_next (op_t_create w.stack w.memory r (place w + 1) next_id) ≡ opcodes.t_create w
  unfolding op_t_create with_two opcodes.t_create created_by created acts_result registers_of
  create_is =
      two_off w (λ a. on_next (with_two w.stack w.memory r (place w + 1) (record { 0 = next_id }) a)) _ (λ refusal. refl)
      (λ reference count below. state_is below reference (tasks.default_state (to_u32 count % 256))) (height w)

  -- ---- T_GET_FIELD and T_SET_FIELD

  -- where a field was popped the slot is the one that the value below it names
  pub named_below : (field above : ℕ) → stacks.pop w.stack (height w) ≡ Ok (field, above) → cond (eqb (height w) 0) 256 (named w.stack (height w - 1)) ≡ named w.stack above
  named_below field above e =
      let one = (popped_one w.stack (height w) field above e).one in
      let z : height w - 1 ≡ above = omega arith in
      rw (ne_eqb (height w) 0 (λ none. omega arith), z)

  told_off : (F : Result (ℕ × ℕ) Refusal → StepResult) (K : ℕ → ℕ → StepResult) (a : Result (ℕ × ℕ) Refusal) → ((refusal : Refusal) → F (Err refusal) ≡ refused refusal)
      → ((value below : ℕ) → a ≡ Ok (value, below) → F (Ok (value, below)) ≡ K value below) → F a ≡ popped a K
  unfolding popped
  told_off F K (Ok (value, below)) bad good = good value below refl
  told_off F K (Err refusal) bad good = bad refusal

  -- a field of a task: 3, 10, 3, 9
  module _ (F : ℕ → Result (ℕ × ℕ) Refusal → StepResult) (K : ℕ → ℕ → ℕ → StepResult) (bad : (i : ℕ) (refusal : Refusal) → F i (Err refusal) ≡ refused refusal)
      (good : (field id below : ℕ) → F (to_u32 id) (Ok (to_u32 field, below)) ≡ K field id below) where
    by_find : (field id below : ℕ) (a : Result ⊤ Refusal) → F (to_u32 id) (fields.if_found (to_u32 field) below a) ≡ found a (K field id below)
    unfolding fields.if_found found
    by_find field id below (Ok tt) = good field id below
    by_find field id below (Err refusal) = bad (to_u32 id) refusal

    by_id : (field : ℕ) (a : Result (ℕ × ℕ) Refusal) → F (named_by a) (owner_popped (slot (named_by a)) (to_u32 field) a) ≡ popped a (λ id below. found (storage.find (slot (to_u32 id)) (opcodes.id_of id)) (K field id below))
    unfolding named_by owner_popped popped
    by_id field (Ok (id, below)) = by_find field id below (storage.find (slot (to_u32 id)) (opcodes.id_of id))
    by_id field (Err refusal) = bad 256 refusal

    by_field : (field above : ℕ) → F (named w.stack above) (cond (ltb 2 (to_u32 field)) (Err (InvalidTaskField (to_u32 field))) (owner w.stack above (slot (named w.stack above)) (to_u32 field)))
        ≡ test (leb (to_u32 field) 2) (InvalidTaskField (to_u32 field)) (pop w above λ id below. found (storage.find (slot (to_u32 id)) (opcodes.id_of id)) (K field id below))
    unfolding test owner named
    by_field field above =
        on_bool (leb (to_u32 field) 2)
        (λ t. rw (t, le-ltb 2 (to_u32 field) (leb-true (to_u32 field) 2 t)) (by_id field (stacks.pop w.stack above)))
        (λ t. rw (t, lt-ltb 2 (to_u32 field) (leb-false (to_u32 field) 2 t)) (bad (named_by (stacks.pop w.stack above)) (InvalidTaskField (to_u32 field))))

    field_is : (s : ℕ) → ((field above : ℕ) → stacks.pop w.stack (height w) ≡ Ok (field, above) → s ≡ named w.stack above)
        → F s (field_of w.stack (height w) (slot s))
        ≡ (pop w (height w) λ field above. test (leb (to_u32 field) 2) (InvalidTaskField (to_u32 field)) (pop w above λ id below. found (storage.find (slot (to_u32 id)) (opcodes.id_of id)) (K field id below)))
    unfolding field_of field_popped
    field_is s told =
        told_off (λ a. F s (field_popped w.stack (slot s) a)) _ (stacks.pop w.stack (height w)) (bad s)
        (λ field above e. rw (told field above e) (by_field field above))

  -- an instruction that leaves the slot
  slot_left : (i : ℕ) (a : Result Registers Refusal) (stack memory : List ℕ) → on_record w i (after_memory w.machine (on_memory a stack memory) w.pool w.ends) ≡ on_registers w (on_memory a stack memory)
  unfolding acts_result settled_by applied inner_result keeping
  slot_left i (Ok registers) stack memory = refl
  slot_left i (Err refusal) stack memory = refl

  -- T_GET_FIELD
  get_field_is : (i below field : ℕ) → on_record w i (after_memory w.machine (fields.get_field w.stack w.memory r (place w + 1) below field (slot i)) w.pool w.ends) ≡ opcodes.get_field w below field (slot i)
  unfolding fields.get_field opcodes.get_field
  get_field_is i below field =
      on_bool (eqb field 0) (λ t. rw t (slot_left i _ _ _ ∙ stores w (place w + 1) below (title_length (slot i) % 65536) 4 (title_bytes (slot i))))
      (λ t. on_bool (eqb field 1) (λ u. rw (t, u) (slot_left i _ _ _ ∙ pushes w (place w + 1) below (to_u32_val (slot i).state.state)))
      (λ u. rw (t, u) (slot_left i _ _ _ ∙ pushes w (place w + 1) below (to_calldata_val (slot i).instructions_ref.0))))

  pub get_is : (s : ℕ) → ((field above : ℕ) → stacks.pop w.stack (height w) ≡ Ok (field, above) → s ≡ named w.stack above)
      → on_record w s (after_memory w.machine (op_t_get_field w.stack w.memory r (place w + 1) (slot s)) w.pool w.ends) ≡ opcodes.t_get_field w
  unfolding op_t_get_field get_found opcodes.t_get_field storage.slot_of acts_result settled_by registers_of keeping
  get_is s told =
      field_is (λ i a. on_record w i (after_memory w.machine (get_found w.stack w.memory r (place w + 1) (slot i) a) w.pool w.ends)) (λ field id below. opcodes.get_field w below (to_u32 field) (slot (to_u32 id)))
      (λ i refusal. refl) (λ field id below. get_field_is (to_u32 id) below (to_u32 field)) s told

  -- T_SET_FIELD
  title_is : (id left : ℕ) (a : Result FatPointer Refusal) → on_slot (to_u32 id) (title_vector (memory_in_use w) (registers.moved r (place w + 1) left) (slot (to_u32 id)) a)
      ≡ pointed a (λ v. bytes_of w v λ bytes. test (leb v.size 128) TitleTooLong (next (with_task (opcodes.onward w left) (opcodes.id_of id) (retitled (slot (to_u32 id)) bytes))))
  unfolding title_vector set_title title_within within pointed bytes_of test tasked_by settled_by acts_result applied storage.slot_of settled placed registers_of
  title_is id left (Ok v) =
      on_bool (inside (memory_in_use w) v)
      (λ t. rw t (on_bool (leb v.size 128) (λ u. rw (u, le-ltb 128 v.size (leb-true v.size 128 u))) (λ u. rw (u, lt-ltb 128 v.size (leb-false v.size 128 u)))))
      (λ t. rw t)
  title_is id left (Err refusal) = refl

  state_set_is : (id left state : ℕ) → on_slot (to_u32 id) (fields.set_state (registers.moved r (place w + 1) left) state (slot (to_u32 id)))
      ≡ has_state (tasks.with_state (slot (to_u32 id)).state state).answer (next (with_task (opcodes.onward w left) (opcodes.id_of id) (restated (slot (to_u32 id)) state)))
  unfolding fields.set_state state_answered tasks.with_state has_state set_state_at tasks.set_state tasked_by settled_by acts_result applied storage.slot_of settled placed registers_of
  state_set_is id left state =
      on_bool (leb (slot (to_u32 id)).state.len state) (λ t. rw t) (λ t. on_bool (leb 255 state) (λ u. rw (t, u)) (λ u. rw (t, u, t, u)))

  set_field_is : (id left field value : ℕ) → on_slot (to_u32 id) (fields.set_field (memory_in_use w) (registers.moved r (place w + 1) left) field value (slot (to_u32 id))) ≡ opcodes.set_field w left field value (opcodes.id_of id) (slot (to_u32 id))
  unfolding fields.set_field set_instructions opcodes.set_field tasked_by settled_by acts_result applied storage.slot_of settled placed registers_of
  set_field_is id left field value =
      on_bool (eqb field 0) (λ t. rw t (title_is id left (to_fat_pointer value)))
      (λ t. on_bool (eqb field 1) (λ u. rw (t, u) (state_set_is id left (to_u32 value))) (λ u. rw (t, u)))

  pub set_is : (s : ℕ) → ((field above : ℕ) → stacks.pop w.stack (height w) ≡ Ok (field, above) → s ≡ named w.stack above)
      → on_slot s (op_t_set_field w.stack w.memory r (place w + 1) (slot s)) ≡ opcodes.t_set_field w
  unfolding op_t_set_field set_found set_popped opcodes.t_set_field storage.slot_of tasked_by settled_by acts_result registers_of
  set_is s told =
      field_is (λ i a. on_slot i (set_found w.stack w.memory r (place w + 1) (slot i) a)) (λ field id below. pop w below λ value left. opcodes.set_field w left (to_u32 field) value (opcodes.id_of id) (slot (to_u32 id)))
      (λ i refusal. refl)
      (λ field id below. one_off w (λ a. on_slot (to_u32 id) (set_popped w.memory r (place w + 1) (to_u32 field) (slot (to_u32 id)) a)) _ (λ refusal. refl)
      (λ value left. set_field_is id left (to_u32 field) value) (stacks.pop w.stack below)) s told

  -- ---- CALL and END_CALL

  abbrev on_result : ℕ → Result Machine Refusal → StepResult
  on_result i a = on_record w i (on_all (keeping a) w.stack w.memory w.pool w.ends)

  frame_is : (i below : ℕ) (a : Result (Two Frame) Refusal) → on_result i (framed (machine_at w.machine (place w + 1) below) a) ≡ frame_pushed a (λ frames. next (with-frame (opcodes.onward w below) frames))
  unfolding framed frame_pushed acts_result applied settled placed registers_of keeping
  frame_is i below (Ok frames) = refl
  frame_is i below (Err refusal) = refl

  enter_is : (i below : ℕ) (reference : InstructionsRef) (a : Result (ℕ × ℕ) Refusal) → on_result i (enter_bounded (machine_at w.machine (place w + 1) below) reference a)
      ≡ bounds_found a (λ start end. cond (leb end start) (next (opcodes.onward w below)) (frame_pushed (stacks.push_onto (opcodes.onward w below).machine.frames (record { entry = reference; place = 0 })) λ frames. next (with-frame (opcodes.onward w below) frames)))
  unfolding enter_bounded bounds_found acts_result applied settled placed registers_of keeping
  enter_is i below reference (Ok (start, end)) = on_bool (leb end start) (λ t. rw t) (λ t. rw t (frame_is i below _))
  enter_is i below reference (Err refusal) = refl

  pub call_is : on_result (named w.stack (height w)) (op_call w.stack w.ends w.machine (place w + 1) (slot (named w.stack (height w)))) ≡ opcodes.call_task w
  unfolding op_call call_popped framing.enter named named_by opcodes.call_task opcodes.enter acts_result applied storage.slot_of settled placed registers_of keeping
  call_is =
      one_off w (λ a. on_result (named_by a) (call_popped w.ends w.machine (place w + 1) (slot (named_by a)) a)) _ (λ refusal. refl)
      (λ id below. on_bool (slot (to_u32 id)).living (λ t. rw t (enter_is (to_u32 id) below (slot (to_u32 id)).instructions_ref _)) (λ t. rw t)) (stacks.pop w.stack (height w))

  left_is : (i : ℕ) (a : Result (Frame × Two Frame) Refusal) → on_result i (left_frame w.machine a) ≡ frame_popped a (λ frames. next (with-frame w frames))
  unfolding left_frame frame_popped acts_result applied keeping
  left_is i (Ok (frame, frames)) = refl
  left_is i (Err refusal) = refl

  pub end_call_is : (i : ℕ) → on_result i (op_end_call w.machine (place w + 1)) ≡ opcodes.end_call w
  unfolding op_end_call opcodes.end_call acts_result applied settled placed registers_of keeping
  end_call_is i = on_bool (leb w.machine.frames.count 1) (λ t. rw t) (λ t. rw t (left_is i (stacks.pop_off w.machine.frames)))

  -- ---- PUSH_CALLDATA

  abbrev calldata_size : ℕ
  calldata_size = operands.big_endian 2 (code w) (place w + 1)

  abbrev calldata_end : ℕ
  calldata_end = place w + 1 + 2 + calldata_size

  interned_is : (to : ℕ) (after : pools.Pooled) (a : Result (InstructionsRef × ℕ) Refusal) (i : ℕ) → on_record w i (after_pool (calldata_pushed w.stack w.machine to after a) w.memory)
      ≡ interned w after a (λ entry pooled. next (moved (with_stack pooled (set w.stack (height w) (to_calldata_val entry.0))) to (height w + 1)))
  unfolding calldata_pushed with_entry interned acts_result applied settled placed registers_of keeping
  interned_is to after (Ok (entry, bytes)) i = refl
  interned_is to after (Err refusal) i = refl

  calldata_there : calldata_end ≤ length (code w) → operands.operand 2 (code w) (place w + 1) ≡ Ok calldata_size
  unfolding operands.operand
  calldata_there fits = rw (le-leb (place w + 1 + 2) (length (code w)) (omega arith))

  calldata_whole : (i : ℕ) → calldata_end ≤ length (code w)
      → on_record w i (after_pool (framing.push_calldata w.stack w.pool w.ends w.machine (place w) calldata_end) w.memory) ≡ opcodes.push_calldata w
  unfolding framing.push_calldata intern_calldata intern_sized opcodes.push_calldata operand_found test acts_result applied keeping
  calldata_whole i fits =
      let z : calldata_end ≡ place w + 3 + calldata_size = omega arith in
      on_bool (ltb (height w) 1000)
      (λ t. rw (calldata_there fits, le-leb (place w + 3 + calldata_size) (length (code w)) (omega arith), t, lt-leb 1000 (height w) (ltb-true (height w) 1000 t), z) (interned_is (place w + 3 + calldata_size) _ _ i))
      (λ t. rw (calldata_there fits, le-leb (place w + 3 + calldata_size) (length (code w)) (omega arith), t, le-leb 1000 (height w) (ltb-false (height w) 1000 t)))

  calldata_short : length (code w) < calldata_end → refused UnexpectedEOB ≡ opcodes.push_calldata w
  unfolding operands.operand opcodes.push_calldata operand_found test
  calldata_short short =
      on_bool (leb (place w + 1 + 2) (length (code w)))
      (λ t. rw (t, lt-leb (place w + 3 + calldata_size) (length (code w)) (omega arith)))
      (λ t. rw t)

  pub calldata_is : (i : ℕ) → on_record w i (act_by w.stack w.memory w.pool w.ends w.machine (slot i) PUSH_CALLDATA (place w) (up_to (code w) calldata_end)) ≡ opcodes.push_calldata w
  unfolding act_by on_frames acts_result
  calldata_is i =
      on_bool (leb calldata_end (length (code w))) (λ t. rw t (calldata_whole i (leb-true _ _ t))) (λ t. rw t (calldata_short (leb-false _ _ t)))

  -- ---- S_SAVE

  saved_is : (a : Result ℕ Refusal) (save : List ℕ) → saves_result w save (save_result w.machine a) ≡ saved a (λ length. next (with_save (opcodes.onward w (height w)) save length))
  unfolding save_result saves_result saved settled placed registers_of
  saved_is (Ok length) save = refl
  saved_is (Err refusal) save = refl

  pub save_is : saves w ≡ opcodes.s_save w
  unfolding saves opcodes.s_save
  save_is = saved_is (opcodes.saving w).answer (opcodes.saving w).save
