-- PUSH_CALLDATA, CALL and END_CALL beside the Rust's arms.
use Prim.Native.Nat.{ℕ, zero, suc, ◌+◌, ◌-◌, ◌≤◌, ◌<◌, min}
use mathlib.Core.Bool.{Bool, true, false, cond, ◌&&◌}
use mathlib.Core.Path.{◌≡◌, refl, ap, ◌∙◌}
use mathlib.Core.List.{List, [], ◌∷◌, ◌++◌}
use native.Mathlib.Omega.{arith}
use lib.Dec.{eqb, ltb, leb}
use lib.ListN.{length, get_or, take, drop, set, length-append}
use lib.Seq.{sets}
use borrow.Author.Tests.{ltb-true, ltb-false, leb-true, leb-false, lt-ltb, le-leb, lt-leb, le-ltb, eq-eqb, ne_eqb}
use Rattle.bytecode.specs.Opcodes.{PUSH_CALLDATA, CALL}
use Rattle.bytecode.specs.Operands.{big_endian}
use Rattle.errors.specs.declared.Refusal.TheVariants as refusal
use Rattle.slices.specs.Numbers as numbers
use Rattle.slices.specs.Numbers.{Bytes}
use Rattle.image.proofs.Endian.{bytes_drop}
use Rattle.inlinevec.specs.Stacks.{if_room, if_some, values_of, last_two, push_two, pop_two, change_two, push_onto, pop_off}
use Rattle.inlinevec.proofs.Lists.{pushed_values, length_values}
use Rattle.pools.specs.Pool.{Pooled, pooled, new_entry, start_of, end_of, bounds, entry_of, entries_of, has_room, interned, part_in_use, end_to_end}
use Rattle.pools.specs.declared.InstructionsRef.{InstructionsRef}
use Rattle.pools.proofs.Ends.{stands}
use Rattle.pools.proofs.Laws.{length_entries, getD_entries, length_entry, part_of_entry, found, found_within, not_found, joined}
use Rattle.values.specs.Values.{to_u32, to_calldata_val}
use Rattle.storage.specs.declared.Task.{Task}
use Rattle.storage.specs.Tasks.{blank}
use Rattle.mechanism.specs.Registers.{moved}
use Rattle.mechanism.specs.Changes.{applied}
use Rattle.machine.specs.declared.Machine.{Machine}
use Rattle.machine.specs.Machines.{current, with_current, code_of, with_frames}
use Rattle.mechanism.specs.Registers.{registers_of, settled}
use Rattle.mechanism.specs.Frames.{intern_sized, intern_calldata, with_entry, calldata_pushed, push_calldata, framed, enter_bounded, enter, call_popped, op_call, left_frame, op_end_call}
use Rattle.mechanism.specs.Registers.{machine_at}
use Rattle.mechanism.specs.Act.{on_all, keeping, after_pool, on_frames, act_by}
use Rattle.mechanism.specs.Advance.{named_by, wanted}
use Rattle.machine.specs.World.{World, world, code, place}
use Rattle.machine.specs.Words.{StepResult, next}
use Rattle.mechanism.specs.Step.{acts_result}
use Rattle.rust.specs.Errors.{StackOverflow, InvalidInstructionsIndex, ok, err, panic}
use Rattle.rust.specs.InlineVec as inlinevec
use Rattle.rust.specs.Helpers.{slice, prepare_u16_from_be_checked}
use Rattle.rust.specs.Instructions as instructions
use Rattle.rust.specs.TaskTypes.{TaskVM}
use Rattle.rust.specs.Storage as rust-storage
use Rattle.rust.specs.Vm as rust
use Rattle.rust.specs.Vm.{VM, at, with_instructions_pool, with_call_stack, in_frame, last_pc}
use Rattle.agreement.specs.View.{frame_of, callers, held, task_in_slot, storage_of, view}
use Rattle.agreement.specs.Agreement.{Agree, lacks, errs, panics, Over, many_entries, many_bytes, total_length}
use Rattle.agreement.proofs.Facts.{Facts}
use Rattle.agreement.proofs.Laws.{goes_by, like, fails, one_off}
use Rattle.agreement.proofs.Views.{current_is, callers_are, view_settled}
use Rattle.mechanism.proofs.Operands.{up_to, operand_there}
use Rattle.agreement.proofs.Store.{bytes_taken, code_bytes}
use Rattle.agreement.proofs.Slots.{a_task, no_task, get_is}
use Rattle.agreement.proofs.Tasks.{acted_as, wanted_top}
use Rattle.std.specs.Prelude.{Ok, Err, Result, Option, Some, None}
use Rattle.errors.specs.declared.Refusal.{Refusal}
use Rattle.inlinevec.specs.declared.Two.{Two}
use Rattle.inlinevec.specs.declared.Frame.{Frame}

-- ---- the pool

bytes_set : {l : List ℕ} (i b : ℕ) → Bytes l → b < 256 → Bytes (set l i b)
bytes_set i b numbers.none less = numbers.none
bytes_set zero b (numbers.byte a more) less = numbers.byte less more
bytes_set (suc i) b (numbers.byte a more) less = numbers.byte a (bytes_set i b more less)

pub bytes_sets : {l new : List ℕ} (i : ℕ) → Bytes l → Bytes new → Bytes (sets l i new)
bytes_sets i all numbers.none = all
bytes_sets i all (numbers.byte {b} less more) = bytes_sets (suc i) (bytes_set i b all less) more

pub total_more : (entries : List (List ℕ)) (entry : List ℕ) → total_length (entries ++ (entry ∷ [])) ≡ total_length entries + length entry
unfolding total_length
total_more [] entry = omega arith
total_more (first ∷ entries) entry = let z = total_more entries entry in omega arith

-- the entries' bytes are the bytes in use
total_upto : (pool ends : List ℕ) (bytes entries : ℕ) → end_to_end ends bytes entries ≡ true → bytes ≤ length pool → (n : ℕ) → n ≤ entries
    → total_length (entries_of pool ends n) ≡ start_of ends n
unfolding total_length entries_of start_of
total_upto pool ends bytes entries sound lent zero few = refl
total_upto pool ends bytes entries sound lent (suc n) few =
    let ih = total_upto pool ends bytes entries sound lent n (omega arith) in
    let a = length_entry ends bytes entries sound pool n lent (omega arith) in
    let b = (found_within ends bytes entries sound n (omega arith)).in_order in
    total_more (entries_of pool ends n) (entry_of pool ends n) ∙ (omega arith)

pub when_room : (pool ends : List ℕ) (bytes entries : ℕ) (calldata : List ℕ) → has_room (length pool) bytes entries (length calldata) ≡ true
    → interned pool ends bytes entries calldata ≡ pooled (new_entry entries (bytes + length calldata)) (sets pool bytes calldata) (set ends entries (bytes + length calldata))
unfolding interned
when_room pool ends bytes entries calldata fits = rw fits

module _ (w : World) (stale : ℕ) (h : Facts w) (bytes : Bytes w.pool) where
  abbrev m : Machine
  m = w.machine

  abbrev entries : List (List ℕ)
  entries = entries_of w.pool w.ends m.entries

  abbrev c : List ℕ
  c = code w

  abbrev p : ℕ
  p = place w

  pub entries_length : length entries ≡ m.entries
  entries_length = length_entries w.pool w.ends m.entries

  total_is : total_length entries ≡ m.pool
  total_is =
      total_upto w.pool w.ends m.pool m.entries h.ends h.pool m.entries (omega arith) ∙ (stands w.ends m.pool m.entries h.ends).last

  -- ---- PUSH_CALLDATA

  abbrev size : ℕ
  size = big_endian 2 c (p + 1)

  abbrev calldata : List ℕ
  calldata = take size (drop (p + 1 + 2) c)

  pub code_length : length c ≡ end_of w.ends (current m.frames).entry.0 - start_of w.ends (current m.frames).entry.0
  unfolding code_of
  code_length = length_entry w.ends m.pool m.entries h.ends w.pool (current m.frames).entry.0 h.pool h.frame

  -- the data is part of the code
  part_is : p + 1 + 2 + size ≤ length c → part_in_use w.pool m.pool (start_of w.ends (current m.frames).entry.0 + p + 3) size ≡ calldata
  unfolding code_of
  part_is whole =
      let l = code_length in
      let a : start_of w.ends (current m.frames).entry.0 + p + 3 ≡ start_of w.ends (current m.frames).entry.0 + (p + 1 + 2) = omega arith in
      rw a (part_of_entry w.ends m.pool m.entries h.ends w.pool (current m.frames).entry.0 (p + 1 + 2) size h.pool h.frame (omega arith))

  interned_is : p + 1 + 2 + size ≤ length c → intern_calldata w.pool w.ends m p ≡ interned w.pool w.ends m.pool m.entries calldata
  unfolding intern_calldata intern_sized
  interned_is whole = rw (operand_there 2 c (p + 1) (le-leb (p + 1 + 2) (length c) (omega arith)), part_is whole)

  -- what is pushed by what was interned
  abbrev pushing : ℕ → ℕ → Task → Pooled → StepResult
  pushing to slot task after = acted_as w slot (after_pool (calldata_pushed w.stack m to after after.answer) w.memory)

  abbrev value : ℕ
  value = to_calldata_val m.entries

  calldata_goes : (to : ℕ) → m.height < 1000 → has_room (length w.pool) m.pool m.entries (length calldata) ≡ true
      → Agree w (next (world (with_entry m to (record { 0 = m.entries }) (m.pool + length calldata)) w.table (set w.stack m.height value) w.memory (sets w.pool m.pool calldata) (set w.ends m.entries (m.pool + length calldata)) w.save))
      (ok (with_instructions_pool (at (view stale w) to (value ∷ values_of m.height w.stack)) (entries ++ (calldata ∷ []))))
  unfolding with_entry settled registers_of view
  calldata_goes to less fits =
      let after = interned w.pool w.ends m.pool m.entries calldata in
      let said : after ≡ pooled (new_entry m.entries (m.pool + length calldata)) (sets w.pool m.pool calldata) (set w.ends m.entries (m.pool + length calldata)) = when_room w.pool w.ends m.pool m.entries calldata fits in
      let joins = rw said at (joined w.pool w.ends m.pool m.entries calldata h.ends_lent h.ends (record { 0 = m.entries }) (m.pool + length calldata) (ap (λ (x : Pooled). x.answer) said)) in
      goes_by stale (bytes_sets m.pool bytes (bytes_taken size (bytes_drop (p + 1 + 2) (code_bytes w bytes))))
      (rw (
        current_is m.frames (record { entry = (current m.frames).entry; place = to }),
        callers_are m.frames (record { entry = (current m.frames).entry; place = to }),
        pushed_values w.stack m.height value (omega (arith, h.stack_lent)),
        joins,
      ))

  -- no room for it
  pool_over : (vm : VM) → (few enough : Bool) → ltb m.entries 1024 ≡ few → leb (m.pool + length calldata) (min 65536 (length w.pool)) ≡ enough → (few && enough) ≡ false
      → Over w refusal.PoolFull (with_instructions_pool vm (entries ++ (calldata ∷ [])))
  pool_over vm true enough a b fails =
      let over : min 65536 (length w.pool) < total_length (entries ++ (calldata ∷ [])) = rw (total_more entries calldata, total_is) (leb-false _ _ (b ∙ fails)) in
      many_bytes over
  pool_over vm false enough a b fails =
      let over : 1024 < length (entries ++ (calldata ∷ [])) = rw (length-append entries (calldata ∷ []), entries_length) (let z : 1024 ≤ m.entries = ltb-false _ _ a in omega arith) in
      many_entries over

  interned_agrees : (to slot : ℕ) (task : Task) → m.height < 1000
      → Agree w (pushing to slot task (interned w.pool w.ends m.pool m.entries calldata)) (ok (with_instructions_pool (at (view stale w) to (value ∷ values_of m.height w.stack)) (entries ++ (calldata ∷ []))))
  unfolding interned calldata_pushed acts_result applied has_room keeping
  interned_agrees to slot task less = by (has_room (length w.pool) m.pool m.entries (length calldata)) refl
    where
      by : (b : Bool) → has_room (length w.pool) m.pool m.entries (length calldata) ≡ b
          → Agree w (pushing to slot task (interned w.pool w.ends m.pool m.entries calldata)) (ok (with_instructions_pool (at (view stale w) to (value ∷ values_of m.height w.stack)) (entries ++ (calldata ∷ []))))
      by true e = rw e (calldata_goes to less e)
      by false e = rw e (lacks (pool_over (at (view stale w) to (value ∷ values_of m.height w.stack)) _ _ refl refl e))

  calldata_agrees : (to slot : ℕ) (task : Task) → p + 1 + 2 + size ≤ length c
      → Agree w (acted_as w slot (after_pool (push_calldata w.stack w.pool w.ends m p to) w.memory))
      (inlinevec.push 1000 (values_of m.height w.stack) value λ stack. ok (with_instructions_pool (at (view stale w) to stack) (entries ++ (calldata ∷ []))))
  unfolding push_calldata inlinevec.push acts_result keeping
  calldata_agrees to slot task whole = by (leb 1000 m.height) refl
    where
      by : (b : Bool) → leb 1000 m.height ≡ b
          → Agree w (acted_as w slot (after_pool (push_calldata w.stack w.pool w.ends m p to) w.memory))
          (inlinevec.push 1000 (values_of m.height w.stack) value λ stack. ok (with_instructions_pool (at (view stale w) to stack) (entries ++ (calldata ∷ []))))
      by true e = rw (e, length_values w.stack m.height, le-ltb m.height 1000 (leb-true _ _ e)) (errs StackOverflow)
      by false e = rw (e, length_values w.stack m.height, lt-ltb m.height 1000 (leb-false _ _ e), interned_is whole) (interned_agrees to slot task (leb-false _ _ e))

  -- an instruction by its extent
  abbrev by_op : ℕ → Task → ℕ → Option ℕ → StepResult
  by_op slot task op reach = acted_as w slot (act_by w.stack w.memory w.pool w.ends m task op p reach)

  pub push_calldata_agrees : (slot : ℕ) (task : Task) → Agree w (by_op slot task PUSH_CALLDATA (up_to c (p + 1 + 2 + size))) (rust.push_calldata c (p + 1) (view stale w))
  unfolding act_by on_frames acts_result rust.push_calldata prepare_u16_from_be_checked slice instructions.intern_instructions view keeping
  push_calldata_agrees slot task = by (leb (p + 1 + 2 + size) (length c)) (leb (p + 1 + 2) (length c)) refl refl
    where
      by : (b a : Bool) → leb (p + 1 + 2 + size) (length c) ≡ b → leb (p + 1 + 2) (length c) ≡ a
          → Agree w (by_op slot task PUSH_CALLDATA (cond b (Some (p + 1 + 2 + size)) None))
          (cond a (cond b (inlinevec.push 1000 (values_of m.height w.stack) (to_calldata_val (length entries)) λ stack. ok (with_instructions_pool (at (view stale w) (p + 1 + 2 + size) stack) (entries ++ (calldata ∷ [])))) panic) panic)
      by true true e f = rw entries_length (calldata_agrees (p + 1 + 2 + size) slot task (leb-true _ _ e))
      by true false e f = absurd (let y : p + 1 + 2 + size ≤ length c = leb-true _ _ e in let z : length c < p + 1 + 2 = leb-false _ _ f in omega arith)
      by false true e f = panics
      by false false e f = panics

  -- ---- CALL

  abbrev result_as : ℕ → Result Machine Refusal → StepResult
  result_as slot result = acted_as w slot (on_all (keeping result) w.stack w.memory w.pool w.ends)

  -- the caller with its place noted
  abbrev caller : ℕ → ℕ → VM
  caller to height = with_call_stack (at (view stale w) to (values_of height w.stack)) (last_pc (view stale w).call_stack to)

  placed_goes : (to height slot : ℕ) → Agree w (result_as slot (Ok (machine_at m to height))) (ok (caller to height))
  unfolding acts_result applied last_pc registers_of view keeping
  placed_goes to height slot = goes_by to bytes (view_settled to m (moved (registers_of m) to height) w.table w.stack w.memory w.pool w.ends w.save)

  -- at another place, the frame as it was noted before
  stays : (to height slot : ℕ) → Agree w (result_as slot (Ok (machine_at m to height))) (ok (at (view stale w) to (values_of height w.stack)))
  unfolding acts_result applied registers_of view keeping
  stays to height slot = goes_by stale bytes (view_settled stale m (moved (registers_of m) to height) w.table w.stack w.memory w.pool w.ends w.save)

  abbrev noted : ℕ → Two Frame
  noted to = with_current m.frames (record { entry = (current m.frames).entry; place = to })

  -- the frame of the task's instructions on top
  entered : (to height reference : ℕ) (n : ℕ) → m.frames.count ≡ n → 1 ≤ n → n ≤ 2
      → (slot : ℕ) → Agree w (result_as slot (framed (machine_at m to height) (push_onto (noted to) (record { entry = record { 0 = reference }; place = 0 }))))
      (inlinevec.push 2 (caller to height).call_stack (record { instructions_ref = reference; pc = 0 }) λ call_stack. ok (in_frame (with_call_stack (caller to height) call_stack) (record { instructions_ref = reference; pc = 0 })))
  unfolding framed push_onto if_room push_two change_two with_current settled registers_of acts_result applied inlinevec.push last_pc view callers current last_two keeping
  entered to height reference zero e one few slot = absurd (omega arith)
  entered to height reference (suc zero) e one few slot = rw e (goes_by 0 bytes refl)
  entered to height reference (suc (suc zero)) e one few slot = rw e (errs StackOverflow)
  entered to height reference (suc (suc (suc n))) e one few slot = absurd (omega arith)

  -- the task's instructions
  bounded : (reference : InstructionsRef) → reference.0 < m.entries → bounds w.ends m.entries reference ≡ Ok (start_of w.ends reference.0, end_of w.ends reference.0)
  bounded reference less = found w.ends m.pool m.entries h.ends reference less

  empty_is : (reference : ℕ) → reference < m.entries → eqb (length (get_or entries reference [])) 0 ≡ leb (end_of w.ends reference) (start_of w.ends reference)
  empty_is reference less =
      let long = length_entry w.ends m.pool m.entries h.ends w.pool reference h.pool less in
      rw (getD_entries w.pool w.ends m.entries reference less, long) (by (leb (end_of w.ends reference) (start_of w.ends reference)) refl)
    where
      by : (b : Bool) → leb (end_of w.ends reference) (start_of w.ends reference) ≡ b → eqb (end_of w.ends reference - start_of w.ends reference) 0 ≡ b
      by true e = eq-eqb (end_of w.ends reference - start_of w.ends reference) 0 (let z : end_of w.ends reference ≤ start_of w.ends reference = leb-true _ _ e in omega arith)
      by false e = ne_eqb (end_of w.ends reference - start_of w.ends reference) 0 (λ (q : end_of w.ends reference - start_of w.ends reference ≡ 0). let z : start_of w.ends reference < end_of w.ends reference = leb-false _ _ e in omega arith)

  enters_there : (to height slot : ℕ) (reference : InstructionsRef) → reference.0 < m.entries
      → Agree w (result_as slot (enter_bounded (machine_at m to height) reference (Ok (start_of w.ends reference.0, end_of w.ends reference.0))))
      (cond (eqb (length (get_or entries reference.0 [])) 0) (ok (caller to height))
      (inlinevec.push 2 (caller to height).call_stack (record { instructions_ref = reference.0; pc = 0 }) λ call_stack. ok (in_frame (with_call_stack (caller to height) call_stack) (record { instructions_ref = reference.0; pc = 0 }))))
  unfolding enter_bounded settled registers_of keeping
  enters_there to height slot reference less =
      like (result_as slot) (leb (end_of w.ends reference.0) (start_of w.ends reference.0)) _ (empty_is reference.0 less)
      (λ t. placed_goes to height slot)
      (λ t. entered to height reference.0 m.frames.count refl h.some_frame h.few_frames slot)

  no_entry : (to height slot : ℕ) (reference : InstructionsRef) → Agree w (result_as slot (enter_bounded (machine_at m to height) reference (Err (refusal.InvalidInstructionsIndex reference.0)))) (err (InvalidInstructionsIndex reference.0))
  unfolding enter_bounded acts_result keeping
  no_entry to height slot reference = errs (InvalidInstructionsIndex reference.0)

  enters_agree : (to height slot : ℕ) (task : Task) (new : TaskVM) → new.instructions_ref ≡ task.instructions_ref.0
      → Agree w (result_as slot (enter w.ends (machine_at m to height) task.instructions_ref)) (rust.enters to (caller to height) new)
  unfolding enter settled rust.enters instructions.get view acts_result keeping
  enters_agree to height slot task new is = by (ltb task.instructions_ref.0 m.entries) refl
    where
      by : (b : Bool) → ltb task.instructions_ref.0 m.entries ≡ b → Agree w (result_as slot (enter w.ends (machine_at m to height) task.instructions_ref)) (rust.enters to (caller to height) new)
      by true e = rw (is, entries_length, e, bounded task.instructions_ref (ltb-true _ _ e)) (enters_there to height slot task.instructions_ref (ltb-true _ _ e))
      by false e = rw (is, entries_length, e, not_found w.ends m.entries task.instructions_ref (ltb-false _ _ e)) (no_entry to height slot task.instructions_ref)

  -- a missing task does nothing
  call_there : (to height slot : ℕ) (task : Task)
      → Agree w (result_as slot (cond task.living (enter w.ends (machine_at m to height) task.instructions_ref) (Ok (machine_at m to height))))
      (rust-storage.if_some (task_in_slot task) (λ new. rust.enters to (caller to height) new) (ok (at (view stale w) to (values_of height w.stack))))
  call_there to height slot task = by task.living refl
    where
      by : (b : Bool) → task.living ≡ b
          → Agree w (result_as slot (cond b (enter w.ends (machine_at m to height) task.instructions_ref) (Ok (machine_at m to height))))
          (rust-storage.if_some (task_in_slot task) (λ new. rust.enters to (caller to height) new) (ok (at (view stale w) to (values_of height w.stack))))
      by true e = rw (a_task task e) (enters_agree to height slot task (held task) refl)
      by false e = rw (no_task task e) (stays to height slot)

  pub call : (to : ℕ) (slot : ℕ) (task : Task) → slot ≡ wanted w.stack m CALL → task ≡ get_or w.table slot blank → Agree w (result_as slot (op_call w.stack w.ends m to task)) (rust.call to (view stale w))
  unfolding op_call call_popped named_by acts_result rust.call rust-storage.get view storage_of keeping
  call to slot task named is =
      rw (is, named, wanted_top w.stack m CALL refl refl refl)
      (one_off w.stack m.height h.height (λ (o : Result (ℕ × ℕ) Refusal). result_as (named_by o) (call_popped w.ends m to (get_or w.table (named_by o) blank) o)) _ refl
      (λ i e. rw (get_is w h (to_u32 (get_or w.stack i 0))) (call_there to i (to_u32 (get_or w.stack i 0)) (get_or w.table (to_u32 (get_or w.stack i 0)) blank))))

  -- ---- END_CALL

  callers_none : m.frames.count ≡ 1 → length (callers m.frames) ≡ 0
  unfolding callers
  callers_none e = rw (eq-eqb m.frames.count 1 e)

  callers_main : m.frames.count ≡ 2 → callers m.frames ≡ frame_of m.frames.first ∷ []
  unfolding callers
  callers_main e = rw (ne_eqb m.frames.count 1 (λ (z : m.frames.count ≡ 1). omega arith))

  -- back in main
  left_view : m.frames.count ≡ 2
      → view m.frames.first.place (world (with_frames m (pop_two m.frames)) w.table w.stack w.memory w.pool w.ends w.save)
      ≡ in_frame (with_call_stack (view stale w) (frame_of m.frames.first ∷ [])) (frame_of m.frames.first)
  unfolding view current last_two pop_two callers
  left_view e = let z : m.frames.count - 1 ≡ 1 = omega arith in rw z

  left_goes : m.frames.count ≡ 2 → (slot : ℕ)
      → Agree w (result_as slot (left_frame m (pop_off m.frames))) (ok (in_frame (with_call_stack (view stale w) (frame_of m.frames.first ∷ [])) (frame_of m.frames.first)))
  unfolding left_frame pop_off if_some acts_result applied keeping
  left_goes e slot =
      rw (ne_eqb m.frames.count 0 (λ (z : m.frames.count ≡ 0). omega arith), le-leb m.frames.count 2 (omega arith))
      (goes_by m.frames.first.place bytes (left_view e))

  abbrev end_agrees : ℕ → ℕ → Type 0
  end_agrees to slot = Agree w (result_as slot (op_end_call m to)) (rust.end_call to (view stale w))

  end_in_main : (to slot : ℕ) → m.frames.count ≡ 1 → end_agrees to slot
  unfolding op_end_call rust.end_call view keeping
  end_in_main to slot e =
      let main : ltb 1 (suc (length (callers m.frames))) ≡ false = rw (callers_none e) in
      rw (le-leb m.frames.count 1 (omega arith)) (fails _ main _ (stays to m.height slot))

  end_in_task : (to slot : ℕ) → m.frames.count ≡ 2 → end_agrees to slot
  unfolding op_end_call rust.end_call inlinevec.pop inlinevec.last instructions.get view keeping
  end_in_task to slot e =
      rw (lt-leb m.frames.count 1 (omega arith), callers_main e, entries_length, lt-ltb m.frames.first.entry.0 m.entries h.main)
      (left_goes e slot)

  end_by : (to slot : ℕ) (n : ℕ) → m.frames.count ≡ n → 1 ≤ n → n ≤ 2 → end_agrees to slot
  end_by to slot zero e one few = absurd (omega arith)
  end_by to slot (suc zero) e one few = end_in_main to slot e
  end_by to slot (suc (suc zero)) e one few = end_in_task to slot e
  end_by to slot (suc (suc (suc n))) e one few = absurd (omega arith)

  pub end_call : (to slot : ℕ) → end_agrees to slot
  end_call to slot = end_by to slot m.frames.count refl h.some_frame h.few_frames
