-- The opcodes on a task beside the Rust's arms.
use Prim.Native.Nat.{ℕ, zero, suc, ◌+◌, ◌-◌, ◌%◌, ◌^◌, ◌≤◌, ◌<◌, min}
use mathlib.Core.Bool.{Bool, true, false, cond, ◌||◌}
use mathlib.Core.Path.{◌≡◌, refl, sym, ap, ◌∙◌}
use mathlib.Core.List.{List, map}
use mathlib.Core.Option.{Option, none, some}
use native.Mathlib.Omega.{arith}
use lib.Dec.{eqb, ltb, leb}
use lib.ListN.{length, get_or, take, drop, set, length-drop}
use lib.Seq.{length-take-le, get_or-set_same}
use borrow.Author.Tests.{ltb-true, ltb-false, leb-true, leb-false, lt-ltb, le-ltb, ne_eqb}
use Rattle.bytecode.specs.Opcodes.{T_CREATE, T_GET_FIELD, T_SET_FIELD, T_DELETE}
use Rattle.errors.specs.declared.Refusal.TheVariants as refusal
use Rattle.slices.specs.Numbers.{Bytes}
use Rattle.inlinevec.specs.Stacks.{pop, values_of}
use Rattle.values.specs.Values.{to_u32, fat_pointer}
use Rattle.values.specs.declared.FatPointer.{FatPointer}
use Rattle.memory.specs.Reads.{get_slice_bytes}
use Rattle.storage.specs.declared.Task.{Task}
use Rattle.storage.specs.declared.TaskState.{TaskState}
use Rattle.storage.specs.Storage.{find, len_after}
use Rattle.storage.specs.Storage as tests
use Rattle.storage.specs.Tasks as storage
use Rattle.storage.specs.Tasks.{blank, default_state, new_task, restated}
use Rattle.storage.specs.Table.{set_state_at}
use Rattle.mechanism.specs.Registers.{on_memory, moved}
use Rattle.mechanism.specs.Store.{store}
use Rattle.mechanism.specs.declared.Registers.{Registers}
use Rattle.mechanism.specs.Changes.{applied}
use Rattle.machine.specs.Titles.{within, title_length, title_bytes}
use Rattle.mechanism.specs.Create.{with_room, if_within, new, if_vector, with_title, titled, with_state, with_two, op_t_create, delete_found, delete_popped, op_t_delete}
use Rattle.mechanism.specs.Fields.{if_found, owner_popped, owner, field_popped, field_of, get_field, get_found, op_t_get_field, title_within, set_title, title_vector, state_answered, set_state, set_instructions, set_field, set_popped, set_found, op_t_set_field}
use Rattle.machine.specs.Titles.{retitled, retargeted}
use Rattle.machine.specs.declared.Machine.{Machine}
use Rattle.machine.specs.Machines.{with_ids}
use Rattle.mechanism.specs.Registers.{registers_of, settled}
use Rattle.mechanism.specs.Act.{OnAll, on_all, settled_by, created, tasked_by, created_by, after_memory, keeping}
use Rattle.mechanism.specs.Advance.{named_by, named, wanted}
use Rattle.machine.specs.World.{World, world}
use Rattle.machine.specs.Words.{StepResult, next}
use Rattle.mechanism.specs.Step.{inner_result, acts_result}
use Rattle.rust.specs.Errors.{InvalidType, TaskNotFound, InvalidTaskField, InvalidStatus, MaxStatesError, Out, ok, err}
use Rattle.rust.specs.InlineVec as inlinevec
use Rattle.rust.specs.TaskTypes.{TaskVM, TaskField, Title, State, Instructions, default, try_from}
use Rattle.rust.specs.TaskTypes as types
use Rattle.rust.specs.Storage as rust-storage
use Rattle.rust.specs.Vm as rust
use Rattle.rust.specs.Vm.{VM, at, with_storage}
use Rattle.agreement.specs.View.{held, task_in_slot, storage_of, view}
use Rattle.agreement.specs.Agreement.{Agree, errs, many_tasks, long_title}
use Rattle.agreement.proofs.Facts.{Facts}
use Rattle.agreement.proofs.Laws.{goes_by, same, room, popped, popped_none, one_off, two_off}
use Rattle.agreement.proofs.Views.{stepped, view_settled, view_with_ids}
use Rattle.agreement.proofs.Views as views
use Rattle.agreement.proofs.Values.{pointer_agrees}
use Rattle.agreement.proofs.Equality.{sliced, is_inside, in_memory}
use Rattle.agreement.proofs.Store.{stores, whole}
use Rattle.agreement.proofs.Slots.{a_task, no_task, blank_none, get_is, put_is, more_is, found_new, no_room, count_length, new_held, new_living}
use Rattle.std.specs.Prelude.{Ok, Err, Result, ⊤}
use Rattle.errors.specs.declared.Refusal.{Refusal}
use Rattle.mechanism.specs.declared.Change.{Change}
use Rattle.mechanism.specs.declared.Change.TheVariants.{Restate}

-- an instruction on a task, a frame or the pool, as a step
abbrev pub acted_as : World → ℕ → OnAll → StepResult
acted_as w slot after = acts_result w slot after after.acted

-- one that changes a slot alone
abbrev tasked_as : World → ℕ → Result (Registers × Change) Refusal → StepResult
tasked_as w slot after = acted_as w slot (on_all (tasked_by w.machine after) w.stack w.memory w.pool w.ends)

abbrev created_as : World → ℕ → Result (Registers × Change) Refusal → StepResult
created_as w slot after = acted_as w slot (on_all (created_by w.machine after) w.stack w.memory w.pool w.ends)

-- ---- the slot that an instruction names

none_named : named_by (Err refusal.StackUnderflow) ≡ 256
unfolding named_by
none_named = refl

named_none : (stack : List ℕ) → named_by (pop stack 0) ≡ 256
named_none stack = rw (popped_none stack) none_named

-- that of the value on top
top_by : (stack : List ℕ) (height : ℕ) → cond (eqb height 0) 256 (named_by (pop stack height)) ≡ named_by (pop stack height)
top_by stack zero = sym (named_none stack)
top_by stack (suc height) = rw (ne_eqb (suc height) 0 (λ z. omega arith))

pub wanted_top : (stack : List ℕ) (machine : Machine) (op : ℕ) → eqb op T_CREATE ≡ false → eqb op T_GET_FIELD ≡ false → eqb op T_SET_FIELD ≡ false
    → wanted stack machine op ≡ named_by (pop stack machine.height)
unfolding wanted named
wanted_top stack machine op a b c = rw (a, b, c) (top_by stack machine.height)

-- that of the value below the field
below : List ℕ → Result (ℕ × ℕ) Refusal → ℕ
below stack (Ok (value, height)) = named_by (pop stack height)
below stack (Err refusal) = 256

below_by : (stack : List ℕ) (height : ℕ) → height ≤ 1000 → cond (eqb height 0) 256 (named_by (pop stack (height - 1))) ≡ below stack (pop stack height)
unfolding below
below_by stack zero most = rw (popped_none stack)
below_by stack (suc height) most =
    let z : suc height - 1 ≡ height = omega arith in
    rw (ne_eqb (suc height) 0 (λ z. omega arith), z, popped stack height most)

wanted_get : (stack : List ℕ) (machine : Machine) → machine.height ≤ 1000 → wanted stack machine T_GET_FIELD ≡ below stack (pop stack machine.height)
unfolding wanted named
wanted_get stack machine most = below_by stack machine.height most

wanted_set : (stack : List ℕ) (machine : Machine) → machine.height ≤ 1000 → wanted stack machine T_SET_FIELD ≡ below stack (pop stack machine.height)
unfolding wanted named
wanted_set stack machine most = below_by stack machine.height most

-- ---- a task that is there, and a field

module _ {w : World} where
  found : (task : Task) (id : ℕ) (f : Result ⊤ Refusal → StepResult) (k : TaskVM → Out VM) → (task.living ≡ true → Agree w (f (Ok tt)) (k (held task)))
      → Agree w (f (Err (refusal.TaskNotFound id))) (err (TaskNotFound id))
      → Agree w (f (find task (record { 0 = id }))) (rust-storage.if_some (task_in_slot task) k (err (TaskNotFound id)))
  unfolding find
  found task id f k there missing = by task.living refl
    where
      by : (b : Bool) → task.living ≡ b → Agree w (f (find task (record { 0 = id }))) (rust-storage.if_some (task_in_slot task) k (err (TaskNotFound id)))
      by true e = rw (a_task task e, e) (there e)
      by false e = rw (no_task task e, e) missing

  -- 0, 1 and 2 are fields
  field_is : (v : ℕ) (f : Result (ℕ × ℕ) Refusal → StepResult) (onward : ℕ → Result (ℕ × ℕ) Refusal) (k : TaskField → Out VM)
      → Agree w (f (onward 0)) (k Title) → Agree w (f (onward 1)) (k State) → Agree w (f (onward 2)) (k Instructions)
      → Agree w (f (Err (refusal.InvalidTaskField v))) (err (InvalidTaskField v))
      → Agree w (f (cond (ltb 2 v) (Err (refusal.InvalidTaskField v)) (onward v))) (try_from v k)
  unfolding try_from
  field_is zero f onward k title state instructions other = title
  field_is (suc zero) f onward k title state instructions other = state
  field_is (suc (suc zero)) f onward k title state instructions other = instructions
  field_is (suc (suc (suc n))) f onward k title state instructions other =
      rw (lt-ltb 2 (suc (suc (suc n))) (omega arith), ne_eqb (suc (suc (suc n))) 0 (λ z. omega arith), ne_eqb (suc (suc (suc n))) 1 (λ z. omega arith), ne_eqb (suc (suc (suc n))) 2 (λ z. omega arith)) other

module _ (w : World) (stale : ℕ) (h : Facts w) (bytes : Bytes w.pool) where
  abbrev r : Registers
  r = registers_of w.machine

  abbrev tasks : List (Option TaskVM)
  tasks = take w.machine.count (map task_in_slot w.table)

  abbrev slot : ℕ → Task
  slot i = get_or w.table i blank

  -- a living slot is below the count
  below_count : (i : ℕ) → (slot i).living ≡ true → i < w.machine.count
  below_count i living =
      let l = h.living i living in
      let a : (slot i).id.0 ≡ i = l.place in
      let b : (slot i).id.0 < w.machine.count = l.held in
      omega arith

  -- on with another record in a slot below the count
  slot_goes : (place height i : ℕ) (task : Task) (new : Option TaskVM) → i < w.machine.count → task_in_slot task ≡ new
      → Agree w (next (world (settled w.machine (moved r place height)) (set w.table i task) w.stack w.memory w.pool w.ends w.save))
      (ok (with_storage (at (view stale w) place (values_of height w.stack)) (record { tasks_vm = set tasks i new; next_id = w.machine.next_id.0 })))
  unfolding registers_of view storage_of
  slot_goes place height i task new less is =
      goes_by stale bytes (view_settled stale w.machine (moved r place height) (set w.table i task) w.stack w.memory w.pool w.ends w.save ∙ rw (put_is w h i task less, is))

  pub t_delete : (place : ℕ) → Agree w (tasked_as w (wanted w.stack w.machine T_DELETE) (op_t_delete w.stack r place (slot (wanted w.stack w.machine T_DELETE)))) (rust.t_delete place (view stale w))
  unfolding op_t_delete delete_popped delete_found named_by tasked_by settled_by acts_result applied rust.t_delete rust-storage.delete rust-storage.get registers_of view storage_of
  t_delete place =
      rw (wanted_top w.stack w.machine T_DELETE refl refl refl)
      (one_off w.stack w.machine.height h.height (λ (o : Result (ℕ × ℕ) Refusal). tasked_as w (named_by o) (delete_popped r place (slot (named_by o)) o)) _ refl
      (λ i e. rw (get_is w h (to_u32 (get_or w.stack i 0)))
      (found (slot (to_u32 (get_or w.stack i 0))) (to_u32 (get_or w.stack i 0)) (λ (o : Result ⊤ Refusal). tasked_as w (to_u32 (get_or w.stack i 0)) (delete_found (moved r place i) o)) _
      (λ l. slot_goes place i (to_u32 (get_or w.stack i 0)) blank none (below_count _ l) blank_none)
      (errs (TaskNotFound (to_u32 (get_or w.stack i 0)))))))

  -- ---- T_GET_FIELD

  -- it leaves the slots
  get_is_step : (i : ℕ) (task : Task) (d : Result Registers Refusal) (stack l : List ℕ) → acted_as w i (after_memory w.machine (on_memory d stack l) w.pool w.ends) ≡ stepped w (on_memory d stack l)
  unfolding acts_result settled_by applied inner_result keeping
  get_is_step i task (Ok registers) stack l = refl
  get_is_step i task (Err refusal) stack l = refl

  -- a title
  title_agrees : (place height i : ℕ) → (slot i).living ≡ true
      → Agree w (stepped w (store w.stack w.memory (title_bytes (slot i)) r place height (title_length (slot i) % 65536) 4))
      (rust.allocs (view stale w) place (values_of height w.stack) (length (held (slot i)).title % 2 ^ 16) 4 (held (slot i)).title)
  unfolding title_bytes
  title_agrees place height i living =
      let few : (slot i).title_len ≤ 128 = (h.living i living).title in
      let a : min 128 (slot i).title_len ≡ (slot i).title_len = omega arith in
      let long : length (take (slot i).title_len (slot i).title) ≡ (slot i).title_len = length-take-le (slot i).title_len (slot i).title (omega (arith, h.titles_lent i)) in
      let b : (slot i).title_len % 65536 ≡ (slot i).title_len = omega arith in
      rw (a, long, b) (stores w stale h bytes place height (slot i).title_len 4 (take (slot i).title_len (slot i).title) (whole long))

  -- the field of a task that is named below it
  abbrev get_by : ℕ → Task → Result (ℕ × ℕ) Refusal → StepResult
  get_by place task o = stepped w (get_found w.stack w.memory r place task o)

  get_owner : (place height field : ℕ) (k : TaskVM → List ℕ → Out VM) → height ≤ 1000
      → ((i j : ℕ) → (slot i).living ≡ true → Agree w (stepped w (get_field w.stack w.memory r place j field (slot i))) (k (held (slot i)) (values_of j w.stack)))
      → Agree w (get_by place (slot (named_by (pop w.stack height))) (owner w.stack height (slot (named_by (pop w.stack height))) field))
      (inlinevec.pop (values_of height w.stack) λ id st. rust-storage.if_some (get_or tasks (to_u32 id) none) (λ task. k task st) (err (TaskNotFound (to_u32 id))))
  unfolding owner owner_popped if_found get_found named_by inner_result
  get_owner place height field k most there =
      one_off w.stack height most (λ (o : Result (ℕ × ℕ) Refusal). get_by place (slot (named_by o)) (owner_popped (slot (named_by o)) field o)) _ refl
      (λ i e. rw (get_is w h (to_u32 (get_or w.stack i 0)))
      (found (slot (to_u32 (get_or w.stack i 0))) (to_u32 (get_or w.stack i 0)) (λ (o : Result ⊤ Refusal). get_by place (slot (to_u32 (get_or w.stack i 0))) (if_found field i o)) _
      (λ l. there (to_u32 (get_or w.stack i 0)) i l)
      (errs (TaskNotFound (to_u32 (get_or w.stack i 0))))))

  get_fields : (place : ℕ) → Agree w (stepped w (op_t_get_field w.stack w.memory r place (slot (wanted w.stack w.machine T_GET_FIELD)))) (rust.t_get_field place (view stale w))
  unfolding op_t_get_field field_of field_popped get_found get_field below rust.t_get_field rust.get_field rust-storage.get registers_of view storage_of inner_result
  get_fields place =
      rw (wanted_get w.stack w.machine h.height)
      (one_off w.stack w.machine.height h.height (λ (o : Result (ℕ × ℕ) Refusal). get_by place (slot (below w.stack o)) (field_popped w.stack (slot (below w.stack o)) o)) _ refl
      (λ i e. field_is (to_u32 (get_or w.stack i 0)) (get_by place (slot (named_by (pop w.stack i)))) (λ field. owner w.stack i (slot (named_by (pop w.stack i))) field) _
      (get_owner place i 0 (λ task st. rust.get_field place (view stale w) st task Title) (omega (arith, h.height)) (λ j k l. title_agrees place k j l))
      (get_owner place i 1 (λ task st. rust.get_field place (view stale w) st task State) (omega (arith, h.height)) (λ j k l. views.pushed w stale bytes h place k _))
      (get_owner place i 2 (λ task st. rust.get_field place (view stale w) st task Instructions) (omega (arith, h.height)) (λ j k l. views.pushed w stale bytes h place k _))
      (errs (InvalidTaskField (to_u32 (get_or w.stack i 0))))))

  pub t_get_field : (place i : ℕ) (task : Task) → i ≡ wanted w.stack w.machine T_GET_FIELD → task ≡ slot i
      → Agree w (acted_as w i (after_memory w.machine (op_t_get_field w.stack w.memory r place task) w.pool w.ends)) (rust.t_get_field place (view stale w))
  t_get_field place i task named is =
      let after = op_t_get_field w.stack w.memory r place task in
      rw (get_is_step i task after.result after.stack after.memory, is, named) (get_fields place)

  -- ---- T_SET_FIELD

  -- a change of a task that the Rust writes back
  abbrev writes : ℕ → ℕ → TaskVM → List ℕ → Out VM
  writes place i after stack = ok (with_storage (at (view stale w) place stack) (rust-storage.changed (storage_of w.machine.next_id.0 w.machine.count w.table) i after))

  set_owner : (place height field : ℕ) (k : ℕ → TaskVM → List ℕ → Out VM) → height ≤ w.machine.height
      → ((i j : ℕ) → (slot i).living ≡ true → j < w.machine.height → Agree w (tasked_as w i (set_popped w.memory r place field (slot i) (pop w.stack j))) (k i (held (slot i)) (values_of j w.stack)))
      → Agree w (tasked_as w (named_by (pop w.stack height)) (set_found w.stack w.memory r place (slot (named_by (pop w.stack height))) (owner w.stack height (slot (named_by (pop w.stack height))) field)))
      (inlinevec.pop (values_of height w.stack) λ id st. rust-storage.if_some (get_or tasks (to_u32 id) none) (λ task. k (to_u32 id) task st) (err (TaskNotFound (to_u32 id))))
  unfolding owner owner_popped if_found set_found named_by tasked_by settled_by acts_result applied
  set_owner place height field k most there =
      one_off w.stack height (omega (arith, h.height)) (λ (o : Result (ℕ × ℕ) Refusal). tasked_as w (named_by o) (set_found w.stack w.memory r place (slot (named_by o)) (owner_popped (slot (named_by o)) field o))) _ refl
      (λ i e. rw (get_is w h (to_u32 (get_or w.stack i 0)))
      (found (slot (to_u32 (get_or w.stack i 0))) (to_u32 (get_or w.stack i 0)) (λ (o : Result ⊤ Refusal). tasked_as w (to_u32 (get_or w.stack i 0)) (set_found w.stack w.memory r place (slot (to_u32 (get_or w.stack i 0))) (if_found field i o))) _
      (λ l. there (to_u32 (get_or w.stack i 0)) i l (omega arith))
      (errs (TaskNotFound (to_u32 (get_or w.stack i 0))))))

  abbrev used : List ℕ
  used = take w.machine.memory w.memory

  slice_length : (pointer : FatPointer) → pointer.offset + pointer.size ≤ length used → length (get_slice_bytes used pointer) ≡ pointer.size
  slice_length pointer lies = length-take-le pointer.size (drop pointer.offset used) (rw (length-drop pointer.offset used) (omega arith))

  -- a title from memory
  set_title_within : (place height i : ℕ) (pointer : FatPointer) → (slot i).living ≡ true → pointer.offset + pointer.size ≤ length used
      → Agree w (tasked_as w i (set_title used (moved r place height) pointer (slot i)))
      (writes place i (record { id = (held (slot i)).id; title = get_slice_bytes used pointer; state = (held (slot i)).state; instructions_ref = (held (slot i)).instructions_ref }) (values_of height w.stack))
  unfolding set_title title_within within tasked_by settled_by acts_result applied storage_of rust-storage.changed rust-storage.get
  set_title_within place height i pointer living lies =
      let title = get_slice_bytes used pointer in
      let task : TaskVM = record { id = (held (slot i)).id; title = title; state = (held (slot i)).state; instructions_ref = (held (slot i)).instructions_ref } in
      let long = slice_length pointer lies in
      let less = below_count i living in
      rw (is_inside used pointer lies)
      (room (tasked_as w i) (ltb 128 pointer.size) refl
      (λ t. long_title i task (get_or-set_same tasks i (some task) none (let z = count_length w h in omega arith)) (let z : 128 < pointer.size = ltb-true _ _ t in omega arith))
      (λ t. slot_goes place height i (retitled (slot i) title) (some task) less
      (a_task (retitled (slot i) title) (new_living _ title _ _) ∙ ap some (new_held (slot i).id title (slot i).state (slot i).instructions_ref (let z : pointer.size ≤ 128 = ltb-false _ _ t in omega arith)))))

  set_title_agrees : (place i j : ℕ) → (slot i).living ≡ true → j < w.machine.height
      → Agree w (tasked_as w i (set_popped w.memory r place 0 (slot i) (pop w.stack j))) (rust.set_field (view stale w) (values_of j w.stack) (held (slot i)) Title (writes place i))
  unfolding set_popped set_field title_vector tasked_by settled_by acts_result applied rust.set_field registers_of view
  set_title_agrees place i j living less =
      one_off w.stack j (omega (arith, h.height)) (λ (o : Result (ℕ × ℕ) Refusal). tasked_as w i (set_popped w.memory r place 0 (slot i) o)) _ refl
      (λ k e. pointer_agrees (λ (o : Result FatPointer Refusal). tasked_as w i (title_vector used (moved r place k) (slot i) o)) _ (get_or w.stack k 0)
      (λ v. let lies = in_memory w stale h bytes place k (omega arith) v in
      sliced used (fat_pointer (get_or w.stack k 0)) _ lies (set_title_within place k i (fat_pointer (get_or w.stack k 0)) living lies))
      (errs InvalidType))

  -- a state
  state_goes : (place height i v : ℕ) → (slot i).living ≡ true → leb (slot i).state.len v ≡ false → leb 255 v ≡ false
      → Agree w (tasked_as w i (Ok (moved r place height, Restate v)))
      (writes place i (record { id = (held (slot i)).id; title = (held (slot i)).title; state = record { len = (slot i).state.len; state = v }; instructions_ref = (held (slot i)).instructions_ref }) (values_of height w.stack))
  unfolding tasked_by settled_by acts_result applied set_state_at storage.set_state storage.with_state storage_of rust-storage.changed
  state_goes place height i v living a b =
      rw (a, b) (slot_goes place height i (restated (slot i) v) _ (below_count i living) (a_task (restated (slot i) v) living))

  set_state_by : (place height i v : ℕ) (a b : Bool) → (slot i).living ≡ true → leb (slot i).state.len v ≡ a → leb 255 v ≡ b
      → Agree w (tasked_as w i (set_state (moved r place height) v (slot i)))
      (cond (a || b) (err (InvalidStatus v)) (writes place i (record { id = (held (slot i)).id; title = (held (slot i)).title; state = record { len = (slot i).state.len; state = v }; instructions_ref = (held (slot i)).instructions_ref }) (values_of height w.stack)))
  unfolding set_state state_answered storage.with_state tasked_by settled_by acts_result applied
  set_state_by place height i v true b living e f = rw e (errs (InvalidStatus v))
  set_state_by place height i v false true living e f = rw (e, f) (errs (InvalidStatus v))
  set_state_by place height i v false false living e f = rw (e, f) (state_goes place height i v living e f)

  set_state_agrees : (place i j : ℕ) → (slot i).living ≡ true → j < w.machine.height
      → Agree w (tasked_as w i (set_popped w.memory r place 1 (slot i) (pop w.stack j))) (rust.set_field (view stale w) (values_of j w.stack) (held (slot i)) State (writes place i))
  unfolding set_popped set_field tasked_by settled_by acts_result applied rust.set_field types.set_state
  set_state_agrees place i j living less =
      one_off w.stack j (omega (arith, h.height)) (λ (o : Result (ℕ × ℕ) Refusal). tasked_as w i (set_popped w.memory r place 1 (slot i) o)) _ refl
      (λ k e. set_state_by place k i (to_u32 (get_or w.stack k 0)) _ _ living refl refl)

  set_instructions_agrees : (place i j : ℕ) → (slot i).living ≡ true → j < w.machine.height
      → Agree w (tasked_as w i (set_popped w.memory r place 2 (slot i) (pop w.stack j))) (rust.set_field (view stale w) (values_of j w.stack) (held (slot i)) Instructions (writes place i))
  unfolding set_popped set_field set_instructions tasked_by settled_by acts_result applied rust.set_field storage_of rust-storage.changed
  set_instructions_agrees place i j living less =
      one_off w.stack j (omega (arith, h.height)) (λ (o : Result (ℕ × ℕ) Refusal). tasked_as w i (set_popped w.memory r place 2 (slot i) o)) _ refl
      (λ k e. slot_goes place k i (retargeted (slot i) (record { 0 = to_u32 (get_or w.stack k 0) })) _ (below_count i living) (a_task (retargeted (slot i) (record { 0 = to_u32 (get_or w.stack k 0) })) living))

  pub t_set_field : (place : ℕ) → Agree w (tasked_as w (wanted w.stack w.machine T_SET_FIELD) (op_t_set_field w.stack w.memory r place (slot (wanted w.stack w.machine T_SET_FIELD)))) (rust.t_set_field place (view stale w))
  unfolding op_t_set_field field_of field_popped set_found below tasked_by settled_by acts_result applied rust.t_set_field rust-storage.get registers_of view storage_of
  t_set_field place =
      rw (wanted_set w.stack w.machine h.height)
      (one_off w.stack w.machine.height h.height (λ (o : Result (ℕ × ℕ) Refusal). tasked_as w (below w.stack o) (set_found w.stack w.memory r place (slot (below w.stack o)) (field_popped w.stack (slot (below w.stack o)) o))) _ refl
      (λ i e. field_is (to_u32 (get_or w.stack i 0)) (λ (o : Result (ℕ × ℕ) Refusal). tasked_as w (named_by (pop w.stack i)) (set_found w.stack w.memory r place (slot (named_by (pop w.stack i))) o)) (λ field. owner w.stack i (slot (named_by (pop w.stack i))) field) _
      (set_owner place i 0 (λ j task st. rust.set_field (view stale w) st task Title (writes place j)) (omega arith) (λ j k l m. set_title_agrees place j k l m))
      (set_owner place i 1 (λ j task st. rust.set_field (view stale w) st task State (writes place j)) (omega arith) (λ j k l m. set_state_agrees place j k l m))
      (set_owner place i 2 (λ j task st. rust.set_field (view stale w) st task Instructions (writes place j)) (omega arith) (λ j k l m. set_instructions_agrees place j k l m))
      (errs (InvalidTaskField (to_u32 (get_or w.stack i 0))))))

  -- ---- T_CREATE

  abbrev next_id : ℕ
  next_id = w.machine.next_id.0

  counted : len_after w.machine.count next_id ≡ (next_id + 1) % 2 ^ 32
  unfolding len_after
  counted = rw (le-ltb next_id w.machine.count h.counts.count_below)

  -- the new task in the next slot
  create_goes : (place height : ℕ) (task : Task) (new : TaskVM) → task.living ≡ true → held task ≡ new → next_id < 256
      → Agree w (next (world (with_ids (settled w.machine (moved r place height)) ((next_id + 1) % 2 ^ 32) (len_after w.machine.count next_id)) (set w.table next_id task) w.stack w.memory w.pool w.ends w.save))
      (ok (with_storage (at (view stale w) place (values_of height w.stack)) (rust-storage.add (storage_of next_id w.machine.count w.table) new)))
  unfolding registers_of view storage_of rust-storage.add
  create_goes place height task new living is less =
      let one : (next_id + 1) % 2 ^ 32 ≡ next_id + 1 = omega arith in
      goes_by stale bytes
      (view_with_ids stale w.machine (moved r place height) (set w.table next_id task) w.stack w.memory w.pool w.ends w.save ((next_id + 1) % 2 ^ 32) (len_after w.machine.count next_id)
      ∙ rw (counted, one, more_is w h next_id task living h.counts.count_below less, is))

  -- a title from memory
  create_within : (place height reference : ℕ) (state : TaskState) (pointer : FatPointer) → pointer.offset + pointer.size ≤ length used
      → Agree w (created_as w next_id (new used (moved r place height) pointer (record { 0 = next_id }) state (record { 0 = reference })))
      (ok (with_storage (at (view stale w) place (values_of height w.stack)) (rust-storage.add (storage_of next_id w.machine.count w.table) (record { id = next_id; title = get_slice_bytes used pointer; state = record { len = state.len; state = state.state }; instructions_ref = reference }))))
  unfolding new if_within within with_room tests.room created_by created acts_result applied rust-storage.add rust-storage.get storage_of
  create_within place height reference state pointer lies =
      let title = get_slice_bytes used pointer in
      let task : TaskVM = record { id = next_id; title = title; state = record { len = state.len; state = state.state }; instructions_ref = reference } in
      let long = slice_length pointer lies in
      rw (is_inside used pointer lies)
      (room (λ (o : Result ⊤ Refusal). created_as w next_id (with_room used (moved r place height) pointer (record { 0 = next_id }) state (record { 0 = reference }) o)) (leb 256 next_id) refl
      (λ t. many_tasks (no_room w h next_id task h.counts.count_below (leb-true _ _ t)))
      (λ t. room (λ (o : Result ⊤ Refusal). created_as w next_id (with_room used (moved r place height) pointer (record { 0 = next_id }) state (record { 0 = reference }) o)) (ltb 128 pointer.size) refl
      (λ u. long_title next_id task (found_new w h next_id task h.counts.count_below (leb-false _ _ t)) (let z : 128 < pointer.size = ltb-true _ _ u in omega arith))
      (λ u. create_goes place height (new_task (record { 0 = next_id }) title state (record { 0 = reference })) task (new_living _ title _ _)
      (new_held (record { 0 = next_id }) title state (record { 0 = reference }) (let z : pointer.size ≤ 128 = ltb-false _ _ u in omega arith)) (leb-false _ _ t))))

  pub t_create : (place : ℕ) → Agree w (created_as w next_id (op_t_create w.stack w.memory r place next_id)) (rust.t_create place (view stale w))
  unfolding op_t_create with_two with_state default_state titled with_title if_vector created_by created acts_result applied rust.t_create default registers_of view storage_of
  t_create place =
      two_off w.stack w.machine.height h.height (λ (o : Result (ℕ × ℕ × ℕ) Refusal). created_as w next_id (with_two w.stack w.memory r place (record { 0 = next_id }) o)) _ refl
      (λ i e. same (λ (o : Result TaskState Refusal). created_as w next_id (with_state w.stack w.memory (moved r place i) (record { 0 = next_id }) (get_or w.stack (suc i) 0) o)) (eqb (to_u32 (get_or w.stack i 0) % 256) 0)
      (λ t. errs MaxStatesError)
      (λ t. one_off w.stack i (omega (arith, h.height)) (λ (o : Result (ℕ × ℕ) Refusal). created_as w next_id (with_title w.memory (moved r place i) (record { 0 = next_id }) (record { len = to_u32 (get_or w.stack i 0) % 256; state = 0 }) (record { 0 = to_u32 (get_or w.stack (suc i) 0) }) o)) _ refl
      (λ j f. pointer_agrees (λ (o : Result FatPointer Refusal). created_as w next_id (if_vector used (moved r place j) (record { 0 = next_id }) (record { len = to_u32 (get_or w.stack i 0) % 256; state = 0 }) (record { 0 = to_u32 (get_or w.stack (suc i) 0) }) o)) _ (get_or w.stack j 0)
      (λ v. let lies = in_memory w stale h bytes place j (omega arith) v in
      sliced used (fat_pointer (get_or w.stack j 0)) _ lies (create_within place j (to_u32 (get_or w.stack (suc i) 0)) (record { len = to_u32 (get_or w.stack i 0) % 256; state = 0 }) (fat_pointer (get_or w.stack j 0)) lies))
      (errs InvalidType))))
