-- T_CREATE, T_DELETE, T_SET_FIELD and T_GET_FIELD keep the registers and the table sound; one makes a task, one deletes one.
use Prim.Native.Nat.{ℕ, ◌+◌, ◌%◌, ◌^◌, ◌≤◌, ◌<◌}
use mathlib.Core.Bool.{true}
use mathlib.Core.List.{List}
use mathlib.Core.Path.{◌≡◌, refl}
use native.Mathlib.Omega.{arith}
use lib.Dec.{eqb, ltb, leb}
use lib.ListN.{length, get_or}
use borrow.Author.Tests.{eqb-false, leb-false}
use Rattle.errors.specs.declared.Refusal.{Refusal}
use Rattle.values.specs.Values.{to_u32}
use Rattle.values.specs.declared.FatPointer.{FatPointer}
use Rattle.pools.specs.declared.InstructionsRef.{InstructionsRef}
use Rattle.storage.specs.declared.TaskId.{TaskId}
use Rattle.storage.specs.declared.TaskState.{TaskState}
use Rattle.storage.specs.declared.Task.{Task}
use Rattle.storage.specs.Storage.{find, room, len_after}
use Rattle.storage.specs.Tasks.{blank, default_state, new_task}
use Rattle.storage.proofs.Laws.{length_title}
use Rattle.storage.proofs.Soundness.{Living}
use Rattle.mechanism.specs.Registers.{moved}
use Rattle.mechanism.specs.declared.Registers.{Registers}
use Rattle.mechanism.specs.Changes.{applied}
use Rattle.mechanism.specs.Create.{with_room, if_within, new, if_vector, with_title, titled, with_state, with_two, op_t_create, delete_found, delete_popped, op_t_delete}
use Rattle.mechanism.specs.Fields.{if_found, owner_popped, owner, field_popped, field_of, get_field, get_found, op_t_get_field, title_within, set_title, title_vector, state_answered, set_state, set_instructions, set_field, set_popped, set_found, op_t_set_field}
use Rattle.machine.specs.Titles.{retitled, retargeted}
use Rattle.machine.specs.Titles.{title_length, title_bytes}
use Rattle.mechanism.specs.declared.Change.{Change}
use Rattle.laws.proofs.Either.{either}
use Rattle.laws.proofs.Parts.{Tabled}
use Rattle.laws.proofs.Values.{boxed_no_vec}
use Rattle.laws.proofs.Stack.{Registered, lowered, Pops, popped, not_popped, pops, PopsTwo, popped_two, not_popped_two, pops_two, scalar_pushed}
use Rattle.laws.proofs.Memory as memories
use Rattle.laws.proofs.Memory.{beside, store_keeps}
use Rattle.laws.proofs.Tables.{Lived, put_living, put_lived, deleted, deleted_lived, stated, stated_lived, created, created_lived}
use Rattle.std.specs.Prelude.{Ok, Err, Result, ⊤}

-- finished with a sound table, so many tasks made and deleted; or refused
pub data Changes (asked : Type 0) (lent : ℕ) (stack : List ℕ) (table : List Task) (slot next_id count made deleted : ℕ) : Result (Registers × Change) Refusal → Type 0 where
  changes : (registers : Registers) (change : Change) → Registered asked lent registers stack → Tabled asked (applied table slot change) next_id count
      → Lived table (applied table slot change) made deleted → Changes asked lent stack table slot next_id count made deleted (Ok (registers, change))
  refused : (refusal : Refusal) → Changes asked lent stack table slot next_id count made deleted (Err refusal)

-- ---- T_CREATE

data HasRoom (next_id : ℕ) : Result ⊤ Refusal → Type 0 where
  has_room : next_id < 256 → HasRoom next_id (Ok tt)
  no_room : (refusal : Refusal) → HasRoom next_id (Err refusal)

room_told : (next_id size : ℕ) → HasRoom next_id (room next_id size)
unfolding room
room_told next_id size =
    either (HasRoom next_id) (leb 256 next_id) _ _ (λ _. no_room _)
    (λ less. either (HasRoom next_id) (ltb 128 size) _ _ (λ _. no_room _) (λ _. has_room (leb-false _ _ less)))

data Default : Result TaskState Refusal → Type 0 where
  default : (state : TaskState) → state.state < state.len → Default (Ok state)
  no_default : (refusal : Refusal) → Default (Err refusal)

default_told : (len : ℕ) → Default (default_state len)
unfolding default_state
default_told len = either Default (eqb len 0) _ _ (λ _. no_default _) (λ some. default _ (let n = eqb-false len 0 some in omega (arith, n)))

module _ {asked : Type 0} (lent : ℕ) (stack : List ℕ) (table : List Task) (next_id count : ℕ) (t : Tabled asked table next_id count) where
  abbrev Made : Result (Registers × Change) Refusal → Type 0
  Made = Changes asked lent stack table next_id ((next_id + 1) % 2 ^ 32) (len_after count next_id) 1 0

  abbrev id : TaskId
  id = record { 0 = next_id }

  room_makes : (m : List ℕ) (after : Registers) (pointer : FatPointer) (state : TaskState) (reference : InstructionsRef) (result : Result ⊤ Refusal)
      → Registered asked lent after stack → state.state < state.len → HasRoom next_id result → Made (with_room m after pointer id state reference result)
  unfolding with_room applied
  room_makes m after pointer state reference _ r below (has_room less) =
      changes after _ r (created table next_id count t _ state reference less below) (created_lived table next_id count t _ state reference less)
  room_makes m after pointer state reference _ r below (no_room refusal) = refused refusal

  within_makes : (m : List ℕ) (after : Registers) (pointer : FatPointer) (state : TaskState) (reference : InstructionsRef) (result : Result ⊤ Refusal)
      → Registered asked lent after stack → state.state < state.len → Made (if_within m after pointer id state reference result)
  unfolding if_within
  within_makes m after pointer state reference (Ok tt) r below = room_makes m after pointer state reference _ r below (room_told next_id pointer.size)
  within_makes m after pointer state reference (Err refusal) r below = refused refusal

  vector_makes : (m : List ℕ) (after : Registers) (state : TaskState) (reference : InstructionsRef) (result : Result FatPointer Refusal)
      → Registered asked lent after stack → state.state < state.len → Made (if_vector m after id state reference result)
  unfolding if_vector new
  vector_makes m after state reference (Ok pointer) r below = within_makes m after pointer state reference _ r below
  vector_makes m after state reference (Err refusal) r below = refused refusal

  title_makes : (m : List ℕ) (before : Registers) (state : TaskState) (reference : InstructionsRef) (result : Result (ℕ × ℕ) Refusal)
      → Registered asked lent before stack → state.state < state.len → Pops stack before.height result → Made (with_title m before id state reference result)
  unfolding with_title
  title_makes m before state reference _ r below (popped lower less) =
      vector_makes _ (moved before before.place lower) state reference _ (lowered lent before stack before.place lower r (omega arith)) below
  title_makes m before state reference _ r below (not_popped refusal) = refused refusal

  state_makes : (m : List ℕ) (before : Registers) (reference : ℕ) (result : Result TaskState Refusal)
      → Registered asked lent before stack → Default result → Made (with_state stack m before id reference result)
  unfolding with_state titled
  state_makes m before reference _ r (default state below) = title_makes m before state _ _ r below (pops stack before.height)
  state_makes m before reference _ r (no_default refusal) = refused refusal

  two_makes : (m : List ℕ) (registers : Registers) (next : ℕ) (result : Result (ℕ × ℕ × ℕ) Refusal)
      → Registered asked lent registers stack → PopsTwo stack registers.height result → Made (with_two stack m registers next id result)
  unfolding with_two
  two_makes m registers next _ r (popped_two a b less below) =
      state_makes m (moved registers next b) _ _ (lowered lent registers stack next b r (omega arith)) (default_told (to_u32 (get_or stack b 0) % 256))
  two_makes m registers next _ r (not_popped_two refusal) = refused refusal

  pub create_makes : (m : List ℕ) (registers : Registers) (next : ℕ) → Registered asked lent registers stack → Made (op_t_create stack m registers next next_id)
  unfolding op_t_create
  create_makes m registers next r = two_makes m registers next _ r (pops_two stack registers.height)

-- ---- the others

data Finds (task : Task) : Result ⊤ Refusal → Type 0 where
  finds : task.living ≡ true → Finds task (Ok tt)
  not_finds : (refusal : Refusal) → Finds task (Err refusal)

find_told : (task : Task) (id : TaskId) → Finds task (find task id)
unfolding find
find_told task id = either (Finds task) task.living _ _ (λ living. finds living) (λ _. not_finds _)

data Fields (task : Task) (height : ℕ) : Result (ℕ × ℕ) Refusal → Type 0 where
  is_field : (field lower : ℕ) → lower < height → task.living ≡ true → Fields task height (Ok (field, lower))
  no_field : (refusal : Refusal) → Fields task height (Err refusal)

if_found_told : (task : Task) (height field lower : ℕ) (result : Result ⊤ Refusal) → lower < height → Finds task result → Fields task height (if_found field lower result)
unfolding if_found
if_found_told task height field lower _ less (finds living) = is_field field lower less living
if_found_told task height field lower _ less (not_finds refusal) = no_field refusal

owner_told : (task : Task) (stack : List ℕ) (height lower field : ℕ) (result : Result (ℕ × ℕ) Refusal) → lower < height → Pops stack lower result → Fields task height (owner_popped task field result)
unfolding owner_popped
owner_told task stack height lower field _ less (popped lowest below) = if_found_told task height field lowest _ (omega arith) (find_told task _)
owner_told task stack height lower field _ less (not_popped refusal) = no_field refusal

popped_told : (task : Task) (stack : List ℕ) (height : ℕ) (result : Result (ℕ × ℕ) Refusal) → Pops stack height result → Fields task height (field_popped stack task result)
unfolding field_popped owner
popped_told task stack height _ (popped lower less) =
    either (Fields task height) (ltb 2 (to_u32 (get_or stack lower 0))) _ _ (λ _. no_field _) (λ _. owner_told task stack height lower _ _ less (pops stack lower))
popped_told task stack height _ (not_popped refusal) = no_field refusal

field_told : (task : Task) (stack : List ℕ) (height : ℕ) → Fields task height (field_of stack height task)
unfolding field_of
field_told task stack height = popped_told task stack height _ (pops stack height)

module _ {asked : Type 0} (lent : ℕ) (stack : List ℕ) (table : List Task) (slot next_id count : ℕ) (t : Tabled asked table next_id count) where
  abbrev task : Task
  task = get_or table slot blank

  -- ---- T_DELETE

  abbrev Deletes : Result (Registers × Change) Refusal → Type 0
  Deletes = Changes asked lent stack table slot next_id count 0 1

  found_deletes : (after : Registers) (result : Result ⊤ Refusal) → Registered asked lent after stack → Finds task result → Deletes (delete_found after result)
  unfolding delete_found applied
  found_deletes after _ r (finds living) = changes after _ r (deleted table slot next_id count t) (deleted_lived table slot next_id count t living)
  found_deletes after _ r (not_finds refusal) = refused refusal

  popped_deletes : (registers : Registers) (next : ℕ) (result : Result (ℕ × ℕ) Refusal) → Registered asked lent registers stack → Pops stack registers.height result → Deletes (delete_popped registers next task result)
  unfolding delete_popped
  popped_deletes registers next _ r (popped lower less) = found_deletes (moved registers next lower) _ (lowered lent registers stack next lower r (omega arith)) (find_told task _)
  popped_deletes registers next _ r (not_popped refusal) = refused refusal

  pub delete_deletes : (registers : Registers) (next : ℕ) → Registered asked lent registers stack → Deletes (op_t_delete stack registers next task)
  unfolding op_t_delete
  delete_deletes registers next r = popped_deletes registers next _ r (pops stack registers.height)

  -- ---- T_SET_FIELD

  abbrev Sets : Result (Registers × Change) Refusal → Type 0
  Sets = Changes asked lent stack table slot next_id count 0 0

  retitled_rules : (title : List ℕ) → Living task (0 + slot) count → Living (retitled task title) (0 + slot) count
  unfolding new_task
  retitled_rules title rules = record { place = rules.place; held = rules.held; title = omega arith; state = rules.state }

  retitled_long : (title : List ℕ) → length (retitled task title).title ≡ 128
  unfolding new_task
  retitled_long title = length_title title

  retitled_living : (title : List ℕ) → (retitled task title).living ≡ true
  unfolding new_task
  retitled_living title = refl

  title_within_sets : (m : List ℕ) (after : Registers) (pointer : FatPointer) (result : Result ⊤ Refusal) → Registered asked lent after stack → task.living ≡ true
      → Sets (title_within m after pointer task result)
  unfolding title_within applied
  title_within_sets m after pointer (Ok tt) r living =
      either Sets (ltb 128 pointer.size) _ _ (λ _. refused _)
      (λ _. changes after _ r (put_living table slot next_id count t _ living (retitled_living _) (retitled_rules _) (λ _. retitled_long _)) (put_lived table slot next_id count t _ living (retitled_living _)))
  title_within_sets m after pointer (Err refusal) r living = refused refusal

  title_vector_sets : (m : List ℕ) (after : Registers) (result : Result FatPointer Refusal) → Registered asked lent after stack → task.living ≡ true → Sets (title_vector m after task result)
  unfolding title_vector set_title
  title_vector_sets m after (Ok pointer) r living = title_within_sets m after pointer _ r living
  title_vector_sets m after (Err refusal) r living = refused refusal

  answered_sets : (after : Registers) (state : ℕ) (result : Result ⊤ Refusal) → Registered asked lent after stack → Sets (state_answered after state result)
  unfolding state_answered applied
  answered_sets after state (Ok tt) r = changes after _ r (stated table slot next_id count t state) (stated_lived table slot next_id count t state)
  answered_sets after state (Err refusal) r = refused refusal

  instructions_sets : (after : Registers) (reference : InstructionsRef) → Registered asked lent after stack → task.living ≡ true → Sets (set_instructions after reference task)
  unfolding set_instructions applied
  instructions_sets after reference r living =
      changes after _ r
      (put_living table slot next_id count t (retargeted task reference) living living (λ rules. record { place = rules.place; held = rules.held; title = rules.title; state = rules.state }) (λ it. t.titles it slot))
      (put_lived table slot next_id count t (retargeted task reference) living living)

  field_sets : (m : List ℕ) (after : Registers) (field value : ℕ) → Registered asked lent after stack → task.living ≡ true → Sets (set_field m after field value task)
  unfolding set_field set_state
  field_sets m after field value r living =
      either Sets (eqb field 0) _ _ (λ _. title_vector_sets m after _ r living)
      (λ _. either Sets (eqb field 1) _ _ (λ _. answered_sets after _ _ r) (λ _. instructions_sets after _ r living))

  popped_sets : (m : List ℕ) (registers : Registers) (next field height : ℕ) (result : Result (ℕ × ℕ) Refusal) → height ≤ registers.height → Registered asked lent registers stack → task.living ≡ true
      → Pops stack height result → Sets (set_popped m registers next field task result)
  unfolding set_popped
  popped_sets m registers next field height _ low r living (popped lower less) =
      field_sets _ (moved registers next lower) field _ (lowered lent registers stack next lower r (omega arith)) living
  popped_sets m registers next field height _ low r living (not_popped refusal) = refused refusal

  found_sets : (m : List ℕ) (registers : Registers) (next : ℕ) (result : Result (ℕ × ℕ) Refusal) → Registered asked lent registers stack → Fields task registers.height result
      → Sets (set_found stack m registers next task result)
  unfolding set_found
  found_sets m registers next _ r (is_field field lower less living) = popped_sets m registers next field lower _ (omega arith) r living (pops stack lower)
  found_sets m registers next _ r (no_field refusal) = refused refusal

  pub set_field_sets : (m : List ℕ) (registers : Registers) (next : ℕ) → Registered asked lent registers stack → Sets (op_t_set_field stack m registers next task)
  unfolding op_t_set_field
  set_field_sets m registers next r = found_sets m registers next _ r (field_told task stack registers.height)

-- ---- T_GET_FIELD

module _ {asked : Type 0} (stack memory : List ℕ) (registers : Registers) (next : ℕ) (task : Task) (r : Registered asked (length memory) registers stack) where
  wrapped : (n : ℕ) → n % 65536 < 2 ^ 16
  wrapped n = omega arith

  found_keeps : (result : Result (ℕ × ℕ) Refusal) → Fields task registers.height result → memories.Keeps asked (length memory) (get_found stack memory registers next task result)
  unfolding get_found get_field
  found_keeps _ (is_field field lower less living) =
      either (memories.Keeps asked (length memory)) (eqb field 0) _ _
      (λ _. store_keeps registers stack memory next r (title_bytes task) lower (title_length task % 65536) 4 (omega arith) (wrapped (title_length task)))
      (λ _. either (memories.Keeps asked (length memory)) (eqb field 1) _ _
      (λ _. beside memory _ (scalar_pushed (length memory) registers stack next lower _ r (omega arith) (boxed_no_vec 6 task.state.state)))
      (λ _. beside memory _ (scalar_pushed (length memory) registers stack next lower _ r (omega arith) (boxed_no_vec 5 task.instructions_ref.0))))
  found_keeps _ (no_field refusal) = memories.refused refusal stack memory

  pub get_field_keeps : memories.Keeps asked (length memory) (op_t_get_field stack memory registers next task)
  unfolding op_t_get_field
  get_field_keeps = found_keeps _ (field_told task stack registers.height)
