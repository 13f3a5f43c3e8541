-- The opcodes that need a task, on values that have the kinds of their rules and whatever record the slot holds.
use Prim.Native.Nat.{ℕ, suc, ◌%◌, ◌≤◌, ◌<◌}
use mathlib.Core.Path.{◌≡◌, refl, ap, ◌∙◌}
use mathlib.Core.Bool.{false}
use mathlib.Core.List.{List, ◌∷◌}
use native.Mathlib.Omega.{arith}
use lib.Dec.{eqb, ltb, leb}
use lib.ListN.{length, get_or}
use Rattle.values.specs.Values.{to_u32_val, to_u32, fat_pointer, to_fat_pointer}
use Rattle.values.specs.declared.FatPointer.{FatPointer}
use Rattle.values.proofs.Laws.{payload_back}
use Rattle.memory.specs.Change.{inside}
use Rattle.pools.specs.declared.InstructionsRef.{InstructionsRef}
use Rattle.storage.specs.declared.Task.{Task}
use Rattle.storage.specs.declared.TaskId.{TaskId}
use Rattle.storage.specs.declared.TaskState.{TaskState}
use Rattle.storage.specs.declared.StateChange.{StateChange}
use Rattle.storage.specs.Storage.{find, room}
use Rattle.storage.specs.Tasks.{default_state}
use Rattle.storage.specs.Tasks as records
use Rattle.machine.specs.Titles.{within, title_bytes}
use Rattle.mechanism.specs.Create.{with_room, if_within, new, if_vector, with_title, titled, with_state, with_two, op_t_create, delete_found, delete_popped, op_t_delete}
use Rattle.mechanism.specs.Fields.{if_found, owner_popped, owner, field_popped, field_of, get_field, get_found, op_t_get_field, title_within, set_title, title_vector, state_answered, set_state, set_instructions, set_field, set_popped, set_found, op_t_set_field}
use Rattle.labels.specs.declared.Kind.{Kind}
use Rattle.labels.specs.declared.Kind.TheVariants.{Number, Text}
use Rattle.labels.specs.declared.Exchange.TheVariants.{Takes, Creates}
use Rattle.labels.specs.Labels.{Open, Label}
use Rattle.mechanism.proofs.Either.{either}
use Rattle.safety.specs.Kinds.{HasKind}
use Rattle.safety.proofs.Kinded.{Kinded, more, number_kind, calldata_kind, popped, popped_two}
use Rattle.safety.proofs.Rules.{Shape, is_takes, is_creates}
use Rattle.safety.proofs.Holds.{May, Holds, FieldKind, is_title, is_state, is_instructions, registers_at, At, Looping, starts, Good, goes_on, may_end, GoodIn, push_good}
use Rattle.safety.proofs.Store.{is_text, store_good}
use Rattle.std.specs.Prelude.{Result, ⊤, Ok, Err}
use Rattle.errors.specs.declared.Refusal.{Refusal}
use Rattle.inlinevec.specs.declared.Two.{Two}
use Rattle.inlinevec.specs.declared.Loop.{Loop}
use Rattle.mechanism.specs.declared.Change.{Change}
use Rattle.mechanism.specs.declared.Registers.{Registers}

-- the field's number comes back from its box
field_back : {field : ℕ} {kind : Kind} (value : ℕ) → value ≡ to_u32_val field → FieldKind field kind → to_u32 value ≡ field
field_back value e is_title = ap to_u32 e ∙ payload_back 6 0 (omega arith)
field_back value e is_state = ap to_u32 e ∙ payload_back 6 1 (omega arith)
field_back value e is_instructions = ap to_u32 e ∙ payload_back 6 2 (omega arith)

field_small : {field : ℕ} {kind : Kind} → FieldKind field kind → ltb 2 field ≡ false
field_small is_title = refl
field_small is_state = refl
field_small is_instructions = refl

-- the field is one of the three, so what is left is the task
field_of_is : {field : ℕ} {kind : Kind} (stack : List ℕ) (h : ℕ) (task : Task) → suc (suc h) ≤ 1000 → get_or stack (suc h) 0 ≡ to_u32_val field → FieldKind field kind
    → field_of stack (suc (suc h)) task ≡ if_found field h (find task (record { 0 = to_u32 (get_or stack h 0) }))
unfolding field_of field_popped owner owner_popped
field_of_is stack h task few e fielded =
    simp (popped stack (suc h) few, field_back (get_or stack (suc h) 0) e fielded, field_small fielded, popped stack h (omega arith))

module _ (code : List ℕ) (labels : ℕ → Label) (place used next : ℕ) (stack memory : List ℕ) (lent : length stack ≡ 1000) (loops : Two Loop) (task : Task) where
  -- what an instruction on a task did
  pub data GoodTasked : Result (Registers × Change) Refusal → Type 0 where
    changes_to : {registers : Registers} {change : Change} → length stack ≡ 1000 → Holds code labels registers.place registers.height registers.loops stack → GoodTasked (Ok (registers, change))
    may_refuse : {refusal : Refusal} → May refusal → GoodTasked (Err refusal)

  -- ---- T_CREATE

  room_good : {height : ℕ} {kinds : List Kind} {opens : List Open} (m : List ℕ) (pointer : FatPointer) (id : TaskId) (state : TaskState) (reference : InstructionsRef) → At code labels next kinds opens → Kinded stack height kinds
      → Looping code labels loops opens → GoodTasked (with_room m (registers_at next height loops used) pointer id state reference (room id.0 pointer.size))
  unfolding with_room room
  room_good {height} m pointer id state reference at kinded looping =
      either (λ (r : Result ⊤ Refusal). GoodTasked (with_room m (registers_at next height loops used) pointer id state reference r)) (leb 256 id.0) _ _ (may_refuse refl)
      (either (λ (r : Result ⊤ Refusal). GoodTasked (with_room m (registers_at next height loops used) pointer id state reference r)) (ltb 128 pointer.size) _ _ (may_refuse refl) (changes_to lent (starts at kinded looping)))

  new_good : {height : ℕ} {kinds : List Kind} {opens : List Open} (m : List ℕ) (pointer : FatPointer) (id : TaskId) (state : TaskState) (reference : InstructionsRef) → At code labels next kinds opens → Kinded stack height kinds
      → Looping code labels loops opens → GoodTasked (new m (registers_at next height loops used) pointer id state reference)
  unfolding new if_within within
  new_good {height} m pointer id state reference at kinded looping =
      either (λ (r : Result ⊤ Refusal). GoodTasked (if_within m (registers_at next height loops used) pointer id state reference r)) (inside m pointer) _ _ (room_good m pointer id state reference at kinded looping) (may_refuse refl)

  titled_good : {height : ℕ} {kinds : List Kind} {opens : List Open} (id : TaskId) (state : TaskState) (reference : InstructionsRef) → height ≤ 1000 → At code labels next kinds opens → Kinded stack height (Text ∷ kinds)
      → Looping code labels loops opens → GoodTasked (titled stack memory (registers_at next height loops used) id state reference)
  unfolding titled with_title if_vector to_fat_pointer
  titled_good id state reference few at (more {height = h} a rest) looping =
      rw (popped stack h few, a.0) (new_good _ (fat_pointer (get_or stack h 0)) id state reference at rest looping)

  pub create_good : {height : ℕ} {kinds left : List Kind} {opens : List Open} (next_id : ℕ) → height ≤ 1000 → Shape Creates kinds left → At code labels next left opens → Kinded stack height kinds → Looping code labels loops opens
      → GoodTasked (op_t_create stack memory (registers_at place height loops used) next next_id)
  unfolding op_t_create with_two with_state default_state
  create_good next_id few is_creates at (more a (more b (more {height = h} c rest))) looping =
      rw (popped_two stack (suc h) few)
      (either (λ (r : Result TaskState Refusal). GoodTasked (with_state stack memory (registers_at next (suc h) loops used) (record { 0 = next_id }) (get_or stack (suc (suc h)) 0) r)) (eqb (to_u32 (get_or stack (suc h) 0) % 256) 0) _ _ (may_refuse refl)
      (titled_good _ _ _ (omega arith) at (more c rest) looping))

  -- ---- T_DELETE

  pub delete_good : {height : ℕ} {kinds left : List Kind} {opens : List Open} → height ≤ 1000 → Shape (Takes Number) kinds left → At code labels next left opens → Kinded stack height kinds → Looping code labels loops opens
      → GoodTasked (op_t_delete stack (registers_at place height loops used) next task)
  unfolding op_t_delete delete_popped delete_found find
  delete_good few is_takes at (more {height = h} a rest) looping =
      rw (popped stack h few) (either (λ (r : Result ⊤ Refusal). GoodTasked (delete_found (registers_at next h loops used) r)) task.living _ _ (changes_to lent (starts at rest looping)) (may_refuse refl))

  -- ---- T_GET_FIELD

  field_got : {height field : ℕ} {kind : Kind} {kinds : List Kind} {opens : List Open} (before : ℕ) → FieldKind field kind → At code labels next (kind ∷ kinds) opens → Kinded stack height kinds → Looping code labels loops opens
      → GoodIn code labels (get_field stack memory (registers_at place before loops used) next height field task)
  unfolding get_field
  field_got before is_title at kinded looping = store_good code labels next stack memory lent (registers_at place before loops used) (title_bytes task) _ is_text at kinded looping
  field_got {height} before is_state at kinded looping = push_good code labels (registers_at place before loops used) next height _ stack lent at (number_kind _) kinded looping
  field_got {height} before is_instructions at kinded looping = push_good code labels (registers_at place before loops used) next height _ stack lent at (calldata_kind _) kinded looping

  pub get_good : {h field : ℕ} {kind : Kind} {kinds : List Kind} {opens : List Open} → h < 1000 → get_or stack h 0 ≡ to_u32_val field → FieldKind field kind → At code labels next (kind ∷ kinds) opens → Kinded stack h (Number ∷ kinds)
      → Looping code labels loops opens → GoodIn code labels (op_t_get_field stack memory (registers_at place (suc h) loops used) next task)
  unfolding op_t_get_field get_found if_found find
  get_good {field = field} few e fielded at (more {height = g} a rest) looping =
      rw (field_of_is stack g task few e fielded)
      (either (λ (r : Result ⊤ Refusal). GoodIn code labels (get_found stack memory (registers_at place (suc (suc g)) loops used) next task (if_found field g r))) task.living _ _
      (field_got (suc (suc g)) fielded at rest looping) (may_end refl))

  -- ---- T_SET_FIELD

  title_set : {height : ℕ} {kinds : List Kind} {opens : List Open} (m : List ℕ) (pointer : FatPointer) → At code labels next kinds opens → Kinded stack height kinds → Looping code labels loops opens
      → GoodTasked (set_title m (registers_at next height loops used) pointer task)
  unfolding set_title title_within within
  title_set {height} m pointer at kinded looping =
      either (λ (r : Result ⊤ Refusal). GoodTasked (title_within m (registers_at next height loops used) pointer task r)) (inside m pointer) _ _
      (either GoodTasked (ltb 128 pointer.size) _ _ (may_refuse refl) (changes_to lent (starts at kinded looping)))
      (may_refuse refl)

  state_set : {height : ℕ} {kinds : List Kind} {opens : List Open} (state : ℕ) → At code labels next kinds opens → Kinded stack height kinds → Looping code labels loops opens
      → GoodTasked (set_state (registers_at next height loops used) state task)
  unfolding set_state state_answered records.with_state
  state_set {height} state at kinded looping =
      either (λ (s : StateChange). GoodTasked (state_answered (registers_at next height loops used) state s.answer)) (leb task.state.len state) _ _ (may_refuse refl)
      (either (λ (s : StateChange). GoodTasked (state_answered (registers_at next height loops used) state s.answer)) (leb 255 state) _ _ (may_refuse refl) (changes_to lent (starts at kinded looping)))

  field_set : {height field : ℕ} {kind : Kind} {kinds : List Kind} {opens : List Open} (m : List ℕ) (value : ℕ) → FieldKind field kind → HasKind kind value → At code labels next kinds opens → Kinded stack height kinds
      → Looping code labels loops opens → GoodTasked (set_field m (registers_at next height loops used) field value task)
  unfolding set_field title_vector to_fat_pointer set_instructions
  field_set m value is_title has at kinded looping = rw has.0 (title_set m (fat_pointer value) at kinded looping)
  field_set m value is_state has at kinded looping = state_set (to_u32 value) at kinded looping
  field_set m value is_instructions has at kinded looping = changes_to lent (starts at kinded looping)

  pub set_good : {h field : ℕ} {kind : Kind} {kinds : List Kind} {opens : List Open} → h < 1000 → get_or stack h 0 ≡ to_u32_val field → FieldKind field kind → At code labels next kinds opens → Kinded stack h (Number ∷ kind ∷ kinds)
      → Looping code labels loops opens → GoodTasked (op_t_set_field stack memory (registers_at place (suc h) loops used) next task)
  unfolding op_t_set_field set_found if_found find set_popped
  set_good {field = field} few e fielded at (more a (more {height = g} b rest)) looping =
      rw (field_of_is stack (suc g) task few e fielded)
      (either (λ (r : Result ⊤ Refusal). GoodTasked (set_found stack memory (registers_at place (suc (suc (suc g))) loops used) next task (if_found field (suc g) r))) task.living _ _
      (rw (popped stack g (omega arith)) (field_set _ (get_or stack g 0) fielded b at rest looping)) (may_refuse refl))
