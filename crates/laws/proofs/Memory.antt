-- Instructions over memory keep the registers, the stack and the length of memory.
use Prim.Native.Nat.{ℕ, ◌+◌, ◌-◌, ◌*◌, ◌/◌, ◌^◌, ◌≤◌, ◌<◌}
use mathlib.Core.List.{List, ◌++◌}
use mathlib.Core.Path.{◌≡◌, refl, sym, ◌∙◌, subst}
use native.Mathlib.Omega.{arith}
use lib.Dec.{ltb, leb}
use lib.ListN.{length, get_or, set, take, replicate, length-set}
use lib.Seq.{length-sets, length_front}
use borrow.Author.Tests.{ltb-true, ltb-false, leb-true, leb-false}
use Rattle.errors.specs.declared.Refusal.{Refusal}
use Rattle.values.specs.Values.{make_vec_tagged, to_vec_val, to_u32, to_fat_pointer}
use Rattle.values.specs.declared.FatPointer.{FatPointer}
use Rattle.values.proofs.Laws.{pointer_back}
use Rattle.memory.specs.Allocation as allocation
use Rattle.memory.specs.Allocation.{is_element_tag, vector, offset_aligned, filling, vector_stored, alloc}
use Rattle.memory.proofs.Placed.{aligned_above}
use Rattle.memory.specs.Change as change
use Rattle.slices.specs.Numbers.{little_endian}
use Rattle.memory.specs.Change.{element_size_bytes, changed, mut_vec, inside}
use Rattle.memory.specs.declared.ElementIndex.{ElementIndex}
use Rattle.mechanism.specs.Registers.{OnStack, OnMemory, on_memory}
use Rattle.mechanism.specs.Store.{placed, store, sized, op_m_st, mut_in_use, ChangedTo, mutated, mutate_at, mutate, mutate_last, mutate_two, op_m_muta}
use Rattle.mechanism.specs.declared.Registers.{Registers}
use Rattle.laws.specs.Sound.{Inside}
use Rattle.laws.proofs.Either.{either}
use Rattle.laws.proofs.Stack as stacked
use Rattle.laws.proofs.Stack.{Registered, Goes, goes, stops, Pops, popped, not_popped, pops, PopsTwo, popped_two, not_popped_two, pops_two, lowered, set_inside}
use Rattle.std.specs.Prelude.{Ok, Err, Result, ⊤}

-- finished with sound registers and memory as long, or refused
pub data Keeps (asked : Type 0) (lent : ℕ) : OnMemory → Type 0 where
  finished : (registers : Registers) (stack memory : List ℕ) → Registered asked lent registers stack → length memory ≡ lent → Keeps asked lent (on_memory (Ok registers) stack memory)
  refused : (refusal : Refusal) (stack memory : List ℕ) → Keeps asked lent (on_memory (Err refusal) stack memory)

-- an instruction over the stack alone
pub beside : {asked : Type 0} (memory : List ℕ) (a : OnStack) → stacked.Keeps asked (length memory) a → Keeps asked (length memory) (on_memory a.result a.stack memory)
beside memory _ (stacked.finished registers stack r) = finished registers stack memory r refl
beside memory _ (stacked.refused refusal stack) = refused refusal stack memory

pub unwritten : {asked : Type 0} (memory stack : List ℕ) (result : Result Registers Refusal) → Goes asked (length memory) stack result → Keeps asked (length memory) (on_memory result stack memory)
unwritten memory stack _ (goes registers r) = finished registers stack memory r refl
unwritten memory stack _ (stops refusal) = refused refusal stack memory

-- ---- allocation

-- the box of a vector at an offset
data Boxes (offset size : ℕ) : Result ℕ Refusal → Type 0 where
  boxes : (tag : ℕ) → offset < 2 ^ 25 → Boxes offset size (Ok (make_vec_tagged offset size tag))
  not_boxes : (refusal : Refusal) → Boxes offset size (Err refusal)

vector_boxes : (used size tag : ℕ) → Boxes (offset_aligned used tag) size (vector used size tag)
unfolding vector to_vec_val
vector_boxes used size tag =
    either (Boxes (offset_aligned used tag) size) (is_element_tag tag) _ _
    (λ _. either (Boxes (offset_aligned used tag) size) (ltb (offset_aligned used tag) (2 ^ 25)) _ _ (λ small. boxes tag (ltb-true _ _ small)) (λ _. not_boxes _))
    (λ _. not_boxes _)

-- a value in the memory that is then in use, of which there is no less than before
data Allocates (lent used : ℕ) : allocation.AfterAllocation → Type 0 where
  allocated : (value more : ℕ) (memory : List ℕ) → used ≤ more → more ≤ lent → Inside more value → length memory ≡ lent → Allocates lent used (allocation.after_allocation (Ok (value, more)) memory)
  not_allocated : (refusal : Refusal) (memory : List ℕ) → Allocates lent used (allocation.after_allocation (Err refusal) memory)

-- a vector ends where its box says
box_inside : (offset size tag : ℕ) → offset < 2 ^ 25 → size < 2 ^ 16 → Inside (offset + size) (make_vec_tagged offset size tag)
box_inside offset size tag small short vec =
    let e = pointer_back offset size tag small short in
    subst (λ (p : FatPointer). p.offset + p.size ≤ offset + size) (sym e) (omega arith)

stored_keeps : (memory payload : List ℕ) (used size offset : ℕ) (result : Result ℕ Refusal) → used ≤ offset → size < 2 ^ 16 → Boxes offset size result
    → Allocates (length memory) used (vector_stored memory payload used size offset result)
unfolding vector_stored
stored_keeps memory payload used size offset _ above short (boxes tag small) =
    either (Allocates (length memory) used) (leb (offset + size) (length memory)) _ _
    (λ fits. allocated _ _ _ (omega arith) (leb-true _ _ fits) (box_inside offset size tag small short) (length-sets memory used (replicate (offset - used) 0 ++ filling size payload))) (λ _. not_allocated _ _)
stored_keeps memory payload used size offset _ above short (not_boxes refusal) = not_allocated refusal memory

alloc_keeps : (memory payload : List ℕ) (used size tag : ℕ) → size < 2 ^ 16 → Allocates (length memory) used (alloc memory payload used size tag)
unfolding alloc
alloc_keeps memory payload used size tag short = stored_keeps memory payload used size (offset_aligned used tag) _ (aligned_above used tag) short (vector_boxes used size tag)

-- what lies in some memory lies in more
wider : (used more value : ℕ) → used ≤ more → Inside used value → Inside more value
wider used more value less inside vec = let i = inside vec in omega (arith, i)

placed_keeps : {asked : Type 0} (lent : ℕ) (stack : List ℕ) (registers : Registers) (next height : ℕ) (a : allocation.AfterAllocation) → Registered asked lent registers stack → height ≤ registers.height → height < 1000
    → Allocates lent registers.memory a → Keeps asked lent (placed stack registers next height a.memory a.answer)
unfolding placed
placed_keeps lent stack registers next height _ r low room (allocated value more memory no_less fits new long) =
    finished (record { place = next; height = height + 1; loops = registers.loops; memory = more }) (set stack height value) memory (record {
      high = omega arith;
      few = r.few;
      there = fits;
      stack_long = λ it. length-set stack height value ∙ r.stack_long it;
      inside = λ it.
          set_inside more (height + 1) height value stack (omega (arith, r.stack_long it)) new
          (λ i less other. wider registers.memory more (get_or stack i 0) no_less (r.inside it i (omega (arith, other))));
    }) long
placed_keeps lent stack registers next height _ r low room (not_allocated refusal memory) = refused refusal stack memory

module _ {asked : Type 0} (registers : Registers) (stack memory : List ℕ) (next : ℕ) (r : Registered asked (length memory) registers stack) where
  pub store_keeps : (payload : List ℕ) (height size tag : ℕ) → height ≤ registers.height → size < 2 ^ 16
      → Keeps asked (length memory) (store stack memory payload registers next height size tag)
  unfolding store
  store_keeps payload height size tag low short =
      either (Keeps asked (length memory)) (leb 1000 height) _ _ (λ _. refused _ _ _)
      (λ room. placed_keeps (length memory) stack registers next height _ r low (leb-false _ _ room) (alloc_keeps memory payload registers.memory size tag short))

  sized_keeps : (none : List ℕ) (tag : ℕ) (result : Result (ℕ × ℕ) Refusal) → Pops stack registers.height result → Keeps asked (length memory) (sized stack memory none registers next tag result)
  unfolding sized
  sized_keeps none tag _ (popped new less) =
      either (Keeps asked (length memory)) (ltb 65535 (to_u32 (get_or stack new 0))) _ _ (λ _. refused _ _ _)
      (λ short. store_keeps none new (to_u32 (get_or stack new 0)) tag (omega arith) (let s = ltb-false 65535 (to_u32 (get_or stack new 0)) short in omega (arith, s)))
  sized_keeps none tag _ (not_popped refusal) = refused refusal stack memory

  pub m_st_keeps : (none : List ℕ) (tag : ℕ) → Keeps asked (length memory) (op_m_st stack memory none registers next tag)
  unfolding op_m_st
  m_st_keeps none tag = sized_keeps none tag _ (pops stack registers.height)

  -- ---- change

  changed_long : (m : List ℕ) (pointer : FatPointer) (index payload : ℕ) (result : Result ℕ Refusal) → length (changed m pointer index payload result).memory ≡ length m
  unfolding changed
  changed_long m pointer index payload (Err refusal) = refl
  changed_long m pointer index payload (Ok width) =
      either (λ (a : change.AfterChange). length a.memory ≡ length m) (leb (pointer.size / width) index) _ _ (λ _. refl)
      (λ _. either (λ (a : change.AfterChange). length a.memory ≡ length m) (inside m pointer) _ _ (λ _. length-sets m (pointer.offset + index * width) (little_endian width payload)) (λ _. refl))

  in_use_long : (pointer : FatPointer) (index : ElementIndex) (payload tag : ℕ) → length (mut_in_use memory registers.memory pointer index payload tag).memory ≡ length memory
  unfolding mut_in_use mut_vec
  in_use_long pointer index payload tag =
      length_front memory (changed (take registers.memory memory) pointer index.0 payload (element_size_bytes tag)).memory registers.memory
      (changed_long (take registers.memory memory) pointer index.0 payload (element_size_bytes tag))

  mutated_goes : (height : ℕ) (result : Result ⊤ Refusal) → height ≤ registers.height → Goes asked (length memory) stack (mutated registers next height result)
  unfolding mutated
  mutated_goes height (Ok tt) low = goes _ (lowered (length memory) registers stack next height r low)
  mutated_goes height (Err refusal) low = stops refusal

  changed_keeps : (m : List ℕ) (result : Result Registers Refusal) → Goes asked (length memory) stack result → length m ≡ length memory → Keeps asked (length memory) (on_memory result stack m)
  changed_keeps m _ (goes after sound) long = finished after stack m sound long
  changed_keeps m _ (stops refusal) long = refused refusal stack m

  abbrev On : ChangedTo → Type 0
  On a = Keeps asked (length memory) (on_memory a.result stack a.memory)

  mutate_at_keeps : (height : ℕ) (index : ElementIndex) (payload tag : ℕ) (result : Result FatPointer Refusal) → height ≤ registers.height
      → On (mutate_at memory registers next height index payload tag result)
  unfolding mutate_at
  mutate_at_keeps height index payload tag (Ok pointer) low = changed_keeps _ _ (mutated_goes height _ low) (in_use_long pointer index payload tag)
  mutate_at_keeps height index payload tag (Err refusal) low = refused refusal stack memory

  mutate_last_keeps : (height payload index : ℕ) (result : Result ℕ Refusal) → height ≤ registers.height → On (mutate_last memory registers next height payload index result)
  unfolding mutate_last mutate
  mutate_last_keeps height payload index (Ok vector) low = mutate_at_keeps height _ _ _ (to_fat_pointer vector) low
  mutate_last_keeps height payload index (Err refusal) low = refused refusal stack memory

  mutate_two_keeps : (result : Result (ℕ × ℕ × ℕ) Refusal) → PopsTwo stack registers.height result → On (mutate_two stack memory registers next result)
  unfolding mutate_two
  mutate_two_keeps _ (popped_two a b less below) = mutate_last_keeps b _ _ _ (omega arith)
  mutate_two_keeps _ (not_popped_two refusal) = refused refusal stack memory

  pub m_muta_keeps : On (op_m_muta stack memory registers next)
  unfolding op_m_muta
  m_muta_keeps = mutate_two_keeps _ (pops_two stack registers.height)
