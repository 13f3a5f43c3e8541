-- A refused instruction over memory leaves the stack and memory as they were.
use Prim.Native.Nat.{ℕ, zero, suc, ◌+◌, ◌/◌}
use mathlib.Core.List.{List, [], ◌∷◌, ◌++◌}
use mathlib.Core.Path.{◌≡◌, refl, sym, ap, subst}
use lib.Dec.{ltb, leb}
use lib.ListN.{length, take, drop}
use Rattle.errors.specs.declared.Refusal.{Refusal}
use Rattle.values.specs.Values.{to_u32, to_fat_pointer}
use Rattle.values.specs.declared.FatPointer.{FatPointer}
use Rattle.memory.specs.Allocation as allocation
use Rattle.memory.specs.Allocation.{vector, offset_aligned, vector_stored, alloc}
use Rattle.memory.specs.Change as change
use Rattle.memory.specs.Change.{element_size_bytes, changed, mut_vec, inside}
use Rattle.memory.specs.declared.ElementIndex.{ElementIndex}
use Rattle.mechanism.specs.Registers.{OnStack, OnMemory, on_memory}
use Rattle.mechanism.specs.Store.{ChangedIn, changed_in, placed, store, sized, op_m_st, mut_in_use, ChangedTo, changed_to, mutated, mutate_at, mutate, mutate_last, mutate_two, op_m_muta}
use Rattle.mechanism.specs.declared.Registers.{Registers}
use Rattle.mechanism.proofs.Either.{either}
use Rattle.mechanism.proofs.RefusalsStack as stack
use Rattle.std.specs.Prelude.{Ok, Err, Result}

-- finished, or refused with the stack and memory as they were
pub data Leaves (stack memory : List ℕ) : OnMemory → Type 0 where
  finished : (registers : Registers) (s m : List ℕ) → Leaves stack memory (on_memory (Ok registers) s m)
  kept : (refusal : Refusal) → Leaves stack memory (on_memory (Err refusal) stack memory)

-- an instruction over the stack alone
pub beside : (s memory : List ℕ) (a : OnStack) → stack.Leaves s a → Leaves s memory (on_memory a.result a.stack memory)
beside s memory _ (stack.finished registers after) = finished registers after memory
beside s memory _ (stack.kept refusal) = kept refusal

-- ---- allocation

pub data Allocates (memory : List ℕ) : allocation.AfterAllocation → Type 0 where
  allocated : (value used : ℕ) (m : List ℕ) → Allocates memory (allocation.after_allocation (Ok (value, used)) m)
  not_allocated : (refusal : Refusal) → Allocates memory (allocation.after_allocation (Err refusal) memory)

stored_leaves : (memory payload : List ℕ) (used size offset : ℕ) (result : Result ℕ Refusal) → Allocates memory (vector_stored memory payload used size offset result)
unfolding vector_stored
stored_leaves memory payload used size offset (Err refusal) = not_allocated refusal
stored_leaves memory payload used size offset (Ok value) =
    either (Allocates memory) (leb (offset + size) (length memory)) _ _ (allocated _ _ _) (not_allocated _)

alloc_leaves : (memory payload : List ℕ) (used size tag : ℕ) → Allocates memory (alloc memory payload used size tag)
unfolding alloc
alloc_leaves memory payload used size tag = stored_leaves memory payload used size _ _

placed_leaves : (s memory : List ℕ) (registers : Registers) (next height : ℕ) (a : allocation.AfterAllocation) → Allocates memory a
    → Leaves s memory (placed s registers next height a.memory a.answer)
unfolding placed
placed_leaves s memory registers next height _ (allocated value used m) = finished _ _ _
placed_leaves s memory registers next height _ (not_allocated refusal) = kept refusal

pub store_leaves : (s memory payload : List ℕ) (registers : Registers) (next height size tag : ℕ)
    → Leaves s memory (store s memory payload registers next height size tag)
unfolding store
store_leaves s memory payload registers next height size tag =
    either (Leaves s memory) (leb 1000 height) _ _ (kept _) (placed_leaves s memory registers next height _ (alloc_leaves memory payload _ size tag))

sized_leaves : (s memory none : List ℕ) (registers : Registers) (next tag : ℕ) (result : Result (ℕ × ℕ) Refusal) → Leaves s memory (sized s memory none registers next tag result)
unfolding sized
sized_leaves s memory none registers next tag (Ok (value, height)) =
    either (Leaves s memory) (ltb 65535 (to_u32 value)) _ _ (kept _) (store_leaves s memory none registers next height _ tag)
sized_leaves s memory none registers next tag (Err refusal) = kept refusal

pub m_st_leaves : (s memory none : List ℕ) (registers : Registers) (next tag : ℕ) → Leaves s memory (op_m_st s memory none registers next tag)
unfolding op_m_st
m_st_leaves s memory none registers next tag = sized_leaves s memory none registers next tag _

-- ---- change

data Changes (memory : List ℕ) : change.AfterChange → Type 0 where
  has_changed : (m : List ℕ) → Changes memory (change.after_change (Ok tt) m)
  not_changed : (refusal : Refusal) → Changes memory (change.after_change (Err refusal) memory)

changed_leaves : (memory : List ℕ) (pointer : FatPointer) (index payload : ℕ) (result : Result ℕ Refusal) → Changes memory (changed memory pointer index payload result)
unfolding changed
changed_leaves memory pointer index payload (Err refusal) = not_changed refusal
changed_leaves memory pointer index payload (Ok width) =
    either (Changes memory) (leb (pointer.size / width) index) _ _ (not_changed _)
    (either (Changes memory) (inside memory pointer) _ _ (has_changed _) (not_changed _))

data ChangesIn (memory : List ℕ) : ChangedIn → Type 0 where
  has_changed : (m : List ℕ) → ChangesIn memory (changed_in (Ok tt) m)
  not_changed : (refusal : Refusal) → ChangesIn memory (changed_in (Err refusal) memory)

take_drop : (n : ℕ) (xs : List ℕ) → take n xs ++ drop n xs ≡ xs
take_drop zero xs = refl
take_drop (suc n) [] = refl
take_drop (suc n) (x ∷ xs) = ap (λ (ys : List ℕ). x ∷ ys) (take_drop n xs)

beside_rest : (memory : List ℕ) (used : ℕ) (a : change.AfterChange) → Changes (take used memory) a → ChangesIn memory (changed_in a.answer (a.memory ++ drop used memory))
beside_rest memory used _ (has_changed m) = has_changed _
beside_rest memory used _ (not_changed refusal) =
    subst (λ (m : List ℕ). ChangesIn memory (changed_in (Err refusal) m)) (sym (take_drop used memory)) (not_changed refusal)

in_use_leaves : (memory : List ℕ) (used : ℕ) (pointer : FatPointer) (index : ElementIndex) (payload tag : ℕ)
    → ChangesIn memory (mut_in_use memory used pointer index payload tag)
unfolding mut_in_use mut_vec
in_use_leaves memory used pointer index payload tag = beside_rest memory used _ (changed_leaves (take used memory) pointer index.0 payload _)

pub data Mutates (memory : List ℕ) : ChangedTo → Type 0 where
  finished : (registers : Registers) (m : List ℕ) → Mutates memory (changed_to (Ok registers) m)
  kept : (refusal : Refusal) → Mutates memory (changed_to (Err refusal) memory)

mutated_leaves : (memory : List ℕ) (registers : Registers) (next height : ℕ) (a : ChangedIn) → ChangesIn memory a
    → Mutates memory (changed_to (mutated registers next height a.answer) a.memory)
unfolding mutated
mutated_leaves memory registers next height _ (has_changed m) = finished _ _
mutated_leaves memory registers next height _ (not_changed refusal) = kept refusal

mutate_at_leaves : (memory : List ℕ) (registers : Registers) (next height : ℕ) (index : ElementIndex) (payload tag : ℕ) (result : Result FatPointer Refusal)
    → Mutates memory (mutate_at memory registers next height index payload tag result)
unfolding mutate_at
mutate_at_leaves memory registers next height index payload tag (Ok pointer) =
    mutated_leaves memory registers next height _ (in_use_leaves memory _ pointer index payload tag)
mutate_at_leaves memory registers next height index payload tag (Err refusal) = kept refusal

mutate_last_leaves : (memory : List ℕ) (registers : Registers) (next height payload index : ℕ) (result : Result ℕ Refusal)
    → Mutates memory (mutate_last memory registers next height payload index result)
unfolding mutate_last mutate
mutate_last_leaves memory registers next height payload index (Ok vector) =
    mutate_at_leaves memory registers next height _ _ _ (to_fat_pointer vector)
mutate_last_leaves memory registers next height payload index (Err refusal) = kept refusal

mutate_two_leaves : (s memory : List ℕ) (registers : Registers) (next : ℕ) (result : Result (ℕ × ℕ × ℕ) Refusal) → Mutates memory (mutate_two s memory registers next result)
unfolding mutate_two
mutate_two_leaves s memory registers next (Ok (payload, index, height)) = mutate_last_leaves memory registers next height payload index _
mutate_two_leaves s memory registers next (Err refusal) = kept refusal

on_memory_leaves : (s memory : List ℕ) (a : ChangedTo) → Mutates memory a → Leaves s memory (on_memory a.result s a.memory)
on_memory_leaves s memory _ (finished registers m) = finished registers s m
on_memory_leaves s memory _ (kept refusal) = kept refusal

pub m_muta_leaves : (s memory : List ℕ) (registers : Registers) (next : ℕ)
    → Leaves s memory (on_memory (op_m_muta s memory registers next).result s (op_m_muta s memory registers next).memory)
unfolding op_m_muta
m_muta_leaves s memory registers next = on_memory_leaves s memory _ (mutate_two_leaves s memory registers next _)
