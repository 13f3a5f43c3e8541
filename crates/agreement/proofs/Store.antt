-- The opcodes that write memory beside the Rust's arms.
use Prim.Native.Nat.{ℕ, zero, suc, ◌+◌, ◌-◌, ◌*◌, ◌/◌, ◌%◌, ◌^◌, ◌≤◌, ◌<◌}
use mathlib.Core.Bool.{Bool, true, false, cond, ◌||◌}
use mathlib.Core.Path.{◌≡◌, refl, ◌∙◌}
use mathlib.Core.List.{List, [], ◌∷◌, ◌++◌}
use native.Mathlib.Omega.{arith}
use lib.Dec.{eqb, ltb, leb}
use lib.ListN.{length, get_or, take, drop, set, replicate, length-drop}
use lib.Seq.{sets, length-sets, length-take-le, take_at}
use borrow.Author.Tests.{leb-true, leb-false, lt-ltb, le-ltb, le-leb, lt-leb, eqb-true, eq-eqb}
use Rattle.bytecode.specs.Opcodes.{M_STI, M_ST}
use Rattle.bytecode.specs.Operands.{big_endian}
use Rattle.slices.specs.Numbers as numbers
use Rattle.slices.specs.Numbers.{Bytes}
use Rattle.image.proofs.Endian.{bytes_drop, byte_at}
use Rattle.inlinevec.specs.Stacks.{values_of}
use Rattle.inlinevec.proofs.Lists.{pushed_values, length_values}
use Rattle.pools.specs.Pool.{start_of, end_of, entry_of}
use Rattle.values.specs.Values.{is_qnan, is_vec, head, raw_tag, fat_pointer, to_u32, to_vec_val}
use Rattle.values.specs.declared.FatPointer.{FatPointer}
use Rattle.memory.specs.Allocation as allocation
use Rattle.memory.specs.Allocation.{offset_aligned, is_element_tag, vector, filling, alloc}
use Rattle.memory.specs.Change as change
use Rattle.slices.specs.Numbers.{little_endian}
use Rattle.memory.specs.Change.{element_size_bytes, scaled, mut_vec}
use Rattle.memory.proofs.Placed.{aligned_above}
use Rattle.mechanism.specs.Registers.{on_memory, moved}
use Rattle.mechanism.specs.Store.{full_by, full, placed, store, sized, op_m_st, mut_in_use, changed_to, mutated, mutate_at, mutate, mutate_last, mutate_two, op_m_muta}
use Rattle.mechanism.specs.declared.Registers.{Registers}
use Rattle.mechanism.specs.Cut.{cut, cut_size, cut_m_st}
use Rattle.mechanism.specs.Operated.{with_operand, m_st, payload_of, m_sti_of, m_sti}
use Rattle.mechanism.specs.Execute.{is_equality, execute, by_extent, changed}
use Rattle.machine.specs.Machines.{current, code_of}
use Rattle.mechanism.specs.Registers.{registers_of}
use Rattle.machine.specs.World.{World, code, place}
use Rattle.machine.specs.Words.{StepResult}
use Rattle.mechanism.specs.Step.{inner_result}
use Rattle.rust.specs.Errors.{VMError, InvalidType, MSliceParamOverflow, MSliceOutOfBounds, StackOverflow, ok, err, panic}
use Rattle.rust.specs.InlineVec as inlinevec
use Rattle.rust.specs.Helpers.{byte, slice, prepare_u16_from_be_checked}
use Rattle.rust.specs.Values as values
use Rattle.rust.specs.Memory as memory
use Rattle.rust.specs.Vm as rust
use Rattle.rust.specs.Vm.{at, with_memory, allocs}
use Rattle.agreement.specs.View.{view}
use Rattle.agreement.specs.Agreement.{Agree, lacks, errs, panics, refusal_of, long_memory}
use Rattle.agreement.proofs.Facts.{Facts}
use Rattle.agreement.proofs.Laws.{same, holds, one_off, two_off, one_seen}
use Rattle.agreement.proofs.Views.{stepped, goes}
use Rattle.agreement.proofs.Values.{pointer_agrees}
use Rattle.mechanism.proofs.Operands.{up_to, operand_there, one_byte}
use Rattle.agreement.proofs.Grown.{grown, grown_empty, grown_length}
use Rattle.agreement.proofs.Equality.{in_memory, is_inside}
use Rattle.std.specs.Prelude.{Ok, Err, Result, Option, Some, None}
use Rattle.errors.specs.declared.Refusal.{Refusal}

-- a payload of the vector's size, or none
pub data Fills (size : ℕ) : List ℕ → Type 0 where
  nothing : Fills size []
  whole : {payload : List ℕ} → length payload ≡ size → Fills size payload

fills_test : {size : ℕ} {payload : List ℕ} → Fills size payload → (eqb (length payload) 0 || eqb (length payload) size) ≡ true
fills_test nothing = refl
fills_test {size} {payload} (whole e) = rw (eq-eqb (length payload) size e) (mathlib.Core.Bool.or-true (eqb (length payload) 0))

fills_grown : {size : ℕ} {payload : List ℕ} → Fills size payload → (l : List ℕ) (used offset : ℕ) → used ≤ length l → used ≤ offset → offset + size ≤ length l
    → take (offset + size) (sets l used (replicate (offset - used) 0 ++ filling size payload)) ≡ sets (memory.resize (take used l) (offset + size)) offset payload
fills_grown {size} nothing l used offset lent above fits = grown_empty l used offset size lent above fits
fills_grown {size} {payload} (whole e) l used offset lent above fits = grown l used offset size lent above payload e fits

-- a vector is boxed
vec_qnan : (v : ℕ) → is_vec v ≡ true → is_qnan v ≡ true
unfolding is_vec is_qnan
vec_qnan v t = let e : head v ≡ 2 ^ 14 - 1 = eqb-true _ _ t in rw e

pub bytes_taken : (n : ℕ) {l : List ℕ} → Bytes l → Bytes (take n l)
bytes_taken zero b = numbers.none
bytes_taken (suc n) numbers.none = numbers.none
bytes_taken (suc n) (numbers.byte a b) = numbers.byte a (bytes_taken n b)

-- the code's bytes are the pool's
pub code_bytes : (w : World) → Bytes w.pool → Bytes (code w)
unfolding code_of entry_of
code_bytes w bytes =
    let i = (current w.machine.frames).entry.0 in
    bytes_taken (end_of w.ends i - start_of w.ends i) (bytes_drop (start_of w.ends i) bytes)

byte_below : (l : List ℕ) (i : ℕ) → Bytes l → get_or l i 0 % 256 ≡ get_or l i 0
byte_below l i bytes = let z = byte_at bytes i in omega arith

two_below : (l : List ℕ) (i : ℕ) → Bytes l → big_endian 2 l i % 65536 ≡ big_endian 2 l i
unfolding big_endian
two_below l i bytes = let a = byte_at bytes (i + 0) in let b = byte_at bytes (i + 1) in omega arith

module _ (w : World) (stale : ℕ) (h : Facts w) (bytes : Bytes w.pool) where
  abbrev r : Registers
  r = registers_of w.machine

  abbrev used : ℕ
  used = w.machine.memory

  used_length : length (take used w.memory) ≡ used
  used_length = length-take-le used w.memory h.memory

  -- both place a vector alike
  aligned : (tag : ℕ) → memory.offset_aligned (take used w.memory) tag ≡ offset_aligned used tag
  unfolding memory.offset_aligned offset_aligned
  aligned tag = rw used_length

  module _ (next height size tag : ℕ) (payload : List ℕ) (fills : Fills size payload) where
    abbrev offset : ℕ
    offset = offset_aligned used tag

    -- an allocation by the box of its vector
    abbrev boxing : Result ℕ Refusal → StepResult
    boxing value =
        stepped w
        (cond (leb 1000 height) (on_memory (Err (full_by value)) w.stack w.memory)
        (placed w.stack r next height (allocation.vector_stored w.memory payload used size offset value).memory (allocation.vector_stored w.memory payload used size offset value).answer))

    not_boxed : (error : VMError) → Agree w (boxing (Err (refusal_of error))) (err error)
    unfolding allocation.vector_stored placed full_by inner_result
    not_boxed error = by (leb 1000 height)
      where
        by : (b : Bool) → Agree w (stepped w (cond b (on_memory (Err (refusal_of error)) w.stack w.memory) (on_memory (Err (refusal_of error)) w.stack w.memory))) (err error)
        by true = errs error
        by false = errs error

    abbrev grows : List ℕ
    grows = sets (memory.resize (take used w.memory) (offset + size)) offset payload

    -- the vector fits
    fits_in : (value : ℕ) → height < 1000 → offset + size ≤ length w.memory
        → Agree w (stepped w (on_memory (Ok (record { place = next; height = height + 1; loops = r.loops; memory = offset + size })) (set w.stack height value) (sets w.memory used (replicate (offset - used) 0 ++ filling size payload))))
        (ok (with_memory (at (view stale w) next (value ∷ values_of height w.stack)) grows))
    unfolding registers_of view
    fits_in value room fits =
        let a = pushed_values w.stack height value (omega (arith, h.stack_lent)) in
        let b = fills_grown fills w.memory used offset h.memory (aligned_above used tag) fits in
        goes w stale bytes _ _ _ _ (rw (a, b))

    is_boxed : (value : ℕ) → Agree w (boxing (Ok value)) (inlinevec.push 1000 (values_of height w.stack) value λ after. ok (with_memory (at (view stale w) next after) grows))
    unfolding allocation.vector_stored placed full_by inner_result inlinevec.push
    is_boxed value = by (leb 1000 height) (leb (offset + size) (length w.memory)) refl refl
      where
        by : (b d : Bool) → leb 1000 height ≡ b → leb (offset + size) (length w.memory) ≡ d
            → Agree w (boxing (Ok value)) (inlinevec.push 1000 (values_of height w.stack) value λ after. ok (with_memory (at (view stale w) next after) grows))
        by true d e f = rw (e, length_values w.stack height, le-ltb height 1000 (leb-true _ _ e)) (errs StackOverflow)
        by false true e f = rw (e, f, length_values w.stack height, lt-ltb height 1000 (leb-false _ _ e)) (fits_in value (leb-false _ _ e) (leb-true _ _ f))
        by false false e f =
            let over : length w.memory < length grows = rw (grown_length w.memory used offset size h.memory (aligned_above used tag) payload) (leb-false _ _ f) in
            rw (e, f, length_values w.stack height, lt-ltb height 1000 (leb-false _ _ e))
            (lacks (long_memory over))

    -- M_STI, M_ST and a title
    pub stores : Agree w (stepped w (store w.stack w.memory payload r next height size tag)) (allocs (view stale w) next (values_of height w.stack) size tag payload)
    unfolding store full alloc vector to_vec_val is_element_tag allocs memory.alloc memory.boxed values.to_vec_val registers_of view
    stores =
        rw (aligned tag)
        (holds _ (fills_test fills) _
        (same boxing (eqb tag 4 || eqb tag 6)
        (λ t. same boxing (ltb offset (2 ^ 25)) (λ u. is_boxed _) (λ u. not_boxed MSliceParamOverflow))
        (λ t. not_boxed InvalidType)))

  -- ---- M_MUTA

  module _ (next height index payload : ℕ) (pointer : FatPointer) (lies : pointer.offset + pointer.size ≤ length (take used w.memory)) where
    abbrev changing : Result ℕ Refusal → change.AfterChange
    changing width = change.changed (take used w.memory) pointer index payload width

    -- a change by the width of an element
    abbrev sizing : Result ℕ Refusal → StepResult
    sizing width = stepped w (changed w.stack (changed_to (mutated r next height (changing width).answer) ((changing width).memory ++ drop used w.memory)))

    change_goes : (start : ℕ) (new : List ℕ)
        → Agree w (stepped w (on_memory (Ok (moved r next height)) w.stack (sets (take used w.memory) start new ++ drop used w.memory))) (ok (with_memory (at (view stale w) next (values_of height w.stack)) (sets (take used w.memory) start new)))
    unfolding registers_of view
    change_goes start new =
        let a = take_at (sets (take used w.memory) start new) (drop used w.memory) used (length-sets (take used w.memory) start new ∙ used_length) in
        goes w stale bytes _ _ _ _ (rw a)

    change_agrees : (width : ℕ) → take width (little_endian 4 payload) ≡ little_endian width payload → (index < pointer.size / width → index * width + width ≤ pointer.size)
        → Agree w (sizing (Ok width))
        (cond (leb (pointer.size / width) index) (err (MSliceOutOfBounds (index * width % 2 ^ 32) pointer.size))
        (cond (leb (pointer.offset + index * width + width) (length (take used w.memory)))
        (ok (with_memory (at (view stale w) next (values_of height w.stack)) (sets (take used w.memory) (pointer.offset + index * width) (take width (little_endian 4 payload))))) panic))
    unfolding change.changed scaled mutated inner_result
    change_agrees width low element =
        same (λ (a : change.AfterChange). stepped w (changed w.stack (changed_to (mutated r next height a.answer) (a.memory ++ drop used w.memory)))) (leb (pointer.size / width) index)
        (λ t. errs (MSliceOutOfBounds (index * width % 2 ^ 32) pointer.size))
        (λ t. let e : index * width + width ≤ pointer.size = element (leb-false _ _ t) in
        rw (is_inside (take used w.memory) pointer lies, low)
        (holds _ (le-leb (pointer.offset + index * width + width) (length (take used w.memory)) (omega arith)) panic (change_goes (pointer.offset + index * width) (little_endian width payload))))

    pub mut_agrees : (tag : ℕ) → Agree w (sizing (element_size_bytes tag)) (memory.mut_vec (take used w.memory) pointer index payload tag λ l. ok (with_memory (at (view stale w) next (values_of height w.stack)) l))
    unfolding element_size_bytes memory.mut_vec memory.element_size_bytes little_endian change.changed mutated inner_result
    mut_agrees tag =
        same sizing (eqb tag 4) (λ t. change_agrees 1 refl (λ l. one l))
        (λ t. same sizing (eqb tag 6) (λ u. change_agrees 4 refl (λ l. four l)) (λ u. errs InvalidType))
      where
        one : index < pointer.size / 1 → index * 1 + 1 ≤ pointer.size
        one l = omega arith

        four : index < pointer.size / 4 → index * 4 + 4 ≤ pointer.size
        four l = omega arith

  pub m_muta : (next : ℕ) → Agree w (stepped w (changed w.stack (op_m_muta w.stack w.memory r next))) (rust.m_muta next (view stale w))
  unfolding op_m_muta mutate_two mutate_last mutate mutate_at mut_in_use mut_vec rust.m_muta values.tag view registers_of inner_result
  m_muta next =
      two_off w.stack w.machine.height h.height (λ (o : Result (ℕ × ℕ × ℕ) Refusal). stepped w (changed w.stack (mutate_two w.stack w.memory r next o))) _ refl
      (λ i e. one_seen w.stack i (omega (arith, h.height)) (λ (o : Result ℕ Refusal). stepped w (changed w.stack (mutate_last w.memory r next i (get_or w.stack (suc i) 0) (get_or w.stack i 0) o))) _ refl
      (λ j f. pointer_agrees (λ (o : Result FatPointer Refusal). stepped w (changed w.stack (mutate_at w.memory r next i (record { 0 = to_u32 (get_or w.stack i 0) }) (to_u32 (get_or w.stack (suc i) 0)) (raw_tag (get_or w.stack j 0)) o))) _ (get_or w.stack j 0)
      (λ v. holds _ (vec_qnan (get_or w.stack j 0) v) _
      (mut_agrees next i (to_u32 (get_or w.stack i 0)) (to_u32 (get_or w.stack (suc i) 0)) (fat_pointer (get_or w.stack j 0)) (in_memory w stale h bytes next j (omega arith) v) (raw_tag (get_or w.stack j 0))))
      (errs InvalidType)))

  -- ---- M_ST

  abbrev c : List ℕ
  c = code w

  abbrev p : ℕ
  p = place w

  abbrev by_op : ℕ → Option ℕ → StepResult
  by_op op reach = stepped w (by_extent w.stack w.memory c r op w.machine.count reach)

  -- M_ST pops and tests the size before its operand is looked at
  m_st_by : (b : Bool) → leb (p + 1 + 1) (length c) ≡ b
      → Agree w (by_op M_ST (cond b (Some (p + 1 + 1)) None))
      (inlinevec.pop (values_of w.machine.height w.stack) λ size st.
      cond (ltb 65535 (to_u32 size)) (err MSliceParamOverflow) (cond b (allocs (view stale w) (p + 1 + 1) st (to_u32 size) (get_or c (p + 1) 0) []) panic))
  unfolding by_extent execute is_equality m_st with_operand op_m_st sized registers_of cut cut_m_st cut_size inner_result
  m_st_by true t =
      rw (operand_there 1 c (p + 1) t, one_byte c (p + 1), byte_below c (p + 1) (code_bytes w bytes))
      (one_off w.stack w.machine.height h.height (λ (o : Result (ℕ × ℕ) Refusal). stepped w (sized w.stack w.memory [] r (p + 1 + 1) (get_or c (p + 1) 0) o)) _ refl
      (λ i e. same (stepped w) (ltb 65535 (to_u32 (get_or w.stack i 0))) (λ u. errs MSliceParamOverflow)
      (λ u. stores (p + 1 + 1) i (to_u32 (get_or w.stack i 0)) (get_or c (p + 1) 0) [] nothing)))
  m_st_by false t =
      one_off w.stack w.machine.height h.height (λ (o : Result (ℕ × ℕ) Refusal). stepped w (on_memory (cut_size o) w.stack w.memory)) _ refl
      (λ i e. same (λ d. stepped w (on_memory d w.stack w.memory)) (ltb 65535 (to_u32 (get_or w.stack i 0))) (λ u. errs MSliceParamOverflow) (λ u. panics))

  pub m_st_agrees : Agree w (by_op M_ST (up_to c (p + 1 + 1))) (rust.m_st c (p + 1) (view stale w))
  unfolding rust.m_st byte view
  m_st_agrees = m_st_by (leb (p + 1 + 1) (length c)) refl

  -- ---- M_STI

  -- its operands being there
  m_sti_whole : leb (p + 1 + 4) (length c) ≡ true → (next : ℕ) (payload : List ℕ) → Fills (big_endian 2 c (p + 1)) payload → payload_of c p (big_endian 2 c (p + 1)) (get_or c (p + 4) 0) ≡ payload
      → Agree w (by_op M_STI (Some next)) (allocs (view stale w) next (values_of w.machine.height w.stack) (big_endian 2 c (p + 1)) (get_or c (p + 1 + 2) 0) payload)
  unfolding by_extent execute is_equality m_sti m_sti_of with_operand registers_of
  m_sti_whole t next payload fills is =
      let l : p + 1 + 4 ≤ length c = leb-true _ _ t in
      let z : p + 1 + 2 ≡ p + 3 = omega arith in
      rw (
        operand_there 2 c (p + 1) (le-leb (p + 1 + 2) (length c) (omega arith)),
        operand_there 1 c (p + 3) (le-leb (p + 3 + 1) (length c) (omega arith)),
        operand_there 1 c (p + 4) (le-leb (p + 4 + 1) (length c) (omega arith)),
        one_byte c (p + 3),
        one_byte c (p + 4),
        byte_below c (p + 3) (code_bytes w bytes),
        two_below c (p + 1) (code_bytes w bytes),
        is,
        z,
      )
      (stores next w.machine.height (big_endian 2 c (p + 1)) (get_or c (p + 3) 0) payload fills)

  -- a cut one panics at the first operand that is not there
  m_sti_cut : (a b : Bool) → Agree w (by_op M_STI None) (cond a (cond b panic panic) panic)
  unfolding by_extent cut inner_result
  m_sti_cut true true = panics
  m_sti_cut true false = panics
  m_sti_cut false b = panics

  -- with a payload, and without
  m_sti_signal : (signal : Bool) → eqb (get_or c (p + 4) 0) 1 ≡ signal → leb (p + 1 + 4) (length c) ≡ true
      → Agree w (by_op M_STI (up_to c (p + 1 + 4 + cond signal (big_endian 2 c (p + 1)) 0)))
      (cond signal
      (cond (leb (p + 1 + 4 + big_endian 2 c (p + 1)) (length c))
      (allocs (view stale w) (p + 1 + 4 + big_endian 2 c (p + 1)) (values_of w.machine.height w.stack) (big_endian 2 c (p + 1)) (get_or c (p + 1 + 2) 0) (take (big_endian 2 c (p + 1)) (drop (p + 1 + 4) c))) panic)
      (allocs (view stale w) (p + 1 + 4) (values_of w.machine.height w.stack) (big_endian 2 c (p + 1)) (get_or c (p + 1 + 2) 0) []))
  unfolding payload_of by_extent cut inner_result
  m_sti_signal true e t =
      let z : p + 5 ≡ p + 1 + 4 = omega arith in
      same (by_op M_STI) (leb (p + 1 + 4 + big_endian 2 c (p + 1)) (length c))
      (λ u. let l : p + 1 + 4 + big_endian 2 c (p + 1) ≤ length c = leb-true _ _ u in
      m_sti_whole t _ (take (big_endian 2 c (p + 1)) (drop (p + 1 + 4) c)) (whole (length-take-le (big_endian 2 c (p + 1)) (drop (p + 1 + 4) c) (rw (length-drop (p + 1 + 4) c) (omega arith)))) (rw (e, z)))
      (λ u. panics)
  m_sti_signal false e t =
      let z : p + 1 + 4 + 0 ≡ p + 1 + 4 = omega arith in
      rw (z, t) (m_sti_whole t (p + 1 + 4) [] nothing (rw e))

  pub m_sti_agrees : Agree w (by_op M_STI (up_to c (p + 1 + 4 + cond (eqb (get_or c (p + 4) 0) 1) (big_endian 2 c (p + 1)) 0))) (rust.m_sti c (p + 1) (view stale w))
  unfolding rust.m_sti prepare_u16_from_be_checked byte slice view
  m_sti_agrees = by (leb (p + 1 + 4) (length c)) refl
    where
      by : (b : Bool) → leb (p + 1 + 4) (length c) ≡ b → Agree w (by_op M_STI (up_to c (p + 1 + 4 + cond (eqb (get_or c (p + 4) 0) 1) (big_endian 2 c (p + 1)) 0))) (rust.m_sti c (p + 1) (view stale w))
      by true t =
          let l : p + 1 + 4 ≤ length c = leb-true _ _ t in
          let z : p + 1 + 3 ≡ p + 4 = omega arith in
          rw z
          (holds _ (le-leb (p + 1 + 2) (length c) (omega arith)) _
          (holds _ (le-leb (p + 1 + 2 + 1) (length c) (omega arith)) _
          (holds _ (le-leb (p + 4 + 1) (length c) (omega arith)) _
          (m_sti_signal (eqb (get_or c (p + 4) 0) 1) refl t))))
      by false t =
          let l : length c < p + 1 + 4 = leb-false _ _ t in
          rw (lt-leb (p + 1 + 4 + cond (eqb (get_or c (p + 4) 0) 1) (big_endian 2 c (p + 1)) 0) (length c) (omega arith), lt-leb (p + 1 + 3 + 1) (length c) (omega arith))
          (m_sti_cut (leb (p + 1 + 2) (length c)) (leb (p + 1 + 2 + 1) (length c)))
