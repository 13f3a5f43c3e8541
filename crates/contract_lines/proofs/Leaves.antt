-- The contract line of each exported function of the leaves, said a second time; what this shows stands in Lines.
use mathlib.Core.Path.{◌≡◌}
use Rattle.bytecode.specs.Operands.{Follows, extent, extent_by, operand}
use Rattle.inlinevec.specs.Stacks.{last, last_on, last_two, pop, pop_off, push, push_onto, stacked}
use Rattle.memory.specs.Allocation.{alloc, vector}
use Rattle.memory.specs.Change.{mut_vec}
use Rattle.memory.specs.Reads.{get_slice_bytes, is_m_slice_eq}
use Rattle.memory.specs.Unbox.{part_of, unbox_value}
use Rattle.pools.specs.Pool.{bounds, end_to_end, entry_of, has_room, interned, part_in_use, pooled}
use Rattle.values.specs.Values.{bool_not, fat_pointer, get_value_type, is_vec, mul_checked, mul_checked_i, raw_tag, tag_of, to_bool_val, to_calldata_val, to_fat_pointer, to_u32, to_u32_val, to_vec_val, value_cmp, value_eq, value_neq}
use Rattle.memory.specs.Allocation as memory-allocation
use Rattle.memory.specs.Change as memory-change
use Rattle.bytecode.proofs as bytecode
use Rattle.bytecode.specs.contracts as bytecode-contracts
use Rattle.pools.proofs as pools
use Rattle.pools.specs.contracts as pools-contracts
use Rattle.values.proofs as values
use Rattle.values.specs.contracts as values-contracts
use Rattle.inlinevec.proofs as inlinevec
use Rattle.inlinevec.specs.contracts as inlinevec-contracts
use Rattle.memory.proofs as memory
use Rattle.memory.specs.contracts as memory-contracts
use denote.RattleType.{RattleType}
use mir.Syntax.{Dict}
use Rattle.std.specs.declared.clone.Clone.{Ghosts}
use Rattle.contract_lines.proofs.Answers.{Line, Answers, AnswersEach}

abbrev pub bytecode_operand_sizes : Line bytecode-contracts.extents.operand_sizes.ended
bytecode_operand_sizes _ r =
    Follows r

pub bytecode_operand_sizes_says : {M : Type 1} → bytecode.extents.operand_sizes.Statement.statement M → Answers M bytecode-contracts.extents.operand_sizes.ended bytecode.extents.operand_sizes.Symbol.name bytecode.extents.operand_sizes.Symbol.code bytecode_operand_sizes
bytecode_operand_sizes_says met = met

abbrev pub bytecode_extent : Line bytecode-contracts.extents.extent.ended
bytecode_extent _ code at r =
    r ≡ extent code.entry.now at.entry

pub bytecode_extent_says : {M : Type 1} → bytecode.extents.extent.Statement.statement M → Answers M bytecode-contracts.extents.extent.ended bytecode.extents.extent.Symbol.name bytecode.extents.extent.Symbol.code bytecode_extent
bytecode_extent_says met = met

abbrev pub bytecode_extent_by : Line bytecode-contracts.extents.extent_by.ended
bytecode_extent_by _ sizes code at r =
    r ≡ extent_by sizes.entry.now code.entry.now at.entry

pub bytecode_extent_by_says : {M : Type 1} → bytecode.extents.extent_by.Statement.statement M → Answers M bytecode-contracts.extents.extent_by.ended bytecode.extents.extent_by.Symbol.name bytecode.extents.extent_by.Symbol.code bytecode_extent_by
bytecode_extent_by_says met = met

abbrev pub bytecode_prepare_u8 : Line bytecode-contracts.operands.prepare_u8.ended
bytecode_prepare_u8 _ code at r =
    r ≡ operand 1 code.entry.now at.entry

pub bytecode_prepare_u8_says : {M : Type 1} → bytecode.operands.prepare_u8.Statement.statement M → Answers M bytecode-contracts.operands.prepare_u8.ended bytecode.operands.prepare_u8.Symbol.name bytecode.operands.prepare_u8.Symbol.code bytecode_prepare_u8
bytecode_prepare_u8_says met = met

abbrev pub bytecode_prepare_u16_from_be_checked : Line bytecode-contracts.operands.prepare_u16_from_be_checked.ended
bytecode_prepare_u16_from_be_checked _ code at r =
    r ≡ operand 2 code.entry.now at.entry

pub bytecode_prepare_u16_from_be_checked_says : {M : Type 1} → bytecode.operands.prepare_u16_from_be_checked.Statement.statement M → Answers M bytecode-contracts.operands.prepare_u16_from_be_checked.ended bytecode.operands.prepare_u16_from_be_checked.Symbol.name bytecode.operands.prepare_u16_from_be_checked.Symbol.code bytecode_prepare_u16_from_be_checked
bytecode_prepare_u16_from_be_checked_says met = met

abbrev pub bytecode_prepare_u32_from_be_checked : Line bytecode-contracts.operands.prepare_u32_from_be_checked.ended
bytecode_prepare_u32_from_be_checked _ code at r =
    r ≡ operand 4 code.entry.now at.entry

pub bytecode_prepare_u32_from_be_checked_says : {M : Type 1} → bytecode.operands.prepare_u32_from_be_checked.Statement.statement M → Answers M bytecode-contracts.operands.prepare_u32_from_be_checked.ended bytecode.operands.prepare_u32_from_be_checked.Symbol.name bytecode.operands.prepare_u32_from_be_checked.Symbol.code bytecode_prepare_u32_from_be_checked
bytecode_prepare_u32_from_be_checked_says met = met

abbrev pub pools_has_room : Line pools-contracts.capacity.has_room.ended
pools_has_room _ lent bytes entries size r =
    r ≡ has_room lent.entry bytes.entry entries.entry size.entry

pub pools_has_room_says : {M : Type 1} → pools.capacity.has_room.Statement.statement M → Answers M pools-contracts.capacity.has_room.ended pools.capacity.has_room.Symbol.name pools.capacity.has_room.Symbol.code pools_has_room
pools_has_room_says met = met

abbrev pub pools_intern_instructions : Line pools-contracts.interning.intern_instructions.ended
pools_intern_instructions _ pool ends bytes entries calldata r =
    pooled r pool.exit.now ends.exit.now ≡ interned pool.entry.now ends.entry.now bytes.entry entries.entry calldata.entry.now

pub pools_intern_instructions_says : {M : Type 1} → pools.interning.intern_instructions.Statement.statement M → Answers M pools-contracts.interning.intern_instructions.ended pools.interning.intern_instructions.Symbol.name pools.interning.intern_instructions.Symbol.code pools_intern_instructions
pools_intern_instructions_says met = met

abbrev pub pools_intern_part : Line pools-contracts.interning.intern_part.ended
pools_intern_part _ pool ends bytes entries start size r =
    pooled r pool.exit.now ends.exit.now ≡ interned pool.entry.now ends.entry.now bytes.entry entries.entry (part_in_use pool.entry.now bytes.entry start.entry size.entry)

pub pools_intern_part_says : {M : Type 1} → pools.interning.intern_part.Statement.statement M → Answers M pools-contracts.interning.intern_part.ended pools.interning.intern_part.Symbol.name pools.interning.intern_part.Symbol.code pools_intern_part
pools_intern_part_says met = met

abbrev pub pools_bounds : Line pools-contracts.bounds.ended
pools_bounds _ ends entries entry r =
    r ≡ bounds ends.entry.now entries.entry entry.entry

pub pools_bounds_says : {M : Type 1} → pools.bounds.Statement.statement M → Answers M pools-contracts.bounds.ended pools.bounds.Symbol.name pools.bounds.Symbol.code pools_bounds
pools_bounds_says met = met

abbrev pub pools_get : Line pools-contracts.get.ended
pools_get _ pool ends entry r =
    r.now ≡ entry_of pool.entry.now ends.entry.now entry.entry.0

pub pools_get_says : {M : Type 1} → pools.get.Statement.statement M → Answers M pools-contracts.get.ended pools.get.Symbol.name pools.get.Symbol.code pools_get
pools_get_says met = met

abbrev pub pools_end_to_end : Line pools-contracts.end_to_end.ended
pools_end_to_end _ ends bytes entries r =
    r ≡ end_to_end ends.entry.now bytes.entry entries.entry

pub pools_end_to_end_says : {M : Type 1} → pools.end_to_end.Statement.statement M → Answers M pools-contracts.end_to_end.ended pools.end_to_end.Symbol.name pools.end_to_end.Symbol.code pools_end_to_end
pools_end_to_end_says met = met

abbrev pub values_to_vec_val : Line values-contracts.boxing.to_vec_val.ended
values_to_vec_val _ offset size tag r =
    r ≡ to_vec_val offset.entry size.entry tag.entry

pub values_to_vec_val_says : {M : Type 1} → values.boxing.to_vec_val.Statement.statement M → Answers M values-contracts.boxing.to_vec_val.ended values.boxing.to_vec_val.Symbol.name values.boxing.to_vec_val.Symbol.code values_to_vec_val
values_to_vec_val_says met = met

abbrev pub values_to_u32_val : Line values-contracts.boxing.to_u32_val.ended
values_to_u32_val _ number r =
    r ≡ to_u32_val number.entry

pub values_to_u32_val_says : {M : Type 1} → values.boxing.to_u32_val.Statement.statement M → Answers M values-contracts.boxing.to_u32_val.ended values.boxing.to_u32_val.Symbol.name values.boxing.to_u32_val.Symbol.code values_to_u32_val
values_to_u32_val_says met = met

abbrev pub values_to_calldata_val : Line values-contracts.boxing.to_calldata_val.ended
values_to_calldata_val _ reference r =
    r ≡ to_calldata_val reference.entry.0

pub values_to_calldata_val_says : {M : Type 1} → values.boxing.to_calldata_val.Statement.statement M → Answers M values-contracts.boxing.to_calldata_val.ended values.boxing.to_calldata_val.Symbol.name values.boxing.to_calldata_val.Symbol.code values_to_calldata_val
values_to_calldata_val_says met = met

abbrev pub values_to_bool_val : Line values-contracts.boxing.to_bool_val.ended
values_to_bool_val _ b r =
    r ≡ to_bool_val b.entry

pub values_to_bool_val_says : {M : Type 1} → values.boxing.to_bool_val.Statement.statement M → Answers M values-contracts.boxing.to_bool_val.ended values.boxing.to_bool_val.Symbol.name values.boxing.to_bool_val.Symbol.code values_to_bool_val
values_to_bool_val_says met = met

abbrev pub values_bool_not : Line values-contracts.calculations.bool_not.ended
values_bool_not _ v r =
    r ≡ bool_not v.entry

pub values_bool_not_says : {M : Type 1} → values.calculations.bool_not.Statement.statement M → Answers M values-contracts.calculations.bool_not.ended values.calculations.bool_not.Symbol.name values.calculations.bool_not.Symbol.code values_bool_not
values_bool_not_says met = met

abbrev pub values_mul_checked : Line values-contracts.calculations.mul_checked.ended
values_mul_checked _ lhs rhs r =
    r ≡ mul_checked lhs.entry rhs.entry

pub values_mul_checked_says : {M : Type 1} → values.calculations.mul_checked.Statement.statement M → Answers M values-contracts.calculations.mul_checked.ended values.calculations.mul_checked.Symbol.name values.calculations.mul_checked.Symbol.code values_mul_checked
values_mul_checked_says met = met

abbrev pub values_mul_checked_i : Line values-contracts.calculations.mul_checked_i.ended
values_mul_checked_i _ lhs rhs r =
    r ≡ mul_checked_i lhs.entry rhs.entry

pub values_mul_checked_i_says : {M : Type 1} → values.calculations.mul_checked_i.Statement.statement M → Answers M values-contracts.calculations.mul_checked_i.ended values.calculations.mul_checked_i.Symbol.name values.calculations.mul_checked_i.Symbol.code values_mul_checked_i
values_mul_checked_i_says met = met

abbrev pub values_value_eq : Line values-contracts.comparison.value_eq.ended
values_value_eq _ left right r =
    r ≡ value_eq left.entry right.entry

pub values_value_eq_says : {M : Type 1} → values.comparison.value_eq.Statement.statement M → Answers M values-contracts.comparison.value_eq.ended values.comparison.value_eq.Symbol.name values.comparison.value_eq.Symbol.code values_value_eq
values_value_eq_says met = met

abbrev pub values_value_neq : Line values-contracts.comparison.value_neq.ended
values_value_neq _ left right r =
    r ≡ value_neq left.entry right.entry

pub values_value_neq_says : {M : Type 1} → values.comparison.value_neq.Statement.statement M → Answers M values-contracts.comparison.value_neq.ended values.comparison.value_neq.Symbol.name values.comparison.value_neq.Symbol.code values_value_neq
values_value_neq_says met = met

abbrev pub values_value_cmp : Line values-contracts.comparison.value_cmp.ended
values_value_cmp _ left right is_lt r =
    r ≡ value_cmp left.entry right.entry is_lt.entry

pub values_value_cmp_says : {M : Type 1} → values.comparison.value_cmp.Statement.statement M → Answers M values-contracts.comparison.value_cmp.ended values.comparison.value_cmp.Symbol.name values.comparison.value_cmp.Symbol.code values_value_cmp
values_value_cmp_says met = met

abbrev pub values_get_value_type : Line values-contracts.kinds.get_value_type.ended
values_get_value_type _ v r =
    r ≡ get_value_type v.entry

pub values_get_value_type_says : {M : Type 1} → values.kinds.get_value_type.Statement.statement M → Answers M values-contracts.kinds.get_value_type.ended values.kinds.get_value_type.Symbol.name values.kinds.get_value_type.Symbol.code values_get_value_type
values_get_value_type_says met = met

abbrev pub values_is_vec : Line values-contracts.is_vec.ended
values_is_vec _ v r =
    r ≡ is_vec v.entry

pub values_is_vec_says : {M : Type 1} → values.is_vec.Statement.statement M → Answers M values-contracts.is_vec.ended values.is_vec.Symbol.name values.is_vec.Symbol.code values_is_vec
values_is_vec_says met = met

abbrev pub values_raw_tag : Line values-contracts.raw_tag.ended
values_raw_tag _ v r =
    r ≡ raw_tag v.entry

pub values_raw_tag_says : {M : Type 1} → values.raw_tag.Statement.statement M → Answers M values-contracts.raw_tag.ended values.raw_tag.Symbol.name values.raw_tag.Symbol.code values_raw_tag
values_raw_tag_says met = met

abbrev pub values_tag_of : Line values-contracts.tag_of.ended
values_tag_of _ v r =
    r ≡ tag_of v.entry

pub values_tag_of_says : {M : Type 1} → values.tag_of.Statement.statement M → Answers M values-contracts.tag_of.ended values.tag_of.Symbol.name values.tag_of.Symbol.code values_tag_of
values_tag_of_says met = met

abbrev pub values_to_u32 : Line values-contracts.to_u32.ended
values_to_u32 _ v r =
    r ≡ to_u32 v.entry

pub values_to_u32_says : {M : Type 1} → values.to_u32.Statement.statement M → Answers M values-contracts.to_u32.ended values.to_u32.Symbol.name values.to_u32.Symbol.code values_to_u32
values_to_u32_says met = met

abbrev pub values_fat_pointer : Line values-contracts.fat_pointer.ended
values_fat_pointer _ v r =
    r ≡ fat_pointer v.entry

pub values_fat_pointer_says : {M : Type 1} → values.fat_pointer.Statement.statement M → Answers M values-contracts.fat_pointer.ended values.fat_pointer.Symbol.name values.fat_pointer.Symbol.code values_fat_pointer
values_fat_pointer_says met = met

abbrev pub values_to_fat_pointer : Line values-contracts.to_fat_pointer.ended
values_to_fat_pointer _ v r =
    r ≡ to_fat_pointer v.entry

pub values_to_fat_pointer_says : {M : Type 1} → values.to_fat_pointer.Statement.statement M → Answers M values-contracts.to_fat_pointer.ended values.to_fat_pointer.Symbol.name values.to_fat_pointer.Symbol.code values_to_fat_pointer
values_to_fat_pointer_says met = met

abbrev pub inlinevec_push : Line inlinevec-contracts.push.ended
inlinevec_push _ stack height value r =
    stacked r stack.exit.now ≡ push stack.entry.now height.entry value.entry

pub inlinevec_push_says : {M : Type 1} → inlinevec.push.Statement.statement M → Answers M inlinevec-contracts.push.ended inlinevec.push.Symbol.name inlinevec.push.Symbol.code inlinevec_push
inlinevec_push_says met = met

abbrev pub inlinevec_pop : Line inlinevec-contracts.pop.ended
inlinevec_pop _ stack height r =
    r ≡ pop stack.entry.now height.entry

pub inlinevec_pop_says : {M : Type 1} → inlinevec.pop.Statement.statement M → Answers M inlinevec-contracts.pop.ended inlinevec.pop.Symbol.name inlinevec.pop.Symbol.code inlinevec_pop
inlinevec_pop_says met = met

abbrev pub inlinevec_last : Line inlinevec-contracts.last.ended
inlinevec_last _ stack height r =
    r ≡ last stack.entry.now height.entry

pub inlinevec_last_says : {M : Type 1} → inlinevec.last.Statement.statement M → Answers M inlinevec-contracts.last.ended inlinevec.last.Symbol.name inlinevec.last.Symbol.code inlinevec_last
inlinevec_last_says met = met

abbrev pub inlinevec_two_top : (T : RattleType) (clone : Ghosts T.Denot) (dict : Dict) → Line (inlinevec-contracts.Two.top.ended T clone dict)
inlinevec_two_top T clone dict _ self r =
    r ≡ last_two self.entry

pub inlinevec_two_top_says : {M : Type 1} → inlinevec.Two.top.Statement.statement M
    → AnswersEach M inlinevec-contracts.Two.top.ended (λ t clone dict κs. κs.0) inlinevec.Two.top.Symbol.name inlinevec.Two.top.Symbol.code inlinevec_two_top
inlinevec_two_top_says met = met

abbrev pub inlinevec_two_push : (T : RattleType) (clone : Ghosts T.Denot) (dict : Dict) → Line (inlinevec-contracts.Two.push.ended T clone dict)
inlinevec_two_push T clone dict _ self item r =
    r ≡ push_onto self.entry item.entry

pub inlinevec_two_push_says : {M : Type 1} → inlinevec.Two.push.Statement.statement M
    → AnswersEach M inlinevec-contracts.Two.push.ended (λ t clone dict κs. κs.0) inlinevec.Two.push.Symbol.name inlinevec.Two.push.Symbol.code inlinevec_two_push
inlinevec_two_push_says met = met

abbrev pub inlinevec_two_pop : (T : RattleType) (clone : Ghosts T.Denot) (dict : Dict) → Line (inlinevec-contracts.Two.pop.ended T clone dict)
inlinevec_two_pop T clone dict _ self r =
    r ≡ pop_off self.entry

pub inlinevec_two_pop_says : {M : Type 1} → inlinevec.Two.pop.Statement.statement M
    → AnswersEach M inlinevec-contracts.Two.pop.ended (λ t clone dict κs. κs.0) inlinevec.Two.pop.Symbol.name inlinevec.Two.pop.Symbol.code inlinevec_two_pop
inlinevec_two_pop_says met = met

abbrev pub inlinevec_two_last : (T : RattleType) (clone : Ghosts T.Denot) (dict : Dict) → Line (inlinevec-contracts.Two.last.ended T clone dict)
inlinevec_two_last T clone dict _ self r =
    r ≡ last_on self.entry

pub inlinevec_two_last_says : {M : Type 1} → inlinevec.Two.last.Statement.statement M
    → AnswersEach M inlinevec-contracts.Two.last.ended (λ t clone dict κs. κs.0) inlinevec.Two.last.Symbol.name inlinevec.Two.last.Symbol.code inlinevec_two_last
inlinevec_two_last_says met = met

abbrev pub memory_vector : Line memory-contracts.allocation.vector.ended
memory_vector _ used size tag r =
    r ≡ vector used.entry size.entry tag.entry

pub memory_vector_says : {M : Type 1} → memory.allocation.vector.Statement.statement M → Answers M memory-contracts.allocation.vector.ended memory.allocation.vector.Symbol.name memory.allocation.vector.Symbol.code memory_vector
memory_vector_says met = met

abbrev pub memory_alloc : Line memory-contracts.allocation.alloc.ended
memory_alloc _ memory payload used size tag r =
    memory-allocation.after_allocation r memory.exit.now ≡ alloc memory.entry.now payload.entry.now used.entry size.entry tag.entry

pub memory_alloc_says : {M : Type 1} → memory.allocation.alloc.Statement.statement M → Answers M memory-contracts.allocation.alloc.ended memory.allocation.alloc.Symbol.name memory.allocation.alloc.Symbol.code memory_alloc
memory_alloc_says met = met

abbrev pub memory_mut_vec : Line memory-contracts.change.mut_vec.ended
memory_mut_vec _ memory pointer index payload tag r =
    memory-change.after_change r memory.exit.now ≡ mut_vec memory.entry.now pointer.entry index.entry.0 payload.entry tag.entry

pub memory_mut_vec_says : {M : Type 1} → memory.change.mut_vec.Statement.statement M → Answers M memory-contracts.change.mut_vec.ended memory.change.mut_vec.Symbol.name memory.change.mut_vec.Symbol.code memory_mut_vec
memory_mut_vec_says met = met

abbrev pub memory_get_slice_bytes : Line memory-contracts.reads.get_slice_bytes.ended
memory_get_slice_bytes _ memory pointer r =
    r.now ≡ get_slice_bytes memory.entry.now pointer.entry

pub memory_get_slice_bytes_says : {M : Type 1} → memory.reads.get_slice_bytes.Statement.statement M → Answers M memory-contracts.reads.get_slice_bytes.ended memory.reads.get_slice_bytes.Symbol.name memory.reads.get_slice_bytes.Symbol.code memory_get_slice_bytes
memory_get_slice_bytes_says met = met

abbrev pub memory_is_m_slice_eq : Line memory-contracts.tested_reads.is_m_slice_eq.ended
memory_is_m_slice_eq _ memory left right r =
    r ≡ is_m_slice_eq memory.entry.now left.entry right.entry

pub memory_is_m_slice_eq_says : {M : Type 1} → memory.tested_reads.is_m_slice_eq.Statement.statement M → Answers M memory-contracts.tested_reads.is_m_slice_eq.ended memory.tested_reads.is_m_slice_eq.Symbol.name memory.tested_reads.is_m_slice_eq.Symbol.code memory_is_m_slice_eq
memory_is_m_slice_eq_says met = met

abbrev pub memory_unbox_value : Line memory-contracts.unbox.unbox_value.ended
memory_unbox_value _ memory ends entries value r =
    r ≡ unbox_value memory.entry.now ends.entry.now entries.entry value.entry

pub memory_unbox_value_says : {M : Type 1} → memory.unbox.unbox_value.Statement.statement M → Answers M memory-contracts.unbox.unbox_value.ended memory.unbox.unbox_value.Symbol.name memory.unbox.unbox_value.Symbol.code memory_unbox_value
memory_unbox_value_says met = met

abbrev pub memory_part_of : Line memory-contracts.unbox.part_of.ended
memory_part_of _ memory pool ends kind r =
    r.now ≡ part_of memory.entry.now pool.entry.now ends.entry.now kind.entry

pub memory_part_of_says : {M : Type 1} → memory.unbox.part_of.Statement.statement M → Answers M memory-contracts.unbox.part_of.ended memory.unbox.part_of.Symbol.name memory.unbox.part_of.Symbol.code memory_part_of
memory_part_of_says met = met
