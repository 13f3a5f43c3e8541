-- C1 to C12, and single instructions: each run by its definition, each answer computed.
use mathlib.Core.Path.{refl}
use Rattle.bytecode.specs.Opcodes as bytecode-opcodes
use Rattle.bytecode.specs.Operands as bytecode-operands
use Rattle.inlinevec.specs.Stacks as inlinevec-stacks
use Rattle.values.specs.Values as values-values
use Rattle.memory.specs.Allocation as memory-allocation
use Rattle.memory.specs.Change as memory-change
use Rattle.memory.specs.Reads as memory-reads
use Rattle.pools.specs.Pool as pools-pool
use Rattle.machine.specs.Machines as machine-machines
use Rattle.machine.specs.Titles as machine-fields
use Rattle.machine.specs.World as machine-world
use Rattle.machine.specs.Words as machine-words
use Rattle.machine.specs.Opcodes as machine-opcodes
use Rattle.machine.specs.Step as machine-step
use Rattle.machine.specs.Run as machine-run
use Rattle.machine.specs.Sound as machine-sound
use Rattle.machine.specs.Calls as machine-calls
use Rattle.machine.specs.Reads as machine-reads
use Rattle.machine.specs.Creation as machine-creation
use Rattle.table_image.specs.Creation as table-image-creation
use Rattle.storage.specs.Tasks as storage-tasks
use Rattle.storage.specs.Storage as storage-storage
use Rattle.storage.specs.Table as storage-table
use Rattle.slices.specs.Same as slices-same
use Rattle.image.specs.Image as image-image
use Rattle.slices.specs.Numbers as slices-numbers
use Rattle.image.specs.Reading as image-reading
use Rattle.image.specs.Slots as image-slots
use Rattle.image.specs.Table as image-table
use Rattle.utf8.specs.Grammar as utf8-grammar
use Rattle.utf8.specs.Utf8 as utf8-utf8
use Rattle.cases.specs.Cases.{Cases, Instructions}

both : Cases × Instructions
unfolding bytecode-opcodes.operand_size bytecode-operands.big_endian bytecode-operands.operand bytecode-operands.data_size bytecode-operands.behind bytecode-operands.extent bytecode-operands.behind_by bytecode-operands.extent_by inlinevec-stacks.if_room inlinevec-stacks.if_some inlinevec-stacks.push inlinevec-stacks.pop inlinevec-stacks.last inlinevec-stacks.values_of inlinevec-stacks.push_two inlinevec-stacks.last_two inlinevec-stacks.pop_two inlinevec-stacks.change_two inlinevec-stacks.two_of inlinevec-stacks.push_onto inlinevec-stacks.pop_off inlinevec-stacks.last_on values-values.make_scalar_tagged values-values.make_vec_tagged values-values.to_vec_val values-values.to_bool_val values-values.is_qnan values-values.is_scalar values-values.is_vec values-values.raw_tag values-values.tag_of values-values.is_u32_val values-values.to_u32 values-values.fat_pointer values-values.to_fat_pointer values-values.bool_not values-values.product values-values.mul_checked values-values.mul_checked_i values-values.is_bool values-values.one_vector values-values.of_one_kind values-values.alike values-values.value_eq values-values.turned values-values.value_neq values-values.value_cmp values-values.vec_type values-values.scalar_type values-values.get_value_type memory-allocation.offset_aligned memory-allocation.is_element_tag memory-allocation.vector memory-allocation.filling memory-allocation.vector_stored memory-allocation.alloc memory-change.element_size_bytes memory-change.scaled memory-change.inside memory-change.changed memory-change.mut_vec memory-reads.is_m_slice_eq memory-reads.get_slice_as_str memory-reads.get_slice_as_u32 pools-pool.end_of pools-pool.start_of pools-pool.bounds pools-pool.entry_of pools-pool.entries_of pools-pool.has_room pools-pool.interned pools-pool.part_in_use pools-pool.never_fall pools-pool.end_to_end storage-tasks.no_title storage-tasks.blank storage-tasks.default_state storage-tasks.with_state storage-tasks.title_of storage-tasks.new_task storage-tasks.set_state storage-storage.slot_of storage-storage.find storage-storage.room storage-storage.len_after storage-table.set_state_at storage-table.lives storage-table.living_of storage-table.sound_slot storage-table.sound_slots storage-table.sound_counts storage-table.sound_table slices-same.same image-image.record_of image-image.header image-image.body image-image.records image-image.written slices-numbers.little_endian image-slots.saved_task image-table.living_tasks image-table.refusal_by image-table.task_refusal image-table.or_else image-table.first_refusal image-table.image_of_tasks image-table.saved_over image-table.saved_unless image-table.save_tasks image-table.save_table image-slots.task_in utf8-grammar.UTF8_char utf8-utf8.valid utf8-utf8.from utf8-utf8.lead utf8-utf8.holds machine-machines.current machine-machines.with_current machine-machines.code_of machine-machines.op_at machine-machines.placed machine-machines.rewound machine-fields.within machine-fields.title_bytes machine-world.at_end machine-words.test machine-words.operand_found machine-words.popped machine-words.looked_at machine-words.push machine-words.calculated machine-words.pointed machine-words.bytes_of machine-words.allocated machine-words.store machine-words.element_changed machine-words.loop_pushed machine-words.loop_popped machine-words.loop_looked_at machine-words.frame_pushed machine-words.frame_popped machine-words.bounds_found machine-words.interned machine-words.found machine-words.first_state machine-words.has_state machine-words.with_room machine-words.saved machine-opcodes.push_u32 machine-opcodes.push_byte machine-opcodes.push_calldata machine-opcodes.mul machine-opcodes.muli machine-opcodes.compare machine-opcodes.t_create machine-opcodes.get_field machine-opcodes.t_get_field machine-opcodes.set_field machine-opcodes.t_set_field machine-opcodes.t_delete machine-opcodes.s_save machine-opcodes.s_len machine-opcodes.«do» machine-opcodes.loop machine-opcodes.loop_index machine-opcodes.enter machine-opcodes.call_task machine-opcodes.end_call machine-opcodes.jump_if_false machine-opcodes.drops machine-opcodes.dup machine-opcodes.swap machine-opcodes.equal machine-opcodes.eq machine-opcodes.neq machine-opcodes.m_sti machine-opcodes.m_st machine-opcodes.m_muta machine-step.execute machine-step.step machine-run.follow machine-run.run machine-sound.sound_frames machine-sound.sound_lengths machine-sound.sound_record machine-sound.sound_world machine-calls.may_start machine-calls.allowed machine-calls.ended machine-calls.report machine-calls.call_with machine-calls.call machine-reads.host_saved machine-reads.host_save machine-creation.create machine-creation.create_fit machine-creation.create_behind table-image-creation.image_tests table-image-creation.creation_tests image-image.task_at image-image.headed image-image.good image-image.task_before image-image.read_from image-image.with_count image-image.read_image slices-numbers.number_at image-reading.s_len_of image-reading.instruction_bytes image-reading.image_result image-slots.loaded_task image-table.bytes_after image-table.entries_after image-table.next_reference image-table.load_slot image-table.load_tasks image-table.load_read image-table.load_table
both = (
  record {
    c1 = (refl, (refl, (refl, refl)));
    c2 = refl;
    c3 = refl;
    c4 = (refl, (refl, refl));
    c5 = (refl, (refl, (refl, refl)));
    c6 = refl;
    c7 = (refl, (refl, refl));
    c8 = (refl, refl);
    c9 = (refl, (refl, refl));
    c10 = refl;
    c11 = (refl, (refl, refl));
    c12 = (refl, (refl, (refl, refl)));
  },
  record {
    at_the_end = (refl, refl);
    no_title = refl;
    get_field = (refl, refl);
    get_title = refl;
    set_state = refl;
    set_title = refl;
    call_empty = (refl, (refl, refl));
    end_call_in_main = (refl, refl);
    end_call_in_a_task = (refl, refl);
    jump_cut = (refl, refl);
    ids = (refl, refl);
    save = refl;
    save_behind_a_gap = refl;
    save_too_short = refl;
  },
)

-- C1 to C12
pub cases : Cases
cases = both.0

pub instructions : Instructions
instructions = both.1
