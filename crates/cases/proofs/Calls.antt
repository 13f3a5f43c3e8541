-- Each call of the machine and of a host on a small input, as one table: the answer that its definition gives, computed.
use Prim.Native.Nat.{ℕ}
use mathlib.Core.Bool.{true, false}
use mathlib.Core.List.{List, [], ◌∷◌, ◌++◌}
use mathlib.Core.Path.{◌≡◌, refl}
use lib.ListN.{replicate, get_or, set}
use Rattle.errors.specs.declared.Refusal.TheVariants.{EmptyInstructions, StackOverflow, TaskNotFound, InvalidInstructionsIndex, SaveBufferTooShort, BadImage, WrongPhaseOrUnsound}
use Rattle.machine.specs.declared.Phase.TheVariants as phase
use Rattle.machine.specs.Machines as machine-machines
use Rattle.machine.specs.Titles as machine-fields
use Rattle.machine.specs.World as machine-world
use Rattle.machine.specs.Words as machine-words
use Rattle.machine.specs.Opcodes as machine-opcodes
use Rattle.machine.specs.Step as machine-step
use Rattle.machine.specs.Run as machine-run
use Rattle.machine.specs.declared.Outcome.TheVariants as outcome
use Rattle.storage.specs.Tasks.{blank}
use Rattle.values.specs.Values.{to_calldata_val}
use Rattle.memory.specs.declared.unbox.Return.TheVariants.{U32, CallData}
use Rattle.machine.specs.Machines.{with_frames}
use Rattle.machine.specs.World.{World, world, moved}
use Rattle.machine.specs.Run.{run}
use Rattle.machine.specs.Calls.{Reported, is_sound, start, rerun, go_on}
use Rattle.machine.specs.World.{with_machine}
use Rattle.machine.specs.Creation.{Made, new_machine, create}
use Rattle.machine.specs.Reads.{SavedTo, value_read, task_read, host_save}
use Rattle.roundtrips.specs.Images.{I1}
use Rattle.cases.specs.Cases.{fresh_world, raised, C1}
use Rattle.bytecode.specs.Opcodes as bytecode-opcodes
use Rattle.bytecode.specs.Operands as bytecode-operands
use Rattle.inlinevec.specs.Stacks as inlinevec-stacks
use Rattle.values.specs.Values as values-values
use Rattle.pools.specs.Pool as pools-pool
use Rattle.storage.specs.Tasks as storage-tasks
use Rattle.storage.specs.Storage as storage-storage
use Rattle.storage.specs.Table as storage-table
use Rattle.utf8.specs.Grammar as utf8-grammar
use Rattle.utf8.specs.Utf8 as utf8-utf8
use Rattle.slices.specs.Numbers as slices-numbers
use Rattle.image.specs.Image as image-image
use Rattle.image.specs.Slots as image-slots
use Rattle.image.specs.Reading as image-reading
use Rattle.image.specs.Table as image-table
use Rattle.table_image.specs.Creation as creation-creation
use Rattle.memory.specs.Unbox as unbox-unbox
use Rattle.memory.specs.Change as memory-change
use Rattle.memory.specs.Allocation as memory-allocation
use Rattle.machine.specs.Sound as vm-sound
use Rattle.machine.specs.Calls as vm-calls
use Rattle.machine.specs.Creation as vm-creation
use Rattle.machine.specs.Reads as vm-reads
use Rattle.std.specs.Prelude.{Ok, Err}

-- 12
abbrev End_call : List ℕ
End_call = 0x12 ∷ []

-- 04 0001 1d
abbrev Calldata : List ℕ
Calldata = 0x04 ∷ 0x00 ∷ 0x01 ∷ 0x1d ∷ []

-- 0d 0d 0e: a loop that stays open
abbrev Open_loop : List ℕ
Open_loop = 0x0d ∷ 0x0d ∷ 0x0e ∷ []

-- 1b 0000 04 01 03 01 04 0001 0d 07 03 00 11 03 07: a new task whose instructions are S_LEN, a CALL of task 0, and behind it a push of 7
abbrev In_task : List ℕ
In_task = 0x1b ∷ 0x00 ∷ 0x00 ∷ 0x04 ∷ 0x01 ∷ 0x03 ∷ 0x01 ∷ 0x04 ∷ 0x00 ∷ 0x01 ∷ 0x0d ∷ 0x07 ∷ 0x03 ∷ 0x00 ∷ 0x11 ∷ 0x03 ∷ 0x07 ∷ []

-- 01 00000005 01 00000063
abbrev Two_values : List ℕ
Two_values = 0x01 ∷ 0x00 ∷ 0x00 ∷ 0x00 ∷ 0x05 ∷ 0x01 ∷ 0x00 ∷ 0x00 ∷ 0x00 ∷ 0x63 ∷ []

-- a program after its first instruction
abbrev stepped : List ℕ → World
stepped program = (run 1 (fresh_world program)).world

-- a program started, with fuel for all of it
abbrev started : List ℕ → Reported
started program = start 9 (fresh_world program)

-- the machine and everything lent to it after a call
abbrev after : Reported → World
after r = world r.report.machine r.table r.stack r.memory r.pool r.ends r.save

-- a machine of C1 whose stack has this height
abbrev high : ℕ → World
high height = raised height C1

-- one in a task, whose frame names this entry
abbrev in_task : ℕ → World
in_task entry =
    with_machine (fresh_world C1) (with_frames (fresh_world C1).machine (record { count = 2; first = (fresh_world C1).machine.frames.first; second = record { entry = record { 0 = entry }; place = 0 } }))

-- one with a length of the pool in use, and a next id and an S_LEN count
abbrev counting : ℕ → ℕ → ℕ → World
counting bytes next_id count = with_machine (fresh_world C1) (new_machine bytes 1 next_id count)

-- a table of so many slots, an image and a program
abbrev creating : ℕ → List ℕ → List ℕ → Made
creating slots image program = create (replicate slots blank) (replicate 16 0) (replicate 1024 0) image program

-- image I1, loaded under the program 1d, with so many entries in use
abbrev loaded : ℕ → World
loaded entries =
    world (new_machine 1 entries 1 1) (creating 256 I1 (0x1d ∷ [])).table (replicate 1000 0) (replicate 64 0) (creating 256 I1 (0x1d ∷ [])).pool (creating 256 I1 (0x1d ∷ [])).ends []

-- a save into a buffer of so many bytes
abbrev saved : ℕ → World → SavedTo
saved bytes w = host_save (world w.machine w.table w.stack w.memory w.pool w.ends (replicate bytes 0xff))

-- the table
pub record Examples : Type 0 where
  -- END_CALL in main does nothing, and goes on behind it
  pub end_call_in_main : stepped End_call ≡ moved (fresh_world End_call) 1 0
  -- PUSH_CALLDATA: one value more, calldata of entry 1
  pub calldata_value : get_or (stepped Calldata).stack 0 0 ≡ to_calldata_val 1
  -- one entry more
  pub calldata_entries : (stepped Calldata).machine.entries ≡ 2
  -- which is the data, joined at the pool's end
  pub calldata_data : get_or (stepped Calldata).pool 4 0 ≡ 0x1d
  -- and ends behind it
  pub calldata_end : get_or (stepped Calldata).ends 1 0 ≡ 5
  -- runner::calling::call: C1 finishes five instructions
  pub start_finished : (started C1).report.finished ≡ 5
  -- and is done
  pub start_outcome : (started C1).report.outcome ≡ outcome.Done
  -- so the machine is, too
  pub start_phase : (started C1).report.machine.phase ≡ phase.Done
  -- with one value
  pub start_values : (started C1).report.machine.height ≡ 1
  -- and the current frame's place becomes 0
  pub start_place : (started C1).report.machine.frames.first.place ≡ 0
  -- with fuel 2 it is paused
  pub pause_outcome : (start 2 (fresh_world C1)).report.outcome ≡ outcome.Paused
  -- after two instructions
  pub pause_finished : (start 2 (fresh_world C1)).report.finished ≡ 2
  -- start on a paused machine is 26
  pub start_paused : (start 9 (after (start 2 (fresh_world C1)))).report.outcome ≡ outcome.Refused WrongPhaseOrUnsound
  -- continue finishes the other three
  pub continue_paused : (go_on 9 (after (start 2 (fresh_world C1)))).report.finished ≡ 3
  -- continue on a new machine is 26
  pub continue_new : (go_on 9 (fresh_world C1)).report.outcome ≡ outcome.Refused WrongPhaseOrUnsound
  -- with no finished instruction
  pub continue_new_finished : (go_on 9 (fresh_world C1)).report.finished ≡ 0
  -- a rerun of a new machine is a start
  pub rerun_new : (rerun 9 (fresh_world C1)).report.finished ≡ 5
  -- on a paused machine it is 26
  pub rerun_paused : (rerun 9 (after (start 2 (fresh_world C1)))).report.outcome ≡ outcome.Refused WrongPhaseOrUnsound
  -- a run left a loop open: a start begins with an empty control stack, so one is open again
  pub start_closes_loops : (start 9 (after (started Open_loop))).report.machine.loops.count ≡ 1
  -- and a third start finds room
  pub start_finds_room : (start 9 (after (start 9 (after (started Open_loop))))).report.outcome ≡ outcome.Done
  -- a rerun begins with the loop that is open, and opens one more
  pub rerun_keeps_loops : (rerun 9 (after (started Open_loop))).report.machine.loops.count ≡ 2
  -- a second rerun finds the control stack full
  pub rerun_finds_no_room : (rerun 9 (after (rerun 9 (after (started Open_loop))))).report.outcome ≡ outcome.Refused StackOverflow
  -- but a start after a rerun has all of it
  pub start_after_a_rerun : (start 9 (after (rerun 9 (after (started Open_loop))))).report.machine.loops.count ≡ 1
  -- a run ended inside task 0: two frames
  pub ends_in_a_task : (started In_task).report.machine.frames.count ≡ 2
  -- and main is left behind its CALL
  pub ends_behind_call : (started In_task).report.machine.frames.first.place ≡ 15
  -- a start begins at main, place 0: all seven instructions again
  pub start_from_main : (start 9 (after (started In_task))).report.finished ≡ 7
  -- whose S_LEN finds two tasks
  pub start_from_main_value : (value_read 0 (after (start 9 (after (started In_task))))).answer ≡ Ok (U32 2)
  -- a rerun begins inside the task: its one instruction
  pub rerun_in_a_task : (rerun 9 (after (started In_task))).report.finished ≡ 1
  -- whose S_LEN finds one task
  pub rerun_in_a_task_value : (value_read 0 (after (rerun 9 (after (started In_task))))).answer ≡ Ok (U32 1)
  -- and after a rerun a start is at main again
  pub start_from_main_again : (start 9 (after (rerun 9 (after (started In_task))))).report.finished ≡ 7
  -- vm::sound::sound: a new machine
  pub sound_new : is_sound (fresh_world C1) ≡ true
  -- a full stack
  pub sound_height : is_sound (high 1000) ≡ true
  -- a length above its capacity
  pub unsound_height : is_sound (high 1001) ≡ false
  -- 256 ids, all held
  pub sound_ids : is_sound (counting 17 256 256) ≡ true
  -- a next id above 256
  pub unsound_next_id : is_sound (counting 17 257 256) ≡ false
  -- the S_LEN count above the next id
  pub unsound_count : is_sound (counting 17 1 2) ≡ false
  -- a task's frame that names no entry
  pub unsound_frame : is_sound (in_task 1) ≡ false
  -- pool entries not end to end
  pub unsound_pool : is_sound (counting 16 0 0) ≡ false
  -- vm::creating::create: image I1 and a program of one byte: two entries, next id 1, S_LEN count 1
  pub create_machine : (creating 256 I1 (0x1d ∷ [])).answer ≡ Ok (new_machine 1 2 1 1)
  -- image I1 with next id 2: S_LEN is still 1
  pub create_next_id : (creating 256 (set I1 6 2) (0x1d ∷ [])).answer ≡ Ok (new_machine 1 2 2 1)
  -- task 0 lives
  pub create_living : (get_or (creating 256 I1 (0x1d ∷ [])).table 0 blank).living ≡ true
  -- its instructions are the entry behind the program
  pub create_reference : (get_or (creating 256 I1 (0x1d ∷ [])).table 0 blank).instructions_ref.0 ≡ 1
  -- the slot behind it is blank
  pub create_blank : (get_or (creating 256 I1 (0x1d ∷ [])).table 1 blank).living ≡ false
  -- an empty program is 1, before 25
  pub create_empty : (creating 256 (0x00 ∷ []) []).answer ≡ Err EmptyInstructions
  -- a table not of 256 slots is 26, before 1
  pub create_short_table : (creating 255 I1 []).answer ≡ Err WrongPhaseOrUnsound
  -- a bad image is 25 with the record's start
  pub create_bad_image : (creating 256 (0x00 ∷ []) (0x1d ∷ [])).answer ≡ Err (BadImage 0)
  -- vm::value_reading::read_value: C1's value
  pub value_first : (value_read 0 (after (started C1))).answer ≡ Ok (U32 99)
  -- a position past the values is 26
  pub value_past : (value_read 1 (after (started C1))).answer ≡ Err WrongPhaseOrUnsound
  -- values bottom first
  pub value_at_the_bottom : (value_read 0 (after (started Two_values))).answer ≡ Ok (U32 5)
  -- calldata, its part being entry 1 of the pool
  pub value_calldata : (value_read 0 (after (started Calldata))).answer ≡ Ok (CallData (record { 0 = 1 }))
  -- on a machine that is not done it is 26
  pub value_paused : (value_read 0 (after (start 2 (fresh_world C1)))).answer ≡ Err WrongPhaseOrUnsound
  -- vm::task_reading::read_task: no such task is 9 with the id
  pub task_missing : (task_read (record { 0 = 3 }) (fresh_world C1)).answer.result ≡ Err (TaskNotFound 3)
  -- an unsound record is 26, before 9
  pub task_unsound : (task_read (record { 0 = 3 }) (high 1001)).answer.result ≡ Err WrongPhaseOrUnsound
  -- task 0 of image I1
  pub task_loaded : (task_read (record { 0 = 0 }) (loaded 2)).answer.result ≡ Ok tt
  -- has a title of two bytes
  pub task_title : (task_read (record { 0 = 0 }) (loaded 2)).answer.task.title_len ≡ 2
  -- with the program alone in the pool its entry is missing, 12
  pub task_without_entry : (task_read (record { 0 = 0 }) (loaded 1)).answer.result ≡ Err (InvalidInstructionsIndex 1)
  -- vm::saving::save: after a zero-length image a lone kind 1 of zeros
  pub save_bytes : (saved 14 (fresh_world C1)).save ≡ 0x08 ∷ 0x00 ∷ 0x00 ∷ 0x00 ∷ 0x01 ∷ 0x00 ∷ 0x00 ∷ 0x00 ∷ 0x00 ∷ 0x00 ∷ 0x00 ∷ 0x00 ∷ 0x00 ∷ 0x00 ∷ []
  -- of 14 bytes
  pub save_length : (saved 14 (fresh_world C1)).report.result ≡ Ok 14
  -- a buffer that is too short is 24
  pub save_short : (saved 13 (fresh_world C1)).report.result ≡ Err SaveBufferTooShort
  -- and nothing is written
  pub save_short_bytes : (saved 13 (fresh_world C1)).save ≡ replicate 13 0xff
  -- after image I1 the same bytes; those past it stay
  pub save_loaded : (saved 31 (loaded 2)).save ≡ I1 ++ (0xff ∷ [])
  -- an unsound record is 26, before 24
  pub save_unsound : (saved 13 (high 1001)).report.result ≡ Err WrongPhaseOrUnsound

pub examples : Examples
unfolding bytecode-opcodes.operand_size bytecode-operands.big_endian bytecode-operands.operand bytecode-operands.data_size bytecode-operands.behind bytecode-operands.extent inlinevec-stacks.if_room inlinevec-stacks.if_some inlinevec-stacks.push inlinevec-stacks.pop inlinevec-stacks.push_two inlinevec-stacks.last_two inlinevec-stacks.pop_two inlinevec-stacks.change_two inlinevec-stacks.push_onto inlinevec-stacks.pop_off values-values.make_scalar_tagged values-values.is_qnan values-values.is_scalar values-values.is_vec values-values.raw_tag values-values.tag_of values-values.to_u32 values-values.scalar_type values-values.get_value_type pools-pool.end_of pools-pool.start_of pools-pool.bounds pools-pool.entry_of pools-pool.has_room pools-pool.interned pools-pool.part_in_use pools-pool.never_fall pools-pool.end_to_end storage-tasks.blank storage-tasks.title_of storage-tasks.new_task storage-storage.slot_of storage-storage.find storage-table.sound_slot storage-table.sound_slots storage-table.sound_counts storage-table.sound_table vm-sound.sound_frames vm-sound.sound_lengths vm-sound.sound_record vm-sound.sound_world vm-calls.may_start vm-calls.may_continue vm-calls.allowed vm-calls.ended vm-calls.report vm-calls.call_with vm-calls.call vm-reads.is_done vm-reads.readable vm-reads.value_at vm-reads.value_read vm-reads.readable_unless vm-reads.if_found vm-reads.task_result vm-reads.task_read vm-reads.host_saved vm-reads.host_save vm-creation.create vm-creation.create_fit vm-creation.create_behind creation-creation.image_tests creation-creation.creation_tests unbox-unbox.where_bounded unbox-unbox.by_type unbox-unbox.unbox_value image-image.record_of image-image.header image-image.body image-image.task_at image-image.headed image-image.good image-image.task_before image-image.read_from image-image.with_count image-image.read_image slices-numbers.little_endian slices-numbers.number_at image-reading.s_len_of image-reading.instruction_bytes image-reading.image_result image-slots.loaded_task image-slots.saved_task image-table.living_tasks image-table.refusal_by image-table.task_refusal image-table.or_else image-table.first_refusal image-table.image_of_tasks image-table.saved_over image-table.saved_unless image-table.save_tasks image-table.save_table image-table.bytes_after image-table.entries_after image-table.next_reference image-slots.task_in utf8-grammar.UTF8_char utf8-utf8.holds utf8-utf8.lead utf8-utf8.from utf8-utf8.valid machine-machines.current machine-machines.with_current machine-machines.code_of machine-machines.op_at machine-machines.placed machine-machines.rewound machine-fields.within machine-world.at_end machine-words.test machine-words.operand_found machine-words.popped machine-words.looked_at machine-words.push machine-words.calculated machine-words.pointed machine-words.bytes_of machine-words.allocated machine-words.store machine-words.element_changed machine-words.loop_pushed machine-words.loop_popped machine-words.loop_looked_at machine-words.frame_pushed machine-words.frame_popped machine-words.bounds_found machine-words.interned machine-words.found machine-words.first_state machine-words.has_state machine-words.with_room machine-words.saved machine-opcodes.push_u32 machine-opcodes.push_byte machine-opcodes.push_calldata machine-opcodes.mul machine-opcodes.muli machine-opcodes.compare machine-opcodes.t_create machine-opcodes.get_field machine-opcodes.t_get_field machine-opcodes.set_field machine-opcodes.t_set_field machine-opcodes.t_delete machine-opcodes.s_save machine-opcodes.s_len machine-opcodes.«do» machine-opcodes.loop machine-opcodes.loop_index machine-opcodes.enter machine-opcodes.call_task machine-opcodes.end_call machine-opcodes.jump_if_false machine-opcodes.drops machine-opcodes.dup machine-opcodes.swap machine-opcodes.equal machine-opcodes.eq machine-opcodes.neq machine-opcodes.m_sti machine-opcodes.m_st machine-opcodes.m_muta machine-step.execute machine-step.step machine-run.follow machine-run.run image-image.written image-image.records image-table.load_slot image-table.load_tasks image-table.load_read image-table.load_table memory-allocation.alloc memory-allocation.filling memory-allocation.is_element_tag memory-allocation.offset_aligned memory-allocation.vector memory-allocation.vector_stored storage-storage.len_after storage-storage.room storage-tasks.default_state values-values.fat_pointer values-values.make_vec_tagged values-values.to_fat_pointer values-values.to_vec_val memory-change.inside
examples = record {
  end_call_in_main = refl;
  calldata_value = refl;
  calldata_entries = refl;
  calldata_data = refl;
  calldata_end = refl;
  start_finished = refl;
  start_outcome = refl;
  start_phase = refl;
  start_values = refl;
  start_place = refl;
  pause_outcome = refl;
  pause_finished = refl;
  start_paused = refl;
  continue_paused = refl;
  continue_new = refl;
  continue_new_finished = refl;
  rerun_new = refl;
  rerun_paused = refl;
  start_closes_loops = refl;
  start_finds_room = refl;
  rerun_keeps_loops = refl;
  rerun_finds_no_room = refl;
  start_after_a_rerun = refl;
  ends_in_a_task = refl;
  ends_behind_call = refl;
  start_from_main = refl;
  start_from_main_value = refl;
  rerun_in_a_task = refl;
  rerun_in_a_task_value = refl;
  start_from_main_again = refl;
  sound_new = refl;
  sound_height = refl;
  unsound_height = refl;
  sound_ids = refl;
  unsound_next_id = refl;
  unsound_count = refl;
  unsound_frame = refl;
  unsound_pool = refl;
  create_machine = refl;
  create_next_id = refl;
  create_living = refl;
  create_reference = refl;
  create_blank = refl;
  create_empty = refl;
  create_short_table = refl;
  create_bad_image = refl;
  value_first = refl;
  value_past = refl;
  value_at_the_bottom = refl;
  value_calldata = refl;
  value_paused = refl;
  task_missing = refl;
  task_unsound = refl;
  task_loaded = refl;
  task_title = refl;
  task_without_entry = refl;
  save_bytes = refl;
  save_length = refl;
  save_short = refl;
  save_short_bytes = refl;
  save_loaded = refl;
  save_unsound = refl;
}
