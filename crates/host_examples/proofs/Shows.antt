-- Small lists of calls on a machine, and what of everything lent the definition of the calls leaves, computed.
use Prim.Native.Nat.{ℕ}
use mathlib.Core.List.{List, [], ◌∷◌, ◌++◌}
use mathlib.Core.Path.{◌≡◌, refl}
use lib.ListN.{replicate, get_or}
use Rattle.values.specs.Values.{to_u32_val}
use Rattle.printer.specs.Shows.{Lent, own}
use Rattle.bytecode.specs.Opcodes as bytecode-opcodes
use Rattle.bytecode.specs.Operands as bytecode-operands
use Rattle.inlinevec.specs.Stacks as inlinevec-stacks
use Rattle.values.specs.Values as values-values
use Rattle.pools.specs.Pool as pools-pool
use Rattle.machine.specs.Machines as machine-machines
use Rattle.machine.specs.Titles as machine-fields
use Rattle.machine.specs.World as machine-world
use Rattle.machine.specs.Words as machine-words
use Rattle.machine.specs.Opcodes as machine-opcodes
use Rattle.machine.specs.Step as machine-step
use Rattle.machine.specs.Run as machine-run
use Rattle.storage.specs.Table as storage-table
use Rattle.storage.specs.Tasks as storage-tasks
use Rattle.table_image.specs.Creation as creation-creation
use Rattle.image.specs.Image as image-image
use Rattle.slices.specs.Numbers as slices-numbers
use Rattle.image.specs.Reading as image-reading
use Rattle.image.specs.Table as image-table
use Rattle.machine.specs.Calls as vm-calls
use Rattle.machine.specs.Creation as vm-creation
use Rattle.machine.specs.Reads as vm-reads
use Rattle.machine.specs.Sound as vm-sound
use Rattle.printer.specs.Asked as shows-asked
use Rattle.printer.specs.Shows as shows-shows

-- 01 00000000 01 00000005 0e 01 00000063 0f
abbrev C1 : List ℕ
C1 = 0x01 ∷ 0x00 ∷ 0x00 ∷ 0x00 ∷ 0x00 ∷ 0x01 ∷ 0x00 ∷ 0x00 ∷ 0x00 ∷ 0x05 ∷ 0x0e ∷ 0x01 ∷ 0x00 ∷ 0x00 ∷ 0x00 ∷ 0x63 ∷ 0x0f ∷ []

-- 0d 0d 0e 03 09: a loop that stays open, and 9
abbrev Open_loop : List ℕ
Open_loop = 0x0d ∷ 0x0d ∷ 0x0e ∷ 0x03 ∷ 0x09 ∷ []

-- the image of no tasks: a lone kind 1 of zeros
abbrev No_tasks : List ℕ
No_tasks = 0x08 ∷ 0 ∷ 0 ∷ 0 ∷ 0x01 ∷ 0 ∷ 0 ∷ 0 ∷ 0 ∷ 0 ∷ 0 ∷ 0 ∷ 0 ∷ 0 ∷ []

-- a call as nine bytes: its verb, and its fuel, the lowest byte first
abbrev starts : ℕ → List ℕ
starts fuel = 0 ∷ fuel ∷ 0 ∷ 0 ∷ 0 ∷ 0 ∷ 0 ∷ 0 ∷ 0 ∷ []

abbrev continues : ℕ → List ℕ
continues fuel = 1 ∷ fuel ∷ 0 ∷ 0 ∷ 0 ∷ 0 ∷ 0 ∷ 0 ∷ 0 ∷ []

abbrev reruns : ℕ → List ℕ
reruns fuel = 3 ∷ fuel ∷ 0 ∷ 0 ∷ 0 ∷ 0 ∷ 0 ∷ 0 ∷ 0 ∷ []

abbrev saves : List ℕ
saves = 2 ∷ replicate 8 0

-- so many calls on a machine of a program, with no image
abbrev asked : ℕ → List ℕ → List ℕ → Lent
asked count program calls = own 0 count (replicate 1000 0) (replicate 16 0) (replicate 64 0) (replicate 1024 0) (replicate 16 255) [] program calls

-- the first value
abbrev first : Lent → ℕ
first lent = get_or lent.stack 0 0

-- the examples
pub record Examples : Type 0 where
  -- C1 started with fuel for all of it: one value, 99
  pub started : first (asked 1 C1 (starts 9)) ≡ to_u32_val 99
  -- started with fuel for two instructions: 0 is pushed, then 5
  pub paused : first (asked 1 C1 (starts 2)) ≡ to_u32_val 0
  -- and then continued: what one run of it leaves
  pub continued : (asked 2 C1 (starts 2 ++ continues 9)).stack ≡ (asked 1 C1 (starts 9)).stack
  -- start is not for a paused machine
  pub not_restarted : first (asked 2 C1 (starts 2 ++ starts 9)) ≡ to_u32_val 0
  -- started three times: each run begins with no loop open, and ends with 9
  pub restarted : first (asked 3 Open_loop (starts 9 ++ starts 9 ++ starts 9)) ≡ to_u32_val 9
  -- rerun twice: the last run finds two loops open, and is refused at its DO, with two numbers 0 on the stack
  pub rerun_twice : first (asked 3 Open_loop (starts 9 ++ reruns 9 ++ reruns 9)) ≡ to_u32_val 0
  -- no more calls are performed than were asked for
  pub not_continued : first (asked 1 C1 (starts 2 ++ continues 9)) ≡ to_u32_val 0
  -- a save writes the image; bytes past it stay
  pub saved : (asked 2 C1 (starts 9 ++ saves)).save ≡ No_tasks ++ replicate 2 255
  -- a run alone saves nothing
  pub not_saved : (asked 1 C1 (starts 9)).save ≡ replicate 16 255
  -- no call is performed where creation is refused: an empty program
  pub not_created : (asked 1 [] saves).save ≡ replicate 16 255

pub examples : Examples
unfolding bytecode-opcodes.operand_size bytecode-operands.big_endian bytecode-operands.operand bytecode-operands.data_size bytecode-operands.behind bytecode-operands.extent inlinevec-stacks.if_room inlinevec-stacks.if_some inlinevec-stacks.push inlinevec-stacks.pop inlinevec-stacks.push_two inlinevec-stacks.last_two inlinevec-stacks.pop_two inlinevec-stacks.change_two inlinevec-stacks.push_onto inlinevec-stacks.pop_off values-values.make_scalar_tagged values-values.to_u32 pools-pool.end_of pools-pool.start_of pools-pool.entry_of pools-pool.has_room pools-pool.interned pools-pool.never_fall pools-pool.end_to_end storage-table.sound_slot storage-table.sound_slots storage-table.sound_counts storage-table.sound_table storage-tasks.blank creation-creation.image_tests creation-creation.creation_tests image-image.record_of image-image.header image-image.read_image slices-numbers.little_endian slices-numbers.number_at image-reading.s_len_of image-reading.instruction_bytes image-reading.image_result image-table.living_tasks image-table.refusal_by image-table.task_refusal image-table.or_else image-table.first_refusal image-table.image_of_tasks image-table.saved_over image-table.saved_unless image-table.save_tasks image-table.save_table vm-calls.may_start vm-calls.may_continue vm-calls.allowed vm-calls.ended vm-calls.report vm-calls.call_with vm-calls.call vm-creation.create vm-creation.create_fit vm-creation.create_behind vm-reads.host_save vm-sound.sound_frames vm-sound.sound_lengths vm-sound.sound_record vm-sound.sound_world shows-asked.call_at shows-asked.verb_at shows-asked.fuel_at shows-asked.verb_of shows-asked.ran vm-creation.machine_of shows-asked.count_of shows-shows.performed shows-shows.after_call shows-shows.after_calls shows-shows.played vm-creation.blank_table shows-shows.own machine-machines.current machine-machines.with_current machine-machines.code_of machine-machines.op_at machine-machines.placed machine-machines.rewound machine-fields.within machine-fields.title_bytes machine-world.at_end machine-words.test machine-words.operand_found machine-words.popped machine-words.looked_at machine-words.push machine-words.calculated machine-words.pointed machine-words.bytes_of machine-words.allocated machine-words.store machine-words.element_changed machine-words.loop_pushed machine-words.loop_popped machine-words.loop_looked_at machine-words.frame_pushed machine-words.frame_popped machine-words.bounds_found machine-words.interned machine-words.found machine-words.first_state machine-words.has_state machine-words.with_room machine-words.saved machine-opcodes.push_u32 machine-opcodes.push_byte machine-opcodes.push_calldata machine-opcodes.mul machine-opcodes.muli machine-opcodes.compare machine-opcodes.t_create machine-opcodes.get_field machine-opcodes.t_get_field machine-opcodes.set_field machine-opcodes.t_set_field machine-opcodes.t_delete machine-opcodes.s_save machine-opcodes.s_len machine-opcodes.«do» machine-opcodes.loop machine-opcodes.loop_index machine-opcodes.enter machine-opcodes.call_task machine-opcodes.end_call machine-opcodes.jump_if_false machine-opcodes.drops machine-opcodes.dup machine-opcodes.swap machine-opcodes.equal machine-opcodes.eq machine-opcodes.neq machine-opcodes.m_sti machine-opcodes.m_st machine-opcodes.m_muta machine-step.execute machine-step.step machine-run.follow machine-run.run image-image.written image-image.records image-table.load_slot image-table.load_tasks image-table.load_read image-table.load_table
examples = record {
  started = refl;
  paused = refl;
  continued = refl;
  not_restarted = refl;
  restarted = refl;
  rerun_twice = refl;
  not_continued = refl;
  saved = refl;
  not_saved = refl;
  not_created = refl;
}
