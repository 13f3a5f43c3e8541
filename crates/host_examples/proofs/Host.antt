-- Small inputs of the functions for a host, and of the run below them, with their answers computed by the definitions in the contracts.
use Prim.Native.Nat.{ℕ, ◌+◌, ◌*◌}
use mathlib.Core.List.{List, [], ◌∷◌, ◌++◌}
use mathlib.Core.Path.{◌≡◌, refl}
use lib.ListN.{replicate}
use Rattle.errors.specs.declared.Refusal.TheVariants.{StackUnderflow, WrongPhaseOrUnsound}
use Rattle.image.specs.Image.{read_image}
use Rattle.image.specs.Reading.{image_result}
use Rattle.roundtrips.specs.Images.{I1}
use Rattle.text.specs.Ascii.{ascii}
use Rattle.listing.specs.declared.Head.TheVariants.{Done, Refused}
use Rattle.host.specs.Hosting.{Owned, own}
use Rattle.host.specs.Answering.{RunOn, rafenuma_run}
use Rattle.labels.specs.Check.{admission}
use Rattle.admission.specs.Answer.{answered}
use Rattle.host.specs.Numbers.{Admitting, packed_admission, packed_image}
use Rattle.bytecode.specs.Opcodes as bytecode-opcodes
use Rattle.bytecode.specs.Operands as bytecode-operands
use Rattle.inlinevec.specs.Stacks as inlinevec-stacks
use Rattle.values.specs.Values as values-values
use Rattle.pools.specs.Pool as pools-pool
use Rattle.machine.specs.Machines as machine-machines
use Rattle.machine.specs.Titles as machine-fields
use Rattle.machine.specs.World as machine-world
use Rattle.machine.specs.Words as machine-words
use Rattle.machine.specs.Opcodes as machine-opcodes
use Rattle.machine.specs.Step as machine-step
use Rattle.machine.specs.Run as machine-run
use Rattle.storage.specs.Table as storage-table
use Rattle.storage.specs.Tasks as storage-tasks
use Rattle.slices.specs.Same as slices-same
use Rattle.table_image.specs.Creation as creation-creation
use Rattle.image.specs.Image as image-image
use Rattle.slices.specs.Numbers as slices-numbers
use Rattle.image.specs.Reading as image-reading
use Rattle.image.specs.Table as image-table
use Rattle.utf8.specs.Grammar as utf8-grammar
use Rattle.utf8.specs.Utf8 as utf8-utf8
use Rattle.machine.specs.Calls as vm-calls
use Rattle.machine.specs.Creation as vm-creation
use Rattle.machine.specs.Reads as vm-reads
use Rattle.machine.specs.Sound as vm-sound
use Rattle.host.specs.Hosting as hosting-hosting
use Rattle.host.specs.Answering as answering-answering
use Rattle.host.specs.Listings as answering-listings
use Rattle.host.specs.AnsweringNumbers as answering-numbers
use Rattle.listing.specs.Listing as listing-listing
use Rattle.text.specs.Ascii as text-ascii
use Rattle.text.specs.Lines as text-lines
use Rattle.text.specs.Numbers as text-numbers
use Rattle.memory.specs.Unbox as unbox-unbox
use Rattle.labels.specs.Check as labels-check
use Rattle.labels.specs.Elements as labels-elements
use Rattle.labels.specs.Labels as labels-labels
use Rattle.admission.specs.Answer as admission-answer
use Rattle.host.specs.Numbers as host-numbers
use Rattle.std.specs.Prelude.{Ok, Err}

-- 01 00000000 01 00000005 0e 01 00000063 0f
abbrev C1 : List ℕ
C1 = 0x01 ∷ 0x00 ∷ 0x00 ∷ 0x00 ∷ 0x00 ∷ 0x01 ∷ 0x00 ∷ 0x00 ∷ 0x00 ∷ 0x05 ∷ 0x0e ∷ 0x01 ∷ 0x00 ∷ 0x00 ∷ 0x00 ∷ 0x63 ∷ 0x0f ∷ []

-- PUSH_U32 7
abbrev Seven : List ℕ
Seven = 0x01 ∷ 0x00 ∷ 0x00 ∷ 0x00 ∷ 0x07 ∷ []

-- DROP
abbrev Drop : List ℕ
Drop = 0x13 ∷ []

-- PUSH_STATE 0, PUSH_CALLDATA of no bytes
abbrev State_calldata : List ℕ
State_calldata = 0x03 ∷ 0x00 ∷ 0x04 ∷ 0x00 ∷ 0x00 ∷ []

-- the image of no tasks: a lone kind 1 of zeros
abbrev No_tasks : List ℕ
No_tasks = 0x08 ∷ 0 ∷ 0 ∷ 0 ∷ 0x01 ∷ 0 ∷ 0 ∷ 0 ∷ 0 ∷ 0 ∷ 0 ∷ 0 ∷ 0 ∷ 0 ∷ []

-- a run for a host: no image, 16 bytes of memory, 16 of a new image, so many of a listing
abbrev called : ℕ → List ℕ → ℕ → RunOn
called fuel program room = rafenuma_run fuel (replicate 16 0) [] program (replicate 16 255) (replicate room 0) (replicate 8 255)

-- the same run with every buffer lent
abbrev owned : ℕ → List ℕ → Owned
owned fuel program = own fuel (replicate 1000 0) (replicate 16 0) (replicate 64 0) (replicate 1024 0) (replicate 16 255) [] program (replicate 40 0)

-- an admission for a host, with a buffer for kinds
abbrev admits : List ℕ → Admitting
admits program = packed_admission (answered (admission program) (replicate 4 255))

-- the test of an image for a host
abbrev tests : List ℕ → ℕ
tests image = packed_image (image_result (read_image image))

-- the examples
pub record Examples : Type 0 where
  -- C1 is done after five instructions, saved and listed: 0; bytes past the image and past the listing stay
  pub run_done : called 9 C1 40 ≡ record {
    answer = 0;
    memory = replicate 16 0;
    new_image = No_tasks ++ replicate 2 255;
    listing = ascii "done 5\nvalues 1\nu32 99\ntasks 0\n" ++ replicate 9 0;
    numbers = 0 ∷ 5 ∷ 0 ∷ 0 ∷ 0 ∷ 31 ∷ 14 ∷ 31 ∷ [];
  }
  -- with fuel 2 it is paused: its tasks are saved, its values are not listed
  pub run_paused : called 2 C1 40 ≡ record {
    answer = 1;
    memory = replicate 16 0;
    new_image = No_tasks ++ replicate 2 255;
    listing = ascii "paused 2\nvalues 0\ntasks 0\n" ++ replicate 14 0;
    numbers = 1 ∷ 2 ∷ 0 ∷ 0 ∷ 0 ∷ 26 ∷ 14 ∷ 26 ∷ [];
  }
  -- an empty program is refused with 1, and the new image is as it was
  pub run_refused : called 9 [] 40 ≡ record {
    answer = 2 + 256 * 1;
    memory = replicate 16 0;
    new_image = replicate 16 255;
    listing = ascii "refused 1\nvalues 0\ntasks 0\n" ++ replicate 13 0;
    numbers = 2 ∷ 0 ∷ 1 ∷ 0 ∷ 0 ∷ 27 ∷ 0 ∷ 27 ∷ [];
  }
  -- a buffer that is one byte too short for the listing: 24 in the third byte, and not a byte of it is written
  pub run_unlisted : called 9 C1 30 ≡ record {
    answer = 65536 * 24;
    memory = replicate 16 0;
    new_image = No_tasks ++ replicate 2 255;
    listing = replicate 30 0;
    numbers = 0 ∷ 5 ∷ 0 ∷ 0 ∷ 0 ∷ 0 ∷ 14 ∷ 31 ∷ [];
  }
  -- C1 with every buffer lent: one value, and an image of 14 bytes
  pub own_done : (owned 9 C1).answer ≡ record {
    head = Done 5;
    finished = 5;
    save = Ok 14;
    saved = 14;
    listing = record { written = 31; needed = 31 };
  }
  -- the image, from the start of the save buffer
  pub own_done_image : (owned 9 C1).save ≡ No_tasks ++ replicate 2 255
  -- DROP on an empty stack is refused with 3, and no refused run is saved
  pub own_refused : (owned 9 Drop).answer ≡ record {
    head = Refused StackUnderflow;
    finished = 0;
    save = Err WrongPhaseOrUnsound;
    saved = 0;
    listing = record { written = 27; needed = 27 };
  }
  -- the save buffer is as it was
  pub own_refused_image : (owned 9 Drop).save ≡ replicate 16 255
  -- C1 is not admitted, at its LOOP: 27, its place, and the kinds' buffer as it was
  pub admit_refused : admits C1 ≡ record {
    answer = 27 + 256 * 16;
    kinds = replicate 4 255;
  }
  -- one number, admitted: one kind, and its letter at the buffer's head
  pub admit_number : admits Seven ≡ record {
    answer = 256 * 1;
    kinds = 78 ∷ replicate 3 255;
  }
  -- a number and calldata above it: N C, bottom first
  pub admit_bottom_first : admits State_calldata ≡ record {
    answer = 256 * 2;
    kinds = 78 ∷ 67 ∷ replicate 2 255;
  }
  -- an empty program: 1, at no place
  pub admit_empty : admits [] ≡ record {
    answer = 1;
    kinds = replicate 4 255;
  }
  -- image I1 is sound
  pub image_sound : tests I1 ≡ 0
  -- a byte left over behind a lone kind 1: 25, and where that byte is
  pub image_left_over : tests (No_tasks ++ 0 ∷ []) ≡ 25 + 256 * 14

pub examples : Examples
unfolding bytecode-opcodes.operand_size bytecode-operands.big_endian bytecode-operands.operand bytecode-operands.data_size bytecode-operands.behind bytecode-operands.extent inlinevec-stacks.if_room inlinevec-stacks.if_some inlinevec-stacks.push inlinevec-stacks.pop inlinevec-stacks.push_two inlinevec-stacks.last_two inlinevec-stacks.pop_two inlinevec-stacks.change_two inlinevec-stacks.push_onto inlinevec-stacks.pop_off values-values.make_scalar_tagged values-values.is_scalar values-values.is_vec values-values.raw_tag values-values.to_u32 values-values.scalar_type values-values.get_value_type pools-pool.end_of pools-pool.start_of pools-pool.entry_of pools-pool.has_room pools-pool.interned pools-pool.never_fall pools-pool.end_to_end storage-table.lives storage-table.living_of storage-table.sound_slot storage-table.sound_slots storage-table.sound_counts storage-table.sound_table storage-tasks.blank slices-same.same creation-creation.image_tests creation-creation.creation_tests image-image.record_of image-image.header image-image.headed image-image.good image-image.task_before image-image.read_from image-image.with_count image-image.read_image slices-numbers.little_endian slices-numbers.number_at image-reading.s_len_of image-reading.instruction_bytes image-reading.image_result image-table.living_tasks image-table.refusal_by image-table.task_refusal image-table.or_else image-table.first_refusal image-table.image_of_tasks image-table.saved_over image-table.saved_unless image-table.save_tasks image-table.save_table utf8-grammar.UTF8_char utf8-utf8.holds utf8-utf8.lead utf8-utf8.from utf8-utf8.valid vm-calls.may_start vm-calls.may_continue vm-calls.allowed vm-calls.ended vm-calls.report vm-calls.call_with vm-calls.call vm-creation.create vm-creation.create_fit vm-creation.create_behind vm-reads.host_saved vm-reads.host_save vm-sound.sound_frames vm-sound.sound_lengths vm-sound.sound_record vm-sound.sound_world vm-creation.machine_of hosting-hosting.machine_to_save answering-listings.run_head answering-listings.head_of hosting-hosting.performed hosting-hosting.with_saved_image hosting-hosting.with_run hosting-hosting.with_creation hosting-hosting.perform vm-creation.blank_table hosting-hosting.own answering-answering.new_stack answering-answering.new_ends answering-answering.new_pool answering-answering.with_owned answering-answering.rafenuma_run answering-numbers.save_reason answering-numbers.reason_of answering-numbers.outcome_of answering-numbers.listing_number answering-numbers.answers listing-listing.height_of listing-listing.values_read listing-listing.line_of_refusal listing-listing.line_of_head listing-listing.line_of_count listing-listing.line_of_value listing-listing.line_of_task text-ascii.ascii text-lines.formed text-lines.line text-lines.said text-numbers.digit text-numbers.digits text-numbers.decimal text-numbers.spaced text-numbers.filled_in text-numbers.numbers_left text-numbers.filled unbox-unbox.by_type unbox-unbox.unbox_value labels-check.label_from labels-check.label_at labels-check.first_failing labels-check.first_without_rule labels-check.first_wrong_jump labels-check.swept labels-check.admission labels-elements.joined labels-elements.element_end labels-elements.moving_element labels-elements.plain_element labels-elements.whole_element labels-elements.element labels-labels.exchanged labels-labels.kinds_after labels-labels.loops_after labels-labels.bounded labels-labels.rule labels-labels.next_label admission-answer.answered host-numbers.admission_number host-numbers.packed_image machine-machines.current machine-machines.with_current machine-machines.code_of machine-machines.op_at machine-machines.placed machine-machines.rewound machine-fields.within machine-fields.title_bytes machine-world.at_end machine-words.test machine-words.operand_found machine-words.popped machine-words.looked_at machine-words.push machine-words.calculated machine-words.pointed machine-words.bytes_of machine-words.allocated machine-words.store machine-words.element_changed machine-words.loop_pushed machine-words.loop_popped machine-words.loop_looked_at machine-words.frame_pushed machine-words.frame_popped machine-words.bounds_found machine-words.interned machine-words.found machine-words.first_state machine-words.has_state machine-words.with_room machine-words.saved machine-opcodes.push_u32 machine-opcodes.push_byte machine-opcodes.push_calldata machine-opcodes.mul machine-opcodes.muli machine-opcodes.compare machine-opcodes.t_create machine-opcodes.get_field machine-opcodes.t_get_field machine-opcodes.set_field machine-opcodes.t_set_field machine-opcodes.t_delete machine-opcodes.s_save machine-opcodes.s_len machine-opcodes.«do» machine-opcodes.loop machine-opcodes.loop_index machine-opcodes.enter machine-opcodes.call_task machine-opcodes.end_call machine-opcodes.jump_if_false machine-opcodes.drops machine-opcodes.dup machine-opcodes.swap machine-opcodes.equal machine-opcodes.eq machine-opcodes.neq machine-opcodes.m_sti machine-opcodes.m_st machine-opcodes.m_muta machine-step.execute machine-step.step machine-run.follow machine-run.run image-image.written image-image.records image-table.load_slot image-table.load_tasks image-table.load_read image-table.load_table hosting-hosting.with_listing answering-listings.list_whole answering-listings.list_run answering-listings.told_length listing-listing.listing listing-listing.lines_of_values listing-listing.lines_of_tasks
examples = record {
  run_done = refl;
  run_paused = refl;
  run_refused = refl;
  run_unlisted = refl;
  own_done = refl;
  own_done_image = refl;
  own_refused = refl;
  own_refused_image = refl;
  admit_refused = refl;
  admit_number = refl;
  admit_bottom_first = refl;
  admit_empty = refl;
  image_sound = refl;
  image_left_over = refl;
}
