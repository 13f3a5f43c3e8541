-- The contract line of each exported function of the crates that are slow to prove, said a second time: what is proved of the function is that it answers so.
-- `statement` is what the function's crate proves of it. A proof here is the identity, so a contract that says less, or asks for something, is refused at its line. The first
-- argument of a line, which none reads, is for the lifetimes of what is lent.
use mathlib.Core.Path.{◌≡◌}
use Rattle.text.specs.Lines.{parted, hex_part, lined, put_line, line, tell_line}
use Rattle.listing.specs.Listing.{line_of_head, line_of_value}
use Rattle.memory.specs.Unbox.{part_of}
use Rattle.image.specs.Image.{read_image}
use Rattle.image.specs.Reading
use Rattle.image.specs.Walking.{read_record}
use Rattle.image.specs.Table.{saved_table, save_table}
use Rattle.table_image.specs.Tables.{held}
use Rattle.mechanism.specs.Registers.{on_memory}
use Rattle.mechanism.specs.Fields.{op_t_get_field, op_t_set_field}
use Rattle.mechanism.specs.Frames.{op_call, op_end_call}
use Rattle.machine.specs.World.{world}
use Rattle.machine.specs.Run.{ran_to, run}
use Rattle.machine.specs.Sound.{tested, sound_world}
use Rattle.machine.specs.Creation.{made, create}
use Rattle.machine.specs.Calls.{reported, call}
use Rattle.machine.specs.Reads.{saved_to, host_save, read_to, value_read, task_read}
use Rattle.labels.specs.Check.{admission}
use Rattle.admission.specs.Answer.{answer, answered}
use Rattle.host.specs.Hosting
use Rattle.host.specs.Hosting.{owned}
use Rattle.host.specs.Answering.{ran, rafenuma_run}
use Rattle.host.specs.Numbers.{admitted, packed_admission, packed_image}
use Rattle.printer.specs.Shows
use Rattle.printer.specs.Shows.{lent}
use Rattle.text.proofs as text
use Rattle.text.specs.contracts as text-contracts
use Rattle.image.proofs as image
use Rattle.image.specs.contracts as image-contracts
use Rattle.task_opcodes.proofs.t_fields as t-fields
use Rattle.task_opcodes.specs.contracts.t_fields as t-fields-contracts
use Rattle.stepper.proofs.entering as entering
use Rattle.stepper.specs.contracts.entering as entering-contracts
use Rattle.table_image.proofs as tables
use Rattle.table_image.specs.contracts as tables-contracts
use Rattle.runner.proofs as runner
use Rattle.runner.specs.contracts as runner-contracts
use Rattle.vm.proofs.sound as sound
use Rattle.vm.specs.contracts.sound as sound-contracts
use Rattle.vm.proofs.creating as creating
use Rattle.vm.specs.contracts.creating as creating-contracts
use Rattle.runner.proofs.calling as calling
use Rattle.runner.specs.contracts.calling as calling-contracts
use Rattle.vm.proofs.saving as saving
use Rattle.vm.specs.contracts.saving as saving-contracts
use Rattle.vm.proofs.value_reading as value-reading
use Rattle.vm.specs.contracts.value_reading as value-reading-contracts
use Rattle.vm.proofs.task_reading as task-reading
use Rattle.vm.specs.contracts.task_reading as task-reading-contracts
use Rattle.listing.proofs.head_line as head-line
use Rattle.listing.specs.contracts.head_line as head-line-contracts
use Rattle.listing.proofs.value_line as value-line
use Rattle.listing.specs.contracts.value_line as value-line-contracts
use Rattle.admission.proofs as admission
use Rattle.admission.specs.contracts as admission-contracts
use Rattle.host.proofs.owner as hosting-owner
use Rattle.host.specs.contracts.owner as hosting-owner-contracts
use Rattle.host.proofs.answering as answering
use Rattle.host.specs.contracts.answering as answering-contracts
use Rattle.host.proofs as host
use Rattle.host.specs.contracts as host-contracts
use Rattle.printer.proofs.shows as shows
use Rattle.printer.specs.contracts.shows as shows-contracts
use Rattle.contract_lines.proofs.Answers.{Line, Answers}

abbrev pub text_hex_part : Line text-contracts.hex.hex_part.ended
text_hex_part _ out bytes from r =
    parted r out.exit.now ≡ hex_part out.entry.now bytes.entry.now from.entry

pub text_hex_part_says : {M : Type 1} → text.hex.hex_part.Statement.statement M → Answers M text-contracts.hex.hex_part.ended text.hex.hex_part.Symbol.name text.hex.hex_part.Symbol.code text_hex_part
text_hex_part_says met = met

abbrev pub text_put_line : Line text-contracts.lines.put_line.ended
text_put_line _ out template numbers form bytes r =
    lined r out.exit.now ≡ put_line out.entry.now (line template.entry.now numbers.entry.now form.entry bytes.entry.now)

pub text_put_line_says : {M : Type 1} → text.lines.put_line.Statement.statement M → Answers M text-contracts.lines.put_line.ended text.lines.put_line.Symbol.name text.lines.put_line.Symbol.code text_put_line
text_put_line_says met = met

abbrev pub text_tell_line : Line text-contracts.lines.tell_line.ended
text_tell_line _ out writes template numbers form bytes r =
    lined r out.exit.now ≡ tell_line writes.entry out.entry.now (line template.entry.now numbers.entry.now form.entry bytes.entry.now)

pub text_tell_line_says : {M : Type 1} → text.lines.tell_line.Statement.statement M → Answers M text-contracts.lines.tell_line.ended text.lines.tell_line.Symbol.name text.lines.tell_line.Symbol.code text_tell_line
text_tell_line_says met = met

abbrev pub image_test_image : Line image-contracts.reading.test_image.ended
image_test_image _ image r =
    r ≡ Reading.image_result (read_image image.entry.now)

pub image_test_image_says : {M : Type 1} → image.reading.test_image.Statement.statement M → Answers M image-contracts.reading.test_image.ended image.reading.test_image.Symbol.name image.reading.test_image.Symbol.code image_test_image
image_test_image_says met = met

abbrev pub image_read_record : Line image-contracts.reading.read_record.ended
image_read_record _ image at reference r =
    r ≡ read_record image.entry.now at.entry reference.entry

pub image_read_record_says : {M : Type 1} → image.reading.read_record.Statement.statement M → Answers M image-contracts.reading.read_record.ended image.reading.read_record.Symbol.name image.reading.read_record.Symbol.code image_read_record
image_read_record_says met = met

abbrev pub t_fields_op_t_get_field : Line t-fields-contracts.op_t_get_field.ended
t_fields_op_t_get_field _ stack memory registers next task r =
    on_memory r stack.exit.now memory.exit.now ≡ op_t_get_field stack.entry.now memory.entry.now registers.entry next.entry task.entry

pub t_fields_op_t_get_field_says : {M : Type 1} → t-fields.op_t_get_field.Statement.statement M → Answers M t-fields-contracts.op_t_get_field.ended t-fields.op_t_get_field.Symbol.name t-fields.op_t_get_field.Symbol.code t_fields_op_t_get_field
t_fields_op_t_get_field_says met = met

abbrev pub t_fields_op_t_set_field : Line t-fields-contracts.op_t_set_field.ended
t_fields_op_t_set_field _ stack memory registers next task r =
    r ≡ op_t_set_field stack.entry.now memory.entry.now registers.entry next.entry task.entry

pub t_fields_op_t_set_field_says : {M : Type 1} → t-fields.op_t_set_field.Statement.statement M → Answers M t-fields-contracts.op_t_set_field.ended t-fields.op_t_set_field.Symbol.name t-fields.op_t_set_field.Symbol.code t_fields_op_t_set_field
t_fields_op_t_set_field_says met = met

abbrev pub entering_op_call : Line entering-contracts.op_call.ended
entering_op_call _ stack ends machine next task r =
    r ≡ op_call stack.entry.now ends.entry.now machine.entry next.entry task.entry

pub entering_op_call_says : {M : Type 1} → entering.op_call.Statement.statement M → Answers M entering-contracts.op_call.ended entering.op_call.Symbol.name entering.op_call.Symbol.code entering_op_call
entering_op_call_says met = met

abbrev pub entering_op_end_call : Line entering-contracts.op_end_call.ended
entering_op_end_call _ machine next r =
    r ≡ op_end_call machine.entry next.entry

pub entering_op_end_call_says : {M : Type 1} → entering.op_end_call.Statement.statement M → Answers M entering-contracts.op_end_call.ended entering.op_end_call.Symbol.name entering.op_end_call.Symbol.code entering_op_end_call
entering_op_end_call_says met = met

abbrev pub tables_save_table : Line tables-contracts.save_table.ended
tables_save_table _ table pool ends save entries next_id r =
    held (saved_table r save.exit.now) table.exit.now pool.exit.now ends.exit.now ≡ held (save_table next_id.entry.0 table.entry.now pool.entry.now ends.entry.now entries.entry save.entry.now) table.entry.now pool.entry.now ends.entry.now

pub tables_save_table_says : {M : Type 1} → tables.save_table.Statement.statement M → Answers M tables-contracts.save_table.ended tables.save_table.Symbol.name tables.save_table.Symbol.code tables_save_table
tables_save_table_says met = met

abbrev pub runner_run : Line runner-contracts.run.ended
runner_run _ table stack memory pool ends save machine fuel r =
    ran_to r table.exit.now stack.exit.now memory.exit.now pool.exit.now ends.exit.now save.exit.now ≡ run fuel.entry (world machine.entry table.entry.now stack.entry.now memory.entry.now pool.entry.now ends.entry.now save.entry.now)

pub runner_run_says : {M : Type 1} → runner.run.Statement.statement M → Answers M runner-contracts.run.ended runner.run.Symbol.name runner.run.Symbol.code runner_run
runner_run_says met = met

abbrev pub sound_sound : Line sound-contracts.sound.ended
sound_sound _ table memory pool ends save machine r =
    tested r table.exit.now memory.exit.now pool.exit.now ends.exit.now save.exit.now ≡ tested (sound_world table.entry.now memory.entry.now pool.entry.now ends.entry.now save.entry.now machine.entry) table.entry.now memory.entry.now pool.entry.now ends.entry.now save.entry.now

pub sound_sound_says : {M : Type 1} → sound.sound.Statement.statement M → Answers M sound-contracts.sound.ended sound.sound.Symbol.name sound.sound.Symbol.code sound_sound
sound_sound_says met = met

abbrev pub creating_create : Line creating-contracts.create.ended
creating_create _ table pool ends image program r =
    made r table.exit.now pool.exit.now ends.exit.now ≡ create table.entry.now pool.entry.now ends.entry.now image.entry.now program.entry.now

pub creating_create_says : {M : Type 1} → creating.create.Statement.statement M → Answers M creating-contracts.create.ended creating.create.Symbol.name creating.create.Symbol.code creating_create
creating_create_says met = met

abbrev pub calling_call : Line calling-contracts.call.ended
calling_call _ table stack memory pool ends save machine verb fuel r =
    reported r table.exit.now stack.exit.now memory.exit.now pool.exit.now ends.exit.now save.exit.now ≡ call verb.entry fuel.entry (world machine.entry table.entry.now stack.entry.now memory.entry.now pool.entry.now ends.entry.now save.entry.now)

pub calling_call_says : {M : Type 1} → calling.call.Statement.statement M → Answers M calling-contracts.call.ended calling.call.Symbol.name calling.call.Symbol.code calling_call
calling_call_says met = met

abbrev pub saving_save : Line saving-contracts.save.ended
saving_save _ table stack memory pool ends save machine r =
    saved_to r table.exit.now stack.exit.now memory.exit.now pool.exit.now ends.exit.now save.exit.now ≡ host_save (world machine.entry table.entry.now stack.entry.now memory.entry.now pool.entry.now ends.entry.now save.entry.now)

pub saving_save_says : {M : Type 1} → saving.save.Statement.statement M → Answers M saving-contracts.save.ended saving.save.Symbol.name saving.save.Symbol.code saving_save
saving_save_says met = met

abbrev pub value_reading_read_value : Line value-reading-contracts.read_value.ended
value_reading_read_value _ table stack memory pool ends save machine position r =
    read_to r (world machine.entry table.exit.now stack.exit.now memory.exit.now pool.exit.now ends.exit.now save.exit.now) ≡ value_read position.entry (world machine.entry table.entry.now stack.entry.now memory.entry.now pool.entry.now ends.entry.now save.entry.now)

pub value_reading_read_value_says : {M : Type 1} → value-reading.read_value.Statement.statement M → Answers M value-reading-contracts.read_value.ended value-reading.read_value.Symbol.name value-reading.read_value.Symbol.code value_reading_read_value
value_reading_read_value_says met = met

abbrev pub task_reading_read_task : Line task-reading-contracts.read_task.ended
task_reading_read_task _ table stack memory pool ends save machine id r =
    read_to r (world machine.entry table.exit.now stack.exit.now memory.exit.now pool.exit.now ends.exit.now save.exit.now) ≡ task_read id.entry (world machine.entry table.entry.now stack.entry.now memory.entry.now pool.entry.now ends.entry.now save.entry.now)

pub task_reading_read_task_says : {M : Type 1} → task-reading.read_task.Statement.statement M → Answers M task-reading-contracts.read_task.ended task-reading.read_task.Symbol.name task-reading.read_task.Symbol.code task_reading_read_task
task_reading_read_task_says met = met

abbrev pub head_line_head_line : Line head-line-contracts.head_line.ended
head_line_head_line _ out writes head r =
    lined r out.exit.now ≡ tell_line writes.entry out.entry.now (line_of_head head.entry)

pub head_line_head_line_says : {M : Type 1} → head-line.head_line.Statement.statement M → Answers M head-line-contracts.head_line.ended head-line.head_line.Symbol.name head-line.head_line.Symbol.code head_line_head_line
head_line_head_line_says met = met

abbrev pub value_line_value_line : Line value-line-contracts.value_line.ended
value_line_value_line _ out memory pool ends writes kind r =
    lined r out.exit.now ≡ tell_line writes.entry out.entry.now (line_of_value kind.entry (part_of memory.entry.now pool.entry.now ends.entry.now kind.entry))

pub value_line_value_line_says : {M : Type 1} → value-line.value_line.Statement.statement M → Answers M value-line-contracts.value_line.ended value-line.value_line.Symbol.name value-line.value_line.Symbol.code value_line_value_line
value_line_value_line_says met = met

abbrev pub admission_admit : Line admission-contracts.admit.ended
admission_admit _ program kinds r =
    answer r kinds.exit.now ≡ answered (admission program.entry.now) kinds.entry.now

pub admission_admit_says : {M : Type 1} → admission.admit.Statement.statement M → Answers M admission-contracts.admit.ended admission.admit.Symbol.name admission.admit.Symbol.code admission_admit
admission_admit_says met = met

abbrev pub hosting_own : Line hosting-owner-contracts.own.ended
hosting_own _ stack memory pool ends save image program lines fuel r =
    owned r stack.exit.now memory.exit.now pool.exit.now ends.exit.now save.exit.now lines.exit.now ≡ Hosting.own fuel.entry stack.entry.now memory.entry.now pool.entry.now ends.entry.now save.entry.now image.entry.now program.entry.now lines.entry.now

pub hosting_own_says : {M : Type 1} → hosting-owner.own.Statement.statement M → Answers M hosting-owner-contracts.own.ended hosting-owner.own.Symbol.name hosting-owner.own.Symbol.code hosting_own
hosting_own_says met = met

abbrev pub answering_run : Line answering-contracts.run.ended
answering_run _ memory image program new_image listing answer fuel r =
    ran r memory.exit.now new_image.exit.now listing.exit.now answer.exit.now ≡ rafenuma_run fuel.entry memory.entry.now image.entry.now program.entry.now new_image.entry.now listing.entry.now answer.entry.now

pub answering_run_says : {M : Type 1} → answering.run.Statement.statement M → Answers M answering-contracts.run.ended answering.run.Symbol.name answering.run.Symbol.code answering_run
answering_run_says met = met

abbrev pub host_rafenuma_run : Line host-contracts.rafenuma_run.ended
host_rafenuma_run _ memory image program new_image listing answer fuel r =
    ran r memory.exit.now new_image.exit.now listing.exit.now answer.exit.now ≡ rafenuma_run fuel.entry memory.entry.now image.entry.now program.entry.now new_image.entry.now listing.entry.now answer.entry.now

pub host_rafenuma_run_says : {M : Type 1} → host.rafenuma_run.Statement.statement M → Answers M host-contracts.rafenuma_run.ended host.rafenuma_run.Symbol.name host.rafenuma_run.Symbol.code host_rafenuma_run
host_rafenuma_run_says met = met

abbrev pub host_rafenuma_admit : Line host-contracts.rafenuma_admit.ended
host_rafenuma_admit _ program kinds r =
    admitted r kinds.exit.now ≡ packed_admission (answered (admission program.entry.now) kinds.entry.now)

pub host_rafenuma_admit_says : {M : Type 1} → host.rafenuma_admit.Statement.statement M → Answers M host-contracts.rafenuma_admit.ended host.rafenuma_admit.Symbol.name host.rafenuma_admit.Symbol.code host_rafenuma_admit
host_rafenuma_admit_says met = met

abbrev pub host_rafenuma_test_image : Line host-contracts.rafenuma_test_image.ended
host_rafenuma_test_image _ image r =
    r ≡ packed_image (Reading.image_result (read_image image.entry.now))

pub host_rafenuma_test_image_says : {M : Type 1} → host.rafenuma_test_image.Statement.statement M → Answers M host-contracts.rafenuma_test_image.ended host.rafenuma_test_image.Symbol.name host.rafenuma_test_image.Symbol.code host_rafenuma_test_image
host_rafenuma_test_image_says met = met

abbrev pub shows_own : Line shows-contracts.own.ended
shows_own _ out stack memory pool ends save image program calls from count everything _ =
    lent stack.exit.now memory.exit.now pool.exit.now ends.exit.now save.exit.now calls.exit.now ≡ Shows.own from.entry count.entry stack.entry.now memory.entry.now pool.entry.now ends.entry.now save.entry.now image.entry.now program.entry.now calls.entry.now

pub shows_own_says : {M : Type 1} → shows.own.Statement.statement M → Answers M shows-contracts.own.ended shows.own.Symbol.name shows.own.Symbol.code shows_own
shows_own_says met = met
