-- What the contracts say of small inputs: their equations, and what was computed of the definitions in these.
use mathlib.Core.Bool.{true}
use mathlib.Core.List.{[], ◌∷◌}
use mathlib.Core.Path.{◌≡◌, ap, ◌∙◌}
use lib.ListN.{replicate}
use Rattle.errors.specs.declared.Refusal.TheVariants.{EmptyInstructions, MSliceOutOfBounds, SaveBufferTooShort, TaskNotFound}
use Rattle.storage.specs.Tasks.{blank}
use Rattle.text.specs.Ascii.{ascii}
use Rattle.text.specs.Lines.{parted, hex_part, lined, tell_line}
use Rattle.listing.specs.declared.Head.TheVariants.{Refused}
use Rattle.listing.specs.Listing.{line_of_head}
use Rattle.memory.specs.declared.unbox.Return.TheVariants.{U32}
use Rattle.machine.specs.declared.Outcome.TheVariants.{Done}
use Rattle.machine.specs.World.{World, world}
use Rattle.machine.specs.Run.{run}
use Rattle.machine.specs.declared.Verb.TheVariants.{Start}
use Rattle.machine.specs.Sound.{sound_world}
use Rattle.machine.specs.Creation.{create}
use Rattle.machine.specs.Calls.{Reported, call, start}
use Rattle.machine.specs.Reads.{host_save, task_read, value_read}
use Rattle.examples.proofs.Lines.{in_hex, refused_14}
use Rattle.cases.specs.Cases.{fresh_world, C1}
use Rattle.cases.proofs.Table.{instructions}
use Rattle.cases.proofs.Calls.{examples}
use Rattle.text.proofs as text
use Rattle.text.specs.contracts as text-contracts
use Rattle.listing.proofs.head_line as head-line
use Rattle.listing.specs.contracts.head_line as head-line-contracts
use Rattle.runner.proofs as runner
use Rattle.runner.specs.contracts as runner-contracts
use Rattle.vm.proofs.sound as sound
use Rattle.vm.specs.contracts.sound as sound-contracts
use Rattle.vm.proofs.creating as creating
use Rattle.vm.specs.contracts.creating as creating-contracts
use Rattle.runner.proofs.calling as calling
use Rattle.runner.specs.contracts.calling as calling-contracts
use Rattle.vm.proofs.saving as saving
use Rattle.vm.specs.contracts.saving as saving-contracts
use Rattle.vm.proofs.value_reading as value-reading
use Rattle.vm.specs.contracts.value_reading as value-reading-contracts
use Rattle.vm.proofs.task_reading as task-reading
use Rattle.vm.specs.contracts.task_reading as task-reading-contracts
use Rattle.contract_lines.proofs.Answers.{Line, Answers, so}
use Rattle.contract_lines.proofs.Lines as lines
use Rattle.std.specs.Prelude.{Ok, Err}

-- a new machine of C1, started with fuel 9
abbrev started : Reported
started = start 9 (fresh_world C1)

-- and everything lent to it after that
abbrev after : World
after = world started.report.machine started.table started.stack started.memory started.pool started.ends started.save

-- 00 1f 02 from its second byte on, into three bytes: one byte in hex, and the third byte stays
abbrev pub hex_part_of_one : Line text-contracts.hex.hex_part.ended
hex_part_of_one _ out bytes from r =
    out.entry.now ≡ 7 ∷ 7 ∷ 7 ∷ [] → bytes.entry.now ≡ 0 ∷ 31 ∷ 2 ∷ [] → from.entry ≡ 1 → parted r out.exit.now ≡ parted (record { length = 2; next = 2 }) (49 ∷ 102 ∷ 7 ∷ [])

pub hex_part_of_one_says : {M : Type 1} → text.hex.hex_part.Statement.statement M → Answers M text-contracts.hex.hex_part.ended text.hex.hex_part.Symbol.name text.hex.hex_part.Symbol.code hex_part_of_one
hex_part_of_one_says met =
    so text-contracts.hex.hex_part.ended text.hex.hex_part.Symbol.name text.hex.hex_part.Symbol.code lines.text_hex_part hex_part_of_one (lines.text_hex_part_says met) (λ _ out bytes from r e o b f. e ∙ (λ i. hex_part (o i) (b i) (f i)) ∙ in_hex)

-- a refusal's two details, in their order
abbrev pub head_line_of_14 : Line head-line-contracts.head_line.ended
head_line_of_14 _ out writes head r =
    head.entry ≡ Refused (MSliceOutOfBounds 4 6) → lined r out.exit.now ≡ tell_line writes.entry out.entry.now (ascii "refused 14 4 6\n")

pub head_line_of_14_says : {M : Type 1} → head-line.head_line.Statement.statement M → Answers M head-line-contracts.head_line.ended head-line.head_line.Symbol.name head-line.head_line.Symbol.code head_line_of_14
head_line_of_14_says met =
    so head-line-contracts.head_line.ended head-line.head_line.Symbol.name head-line.head_line.Symbol.code lines.head_line_head_line head_line_of_14 (lines.head_line_head_line_says met) (λ _ out writes head r e h. e ∙ (λ i. tell_line writes.entry out.entry.now (line_of_head (h i))) ∙ ap (tell_line writes.entry out.entry.now) refused_14)

-- a run of C1 is done with fuel 5
abbrev pub run_of_C1 : Line runner-contracts.run.ended
run_of_C1 _ table stack memory pool ends save machine fuel r =
    world machine.entry table.entry.now stack.entry.now memory.entry.now pool.entry.now ends.entry.now save.entry.now ≡ fresh_world C1 → fuel.entry ≡ 5 → r.outcome ≡ Done

pub run_of_C1_says : {M : Type 1} → runner.run.Statement.statement M → Answers M runner-contracts.run.ended runner.run.Symbol.name runner.run.Symbol.code run_of_C1
run_of_C1_says met =
    so runner-contracts.run.ended runner.run.Symbol.name runner.run.Symbol.code lines.runner_run run_of_C1 (lines.runner_run_says met) (λ _ table stack memory pool ends save machine fuel r e w f. ap (λ t. t.outcome) (e ∙ (λ i. run (f i) (w i))) ∙ instructions.at_the_end.0)

-- a new machine is sound
abbrev pub sound_of_C1 : Line sound-contracts.sound.ended
sound_of_C1 _ table memory pool ends save machine r =
    table.entry.now ≡ (fresh_world C1).table → memory.entry.now ≡ (fresh_world C1).memory → pool.entry.now ≡ (fresh_world C1).pool → ends.entry.now ≡ (fresh_world C1).ends → save.entry.now ≡ (fresh_world C1).save → machine.entry ≡ (fresh_world C1).machine → r ≡ true

pub sound_of_C1_says : {M : Type 1} → sound.sound.Statement.statement M → Answers M sound-contracts.sound.ended sound.sound.Symbol.name sound.sound.Symbol.code sound_of_C1
sound_of_C1_says met =
    so sound-contracts.sound.ended sound.sound.Symbol.name sound.sound.Symbol.code lines.sound_sound sound_of_C1 (lines.sound_sound_says met) (λ _ table memory pool ends save machine r e t m p n s c. ap (λ t. t.answer) e ∙ (λ i. sound_world (t i) (m i) (p i) (n i) (s i) (c i)) ∙ examples.sound_new)

-- an empty program is 1, before 25
abbrev pub create_of_nothing : Line creating-contracts.create.ended
create_of_nothing _ table pool ends image program r =
    table.entry.now ≡ replicate 256 blank → pool.entry.now ≡ replicate 16 0 → ends.entry.now ≡ replicate 1024 0 → image.entry.now ≡ 0x00 ∷ [] → program.entry.now ≡ [] → r ≡ Err EmptyInstructions

pub create_of_nothing_says : {M : Type 1} → creating.create.Statement.statement M → Answers M creating-contracts.create.ended creating.create.Symbol.name creating.create.Symbol.code create_of_nothing
create_of_nothing_says met =
    so creating-contracts.create.ended creating.create.Symbol.name creating.create.Symbol.code lines.creating_create create_of_nothing (lines.creating_create_says met) (λ _ table pool ends image program r e t p n m g. ap (λ t. t.answer) (e ∙ (λ i. create (t i) (p i) (n i) (m i) (g i))) ∙ examples.create_empty)

-- C1, started with fuel 9, finishes five instructions
abbrev pub call_of_C1 : Line calling-contracts.call.ended
call_of_C1 _ table stack memory pool ends save machine verb fuel r =
    world machine.entry table.entry.now stack.entry.now memory.entry.now pool.entry.now ends.entry.now save.entry.now ≡ fresh_world C1 → verb.entry ≡ Start → fuel.entry ≡ 9 → r.finished ≡ 5

pub call_of_C1_says : {M : Type 1} → calling.call.Statement.statement M → Answers M calling-contracts.call.ended calling.call.Symbol.name calling.call.Symbol.code call_of_C1
call_of_C1_says met =
    so calling-contracts.call.ended calling.call.Symbol.name calling.call.Symbol.code lines.calling_call call_of_C1 (lines.calling_call_says met) (λ _ table stack memory pool ends save machine verb fuel r e w v f. ap (λ t. t.report.finished) (e ∙ (λ i. call (v i) (f i) (w i))) ∙ examples.start_finished)

-- a save buffer that is too short is 24, and nothing is written
abbrev pub save_of_C1 : Line saving-contracts.save.ended
save_of_C1 _ table stack memory pool ends save machine r =
    world machine.entry table.entry.now stack.entry.now memory.entry.now pool.entry.now ends.entry.now save.entry.now ≡ world (fresh_world C1).machine (fresh_world C1).table (fresh_world C1).stack (fresh_world C1).memory (fresh_world C1).pool (fresh_world C1).ends (replicate 13 0xff) → (r.result ≡ Err SaveBufferTooShort) × (save.exit.now ≡ replicate 13 0xff)

pub save_of_C1_says : {M : Type 1} → saving.save.Statement.statement M → Answers M saving-contracts.save.ended saving.save.Symbol.name saving.save.Symbol.code save_of_C1
save_of_C1_says met =
    so saving-contracts.save.ended saving.save.Symbol.name saving.save.Symbol.code lines.saving_save save_of_C1 (lines.saving_save_says met) (λ _ table stack memory pool ends save machine r e w. (ap (λ t. t.report.result) (e ∙ ap host_save w) ∙ examples.save_short, ap (λ t. t.save) (e ∙ ap host_save w) ∙ examples.save_short_bytes))

-- C1's value
abbrev pub value_of_C1 : Line value-reading-contracts.read_value.ended
value_of_C1 _ table stack memory pool ends save machine position r =
    world machine.entry table.entry.now stack.entry.now memory.entry.now pool.entry.now ends.entry.now save.entry.now ≡ after → position.entry ≡ 0 → r ≡ Ok (U32 99)

pub value_of_C1_says : {M : Type 1} → value-reading.read_value.Statement.statement M → Answers M value-reading-contracts.read_value.ended value-reading.read_value.Symbol.name value-reading.read_value.Symbol.code value_of_C1
value_of_C1_says met =
    so value-reading-contracts.read_value.ended value-reading.read_value.Symbol.name value-reading.read_value.Symbol.code lines.value_reading_read_value value_of_C1 (lines.value_reading_read_value_says met) (λ _ table stack memory pool ends save machine position r e w p. ap (λ t. t.answer) (e ∙ (λ i. value_read (p i) (w i))) ∙ examples.value_first)

-- no such task is 9 with the id
abbrev pub task_of_C1 : Line task-reading-contracts.read_task.ended
task_of_C1 _ table stack memory pool ends save machine id r =
    world machine.entry table.entry.now stack.entry.now memory.entry.now pool.entry.now ends.entry.now save.entry.now ≡ fresh_world C1 → id.entry ≡ record { 0 = 3 } → r.result ≡ Err (TaskNotFound 3)

pub task_of_C1_says : {M : Type 1} → task-reading.read_task.Statement.statement M → Answers M task-reading-contracts.read_task.ended task-reading.read_task.Symbol.name task-reading.read_task.Symbol.code task_of_C1
task_of_C1_says met =
    so task-reading-contracts.read_task.ended task-reading.read_task.Symbol.name task-reading.read_task.Symbol.code lines.task_reading_read_task task_of_C1 (lines.task_reading_read_task_says met) (λ _ table stack memory pool ends save machine id r e w p. ap (λ t. t.answer.result) (e ∙ (λ i. task_read (p i) (w i))) ∙ examples.task_missing)
