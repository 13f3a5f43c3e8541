-- The contract line of each exported function on tasks, the table and the image, said a second time; what this shows stands in Lines.
use lib.ListN.{get_or, length, replicate, set}
use mathlib.Core.Path.{◌≡◌}
use Rattle.image.specs.Image.{header}
use Rattle.image.specs.Writing.{measure_slot, save_slot, stepped, put, puts}
use Rattle.table_image.specs.Loops.{load_records}
use Rattle.storage.specs.Storage.{find, len_after, room, slot_of}
use Rattle.storage.specs.Table.{living_of, set_state_at, sound_table}
use Rattle.storage.specs.Tasks.{after, blank, default_state, new_task, no_such_state, set_state, with_state}
use Rattle.table_image.specs.Creation.{creation_tests}
use Rattle.table_image.specs.Tables.{in_use, loading}
use Rattle.storage.proofs as storage
use Rattle.storage.specs.contracts as storage-contracts
use Rattle.table.proofs as table
use Rattle.table.specs.contracts as table-contracts
use Rattle.image.proofs as image
use Rattle.image.specs.contracts as image-contracts
use Rattle.table_image.proofs as table-image
use Rattle.table_image.specs.contracts as table-image-contracts
use Rattle.contract_lines.proofs.Answers.{Line, Answers}

abbrev pub storage_slot_of : Line storage-contracts.ids.slot_of.ended
storage_slot_of _ id r =
    r ≡ slot_of id.entry

pub storage_slot_of_says : {M : Type 1} → storage.ids.slot_of.Statement.statement M → Answers M storage-contracts.ids.slot_of.ended storage.ids.slot_of.Symbol.name storage.ids.slot_of.Symbol.code storage_slot_of
storage_slot_of_says met = met

abbrev pub storage_find : Line storage-contracts.ids.find.ended
storage_find _ task id r =
    r ≡ find task.entry id.entry

pub storage_find_says : {M : Type 1} → storage.ids.find.Statement.statement M → Answers M storage-contracts.ids.find.ended storage.ids.find.Symbol.name storage.ids.find.Symbol.code storage_find
storage_find_says met = met

abbrev pub storage_room : Line storage-contracts.ids.room.ended
storage_room _ next_id title-len r =
    r ≡ room next_id.entry.0 title-len.entry

pub storage_room_says : {M : Type 1} → storage.ids.room.Statement.statement M → Answers M storage-contracts.ids.room.ended storage.ids.room.Symbol.name storage.ids.room.Symbol.code storage_room
storage_room_says met = met

abbrev pub storage_len_after : Line storage-contracts.ids.len_after.ended
storage_len_after _ count id r =
    r ≡ len_after count.entry id.entry.0

pub storage_len_after_says : {M : Type 1} → storage.ids.len_after.Statement.statement M → Answers M storage-contracts.ids.len_after.ended storage.ids.len_after.Symbol.name storage.ids.len_after.Symbol.code storage_len_after
storage_len_after_says met = met

abbrev pub storage_default_state : Line storage-contracts.states.default_state.ended
storage_default_state _ len r =
    r ≡ default_state len.entry

pub storage_default_state_says : {M : Type 1} → storage.states.default_state.Statement.statement M → Answers M storage-contracts.states.default_state.ended storage.states.default_state.Symbol.name storage.states.default_state.Symbol.code storage_default_state
storage_default_state_says met = met

abbrev pub storage_no_such_state : Line storage-contracts.states.no_such_state.ended
storage_no_such_state _ new_state r =
    r ≡ no_such_state new_state.entry

pub storage_no_such_state_says : {M : Type 1} → storage.states.no_such_state.Statement.statement M → Answers M storage-contracts.states.no_such_state.ended storage.states.no_such_state.Symbol.name storage.states.no_such_state.Symbol.code storage_no_such_state
storage_no_such_state_says met = met

abbrev pub storage_with_state : Line storage-contracts.states.with_state.ended
storage_with_state _ state new_state r =
    r ≡ with_state state.entry new_state.entry

pub storage_with_state_says : {M : Type 1} → storage.states.with_state.Statement.statement M → Answers M storage-contracts.states.with_state.ended storage.states.with_state.Symbol.name storage.states.with_state.Symbol.code storage_with_state
storage_with_state_says met = met

abbrev pub storage_set_state : Line storage-contracts.states.set_state.ended
storage_set_state _ task new_state r =
    after r task.exit.now ≡ set_state task.entry.now new_state.entry

pub storage_set_state_says : {M : Type 1} → storage.states.set_state.Statement.statement M → Answers M storage-contracts.states.set_state.ended storage.states.set_state.Symbol.name storage.states.set_state.Symbol.code storage_set_state
storage_set_state_says met = met

abbrev pub storage_blank : Line storage-contracts.task_types.blank.ended
storage_blank _ r =
    r ≡ blank

pub storage_blank_says : {M : Type 1} → storage.task_types.blank.Statement.statement M → Answers M storage-contracts.task_types.blank.ended storage.task_types.blank.Symbol.name storage.task_types.blank.Symbol.code storage_blank
storage_blank_says met = met

abbrev pub storage_new_task : Line storage-contracts.task_types.new_task.ended
storage_new_task _ id title state instructions_ref r =
    r ≡ new_task id.entry title.entry.now state.entry instructions_ref.entry

pub storage_new_task_says : {M : Type 1} → storage.task_types.new_task.Statement.statement M → Answers M storage-contracts.task_types.new_task.ended storage.task_types.new_task.Symbol.name storage.task_types.new_task.Symbol.code storage_new_task
storage_new_task_says met = met

abbrev pub table_get : Line table-contracts.get.ended
table_get _ table slot r =
    after r table.exit.now ≡ after (get_or table.entry.now slot.entry blank) table.entry.now

pub table_get_says : {M : Type 1} → table.get.Statement.statement M → Answers M table-contracts.get.ended table.get.Symbol.name table.get.Symbol.code table_get
table_get_says met = met

abbrev pub table_put : Line table-contracts.put.ended
table_put _ table slot task _ =
    table.exit.now ≡ set table.entry.now slot.entry task.entry

pub table_put_says : {M : Type 1} → table.put.Statement.statement M → Answers M table-contracts.put.ended table.put.Symbol.name table.put.Symbol.code table_put
table_put_says met = met

abbrev pub table_clear : Line table-contracts.clear.ended
table_clear _ table slot _ =
    table.exit.now ≡ set table.entry.now slot.entry blank

pub table_clear_says : {M : Type 1} → table.clear.Statement.statement M → Answers M table-contracts.clear.ended table.clear.Symbol.name table.clear.Symbol.code table_clear
table_clear_says met = met

abbrev pub table_set_state_at : Line table-contracts.set_state_at.ended
table_set_state_at _ table slot new_state r =
    after r table.exit.now ≡ set_state_at table.entry.now slot.entry new_state.entry

pub table_set_state_at_says : {M : Type 1} → table.set_state_at.Statement.statement M → Answers M table-contracts.set_state_at.ended table.set_state_at.Symbol.name table.set_state_at.Symbol.code table_set_state_at
table_set_state_at_says met = met

abbrev pub table_clear_all : Line table-contracts.slots.clear_all.ended
table_clear_all _ table _ =
    table.exit.now ≡ replicate (length table.entry.now) blank

pub table_clear_all_says : {M : Type 1} → table.slots.clear_all.Statement.statement M → Answers M table-contracts.slots.clear_all.ended table.slots.clear_all.Symbol.name table.slots.clear_all.Symbol.code table_clear_all
table_clear_all_says met = met

abbrev pub table_living : Line table-contracts.slots.living.ended
table_living _ table r =
    after r table.exit.now ≡ after (living_of table.entry.now) table.entry.now

pub table_living_says : {M : Type 1} → table.slots.living.Statement.statement M → Answers M table-contracts.slots.living.ended table.slots.living.Symbol.name table.slots.living.Symbol.code table_living
table_living_says met = met

abbrev pub table_sound : Line table-contracts.slots.sound.ended
table_sound _ table next_id count r =
    after r table.exit.now ≡ after (sound_table table.entry.now next_id.entry.0 count.entry) table.entry.now

pub table_sound_says : {M : Type 1} → table.slots.sound.Statement.statement M → Answers M table-contracts.slots.sound.ended table.slots.sound.Symbol.name table.slots.sound.Symbol.code table_sound
table_sound_says met = met

abbrev pub image_measure_slot : Line image-contracts.sizes.measure_slot.ended
image_measure_slot _ pool ends task entries limit size r =
    stepped r pool.exit.now ends.exit.now ≡ stepped (measure_slot pool.entry.now ends.entry.now entries.entry limit.entry task.entry size.entry) pool.entry.now ends.entry.now

pub image_measure_slot_says : {M : Type 1} → image.sizes.measure_slot.Statement.statement M → Answers M image-contracts.sizes.measure_slot.ended image.sizes.measure_slot.Symbol.name image.sizes.measure_slot.Symbol.code image_measure_slot
image_measure_slot_says met = met

abbrev pub image_save_slot : Line image-contracts.steps.save_slot.ended
image_save_slot _ pool ends save task at r =
    stepped (put r save.exit.now) pool.exit.now ends.exit.now ≡ stepped (save_slot pool.entry.now ends.entry.now task.entry at.entry save.entry.now) pool.entry.now ends.entry.now

pub image_save_slot_says : {M : Type 1} → image.steps.save_slot.Statement.statement M → Answers M image-contracts.steps.save_slot.ended image.steps.save_slot.Symbol.name image.steps.save_slot.Symbol.code image_save_slot
image_save_slot_says met = met

abbrev pub image_write_header : Line image-contracts.writing.write_header.ended
image_write_header _ save next_id count r =
    put r save.exit.now ≡ puts save.entry.now 0 (header next_id.entry.0 count.entry)

pub image_write_header_says : {M : Type 1} → image.writing.write_header.Statement.statement M → Answers M image-contracts.writing.write_header.ended image.writing.write_header.Symbol.name image.writing.write_header.Symbol.code image_write_header
image_write_header_says met = met

abbrev pub table_image_creation_tests : Line table-image-contracts.creation.creation_tests.ended
table_image_creation_tests _ slots pool-lent program image r =
    r ≡ creation_tests slots.entry pool-lent.entry (length program.entry.now) image.entry.now

pub table_image_creation_tests_says : {M : Type 1} → table-image.creation.creation_tests.Statement.statement M → Answers M table-image-contracts.creation.creation_tests.ended table-image.creation.creation_tests.Symbol.name table-image.creation.creation_tests.Symbol.code table_image_creation_tests
table_image_creation_tests_says met = met

abbrev pub table_image_load_table : Line table-image-contracts.loading.load_table.ended
table_image_load_table _ table pool ends image bytes entries count r =
    loading table.exit.now pool.exit.now ends.exit.now r ≡ load_records count.entry image.entry.now 14 (loading (replicate (length table.entry.now) blank) pool.entry.now ends.entry.now (in_use bytes.entry entries.entry))

pub table_image_load_table_says : {M : Type 1} → table-image.loading.load_table.Statement.statement M → Answers M table-image-contracts.loading.load_table.ended table-image.loading.load_table.Symbol.name table-image.loading.load_table.Symbol.code table_image_load_table
table_image_load_table_says met = met
