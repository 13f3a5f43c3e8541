-- The contract line of each exported function of text and of the listing, said a second time; what this shows stands in Lines.
use Prim.Native.Nat.{◌%◌, ◌^◌}
use mathlib.Core.Path.{◌≡◌}
use lib.ListN.{take}
use Rattle.labels.specs.Check.{admission}
use Rattle.listing.specs.Listing.{height_of, values_read, line_of_count, line_of_task, line_by, line_count, slot_shown}
use Rattle.report.specs.Reports.{line_of_report, text_of_word}
use Rattle.text.specs.Lines.{lined, put_line, tell_line}
use Rattle.verdict.specs.Verdicts.{line_of_verdict}
use Rattle.listing.proofs as listing
use Rattle.listing.specs.contracts as listing-contracts
use Rattle.report.proofs as report
use Rattle.report.specs.contracts as report-contracts
use Rattle.verdict.proofs as verdict
use Rattle.verdict.specs.contracts as verdict-contracts
use Rattle.contract_lines.proofs.Answers.{Line, Answers}

abbrev pub listing_count_line : Line listing-contracts.count_line.ended
listing_count_line _ out writes counted count r =
    lined r out.exit.now ≡ tell_line writes.entry out.entry.now (line_of_count counted.entry count.entry)

pub listing_count_line_says : {M : Type 1} → listing.count_line.Statement.statement M → Answers M listing-contracts.count_line.ended listing.count_line.Symbol.name listing.count_line.Symbol.code listing_count_line
listing_count_line_says met = met

abbrev pub listing_task_line : Line listing-contracts.task_line.task_line.ended
listing_task_line _ out writes task r =
    lined r out.exit.now ≡ tell_line writes.entry out.entry.now (line_of_task task.entry)

pub listing_task_line_says : {M : Type 1} → listing.task_line.task_line.Statement.statement M → Answers M listing-contracts.task_line.task_line.ended listing.task_line.task_line.Symbol.name listing.task_line.task_line.Symbol.code listing_task_line
listing_task_line_says met = met

abbrev pub listing_height_of : Line listing-contracts.lines.height_of.ended
listing_height_of _ head height r =
    r ≡ height_of head.entry height.entry

pub listing_height_of_says : {M : Type 1} → listing.lines.height_of.Statement.statement M → Answers M listing-contracts.lines.height_of.ended listing.lines.height_of.Symbol.name listing.lines.height_of.Symbol.code listing_height_of
listing_height_of_says met = met

abbrev pub listing_words_of : Line listing-contracts.lines.words_of.ended
listing_words_of _ stack height r =
    r.now ≡ take height.entry stack.entry.now

pub listing_words_of_says : {M : Type 1} → listing.lines.words_of.Statement.statement M → Answers M listing-contracts.lines.words_of.ended listing.lines.words_of.Symbol.name listing.lines.words_of.Symbol.code listing_words_of
listing_words_of_says met = met

abbrev pub listing_line_count : Line listing-contracts.lines.line_count.ended
listing_line_count _ values slots r =
    r ≡ line_count values.entry slots.entry % 2 ^ 64

pub listing_line_count_says : {M : Type 1} → listing.lines.line_count.Statement.statement M → Answers M listing-contracts.lines.line_count.ended listing.lines.line_count.Symbol.name listing.lines.line_count.Symbol.code listing_line_count
listing_line_count_says met = met

abbrev pub listing_slot_shown : Line listing-contracts.lines.slot_shown.ended
listing_slot_shown _ values number r =
    r ≡ slot_shown values.entry number.entry

pub listing_slot_shown_says : {M : Type 1} → listing.lines.slot_shown.Statement.statement M → Answers M listing-contracts.lines.slot_shown.ended listing.lines.slot_shown.Symbol.name listing.lines.slot_shown.Symbol.code listing_slot_shown
listing_slot_shown_says met = met

abbrev pub listing_line_at : Line listing-contracts.lines.line_at.ended
listing_line_at _ out words memory pool ends head entries living task number r =
    lined r out.exit.now ≡ put_line out.entry.now (line_by head.entry (values_read memory.entry.now pool.entry.now ends.entry.now entries.entry words.entry.now) living.entry task.entry number.entry)

pub listing_line_at_says : {M : Type 1} → listing.lines.line_at.Statement.statement M → Answers M listing-contracts.lines.line_at.ended listing.lines.line_at.Symbol.name listing.lines.line_at.Symbol.code listing_line_at
listing_line_at_says met = met

abbrev pub report_report_line : Line report-contracts.report_line.ended
report_report_line _ out report r =
    lined r out.exit.now ≡ put_line out.entry.now (line_of_report report.entry)

pub report_report_line_says : {M : Type 1} → report.report_line.Statement.statement M → Answers M report-contracts.report_line.ended report.report_line.Symbol.name report.report_line.Symbol.code report_report_line
report_report_line_says met = met

abbrev pub report_put_word : Line report-contracts.report_words.put_word.ended
report_put_word _ out word r =
    lined r out.exit.now ≡ put_line out.entry.now (text_of_word word.entry)

pub report_put_word_says : {M : Type 1} → report.report_words.put_word.Statement.statement M → Answers M report-contracts.report_words.put_word.ended report.report_words.put_word.Symbol.name report.report_words.put_word.Symbol.code report_put_word
report_put_word_says met = met

abbrev pub verdict_verdict_line : Line verdict-contracts.verdict_line.ended
verdict_verdict_line _ out program r =
    lined r out.exit.now ≡ put_line out.entry.now (line_of_verdict (admission program.entry.now))

pub verdict_verdict_line_says : {M : Type 1} → verdict.verdict_line.Statement.statement M → Answers M verdict-contracts.verdict_line.ended verdict.verdict_line.Symbol.name verdict.verdict_line.Symbol.code verdict_verdict_line
verdict_verdict_line_says met = met
