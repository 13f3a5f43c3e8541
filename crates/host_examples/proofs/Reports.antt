-- Lines of a replay and of a verdict, computed from `report` and `verdict`.
use mathlib.Core.List.{[], ◌∷◌}
use mathlib.Core.Path.{◌≡◌, refl}
use Rattle.errors.specs.declared.Refusal.TheVariants.{NotAdmitted}
use Rattle.labels.specs.Check.{admitted, refused}
use Rattle.labels.specs.declared.Kind.TheVariants.{Calldata, Number}
use Rattle.text.specs.Ascii.{ascii}
use Rattle.text.specs.Lines.{formed, line, said}
use Rattle.text.specs.Numbers.{digit, digits, decimal, hex, spaced, words, filled_in, numbers_left, filled}
use Rattle.listing.specs.Listing.{line_of_refusal, line_of_head}
use Rattle.report.specs.Reports.{line_of_report, text_of_word}
use Rattle.report.specs.declared.Report.{Report}
use Rattle.verdict.specs.Verdicts.{line_of_verdict, line_of_kinds}
use Rattle.report.specs.declared.Report.TheVariants as report
use Rattle.report.specs.declared.Word.TheVariants as word
use Rattle.machine.specs.Creation.{new_machine}

-- a loop at place 7, its index 1 below its limit 3
abbrev loop : Report
loop = report.Open (record { place = 7; index = 1; limit = 3 })

-- a new machine over 5 bytes of the pool in 2 entries, with next id 4 and S_LEN count 3
abbrev machine : Report
machine = report.After (new_machine 5 2 4 3)

-- the examples
pub record Examples : Type 0 where
  pub machine_line : line_of_report machine ≡ ascii "machine height 0 memory 0 pool 5 entries 2 next 4 count 3 saved 0\n"
  pub loop_line : line_of_report loop ≡ ascii "loop 7 1 3\n"
  pub rerun_line : line_of_report (report.Rerun 5) ≡ ascii "rerun 5\n"
  -- the words before bytes in hex
  pub image_word : text_of_word word.Image ≡ ascii "image "
  pub memory_word : text_of_word word.Memory ≡ ascii "memory "
  -- the kinds, bottom first, and a refusal
  pub admitted_line : line_of_verdict (admitted (Calldata ∷ Number ∷ [])) ≡ ascii "admitted NC\n"
  pub refused_line : line_of_verdict (refused (NotAdmitted 16)) ≡ ascii "refused 27 16\n"

pub examples : Examples
unfolding ascii formed line said digit digits decimal hex spaced words filled_in numbers_left filled line_of_refusal line_of_head line_of_report text_of_word line_of_kinds line_of_verdict
examples = record {
  machine_line = refl;
  loop_line = refl;
  rerun_line = refl;
  image_word = refl;
  memory_word = refl;
  admitted_line = refl;
  refused_line = refl;
}
