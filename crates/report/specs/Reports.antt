-- What `replay` prints beside the listing.
use Rattle.std.specs.Prelude.{ℕ, List, [], ◌∷◌}
use Rattle.text.specs.Ascii.{ascii}
use Rattle.text.specs.Lines.{said}
use Rattle.report.specs.declared.Report.{Report}
use Rattle.report.specs.declared.Report.TheVariants as report
use Rattle.report.specs.declared.Word.{Word}
use Rattle.report.specs.declared.Word.TheVariants as word

-- a line: a case, a call, the machine after it with its loops and frames, or the end of a batch that is none
unfoldable pub line_of_report : Report → List ℕ
line_of_report (report.Case index) = said (ascii "case #") (index ∷ [])
line_of_report (report.Start fuel) = said (ascii "start #") (fuel ∷ [])
line_of_report (report.Rerun fuel) = said (ascii "rerun #") (fuel ∷ [])
line_of_report (report.Continue fuel) = said (ascii "continue #") (fuel ∷ [])
line_of_report report.Save = said (ascii "save") []
line_of_report (report.After machine) =
    said (ascii "machine height # memory # pool # entries # next # count # saved #")
    (machine.height ∷ machine.memory ∷ machine.pool ∷ machine.entries ∷ machine.next_id.0 ∷ machine.count ∷ machine.saved ∷ [])
line_of_report (report.Open loop) = said (ascii "loop # # #") (loop.place ∷ loop.index ∷ loop.limit ∷ [])
line_of_report (report.Called frame) = said (ascii "frame # #") (frame.entry.0 ∷ frame.place ∷ [])
line_of_report (report.BadBatch at) = said (ascii "bad batch at #") (at ∷ [])

-- the words around bytes in hex, which may be longer than a buffer
unfoldable pub text_of_word : Word → List ℕ
text_of_word word.Memory = ascii "memory "
text_of_word word.Image = ascii "image "
text_of_word word.LineEnd = ascii "\n"
