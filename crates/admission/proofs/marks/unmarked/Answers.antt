-- An array of marks, each of nothing.
use Rattle.admission.proofs.Notes.{none_marked}
use Rattle.admission.proofs.marks.unmarked.Goals as goal

pub returns : goal.returns
returns g c = none_marked g.row.N
