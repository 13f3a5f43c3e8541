-- The line that tells whether a program is admitted.
use Rattle.std.specs.Prelude.{ℕ, cond, List, [], reverse, eqb, length, take}
use Rattle.labels.specs.Check.{Verdict, admitted, refused}
use Rattle.labels.specs.Labels.{letters}
use Rattle.listing.specs.Listing.{line_of_head}
use Rattle.listing.specs.declared.Head.TheVariants.{Refused}
use Rattle.text.specs.Ascii.{ascii}
use Rattle.text.specs.Lines.{line, said}
use Rattle.text.specs.declared.Form.TheVariants.{Plain}

-- `admitted`, and the letters of kinds behind it where there are any
unfoldable pub line_of_kinds : List ℕ → List ℕ
line_of_kinds kinds = cond (eqb (length kinds) 0) (said (ascii "admitted") []) (line (ascii "admitted ") [] Plain kinds)

-- the kinds at the program's end, bottom first, of which a label has at most 1,000; or the refusal, as a listing tells it
unfoldable pub line_of_verdict : Verdict → List ℕ
line_of_verdict (admitted kinds) = line_of_kinds (take 1000 (letters (reverse kinds)))
line_of_verdict (refused refusal) = line_of_head (Refused refusal)
