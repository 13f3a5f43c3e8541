-- `listing::head_line::refusal_line` meets its contract.
use Rattle.std.proofs.Common.{ap, ◌∙◌}
use Rattle.text.specs.Ascii.{ascii}
use Rattle.text.specs.Lines.{tell_line}
use Rattle.listing.proofs.Forms.{refused_plain, refused_one, refused_two}
use Rattle.listing.proofs.head_line.refusal_line.Goals as goal

pub returns-in-Nothing : goal.returns-in-Nothing
unfolding ascii
returns-in-Nothing c =
    c.say.ensures
    ∙ ap (tell_line c.args.writes c.args.out.now) (refused_plain c.args.refusal c.number_of-number.ensures c.details_of.ensures c.in-Nothing.is)

pub returns-in-One : goal.returns-in-One
unfolding ascii
returns-in-One c =
    c.tell_line.ensures
    ∙ ap (tell_line c.args.writes c.args.out.now) (refused_one c.args.refusal c.number_of-number.ensures c.details_of.ensures c.in-One.is)

pub returns-in-Two : goal.returns-in-Two
unfolding ascii
returns-in-Two c =
    c.tell_line-in-Two.ensures
    ∙ ap (tell_line c.args.writes c.args.out.now) (refused_two c.args.refusal c.number_of-number.ensures c.details_of.ensures c.in-Two.is)
