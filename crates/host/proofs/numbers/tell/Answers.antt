-- `host::numbers::tell` meets its contract.
use Rattle.std.proofs.Common.{◌≡◌, rules, arith, length, sym}
use Rattle.slices.proofs.SlicesWrites.{sets_whole}
use Rattle.host.specs.AnsweringNumbers.{answers}
use Rattle.host.proofs.numbers.tell.Goals as goal

pub returns : goal.returns
unfolding answers
returns c = rw (sets_whole c.args.answer.now _ (sym c.told-answer)) (search rules)
