-- `utf8::is_utf8` meets its contract.
use mathlib.Core.Path.{◌∙◌}
use native.Mathlib.Omega.{arith}
use borrow.Author.Tests.{lt-ltb}
use Rattle.utf8.proofs.Laws.{ascii}
use Rattle.utf8.proofs.is_utf8.Goals as goal

pub returns-then-highest-lt128 : goal.returns-then-highest-lt128
returns-then-highest-lt128 c =
    lt-ltb _ _ c.if-highest-lt128.true ∙ ascii c.args.s.now (λ k h. omega (arith, c.highest.ensures k h))
