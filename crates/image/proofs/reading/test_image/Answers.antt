-- `image::reading::test_image` meets its contract.
use Rattle.std.proofs.Common.{arith, sym, ◌∙◌}
use borrow.Author.Tests.{eqb-true, eqb-false}
use Rattle.image.proofs.Walks.{head_of, test_none, test_head, test_stuck, test_all, test_wrong}
use Rattle.image.proofs.reading.test_image.Goals as goal

pub returns-then-is_empty : goal.returns-then-is_empty
returns-then-is_empty c =
    test_none _ (eqb-true _ _ (sym c.is_empty.ensures ∙ c.if-is_empty.true))

pub returns-then-not-is_headed : goal.returns-then-not-is_headed
returns-then-not-is_headed c =
    test_head _ (eqb-false _ _ (sym c.is_empty.ensures ∙ c.if-is_empty.false)) c.is_headed.ensures c.if-not-is_headed.true

pub walk-requires : goal.walk-requires
walk-requires c =
    let h = head_of _ c.is_headed.ensures c.if-not-is_headed.false in
    (omega (arith, h.uncut, h.size), omega (arith, h.few))

pub returns-in-Ok : goal.returns-in-Ok
returns-in-Ok c =
    test_all _ (head_of _ c.is_headed.ensures c.if-not-is_headed.false) c.u32_at.ensures.0 c.walk.ensures c.in-Ok.is (omega arith)

pub returns-in-Ok-2 : goal.returns-in-Ok-2
returns-in-Ok-2 c =
    test_wrong _ (head_of _ c.is_headed.ensures c.if-not-is_headed.false) c.u32_at.ensures.0 c.walk.ensures c.in-Ok.is (λ q. omega arith)

pub returns-in-Err : goal.returns-in-Err
returns-in-Err c =
    test_stuck _ (head_of _ c.is_headed.ensures c.if-not-is_headed.false) c.u32_at.ensures.0 c.walk.ensures c.in-Err.is
