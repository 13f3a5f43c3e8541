-- A turn of the loop looks at one element, and what it finds there decides.
use Rattle.std.proofs.Common.{◌≡◌, sym, ◌∙◌, arith}
use Rattle.std.proofs.lemmas.Result.{err_from_is_err_and}
use Rattle.admission.proofs.Stacks.{kept_all, kept_on}
use Rattle.admission.proofs.Landings.{tells_kept, looking, looked, not_cut, wrong_here, look_on, look_far}
use Rattle.admission.proofs.jumps.wrong_jump.Goals as goal

pub loop-at-init : goal.loop-at-init
loop-at-init c = (kept_all _, looking _ _ _ _ c.requires.1)

pub returns-in_err-element : goal.returns-in_err-element
returns-in_err-element c =
    let p = err_from_is_err_and c.from_residual.result c.from_residual.ensures.1 in
    let value = rw c.in_err-element.ensures.ok_part at c.in_err-element.ensures.value in
    let place : c.in_err-element.field-0.0 ≡ c.loop-at.at = cc value in
    rw (p.1, p.2, place)
    (not_cut _ _ _ _ (tells_kept c.loop-at.invariant.0 c.requires.1) c.requires.0 c.loop-at.invariant.1 c.loop-at-test.true c.element_at.ensures c.in_err-element.ensures.ok_part, c.loop-at.invariant.0)

pub returns-then-not-right_jump : goal.returns-then-not-right_jump
returns-then-not-right_jump c = (
  wrong_here _ _ _ _ (tells_kept c.loop-at.invariant.0 c.requires.1) c.requires.0 c.loop-at.invariant.1 c.loop-at-test.true c.element_at.ensures c.in_ok-element.ensures.ok_part
      (sym c.right_jump.ensures.0 ∙ c.if-not-right_jump.true),
  kept_on c.loop-at.invariant.0 c.right_jump.ensures.1,
)

pub loop-at-smaller : goal.loop-at-smaller
loop-at-smaller c =
    omega (
      arith,
      look_far _ _ _ _ (tells_kept c.loop-at.invariant.0 c.requires.1) c.requires.0 c.loop-at.invariant.1 c.loop-at-test.true c.element_at.ensures c.in_ok-element.ensures.ok_part,
    )

pub loop-at-preserved : goal.loop-at-preserved
loop-at-preserved c = (
  kept_on c.loop-at.invariant.0 c.right_jump.ensures.1,
  look_on _ _ _ _ (tells_kept c.loop-at.invariant.0 c.requires.1) c.requires.0 c.loop-at.invariant.1 c.loop-at-test.true c.element_at.ensures c.in_ok-element.ensures.ok_part
      (sym c.right_jump.ensures.0 ∙ c.if-not-right_jump.false),
)

pub returns : goal.returns
returns c = (looked _ _ _ _ c.requires.1 _ c.loop-at.invariant.1 c.loop-at-test.false, c.loop-at.invariant.0)
