-- `text::lines::put_line` meets its contract.
use mathlib.Core.Path.{ap, ◌∙◌}
use native.Mathlib.Omega.{arith}
use Rattle.text.specs.Lines.{formed, put_line}
use Rattle.text.proofs.Rooms.{ok_fits}
use Rattle.text.proofs.Joined.{first_fits, second_fits, last_inside, stands, same_line}
use Rattle.text.proofs.lines.put_line.Goals as goal

pub put-behind-requires : goal.put-behind-requires
unfolding formed
put-behind-requires c =
    first_fits c.args.out.now _ _ _ _ (ok_fits _ _ _ _ c.in_ok-ok_or.ensures.value c.room_behind.ensures)

pub put-last-requires : goal.put-last-requires
unfolding formed
put-last-requires c =
    second_fits _ _ _ _ _ (ok_fits _ _ _ _ c.in_ok-ok_or.ensures.value c.room_behind.ensures) c.put-behind.ensures.0 c.put-behind.ensures.1

pub bounds-out-last : goal.bounds-out-last
unfolding formed
bounds-out-last c =
    last_inside _ _ _ _ _ (ok_fits _ _ _ _ c.in_ok-ok_or.ensures.value c.room_behind.ensures) c.put-behind.ensures.0 c.put-behind.ensures.1 c.put-last.ensures.0 c.put-last.ensures.1

pub overflow_add-result : goal.overflow_add-result
unfolding formed
overflow_add-result c =
    omega (arith, last_inside _ _ _ _ _ (ok_fits _ _ _ _ c.in_ok-ok_or.ensures.value c.room_behind.ensures) c.put-behind.ensures.0 c.put-behind.ensures.1 c.put-last.ensures.0 c.put-last.ensures.1)

pub returns : goal.returns
unfolding formed
returns c =
    stands _ _ _ _ _ (ok_fits _ _ _ _ c.in_ok-ok_or.ensures.value c.room_behind.ensures) c.put-behind.ensures.0 c.put-behind.ensures.1 c.put-last.ensures.0 c.put-last.ensures.1
    ∙ ap (put_line c.args.out.now) (same_line _ _ _ _ _ c.plainest-shown.ensures)
