-- `intern_part` clips the part to the bytes in use, and then does as `intern_instructions`.
use Rattle.pools.proofs.Copies.{Clip, part_long, part_copied}
use Rattle.pools.proofs.Interns.{room_of, wrote, wrote_nothing}
use Rattle.pools.proofs.interning.intern_part.Goals as goal

pub returns-then-has_room : goal.returns-then-has_room
returns-then-has_room c =
    let clip : Clip _ _ _ _ _ _ _ = record { is_used = c.min-used.ensures; is_from = c.min-from.ensures; is_count = c.min-count.ensures } in
    let r = room_of c.has_room.ensures c.if-has_room.true in
    wrote _ _ _ _ _ _ (part_long _ clip) c.has_room.ensures c.if-has_room.true c.new_entry.ensures.0 (part_copied _ clip r.there c.copy_within.ensures.after) c.new_entry.ensures.1

pub returns : goal.returns
returns c =
    let clip : Clip _ _ _ _ _ _ _ = record { is_used = c.min-used.ensures; is_from = c.min-from.ensures; is_count = c.min-count.ensures } in
    wrote_nothing _ _ _ _ _ _ (part_long _ clip) c.has_room.ensures c.if-has_room.false
