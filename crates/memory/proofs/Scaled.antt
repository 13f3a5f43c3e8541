-- One wrapping addition more is one factor more, modulo 2^32.
use Rattle.std.proofs.Common.{◌≡◌, ℕ, ◌+◌, ◌*◌, ◌%◌, ◌^◌, mul-one, mul-add, arith}
use Rattle.memory.specs.Change.{scaled}

pub none : (index : ℕ) → 0 ≡ scaled index 0
unfolding scaled
none index = omega arith

pub more : (index turn : ℕ) → (scaled index turn + index) % 2 ^ 32 ≡ scaled index (turn + 1)
unfolding scaled
more index turn =
    let one_more : index * (turn + 1) ≡ index * turn + index = simp (mul-add, mul-one) in
    rw one_more (omega arith)
