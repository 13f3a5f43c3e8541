-- Cases C2 and C3 (docs/REFERENCE.md, 'Cases').
use mathlib.Core.Path.{◌≡◌, refl}
use Rattle.values.specs.Values.{make_scalar_tagged, make_vec_tagged, to_u32_val, to_vec_val}
use Rattle.std.specs.Prelude.{Ok}

-- C2: 99 boxed
pub c2 : to_u32_val 99 ≡ 0x7FFC0000018C0006
unfolding make_scalar_tagged
c2 = refl

-- C3: numbers at 4, size 6
pub c3 : to_vec_val 4 6 6 ≡ Ok 0xFFFC000008000C06
unfolding to_vec_val make_vec_tagged
c3 = refl
