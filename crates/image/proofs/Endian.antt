-- Little-endian numbers: written and read back, read and written again.
use Prim.Native.Nat.{ℕ, zero, suc, ◌+◌, ◌*◌, ◌/◌, ◌%◌, ◌^◌, ◌<◌, ◌≤◌}
use mathlib.Core.List.{List, [], ◌∷◌, ◌++◌}
use mathlib.Core.Path.{◌≡◌, refl, ap, sym, ◌∙◌}
use native.Mathlib.Omega.{arith}
use lib.ListN.{length, get_or, take, drop}
use Rattle.std.specs.Int.{w16, w32, from_le_bytes}
use Rattle.slices.specs.Numbers.{little_endian, number_at, Bytes, none, byte}

-- two bytes from a place on, as a 16-bit number reads them
pub two_read : (bytes : List ℕ) (place : ℕ) → from_le_bytes w16 (get_or bytes place 0 ∷ get_or bytes (place + 1) 0 ∷ []) ≡ number_at 2 bytes place
unfolding number_at
two_read bytes place = omega arith

-- four bytes, as a 32-bit number reads them
pub four_read : (bytes : List ℕ) (place : ℕ)
    → from_le_bytes w32 (get_or bytes place 0 ∷ get_or bytes (place + 1) 0 ∷ get_or bytes (place + 2) 0 ∷ get_or bytes (place + 3) 0 ∷ []) ≡ number_at 4 bytes place
unfolding number_at
four_read bytes place =
    let second : place + 1 + 1 ≡ place + 2 = omega arith in
    let third : place + 2 + 1 ≡ place + 3 = omega arith in
    rw (second, third) (omega arith)

-- a number has as many bytes as its width
pub width_is : (width number : ℕ) → length (little_endian width number) ≡ width
unfolding little_endian
width_is zero number = refl
width_is (suc width) number = ap suc (width_is width (number / 256))

-- behind a first byte
pub number_cons : (width b : ℕ) (bytes : List ℕ) (place : ℕ) → number_at width (b ∷ bytes) (suc place) ≡ number_at width bytes place
unfolding number_at
number_cons zero b bytes place = refl
number_cons (suc width) b bytes place =
    let e : suc place + 1 ≡ suc (place + 1) = omega arith in
    ap (λ (n : ℕ). get_or bytes place 0 + 256 * n) (rw e (number_cons width b bytes (place + 1)))

-- written and read back
pub number_back : (width number : ℕ) (rest : List ℕ) → number < 256 ^ width → number_at width (little_endian width number ++ rest) 0 ≡ number
unfolding number_at little_endian
number_back zero number rest fits = omega arith
number_back (suc width) number rest fits =
    let e = number_cons width (number % 256) (little_endian width (number / 256) ++ rest) 0 in
    let f = number_back width (number / 256) rest (omega arith) in
    omega arith

-- a byte and a number above it
low_byte : (b n : ℕ) → b < 256 → (b + 256 * n) % 256 ≡ b
low_byte b n less = omega arith

high_bytes : (b n : ℕ) → b < 256 → (b + 256 * n) / 256 ≡ n
high_bytes b n less = omega arith

-- read and written again
pub number_again : (width : ℕ) {bytes : List ℕ} → Bytes bytes → width ≤ length bytes → little_endian width (number_at width bytes 0) ≡ take width bytes
unfolding number_at little_endian
number_again zero b long = refl
number_again (suc width) none long = absurd (omega arith)
number_again (suc width) (byte {b} {bytes} less more) long =
    rw (number_cons width b bytes 0, low_byte b (number_at width bytes 0) less, high_bytes b (number_at width bytes 0) less, number_again width more (omega arith))

-- the bytes from a place on are bytes
pub bytes_drop : (n : ℕ) {bytes : List ℕ} → Bytes bytes → Bytes (drop n bytes)
bytes_drop zero b = b
bytes_drop (suc n) none = none
bytes_drop (suc n) (byte less more) = bytes_drop n more

-- no bytes hold 0
number_none : (width place : ℕ) → number_at width [] place ≡ 0
unfolding number_at
number_none zero place = refl
number_none (suc width) place = rw (number_none width (place + 1))

-- a number from a place on is one at the front of the bytes from there
pub number_drop : (width : ℕ) (bytes : List ℕ) (place : ℕ) → number_at width bytes place ≡ number_at width (drop place bytes) 0
number_drop width bytes zero = refl
number_drop width [] (suc place) = number_none width (suc place) ∙ sym (number_none width 0)
number_drop width (b ∷ bytes) (suc place) = number_cons width b bytes place ∙ number_drop width bytes place

-- an element of bytes is a byte
pub byte_at : {bytes : List ℕ} → Bytes bytes → (place : ℕ) → get_or bytes place 0 < 256
byte_at none place = omega arith
byte_at (byte less more) zero = less
byte_at (byte less more) (suc place) = byte_at more place

-- a number in bytes fits its width
pub number_fits : (width : ℕ) {bytes : List ℕ} → Bytes bytes → (place : ℕ) → number_at width bytes place < 256 ^ width
unfolding number_at
number_fits zero b place = omega arith
number_fits (suc width) b place = omega (arith, byte_at b place, number_fits width b (place + 1))

-- a slice's elements are bytes
pub bytes_of : (bytes : List ℕ) → ((place : ℕ) → get_or bytes place 0 < 256) → Bytes bytes
bytes_of [] below = none
bytes_of (b ∷ bytes) below = byte (below 0) (bytes_of bytes (λ place. below (suc place)))
