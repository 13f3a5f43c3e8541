-- A line put part by part is the line put at once; and a part in hex.
use Prim.Native.Nat.{ℕ, ◌+◌, ◌-◌, ◌*◌, ◌≤◌, ◌<◌}
use mathlib.Core.Bool.{true}
use mathlib.Core.List.{List, [], ◌∷◌, ◌++◌}
use mathlib.Core.Path.{◌≡◌, sym, ap, ◌∙◌}
use native.Mathlib.Omega.{arith}
use lib.Dec.{leb}
use lib.ListN.{length, take, drop, set}
use lib.Seq.{sets, length-sets}
use borrow.Author.Tests.{leb-true}
use Rattle.slices.proofs.SlicesWrites.{sets_append}
use Rattle.errors.specs.declared.Refusal.TheVariants.{SaveBufferTooShort}
use Rattle.text.specs.declared.Form.{Form}
use Rattle.text.specs.Numbers.{hex, filled}
use Rattle.text.specs.Pieces.{room_after}
use Rattle.text.specs.Lines.{formed, line, lined, put_line, measure_line, hex_count, parted, hex_part}
use Rattle.text.proofs.Rooms.{left_fits, left_is, short_over, line_length}
use Rattle.std.specs.Prelude.{Ok, Err, Some, None}

module _ (out template numbers : List ℕ) (form : Form) (bytes : List ℕ) where
  module _ (test : leb (length (line template numbers form bytes)) (length out) ≡ true) where
    room : length (filled template numbers) + (length (formed form bytes numbers) + 1) ≤ length out
    room = omega (arith, line_length template numbers form bytes, leb-true (length (line template numbers form bytes)) (length out) test)

    pub first_fits : 0 + length (filled template numbers) ≤ length out
    first_fits = omega (arith, room)

    whole : sets out 0 (line template numbers form bytes)
        ≡ set (sets (sets out 0 (filled template numbers)) (0 + length (filled template numbers)) (formed form bytes numbers)) (0 + length (filled template numbers) + length (formed form bytes numbers)) 10
    unfolding line
    whole =
        sets_append out 0 (filled template numbers) (formed form bytes numbers ++ 10 ∷ [])
        ∙ sets_append (sets out 0 (filled template numbers)) (0 + length (filled template numbers)) (formed form bytes numbers) (10 ∷ [])

    put_is : put_line out (line template numbers form bytes) ≡ lined (Ok (length (line template numbers form bytes))) (sets out 0 (line template numbers form bytes))
    unfolding put_line
    put_is = rw test

    module _ {behind : ℕ} {between : List ℕ} (behind_is : behind ≡ 0 + length (filled template numbers)) (between_is : between ≡ sets out 0 (filled template numbers)) where
      between_length : length between ≡ length out
      between_length = ap length between_is ∙ length-sets out 0 (filled template numbers)

      pub second_fits : behind + length (formed form bytes numbers) ≤ length between
      second_fits = omega (arith, room, between_length)

      module _ {last : ℕ} {after : List ℕ} (last-is : last ≡ behind + length (formed form bytes numbers)) (after_is : after ≡ sets between behind (formed form bytes numbers)) where
        pub after_length : length after ≡ length out
        after_length = ap length after_is ∙ length-sets between behind (formed form bytes numbers) ∙ between_length

        pub last_inside : last < length after
        last_inside = omega (arith, room, after_length)

        pub stands : lined (Ok (last + 1)) (set after last 10) ≡ put_line out (line template numbers form bytes)
        stands =
            let counted : last + 1 ≡ length (line template numbers form bytes) = omega (arith, line_length template numbers form bytes) in
            ap (λ (n : ℕ). lined (Ok n) (set after last 10)) counted
            ∙ ap (λ (l : List ℕ). lined (Ok (length (line template numbers form bytes))) l) (rw (after_is, last-is, between_is, behind_is) (sym whole))
            ∙ sym put_is

-- a line that is too long
pub not_put : (out text : List ℕ) → None ≡ room_after (length out) (length text) → lined (Err SaveBufferTooShort) out ≡ put_line out text
unfolding put_line
not_put out text answer = rw (short_over (length out) (length text) answer)

-- a line measured in the largest room
pub measured : {left : ℕ} (text : List ℕ) → Some left ≡ room_after 18446744073709551615 (length text) → Ok (18446744073709551615 - left) ≡ measure_line text
unfolding measure_line
measured text answer =
    rw (left_fits 18446744073709551615 (length text) answer) (ap Ok (left_is 18446744073709551615 (length text) answer))

pub not_measured : (text : List ℕ) → None ≡ room_after 18446744073709551615 (length text) → Err SaveBufferTooShort ≡ measure_line text
unfolding measure_line
not_measured text answer = rw (short_over 18446744073709551615 (length text) answer)

-- a form in which the bytes look the same makes the same line
pub same_line : (template numbers bytes : List ℕ) (form other : Form) → ((n : List ℕ) → formed form bytes n ≡ formed other bytes n)
    → line template numbers form bytes ≡ line template numbers other bytes
unfolding line
same_line template numbers bytes form other same = rw (same numbers)

-- the bytes that were counted, in hex
pub hex_parted : (out bytes : List ℕ) (from : ℕ) {count : ℕ} {part after : List ℕ}
    → count ≡ hex_count out bytes from → part ≡ take count (drop from bytes) → after ≡ sets out 0 (hex part)
    → parted (record { length = 2 * count; next = from + count }) after ≡ hex_part out bytes from
unfolding hex_part
hex_parted out bytes from count_is part_is after_is = rw (after_is, part_is, count_is)
