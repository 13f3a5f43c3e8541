-- A text measured, and put, a piece at a time.
use Prim.Native.Nat.{ℕ, ◌+◌, ◌-◌, ◌≤◌, ◌<◌}
use mathlib.Core.Bool.{Bool, true, false}
use mathlib.Core.List.{List, []}
use mathlib.Core.Path.{◌≡◌, refl, sym, ap, ◌∙◌}
use native.Mathlib.Nat.{sub-zero}
use native.Mathlib.Omega.{arith}
use lib.Dec.{leb}
use lib.ListN.{length, drop, length-append, length-drop}
use lib.Seq.{sets, length-sets}
use borrow.Author.Tests.{le-leb, lt-leb, leb-true, leb-false}
use Rattle.slices.proofs.SlicesWrites.{sets_append}
use Rattle.text.specs.declared.Cut.{Cut}
use Rattle.text.specs.declared.Turn.{Turn}
use Rattle.text.specs.Pieces.{pieces, width, text_of, Front, room_after}
use Rattle.text.proofs.Fronts.{none_left}
use Rattle.std.specs.Prelude.{Some, None}

-- room behind two parts is room behind the one and then the other
pub room_on : (left a b : ℕ) → a ≤ left → room_after left (a + b) ≡ room_after (left - a) b
unfolding room_after
room_on left a b fits = by (leb b (left - a)) refl
  where
    by : (fits : Bool) → leb b (left - a) ≡ fits → room_after left (a + b) ≡ room_after (left - a) b
    by true test =
        let small : b ≤ left - a = leb-true b (left - a) test in
        let both : a + b ≤ left = omega arith in
        let same : left - (a + b) ≡ left - a - b = omega arith in
        rw (test, le-leb (a + b) left both, same)
    by false test =
        let large : left - a < b = leb-false b (left - a) test in
        let both : left < a + b = omega arith in
        rw (test, lt-leb (a + b) left both)

pub no_room : (left a b : ℕ) → left < a → room_after left (a + b) ≡ None
unfolding room_after
no_room left a b short =
    let both : left < a + b = omega arith in
    rw (lt-leb (a + b) left both)

pub all_left : (left : ℕ) → room_after left 0 ≡ Some left
unfolding room_after
all_left left = rw (le-leb 0 left (omega arith), sub-zero)

module _ (cut : Cut) (bytes numbers : List ℕ) where
  -- the text from a place on
  abbrev rest : ℕ → ℕ → List ℕ
  rest place used = pieces cut (drop place bytes) (drop used numbers)

  -- the room for the rest is the room for the whole
  pub record Measured (room left place used : ℕ) : Type 0 where
    pub inside : place ≤ length bytes
    pub same : room_after left (length (rest place used)) ≡ room_after room (length (pieces cut bytes numbers))

  -- the rest put is the whole put
  pub record Putting (out₀ : List ℕ) (at : ℕ) (out : List ℕ) (behind place used : ℕ) : Type 0 where
    pub inside : place ≤ length bytes
    pub kept : length out ≡ length out₀
    pub same : sets out behind (rest place used) ≡ sets out₀ at (pieces cut bytes numbers)
    pub counted : behind + length (rest place used) ≡ at + length (pieces cut bytes numbers)

  pub measured_begun : (room : ℕ) → Measured room room 0 0
  measured_begun room = record { inside = omega arith; same = refl }

  pub putting_begun : (out : List ℕ) (at : ℕ) → Putting out at out at 0 0
  putting_begun out at = record { inside = omega arith; kept = refl; same = refl; counted = refl }

  -- fewer bytes left than a piece takes
  ended : (place used : ℕ) → length bytes - place < width cut → rest place used ≡ []
  ended place used few =
      none_left cut (drop place bytes) (drop used numbers) (omega (arith, length-drop place bytes))

  module _ {place used : ℕ} {turn : Turn} (front : Front cut bytes numbers place used turn) where
    whole_length : length (rest place used) ≡ length (text_of turn.piece) + length (rest turn.place turn.used)
    whole_length =
        ap length front.splits ∙ length-append (text_of turn.piece) (rest turn.place turn.used)

    pub measured_turn : {room left size : ℕ} → size ≡ length (text_of turn.piece) → Measured room left place used → size ≤ left
        → Measured room (left - size) turn.place turn.used
    measured_turn {room} {left} {size} is measured fits =
        record {
          inside = front.within;
          same =
              sym (room_on left size (length (rest turn.place turn.used)) fits)
              ∙ ap (λ (k : ℕ). room_after left (k + length (rest turn.place turn.used))) is
              ∙ ap (room_after left) (sym whole_length)
              ∙ measured.same;
        }

    pub measured_short : {room left size : ℕ} → size ≡ length (text_of turn.piece) → Measured room left place used → left < size
        → None ≡ room_after room (length (pieces cut bytes numbers))
    measured_short {room} {left} {size} is measured short =
        sym (no_room left size (length (rest turn.place turn.used)) short)
        ∙ ap (λ (k : ℕ). room_after left (k + length (rest turn.place turn.used))) is
        ∙ ap (room_after left) (sym whole_length)
        ∙ measured.same

    pub putting_fits : {out₀ out : List ℕ} {at behind : ℕ} → Putting out₀ at out behind place used → at + length (pieces cut bytes numbers) ≤ length out₀
        → behind + length (text_of turn.piece) ≤ length out
    putting_fits {out₀} {out} {at} {behind} putting fits =
        omega (arith, putting.kept, putting.counted, fits, whole_length)

    pub putting_turn : {out₀ out after : List ℕ} {at behind next : ℕ} → Putting out₀ at out behind place used
        → next ≡ behind + length (text_of turn.piece) → after ≡ sets out behind (text_of turn.piece)
        → Putting out₀ at after next turn.place turn.used
    putting_turn {out₀} {out} {after} {at} {behind} {next} putting next_is after_is =
        let text = text_of turn.piece in
        record {
          inside = front.within;
          kept = ap length after_is ∙ length-sets out behind text ∙ putting.kept;
          same =
              rw (after_is, next_is)
              (sym (sets_append out behind text (rest turn.place turn.used)) ∙ ap (sets out behind) (sym front.splits) ∙ putting.same);
          counted = omega (arith, next_is, putting.counted, whole_length);
        }

  pub measured_ended : {room left place used : ℕ} → Measured room left place used → length bytes - place < width cut
      → Some left ≡ room_after room (length (pieces cut bytes numbers))
  measured_ended {room} {left} {place} {used} measured few =
      sym (all_left left) ∙ ap (λ (l : List ℕ). room_after left (length l)) (sym (ended place used few)) ∙ measured.same

  pub putting_ended : {out₀ out : List ℕ} {at behind place used : ℕ} → Putting out₀ at out behind place used → length bytes - place < width cut
      → (behind ≡ at + length (pieces cut bytes numbers)) × (out ≡ sets out₀ at (pieces cut bytes numbers))
  putting_ended {out₀} {out} {at} {behind} {place} {used} putting few =
      (omega (arith, putting.counted, ap length (ended place used few)), ap (sets out behind) (sym (ended place used few)) ∙ putting.same)
