-- The piece at the front of a text: a number of 4 bytes, a number or a byte of a template, a byte that is escaped or not.
use Prim.Native.Nat.{ℕ, ◌+◌, ◌*◌, ◌≤◌, ◌<◌}
use mathlib.Core.Bool.{Bool, true, false}
use mathlib.Core.List.{List, [], ◌∷◌, ◌++◌}
use mathlib.Core.Path.{◌≡◌, refl, sym, ap, ◌∙◌}
use native.Mathlib.Numerals.{add-one}
use native.Mathlib.Omega.{arith}
use lib.ListN.{length, drop, get_or, drop_of_length-le}
use lib.Seq.{drop-cons, drop-drop, get_or-drop}
use borrow.Author.Tests.{ne_eqb}
use Rattle.text.specs.declared.Cut.{Cut}
use Rattle.text.specs.declared.Cut.TheVariants.{Spaced, Filled, Escaped, Ascii}
use Rattle.text.specs.declared.Piece.{Piece}
use Rattle.text.specs.declared.Piece.TheVariants as piece
use Rattle.text.specs.Numbers.{decimal, spaced, words, filled_in, numbers_left, filled}
use Rattle.text.specs.Escapes.{shown, escaped}
use Rattle.text.specs.Pieces.{pieces, width, text_of, Front}

-- the first of what is left
pub first : (l : List ℕ) (i : ℕ) → i < length l → drop i l ≡ get_or l i 0 ∷ drop (i + 1) l
first l i inside = rw (add-one, drop-cons l i 0)

-- past the last there is no more behind one more
pub past : (l : List ℕ) (i : ℕ) → length l ≤ i → drop i l ≡ drop (i + 1) l
past l i over =
    let more : length l ≤ i + 1 = omega arith in
    drop_of_length-le l over ∙ sym (drop_of_length-le l more)

-- the number in four bytes
abbrev number : List ℕ → ℕ → ℕ
number bytes place = get_or bytes place 0 + 256 * get_or bytes (place + 1) 0 + 65536 * get_or bytes (place + 2) 0 + 16777216 * get_or bytes (place + 3) 0

four : (bytes : List ℕ) (place : ℕ) → place + 4 ≤ length bytes
    → drop place bytes ≡ get_or bytes place 0 ∷ get_or bytes (place + 1) 0 ∷ get_or bytes (place + 2) 0 ∷ get_or bytes (place + 3) 0 ∷ drop (place + 4) bytes
four bytes place inside =
    let one : place + 1 + 1 ≡ place + 2 = omega arith in
    let two : place + 2 + 1 ≡ place + 3 = omega arith in
    let three : place + 3 + 1 ≡ place + 4 = omega arith in
    first bytes place (omega arith)
    ∙ ap (λ (l : List ℕ). get_or bytes place 0 ∷ l)
    (first bytes (place + 1) (omega arith) ∙ ap (λ (k : ℕ). get_or bytes (place + 1) 0 ∷ drop k bytes) one
    ∙ ap (λ (l : List ℕ). get_or bytes (place + 1) 0 ∷ l)
    (first bytes (place + 2) (omega arith) ∙ ap (λ (k : ℕ). get_or bytes (place + 2) 0 ∷ drop k bytes) two
    ∙ ap (λ (l : List ℕ). get_or bytes (place + 2) 0 ∷ l)
    (first bytes (place + 3) (omega arith) ∙ ap (λ (k : ℕ). get_or bytes (place + 3) 0 ∷ drop k bytes) three)))

-- the bytes that a piece takes are there
pub four_there : (cut : Cut) (place size : ℕ) → cut ≡ Spaced → place + width cut ≤ size → place + 4 ≤ size
unfolding width
four_there cut place size is inside = rw is at inside

-- how the pieces of a cut split: the one at the front, and the rest behind it
module _ (bytes numbers : List ℕ) (place used : ℕ) where
  number_splits : place + 4 ≤ length bytes
      → pieces Spaced (drop place bytes) (drop used numbers) ≡ (32 ∷ decimal (number bytes place)) ++ pieces Spaced (drop (place + 4) bytes) (drop used numbers)
  unfolding pieces spaced words
  number_splits inside = rw (four bytes place inside)

  marked_splits : (after : ℕ) → drop after numbers ≡ drop (used + 1) numbers → get_or bytes place 0 ≡ 35 → place < length bytes
      → pieces Filled (drop place bytes) (drop used numbers) ≡ decimal (get_or numbers used 0) ++ pieces Filled (drop (place + 1) bytes) (drop after numbers)
  unfolding pieces filled filled_in numbers_left
  marked_splits after behind marked inside =
      let here : used + 0 ≡ used = omega arith in
      rw (first bytes place inside, marked, behind, get_or-drop used numbers 0 0, drop-drop 1 used numbers, here)

  byte_splits : (get_or bytes place 0 ≡ 35 → ⊥) → place < length bytes
      → pieces Filled (drop place bytes) (drop used numbers) ≡ (get_or bytes place 0 ∷ []) ++ pieces Filled (drop (place + 1) bytes) (drop used numbers)
  unfolding pieces filled filled_in numbers_left
  byte_splits plain inside = rw (first bytes place inside, ne_eqb (get_or bytes place 0) 35 plain)

  escaped_splits : (high : Bool) → place < length bytes → escaped high (drop place bytes) ≡ shown high (get_or bytes place 0) ++ escaped high (drop (place + 1) bytes)
  unfolding escaped
  escaped_splits high inside = rw (first bytes place inside)

module _ (bytes numbers : List ℕ) (place used : ℕ) where
  pub marked_front : {n after : ℕ} → n ≡ get_or numbers used 0 → drop after numbers ≡ drop (used + 1) numbers → get_or bytes place 0 ≡ 35 → place < length bytes
      → Front Filled bytes numbers place used (record { piece = piece.Number n; place = place + 1; used = after })
  unfolding text_of
  marked_front {n} {after} is behind marked inside =
      record { splits = rw is (marked_splits bytes numbers place used after behind marked inside); on = omega arith; within = omega arith }

  pub byte_front : (get_or bytes place 0 ≡ 35 → ⊥) → place < length bytes
      → Front Filled bytes numbers place used (record { piece = piece.Byte (get_or bytes place 0); place = place + 1; used = used })
  unfolding text_of
  byte_front plain inside = record { splits = byte_splits bytes numbers place used plain inside; on = omega arith; within = omega arith }

module _ (cut : Cut) (bytes numbers : List ℕ) (place used : ℕ) where
  pub number_front : {n : ℕ} → n ≡ number bytes place → cut ≡ Spaced → place + width cut ≤ length bytes
      → Front cut bytes numbers place used (record { piece = piece.Spaced n; place = place + 4; used = used })
  unfolding text_of
  number_front {n} is kind there =
      let inside : place + 4 ≤ length bytes = four_there cut place (length bytes) kind there in
      rw kind (record { splits = rw is (number_splits bytes numbers place used inside); on = omega arith; within = inside })

  -- a byte that is escaped, or not, in a cut that escapes
  module _ {shown-as : Piece} (there : place < length bytes) where
    pub escaped_front : text_of shown-as ≡ shown false (get_or bytes place 0) → cut ≡ Escaped
        → Front cut bytes numbers place used (record { piece = shown-as; place = place + 1; used = used })
    unfolding pieces
    escaped_front is kind =
        rw kind (record { splits = rw is (escaped_splits bytes numbers place used false there); on = omega arith; within = omega arith })

    pub ascii_front : text_of shown-as ≡ shown true (get_or bytes place 0) → cut ≡ Ascii
        → Front cut bytes numbers place used (record { piece = shown-as; place = place + 1; used = used })
    unfolding pieces
    ascii_front is kind =
        rw kind (record { splits = rw is (escaped_splits bytes numbers place used true there); on = omega arith; within = omega arith })

-- where fewer bytes are left than a piece takes, no text is
pub none_left : (cut : Cut) (bytes numbers : List ℕ) → length bytes < width cut → pieces cut bytes numbers ≡ []
unfolding width pieces spaced words filled escaped
none_left Spaced [] numbers few = refl
none_left Spaced (a ∷ []) numbers few = refl
none_left Spaced (a ∷ b ∷ []) numbers few = refl
none_left Spaced (a ∷ b ∷ c ∷ []) numbers few = refl
none_left Spaced (a ∷ b ∷ c ∷ d ∷ more) numbers few = absurd (omega arith)
none_left Filled [] numbers few = refl
none_left Filled (a ∷ more) numbers few = absurd (omega arith)
none_left Escaped [] numbers few = refl
none_left Escaped (a ∷ more) numbers few = absurd (omega arith)
none_left Ascii [] numbers few = refl
none_left Ascii (a ∷ more) numbers few = absurd (omega arith)
