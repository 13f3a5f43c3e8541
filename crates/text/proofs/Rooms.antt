-- Room for one part and then another.
use Prim.Native.Nat.{ℕ, ◌+◌, ◌-◌}
use mathlib.Core.Bool.{Bool, true, false}
use mathlib.Core.List.{List, [], ◌∷◌, ◌++◌}
use mathlib.Core.Path.{◌≡◌, refl, sym, ap, ◌∙◌}
use native.Mathlib.Omega.{arith}
use lib.Dec.{leb}
use lib.ListN.{length, length-append}
use borrow.Author.Tests.{leb-true, leb-false}
use Rattle.text.specs.declared.Form.{Form}
use Rattle.text.specs.Numbers.{filled}
use Rattle.text.specs.Pieces.{room_after}
use Rattle.text.specs.Lines.{formed, line}
use Rattle.text.proofs.Loops.{room_on, no_room}
use Rattle.errors.specs.declared.Refusal.{Refusal}
use Rattle.std.specs.Prelude.{Option, Some, None, Ok}
use Rattle.std.specs.Option.{ok_or}

enough : (room a : ℕ) → leb a room ≡ true → room_after room a ≡ Some (room - a)
unfolding room_after
enough room a test = rw test

too_little : (room a : ℕ) → leb a room ≡ false → room_after room a ≡ None
unfolding room_after
too_little room a test = rw test

-- a part behind another
pub room_then : {left : ℕ} (room a b : ℕ) → Some left ≡ room_after room a → room_after left b ≡ room_after room (a + b)
room_then {left} room a b first = by (leb a room) refl
  where
    by : (fits : Bool) → leb a room ≡ fits → room_after left b ≡ room_after room (a + b)
    by true test =
        let is : left ≡ room - a = cc (enough room a test) in
        ap (λ (k : ℕ). room_after k b) is ∙ sym (room_on room a b (leb-true a room test))
    by false test = absurd (let never : ◌≡◌ {A = ℕ} 0 1 = cc (too_little room a test) in omega arith)

pub short_then : (room a b : ℕ) → None ≡ room_after room a → None ≡ room_after room (a + b)
short_then room a b first = by (leb a room) refl
  where
    by : (fits : Bool) → leb a room ≡ fits → None ≡ room_after room (a + b)
    by true test = absurd (let never : ◌≡◌ {A = ℕ} 0 1 = cc (enough room a test) in omega arith)
    by false test = sym (no_room room a b (leb-false a room test))

-- room that is left tells that a part fits, and how long it is; none that it does not
pub left_fits : {left : ℕ} (room size : ℕ) → Some left ≡ room_after room size → leb size room ≡ true
left_fits room size answer = by (leb size room) refl
  where
    by : (fits : Bool) → leb size room ≡ fits → leb size room ≡ true
    by true test = test
    by false test = absurd (let never : ◌≡◌ {A = ℕ} 0 1 = cc (too_little room size test) in omega arith)

pub left_is : {left : ℕ} (room size : ℕ) → Some left ≡ room_after room size → room - left ≡ size
left_is {left} room size answer =
    let fits = left_fits room size answer in
    let is : left ≡ room - size = cc (enough room size fits) in
    omega (arith, leb-true size room fits)

pub short_over : (room size : ℕ) → None ≡ room_after room size → leb size room ≡ false
short_over room size answer = by (leb size room) refl
  where
    by : (fits : Bool) → leb size room ≡ fits → leb size room ≡ false
    by true test = absurd (let never : ◌≡◌ {A = ℕ} 0 1 = cc (enough room size test) in omega arith)
    by false test = test

-- the same of room that stands as an answer
pub ok_fits : {left : ℕ} (room size : ℕ) (refusal : Refusal) (is : Option ℕ) → Ok left ≡ ok_or is refusal → is ≡ room_after room size → leb size room ≡ true
ok_fits room size refusal None answer same = absurd (let never : ◌≡◌ {A = ℕ} 0 1 = cc answer in omega arith)
ok_fits room size refusal (Some left) answer same = left_fits room size same

module _ (template numbers : List ℕ) (form : Form) (bytes : List ℕ) where
  pub line_length : length (line template numbers form bytes) ≡ length (filled template numbers) + (length (formed form bytes numbers) + 1)
  unfolding line
  line_length =
      length-append (filled template numbers) (formed form bytes numbers ++ 10 ∷ [])
      ∙ ap (λ (k : ℕ). length (filled template numbers) + k) (length-append (formed form bytes numbers) (10 ∷ []))

  module _ (room : ℕ) where
    whole : room_after room (length (filled template numbers) + (length (formed form bytes numbers) + 1)) ≡ room_after room (length (line template numbers form bytes))
    whole = ap (room_after room) (sym line_length)

    pub no_template : None ≡ room_after room (length (filled template numbers)) → None ≡ room_after room (length (line template numbers form bytes))
    no_template short = short_then room _ _ short ∙ whole

    pub no_bytes : {left : ℕ} → Some left ≡ room_after room (length (filled template numbers)) → None ≡ room_after left (length (formed form bytes numbers))
        → None ≡ room_after room (length (line template numbers form bytes))
    no_bytes {left} first short = short_then left _ 1 short ∙ room_then room _ _ first ∙ whole

    pub both : {left last : ℕ} → Some left ≡ room_after room (length (filled template numbers)) → Some last ≡ room_after left (length (formed form bytes numbers))
        → room_after last 1 ≡ room_after room (length (line template numbers form bytes))
    both {left} {last} first second = room_then left _ 1 second ∙ room_then room _ _ first ∙ whole
