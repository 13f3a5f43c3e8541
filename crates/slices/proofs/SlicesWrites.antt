-- Bytes written over a list from a place on, `sets list place bytes`, and the loop that writes them.
use Prim.Native.Nat.{ℕ, suc, ◌+◌, ◌-◌, ◌≤◌, ◌<◌, min}
use mathlib.Core.Bool.{Bool, true, false}
use mathlib.Core.List.{List, [], ◌∷◌, ◌++◌, append_assoc, append-nil}
use mathlib.Core.Path.{◌≡◌, refl, sym, ap, ◌∙◌}
use native.Mathlib.Numerals.{add-one}
use native.Mathlib.Omega.{arith}
use lib.Dec.{leb}
use lib.ListN.{length, take, drop, get_or, set, length-drop, drop_of_length-le, take-append-drop}
use lib.Seq.{sets, sets-eq, length-sets, set_out, take-suc, drop-drop, length-take-le, take_all}
use borrow.Author.Tests.{leb-true, leb-false}
use borrow.Rule.Slice.PartMut.{mid_of, put_mid, Post-is}

module _ {A : Type 0} where
  -- one write after another is one write
  pub sets_append : (l : List A) (i : ℕ) (xs ys : List A) → sets l i (xs ++ ys) ≡ sets (sets l i xs) (i + length xs) ys
  sets_append l i [] ys = ap (λ (k : ℕ). sets l k ys) (omega arith)
  sets_append l i (x ∷ xs) ys = sets_append (set l i x) (suc i) xs ys ∙ ap (λ (k : ℕ). sets (sets (set l i x) (suc i) xs) k ys) (omega arith)

  -- a write over the whole list
  pub sets_whole : (l xs : List A) → length xs ≡ length l → sets l 0 xs ≡ xs
  sets_whole l xs same =
      let inside : 0 + length xs ≤ length l = omega arith in
      let ended : length l ≤ 0 + length xs = omega arith in
      sets-eq xs l 0 inside ∙ ap (λ (r : List A). xs ++ r) (drop_of_length-le l ended) ∙ append-nil xs

  -- a part from a to e that came back with other elements
  pub sets_part : (l xs : List A) (a e : ℕ) → a + length xs ≡ e → e ≤ length l → take a l ++ (xs ++ drop e l) ≡ sets l a xs
  sets_part l xs a e end inside =
      let fits : a + length xs ≤ length l = omega arith in
      sym (append_assoc (take a l) xs (drop e l)) ∙ sym (sets-eq xs l a fits ∙ ap (λ (k : ℕ). take a l ++ xs ++ drop k l) end)

  -- the same, as the borrow checker puts the part back
  pub put_mid_sets : (l xs : List A) (a e : ℕ) → a + length xs ≡ e → e ≤ length l → put_mid a (e - a) l xs ≡ sets l a xs
  put_mid_sets l xs a e end inside = ap (λ (r : List A). take a l ++ (xs ++ r)) (Post-is a e l (omega arith)) ∙ sets_part l xs a e end inside

  -- a write into the tail from a
  pub sets_tail : (l xs : List A) (a : ℕ) → a + length xs ≤ length l → take a l ++ sets (drop a l) 0 xs ≡ sets l a xs
  sets_tail l xs a fits =
      let room : 0 + length xs ≤ length (drop a l) = omega (arith, length-drop a l) in
      ap (λ (r : List A). take a l ++ r) (sets-eq xs (drop a l) 0 room)
      ∙ ap (λ (r : List A). take a l ++ (xs ++ r)) (drop-drop (0 + length xs) a l)
      ∙ sets_part l xs a (a + (0 + length xs)) (omega arith) (omega arith)

  -- the tail from a that came back with a write at its head
  pub put_tail : (l xs : List A) (a : ℕ) → a + length xs ≤ length l
      → put_mid a (length l - a) l (sets (mid_of a (length l - a) l) 0 xs) ≡ sets l a xs
  put_tail l xs a fits =
      let long : length (drop a l) ≤ length l - a = omega (arith, length-drop a l) in
      ap (λ (r : List A). take a l ++ (sets r 0 xs ++ drop (length l - a) (drop a l))) (take_all (length l - a) (drop a l) long)
      ∙ ap (λ (r : List A). take a l ++ (sets (drop a l) 0 xs ++ r)) (drop_of_length-le (drop a l) long)
      ∙ ap (λ (r : List A). take a l ++ r) (append-nil (sets (drop a l) 0 xs))
      ∙ sets_tail l xs a fits

  -- a write past the end writes nothing
  pub sets_out : (l : List A) (i : ℕ) (xs : List A) → length l ≤ i → sets l i xs ≡ l
  sets_out l i [] past = refl
  sets_out l i (x ∷ xs) past =
      ap (λ (k : List A). sets k (suc i) xs) (set_out l i x past) ∙ sets_out l (suc i) xs (omega arith)

  -- a write that ends at the list's end writes no more
  pub sets_cut : (l xs : List A) (i n : ℕ) → n ≤ length xs → length l ≤ i + n → sets l i (take n xs) ≡ sets l i xs
  sets_cut l xs i n some ended =
      let count : length (take n xs) ≡ n = length-take-le n xs some in
      let past : length (sets l i (take n xs)) ≤ i + length (take n xs) = omega (arith, length-sets l i (take n xs)) in
      sym (sets_out (sets l i (take n xs)) (i + length (take n xs)) (drop n xs) past)
      ∙ sym (sets_append l i (take n xs) (drop n xs))
      ∙ ap (sets l i) (take-append-drop n xs)

  -- as much as fits is written, and the rest is not
  pub sets_fitting : (l xs : List A) (i n : ℕ) → n ≡ min (length xs) (length l - i) → sets l i (take n xs) ≡ sets l i xs
  sets_fitting l xs i n fits = by (leb (length xs) n) refl
    where
      by : (all : Bool) → leb (length xs) n ≡ all → sets l i (take n xs) ≡ sets l i xs
      by true test = ap (sets l i) (take_all n xs (leb-true _ _ test))
      by false test = let less : n < length xs = leb-false _ _ test in sets_cut l xs i n (omega arith) (omega arith)

  -- the same from the place, or from the end if it lies past the end
  pub placed_fitting : (l xs : List A) (i place n : ℕ) → place ≡ min i (length l) → n ≡ min (length xs) (length l - place) → sets l place (take n xs) ≡ sets l i xs
  placed_fitting l xs i place n from fits = by (leb i (length l)) refl
    where
      count : length (take n xs) ≡ n
      count = length-take-le n xs (omega arith)

      by : (inside : Bool) → leb i (length l) ≡ inside → sets l place (take n xs) ≡ sets l i xs
      by true test =
          let least : i ≤ length l = leb-true _ _ test in
          let here : place ≡ i = omega arith in
          ap (λ (k : ℕ). sets l k (take n xs)) here ∙ sets_fitting l xs i n (omega arith)
      by false test =
          let past : length l < i = leb-false _ _ test in
          sets_out l place (take n xs) (omega arith) ∙ sym (sets_out l i xs (omega arith))

  -- a turn of a loop that writes
  pub sets_more : (l xs : List A) (at i : ℕ) (z : A) → i < length xs → set (sets l at (take i xs)) (at + i) (get_or xs i z) ≡ sets l at (take (i + 1) xs)
  sets_more l xs at i z more =
      let count : length (take i xs) ≡ i = length-take-le i xs (omega arith) in
      sym
      (ap (λ (n : ℕ). sets l at (take n xs)) (add-one i)
      ∙ ap (sets l at) (take-suc xs i z more)
      ∙ sets_append l at (take i xs) (get_or xs i z ∷ [])
      ∙ ap (λ (n : ℕ). set (sets l at (take i xs)) (at + n) (get_or xs i z)) count)
