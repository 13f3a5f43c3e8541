-- A title as a record holds it, and as it is written over zeros.
use Rattle.std.proofs.Common.{◌≡◌, ℕ, zero, suc, ◌+◌, ◌-◌, ◌≤◌, List, [], ◌∷◌, ◌++◌, take, set, replicate, sym, refl, ap, ◌∙◌, arith, take_at}
use lib.ListN.{length-replicate, replicate-append-replicate}
use lib.Seq.{sets}
use Rattle.slices.proofs.SlicesWrites.{sets_out}
use Rattle.storage.specs.Tasks.{no_title, title_of}

module _ {A : Type 0} where
  -- a write behind the first element leaves it
  sets_behind : (y : A) (l : List A) (i : ℕ) (xs : List A) → sets (y ∷ l) (suc i) xs ≡ y ∷ sets l i xs
  sets_behind y l i [] = refl
  sets_behind y l i (x ∷ xs) = sets_behind y (set l i x) (suc i) xs

  -- the first of equal elements
  take_replicate : (n m : ℕ) (a : A) → n ≤ m → take n (replicate m a) ≡ replicate n a
  take_replicate n m a some =
      let split : m ≡ n + (m - n) = omega arith in
      ap (λ (k : ℕ). take n (replicate k a)) split
      ∙ ap (take n) (sym (replicate-append-replicate n (m - n) a))
      ∙ take_at (replicate n a) (replicate (m - n) a) n (length-replicate n a)

  -- a write over n equal elements is the write's first n with such elements behind
  pub sets_over : (n m : ℕ) (a : A) (xs : List A) → n ≤ m → sets (replicate n a) 0 xs ≡ take n (xs ++ replicate m a)
  sets_over zero m a xs some = sets_out [] 0 xs (omega arith)
  sets_over (suc n) m a [] some = sym (take_replicate (suc n) m a some)
  sets_over (suc n) m a (x ∷ xs) some = sets_behind x (replicate n a) 0 xs ∙ ap (λ (l : List A). x ∷ l) (sets_over n m a xs (omega arith))

-- a title written over zeros is as a record holds it
pub title_written : (bytes : List ℕ) → sets (replicate 128 0) 0 bytes ≡ title_of bytes
unfolding title_of no_title
title_written bytes = sets_over 128 128 0 bytes (omega arith)
