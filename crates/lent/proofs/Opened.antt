-- A lent slice that a walk holds as a group of one thing is opened to its elements, and closed again at new ones.
-- Assumes `Logic`.
use Prim.Native.Nat.{ℕ}
use mathlib.Core.Path.{◌≡◌, sym, ap, subst}
use mathlib.Core.List.{List, [], ◌∷◌}
use lib.ListN.{length}
use seplogic.Ra.Ura.{Ura}
use base.Fraction.{full_share}
use base.Fml.{Lft, GName, Share, fobor, fobs, fauth}
use types.Logic.{Logic}
use types.Kit.{Item, ‵, Goal, Soaks, Step, step, ◌$◌, move, drop, fsplit, fjoin}
use denote.RattleType.{RattleType}
use denote.Shadow.{pure_i}
use denote.Slice.{slice_val, Room, mut_slice_at, heres, coded_holeys}
use denote.Lend.{Held}
use denote.Index.{row, opens_slice, closes_slice}
use denote.Steps.{nothing}
use Rattle.lent.proofs.Lent.{Thing, part, have, tokens}

-- the group of one slice
abbrev one : (R : RattleType) (κ : Lft) (q : Share) (γ : GName) (b o n : ℕ) → List Thing
one R κ q γ b o n = part R b o n κ q γ ∷ []

-- the whole share of the elements zs, and what closes the borrow that was opened at ys
abbrev opened : {M : Type 1} (𝓤 : Ura M) (R : RattleType) (κ : Lft) (q : Share) (γ : GName) (ys zs : List R.Denot) (b o : ℕ) → List (Item 𝓤) → List (Item 𝓤)
opened 𝓤 R κ q γ ys zs b o Γ = ‵ (row R full_share zs b o) ∷ ‵ (fobor κ q (Held R (length ys) b o γ)) ∷ ‵ (fobs γ ((coded_holeys R).code (heres R ys))) ∷ ‵ (fauth γ ((coded_holeys R).code (heres R ys))) ∷ Γ

module _ {M : Type 1} {𝓤 : Ura M} {𝓛 : Logic 𝓤} {K : Type 0} {Γ : List (Item 𝓤)} {G : Goal 𝓤 𝓛.H} where
  -- the slice is opened
  pub opens_part : K → Soaks G → (R : RattleType) {κ : Lft} {q : Share} {γ : GName} (ys : List R.Denot) (b o n : ℕ)
      → Step K 𝓛 (opened 𝓤 R κ q γ ys ys b o Γ) G (‵ (have (one R κ q γ b o n) (ys, tt)) ∷ ‵ (tokens (one R κ q γ b o n)) ∷ Γ) G
  opens_part t z R ys b o n = step (λ s.
      fsplit t $ fsplit t $ drop t $ fsplit t $ move t (3 ∷ []) $ fsplit t $ move t (1 ∷ []) $ drop t $ move t (3 ∷ []) $ drop t $ move t (1 ∷ 2 ∷ []) $
      opens_slice t z R ys b o $ s)

  -- and closed, at elements of the same number
  pub closes_part : K → Soaks G → (R : RattleType) {κ : Lft} {q : Share} {γ : GName} (ys zs : List R.Denot) (b o n : ℕ) → length zs ≡ length ys → length zs ≡ n → Room R n
      → Step K 𝓛 (‵ (have (one R κ q γ b o n) (zs, tt)) ∷ ‵ (tokens (one R κ q γ b o n)) ∷ Γ) G (opened 𝓤 R κ q γ ys zs b o Γ) G
  closes_part t z R {κ} {q} {γ} ys zs b o n same count room = step (λ s.
      closes_slice t z R ys zs same b o $ fjoin t $
      pure_i t (mut_slice_at R (record { ref_ptr = (b, o); ghost_name = γ; now = zs }) (slice_val (b, o) n ∷ [])) (tt, (tt, tt)) (ap (λ (m : ℕ). slice_val (b, o) m ∷ []) (sym count), subst (Room R) (sym count) room) $
      fjoin t $ nothing t $ move t (1 ∷ 0 ∷ []) $ fjoin t $ nothing t $ move t (2 ∷ 0 ∷ []) $ fjoin t $ move t (1 ∷ 0 ∷ []) $ s)
