-- All locals freed at once, where each is room: the last that was made lies first.
-- Assumes `Logic`.
use Prim.Native.Nat.{zero}
use mathlib.Core.List.{List, [], ◌∷◌}
use seplogic.Ra.Ura.{Ura}
use base.Logic.{SProp, ent, sep, emp, via, comm∗, assoc∗, assoc', mono_l, mono_r, emp∗, fst∗, snd∗}
use base.Fml.{froom, fdies}
use prog.Wp.{Heap, Env, release}
use types.Logic.{Logic}
use types.Kit.{Goal, Item, ‵, Step, step, frees, aim, mean, ⋆, pop}

module _ {M : Type 1} (𝓤 : Ura M) (H : Heap 𝓤) where
  -- the rooms of the locals before a context, the last first
  abbrev pub rooms : Env 𝓤 H → List (Item 𝓤) → List (Item 𝓤)
  rooms [] Γ = Γ
  rooms (l ∷ E) Γ = rooms E (‵ (froom l.0 l.1 zero) ∷ ‵ (fdies l.0 l.1) ∷ Γ)

module _ {M : Type 1} {𝓤 : Ura M} (𝓛 : Logic 𝓤) where
  -- what freeing them takes
  open 𝓛 use {H}

  abbrev cells : Env 𝓤 H → SProp 𝓤
  cells [] = emp 𝓤
  cells (l ∷ E) = sep 𝓤 (sep 𝓤 (H.room l.0 l.1 zero) (H.dies l.0 l.1)) (cells E)

  -- two, one of which is first taken from the others' end
  apart : (R D C G : SProp 𝓤) → ent 𝓤 (sep 𝓤 C (sep 𝓤 R (sep 𝓤 D G))) (sep 𝓤 (sep 𝓤 (sep 𝓤 R D) C) G)
  apart R D C G =
      via 𝓤 (sep 𝓤 C (sep 𝓤 (sep 𝓤 R D) G)) (mono_r 𝓤 C (assoc' 𝓤 R D G))
      (via 𝓤 (sep 𝓤 (sep 𝓤 C (sep 𝓤 R D)) G) (assoc' 𝓤 C (sep 𝓤 R D) G) (mono_l 𝓤 G (comm∗ 𝓤 C (sep 𝓤 R D))))

  gathered : (E : Env 𝓤 H) (Γ : List (Item 𝓤)) → ent 𝓤 (⋆ 𝓛 (rooms 𝓤 H E Γ)) (sep 𝓤 (cells E) (⋆ 𝓛 Γ))
  gathered [] Γ = emp∗ 𝓤 (⋆ 𝓛 Γ)
  gathered (l ∷ E) Γ =
      via 𝓤 (sep 𝓤 (cells E) (⋆ 𝓛 (‵ (froom l.0 l.1 zero) ∷ ‵ (fdies l.0 l.1) ∷ Γ))) (gathered E (‵ (froom l.0 l.1 zero) ∷ ‵ (fdies l.0 l.1) ∷ Γ))
      (via 𝓤 (sep 𝓤 (cells E) (sep 𝓤 (H.room l.0 l.1 zero) (sep 𝓤 (H.dies l.0 l.1) (⋆ 𝓛 Γ)))) (mono_r 𝓤 (cells E) (mono_r 𝓤 (H.room l.0 l.1 zero) (pop 𝓛 (‵ (fdies l.0 l.1)) Γ)))
      (apart (H.room l.0 l.1 zero) (H.dies l.0 l.1) (cells E) (⋆ 𝓛 Γ)))

  given_up : (E : Env 𝓤 H) (P : SProp 𝓤) → ent 𝓤 (sep 𝓤 (cells E) P) (release 𝓤 H E P)
  given_up [] P = snd∗ 𝓤 (emp 𝓤) P
  given_up (l ∷ E) P =
      via 𝓤 (sep 𝓤 (sep 𝓤 (H.room l.0 l.1 zero) (H.dies l.0 l.1)) (sep 𝓤 (cells E) P)) (assoc∗ 𝓤 (sep 𝓤 (H.room l.0 l.1 zero) (H.dies l.0 l.1)) (cells E) P)
      (mono_r 𝓤 (sep 𝓤 (H.room l.0 l.1 zero) (H.dies l.0 l.1)) (given_up E P))

  -- two things before the rooms are left
  left : (i j : Item 𝓤) (E : Env 𝓤 H) (P : SProp 𝓤) → ent 𝓤 (⋆ 𝓛 (i ∷ j ∷ [])) P → ent 𝓤 (⋆ 𝓛 (i ∷ j ∷ rooms 𝓤 H E [])) (release 𝓤 H E P)
  left i j E P h =
      via 𝓤 (sep 𝓤 (mean 𝓛 i) (sep 𝓤 (mean 𝓛 j) (⋆ 𝓛 (rooms 𝓤 H E [])))) (mono_r 𝓤 (mean 𝓛 i) (pop 𝓛 j (rooms 𝓤 H E [])))
      (via 𝓤 (sep 𝓤 (sep 𝓤 (mean 𝓛 i) (mean 𝓛 j)) (⋆ 𝓛 (rooms 𝓤 H E []))) (assoc' 𝓤 (mean 𝓛 i) (mean 𝓛 j) (⋆ 𝓛 (rooms 𝓤 H E [])))
      (via 𝓤 (sep 𝓤 (⋆ 𝓛 (rooms 𝓤 H E [])) (sep 𝓤 (mean 𝓛 i) (mean 𝓛 j))) (comm∗ 𝓤 (sep 𝓤 (mean 𝓛 i) (mean 𝓛 j)) (⋆ 𝓛 (rooms 𝓤 H E [])))
      (via 𝓤 (sep 𝓤 (sep 𝓤 (cells E) (emp 𝓤)) (sep 𝓤 (mean 𝓛 i) (mean 𝓛 j))) (mono_l 𝓤 (sep 𝓤 (mean 𝓛 i) (mean 𝓛 j)) (gathered E []))
      (via 𝓤 (sep 𝓤 (cells E) (sep 𝓤 (mean 𝓛 i) (mean 𝓛 j))) (mono_l 𝓤 (sep 𝓤 (mean 𝓛 i) (mean 𝓛 j)) (fst∗ 𝓤 (cells E) (emp 𝓤)))
      (via 𝓤 (sep 𝓤 (cells E) P) (mono_r 𝓤 (cells E) h) (given_up E P))))))

module _ {M : Type 1} {𝓤 : Ura M} {𝓛 : Logic 𝓤} {K : Type 0} where
  open 𝓛 use {H}

  pub freed : K → {i j : Item 𝓤} {E : Env 𝓤 H} {g : Goal 𝓤 H} → Step K 𝓛 (i ∷ j ∷ []) g (i ∷ j ∷ rooms 𝓤 H E []) (frees E g)
  freed t {i} {j} {E} {g} = step (λ s. record { prf = left 𝓛 i j E (aim 𝓤 H g) s.prf })
