-- Every cell that a context holds whole, given up at once: it is room, whatever it held.
-- Assumes `Logic`.
use mathlib.Core.Path.{◌≡◌, ap, sym, subst}
use mathlib.Core.List.{List, [], ◌∷◌}
use seplogic.Ra.Ura.{Ura}
use base.Fraction.{full_share}
use base.Logic.{ent, id⊢, via, mono∗}
use base.Fml.{Fml, Share, ftrue, ffalse, feq, flt, fsep, fand, for, fwand, fex, fall, fupd, fat, froom, fdies, flft, fdead, fobs, fauth, fres, fbor, fobor, flent, fshr_bor, fhide, fleft, fown, finv, fnamed, ftok, fkid, fme, fsent}
use types.Logic.{Logic, sem}
use types.Kit.{Goal, Item, ‵, raw, some, given, later, ◌⊛◌, Step, step, mean, ⋆, push, pop}

-- a cell as room; anything else as it is
abbrev pub room : Fml → Fml
room ftrue = ftrue
room ffalse = ffalse
room (feq A x y) = feq A x y
room (flt m n) = flt m n
room (fsep F G) = fsep F G
room (fand F G) = fand F G
room (for F G) = for F G
room (fwand F G) = fwand F G
room (fex A F) = fex A F
room (fall A F) = fall A F
room (fupd F) = fupd F
room (fat q τ b o v) = froom τ b o
room (froom τ b o) = froom τ b o
room (fdies τ b) = fdies τ b
room (flft κ q) = flft κ q
room (fdead κ) = fdead κ
room (fobs γ v) = fobs γ v
room (fauth γ v) = fauth γ v
room (fres γ v) = fres γ v
room (fbor κ F) = fbor κ F
room (fobor κ q F) = fobor κ q F
room (flent κ F) = flent κ F
room (fshr_bor κ F) = fshr_bor κ F
room (fhide F) = fhide F
room (fleft q τ τs b o) = fleft q τ τs b o
room (fown R γ x) = fown R γ x
room (finv F) = finv F
room (fnamed n F) = fnamed n F
room (ftok m) = ftok m
room (fkid h a) = fkid h a
room (fme h) = fme h
room (fsent h) = fsent h

-- the share of a cell that is held; the whole of anything else
abbrev pub share : Fml → Share
share ftrue = full_share
share ffalse = full_share
share (feq A x y) = full_share
share (flt m n) = full_share
share (fsep F G) = full_share
share (fand F G) = full_share
share (for F G) = full_share
share (fwand F G) = full_share
share (fex A F) = full_share
share (fall A F) = full_share
share (fupd F) = full_share
share (fat q τ b o v) = q
share (froom τ b o) = full_share
share (fdies τ b) = full_share
share (flft κ q) = full_share
share (fdead κ) = full_share
share (fobs γ v) = full_share
share (fauth γ v) = full_share
share (fres γ v) = full_share
share (fbor κ F) = full_share
share (fobor κ q F) = full_share
share (flent κ F) = full_share
share (fshr_bor κ F) = full_share
share (fhide F) = full_share
share (fleft q τ τs b o) = full_share
share (fown R γ x) = full_share
share (finv F) = full_share
share (fnamed n F) = full_share
share (ftok m) = full_share
share (fkid h a) = full_share
share (fme h) = full_share
share (fsent h) = full_share

module _ {M : Type 1} (𝓤 : Ura M) where
  abbrev pub room_item : Item 𝓤 → Item 𝓤
  room_item (‵ F) = ‵ (room F)
  room_item (raw P) = raw P
  room_item (i ⊛ j) = i ⊛ j
  room_item (some F) = some F
  room_item (given φ i) = given φ i
  room_item (later i) = later i

  abbrev pub share_item : Item 𝓤 → Share
  share_item (‵ F) = share F
  share_item (raw P) = full_share
  share_item (i ⊛ j) = full_share
  share_item (some F) = full_share
  share_item (given φ i) = full_share
  share_item (later i) = full_share

  -- of a whole context
  abbrev pub empty : List (Item 𝓤) → List (Item 𝓤)
  empty [] = []
  empty (i ∷ Γ) = room_item i ∷ empty Γ

  abbrev pub shares : List (Item 𝓤) → List Share
  shares [] = []
  shares (i ∷ Γ) = share_item i ∷ shares Γ

  abbrev pub wholes : List (Item 𝓤) → List Share
  wholes [] = []
  wholes (i ∷ Γ) = full_share ∷ wholes Γ

abbrev first : List Share → Share
first [] = full_share
first (q ∷ qs) = q

abbrev rest : List Share → List Share
rest [] = []
rest (q ∷ qs) = qs

module _ {M : Type 1} {𝓤 : Ura M} (𝓛 : Logic 𝓤) where
  open 𝓛 use {H}

  one : (F : Fml) → share F ≡ full_share → ent 𝓤 (sem 𝓛 F) (sem 𝓛 (room F))
  one ftrue e = id⊢ 𝓤 _
  one ffalse e = id⊢ 𝓤 _
  one (feq X x y) e = id⊢ 𝓤 _
  one (flt m n) e = id⊢ 𝓤 _
  one (fsep F G) e = id⊢ 𝓤 _
  one (fand F G) e = id⊢ 𝓤 _
  one (for F G) e = id⊢ 𝓤 _
  one (fwand F G) e = id⊢ 𝓤 _
  one (fex X F) e = id⊢ 𝓤 _
  one (fall X F) e = id⊢ 𝓤 _
  one (fupd F) e = id⊢ 𝓤 _
  one (fat q τ b o v) e = subst (λ (p : Share). ent 𝓤 (H.at p τ b o v) (H.room τ b o)) (sym e) (𝓛.laws.at_room τ b o v)
  one (froom τ b o) e = id⊢ 𝓤 _
  one (fdies τ b) e = id⊢ 𝓤 _
  one (flft κ q) e = id⊢ 𝓤 _
  one (fdead κ) e = id⊢ 𝓤 _
  one (fobs γ v) e = id⊢ 𝓤 _
  one (fauth γ v) e = id⊢ 𝓤 _
  one (fres γ v) e = id⊢ 𝓤 _
  one (fbor κ F) e = id⊢ 𝓤 _
  one (fobor κ q F) e = id⊢ 𝓤 _
  one (flent κ F) e = id⊢ 𝓤 _
  one (fshr_bor κ F) e = id⊢ 𝓤 _
  one (fhide F) e = id⊢ 𝓤 _
  one (fleft q τ τs b o) e = id⊢ 𝓤 _
  one (fown R γ x) e = id⊢ 𝓤 _
  one (finv F) e = id⊢ 𝓤 _
  one (fnamed n F) e = id⊢ 𝓤 _
  one (ftok m) e = id⊢ 𝓤 _
  one (fkid h a) e = id⊢ 𝓤 _
  one (fme h) e = id⊢ 𝓤 _
  one (fsent h) e = id⊢ 𝓤 _

  one_item : (i : Item 𝓤) → share_item 𝓤 i ≡ full_share → ent 𝓤 (mean 𝓛 i) (mean 𝓛 (room_item 𝓤 i))
  one_item (‵ F) e = one F e
  one_item (raw P) e = id⊢ 𝓤 _
  one_item (i ⊛ j) e = id⊢ 𝓤 _
  one_item (some F) e = id⊢ 𝓤 _
  one_item (given φ i) e = id⊢ 𝓤 _
  one_item (later i) e = id⊢ 𝓤 _

  each : (Γ : List (Item 𝓤)) → shares 𝓤 Γ ≡ wholes 𝓤 Γ → ent 𝓤 (⋆ 𝓛 Γ) (⋆ 𝓛 (empty 𝓤 Γ))
  each [] e = id⊢ 𝓤 _
  each (i ∷ Γ) e =
      via 𝓤 _ (pop 𝓛 i Γ) (via 𝓤 _ (mono∗ 𝓤 (one_item i (ap first e)) (each Γ (ap rest e))) (push 𝓛 (room_item 𝓤 i) (empty 𝓤 Γ)))

module _ {M : Type 1} {𝓤 : Ura M} {𝓛 : Logic 𝓤} {K : Type 0} {Γ : List (Item 𝓤)} {G : Goal 𝓤 𝓛.H} where
  pub emptied : K → shares 𝓤 Γ ≡ wholes 𝓤 Γ → Step K 𝓛 (empty 𝓤 Γ) G Γ G
  emptied t e = step (λ s. record { prf = via 𝓤 (⋆ 𝓛 (empty 𝓤 Γ)) (each 𝓛 Γ e) s.prf })
