-- A call whose first arguments are things that the caller holds by reference and uses again: any number of `&mut [X]`, `&mut R` and `&[u8]`, then plain data.
-- Each is lent again for a lifetime that is made for the call, and comes back at the last value that the callee's contract says; a `&[u8]` as it was.
-- Assumes `Logic`.
use Prim.Native.Nat.{ℕ, zero, suc}
use mathlib.Core.Path.{◌≡◌, ◌∙◌, sym, subst}
use mathlib.Core.List.{List, [], ◌∷◌}
use lib.ListN.{length}
use seplogic.Ra.Ura.{Ura}
use base.Fraction.{full_share}
use mir.Syntax.{Callee, Place, named, Opd as Operand, Body, seq, call}
use mir.Val.{Val, vptr}
use base.Logic.{ent, sep, ex, emp, id⊢, via, fst∗, snd∗, guard}
use base.Fml.{Lft, GName, Share, Fml, ftrue, fsep, flft, fdead}
use prog.Wp.{Env, Calls, Loops}
use types.Logic.{Logic, sem}
use contract.Lifetimes.{Lfts, Shares, Within, lft_at, toks}
use types.Kit.{Item, ‵, raw, given, ◌⊛◌, some, later, Post, runs, lands, Seq, ◌$◌, ◌∵◌, !, qed, move, drop, keep, use0, use1, use2, use3, split, join, pick, fsplit, fjoin, feq_l, learn, check, await, updating, now as at_once, show, done}
use types.Run.{Opds}
use types.Tokens.{lft_new, lft_end}
use sound.WpLaws.{FmC}
use denote.RattleType.{RattleType, Denots, Valss, flat, owns}
use denote.Builtin.{u8}
use denote.Exit.{yes, Last, left}
use denote.Ref.{MutRef}
use denote.Slice.{slice_val, MutSlice, ShrSlice, Room, finally}
use denote.Lend.{LentAgain as LentRefAgain, lends_again as lends-ref-again, comes_back as ref-comes-back}
use denote.Signature.{Slot, Signature, plain, mut_ref, mut_slice, shr_slice, types_at}
use denote.Steps.{nothing}
use denote.Triple.End.{all, Fins, lasts_of}
use denote.Triple.Statement.{Contract, Triple}
use denote.Triple.Spec.{triple_of}
use denote.Triple.Call.{calls_at}
use denote.Triple.Clauses.{Ended, Clauses, Lasts, at_exit, lasts, ensured, closing}
use Rattle.lent.proofs.Again.{LentAgain, lends_again, comes_back}
use Rattle.lent.proofs.Seen.{SeenAgain, seen_again, seen_back}

-- ---- one lent thing

-- what is held: where it lies, its count (of a slice), and the lifetime, share and (of a `&mut`) name at which it is held
pub data Thing : Type 2 where
  part : (X : RattleType) (b o n : ℕ) (κ : Lft) (q : Share) (γ : GName) → Thing  -- a `&κ mut [X]` of n elements
  whole : (R : RattleType) (b o : ℕ) (κ : Lft) (q : Share) (γ : GName) → Thing  -- a `&κ mut R`
  seen : (b o n : ℕ) (κ : Lft) (q : Share) → Thing  -- a `&κ [u8]` of n bytes

-- its value
abbrev pub Now : Thing → Type 0
Now (part X b o n κ q γ) = List X.Denot
Now (whole R b o κ q γ) = R.Denot
Now (seen b o n κ q) = List ℕ

-- what is known of it for good
abbrev pub Fits : Thing → Type 0
Fits (part X b o n κ q γ) = Room X n
Fits (whole R b o κ q γ) = Unit {0}
Fits (seen b o n κ q) = Unit {0}

-- what is known of its value
abbrev pub Fit : (t : Thing) → Now t → Type 0
Fit (part X b o n κ q γ) ys = length ys ≡ n
Fit (whole R b o κ q γ) x = Unit {0}
Fit (seen b o n κ q) ys = length ys ≡ n

-- its machine value
abbrev pub val : Thing → Val
val (part X b o n κ q γ) = slice_val (b, o) n
val (whole R b o κ q γ) = vptr b o
val (seen b o n κ q) = slice_val (b, o) n

-- what its holder owns
abbrev pub has : (t : Thing) → Now t → Fml
has (part X b o n κ q γ) ys = (MutSlice (named 0) κ X).own_val (record { ref_ptr = (b, o); ghost_name = γ; now = ys }) (slice_val (b, o) n ∷ [])
has (whole R b o κ q γ) x = (MutRef (named 0) κ R).own_val (record { ref_ptr = (b, o); ghost_name = γ; now = x }) (vptr b o ∷ [])
has (seen b o n κ q) ys = (ShrSlice (named 0) κ u8).own_val (record { ref_ptr = (b, o); now = ys }) (slice_val (b, o) n ∷ [])

-- a share of its lifetime
abbrev pub token : Thing → Fml
token (part X b o n κ q γ) = flft κ q
token (whole R b o κ q γ) = flft κ q
token (seen b o n κ q) = flft κ q

-- what its holder keeps while it is lent again
abbrev pub kept : (t : Thing) → Lft → GName → Now t → Fml
kept (part X b o n κ q γ) κ' δ ys = LentAgain X κ κ' q γ b o δ ys
kept (whole R b o κ q γ) κ' δ x = LentRefAgain R κ κ' q γ b o δ x
kept (seen b o n κ q) κ' δ ys = SeenAgain κ κ' q b o ys

module _ (n : ℕ) where
  -- its parameter, at the j-th of n lifetimes
  abbrev pub slot : Thing → (j : ℕ) → Within n j → Slot n
  slot (part X b o m κ q γ) j ok = mut_slice j ok (λ _. X)
  slot (whole R b o κ q γ) j ok = mut_ref j ok (λ _. R)
  slot (seen b o m κ q) j ok = shr_slice j ok (λ _. u8)

  module _ (κs : Lfts n) where
    -- its argument, under a new name
    abbrev pub arg : (t : Thing) (j : ℕ) (ok : Within n j) → GName → Now t → ((slot t j ok).row κs).Denot
    arg (part X b o m κ q γ) j ok δ ys = record { ref_ptr = (b, o); ghost_name = δ; now = ys }
    arg (whole R b o κ q γ) j ok δ x = record { ref_ptr = (b, o); ghost_name = δ; now = x }
    arg (seen b o m κ q) j ok δ ys = record { ref_ptr = (b, o); now = ys }

    -- its last value, of what the contract binds
    abbrev pub new : (t : Thing) (j : ℕ) (ok : Within n j) (δ : GName) (x : Now t) → Last (((slot t j ok).row κs).exit yes) (arg t j ok δ x) → Now t
    new (part X b o m κ q γ) j ok δ ys w = w
    new (whole R b o κ q γ) j ok δ x w = w
    new (seen b o m κ q) j ok δ ys w = ys

    module _ {M : Type 1} {𝓤 : Ura M} (𝓛 : Logic 𝓤) where
      -- it is lent again
      open 𝓛 use {H, A}

      lends : (t : Thing) (j : ℕ) (ok : Within n j) (x : Now t) → Fit t x
          → ent 𝓤 (sep 𝓤 (sem 𝓛 (has t x)) (sem 𝓛 (token t)))
          (H.⇛ (ex 𝓤 (λ (δ : GName). sep 𝓤 (sem 𝓛 (((slot t j ok).row κs).own_val (arg t j ok δ x) (val t ∷ []))) (sem 𝓛 (kept t (lft_at n j ok κs) δ x)))))
      lends (part X b o m κ q γ) j ok ys e = subst (λ (i : ℕ). ent 𝓤 (sep 𝓤 (sem 𝓛 ((MutSlice (named 0) κ X).own_val (record { ref_ptr = (b, o); ghost_name = γ; now = ys }) (slice_val (b, o) i ∷ []))) (A.lft κ q))
          (H.⇛ (ex 𝓤 (λ (δ : GName). sep 𝓤 (sem 𝓛 ((MutSlice (named j) (lft_at n j ok κs) X).own_val (record { ref_ptr = (b, o); ghost_name = δ; now = ys }) (slice_val (b, o) i ∷ []))) (sem 𝓛 (LentAgain X κ (lft_at n j ok κs) q γ b o δ ys)))))) e
          (lends_again X κ (lft_at n j ok κs) q γ b o 𝓛 (named 0) (named j) ys)
      lends (whole R b o κ q γ) j ok x e = lends-ref-again 𝓛 R (named 0) κ (lft_at n j ok κs) q γ b o (named j) x
      lends (seen b o m κ q) j ok ys e = subst (λ (i : ℕ). ent 𝓤 (sep 𝓤 (sem 𝓛 ((ShrSlice (named 0) κ u8).own_val (record { ref_ptr = (b, o); now = ys }) (slice_val (b, o) i ∷ []))) (A.lft κ q))
          (H.⇛ (ex 𝓤 (λ (δ : GName). sep 𝓤 (sem 𝓛 ((ShrSlice (named j) (lft_at n j ok κs) u8).own_val (record { ref_ptr = (b, o); now = ys }) (slice_val (b, o) i ∷ []))) (sem 𝓛 (SeenAgain κ (lft_at n j ok κs) q b o ys)))))) e
          (qed 𝓛 (‵ ((ShrSlice (named 0) κ u8).own_val (record { ref_ptr = (b, o); now = ys }) (slice_val (b, o) (length ys) ∷ [])) ∷ ‵ (flft κ q) ∷ []) ∵ updating ! $
          use2 𝓛 (later (‵ ((ShrSlice (named j) (lft_at n j ok κs) u8).own_val (record { ref_ptr = (b, o); now = ys }) (slice_val (b, o) (length ys) ∷ [])) ⊛ ‵ (SeenAgain κ (lft_at n j ok κs) q b o ys))) (seen_again κ (lft_at n j ok κs) q b o 𝓛 ys (named j)) $
          await ! tt $ split ! $ at_once ! $
          show ! (λ (δ : GName). sep 𝓤 (sem 𝓛 ((ShrSlice (named j) (lft_at n j ok κs) u8).own_val (record { ref_ptr = (b, o); now = ys }) (slice_val (b, o) (length ys) ∷ []))) (sem 𝓛 (SeenAgain κ (lft_at n j ok κs) q b o ys))) 0 $ done !)

      -- it comes back
      backs : (t : Thing) (j : ℕ) (ok : Within n j) (δ : GName) (x : Now t) (w : Last (((slot t j ok).row κs).exit yes) (arg t j ok δ x)) → Fits t → Fit t x
          → ent 𝓤 (sep 𝓤 (A.dead (lft_at n j ok κs)) (sep 𝓤 (sem 𝓛 (kept t (lft_at n j ok κs) δ x)) (sem 𝓛 (left (((slot t j ok).row κs).exit yes) (arg t j ok δ x) w))))
          (H.⇛ (guard 𝓤 (Fit t (new t j ok δ x w)) (sep 𝓤 (sem 𝓛 (has t (new t j ok δ x w))) (sem 𝓛 (token t)))))
      backs (part X b o m κ q γ) j ok δ ys zs room e =
          qed 𝓛 (‵ (fdead (lft_at n j ok κs)) ∷ ‵ (LentAgain X κ (lft_at n j ok κs) q γ b o δ ys) ∷ ‵ (left (((mut_slice {n = n} j ok (λ _. X)).row κs).exit yes) (record { ref_ptr = (b, o); ghost_name = δ; now = ys }) zs) ∷ []) ∵ updating ! $
          move ! (2 ∷ []) $ fsplit ! $ move ! (1 ∷ []) $ drop ! $ fsplit ! $ move ! (1 ∷ []) $ feq_l ! (λ l. move ! (1 ∷ 2 ∷ 0 ∷ []) $
          use3 𝓛 (later (‵ ((MutSlice (named 0) κ X).own_val (record { ref_ptr = (b, o); ghost_name = γ; now = zs }) (slice_val (b, o) m ∷ [])) ⊛ ‵ (flft κ q))) (at_count l) $ await ! tt $ split ! $ at_once ! $ check ! (l ∙ e) $ done !)
        where
          at_count : length zs ≡ length ys → ent 𝓤 (sep 𝓤 (A.dead (lft_at n j ok κs)) (sep 𝓤 (sem 𝓛 (LentAgain X κ (lft_at n j ok κs) q γ b o δ ys)) (sem 𝓛 (finally X δ zs))))
              (H.⇛ (sep 𝓤 (sem 𝓛 ((MutSlice (named 0) κ X).own_val (record { ref_ptr = (b, o); ghost_name = γ; now = zs }) (slice_val (b, o) m ∷ []))) (A.lft κ q)))
          at_count l = subst (λ (i : ℕ). ent 𝓤 (sep 𝓤 (A.dead (lft_at n j ok κs)) (sep 𝓤 (sem 𝓛 (LentAgain X κ (lft_at n j ok κs) q γ b o δ ys)) (sem 𝓛 (finally X δ zs))))
              (H.⇛ (sep 𝓤 (sem 𝓛 ((MutSlice (named 0) κ X).own_val (record { ref_ptr = (b, o); ghost_name = γ; now = zs }) (slice_val (b, o) i ∷ []))) (A.lft κ q)))) e
              (comes_back X κ (lft_at n j ok κs) q γ b o 𝓛 (named 0) (named j) ys δ zs (subst (Room X) (sym e) room) l)
      backs (whole R b o κ q γ) j ok δ x y room e =
          qed 𝓛 (‵ (fdead (lft_at n j ok κs)) ∷ ‵ (LentRefAgain R κ (lft_at n j ok κs) q γ b o δ x) ∷ ‵ (left (((mut_ref {n = n} j ok (λ _. R)).row κs).exit yes) (record { ref_ptr = (b, o); ghost_name = δ; now = x }) y) ∷ []) ∵ updating ! $ move ! (2 ∷ []) $ fsplit ! $ move ! (1 ∷ []) $ drop ! $ move ! (1 ∷ 2 ∷ 0 ∷ []) $
          use3 𝓛 (later (‵ ((MutRef (named 0) κ R).own_val (record { ref_ptr = (b, o); ghost_name = γ; now = y }) (vptr b o ∷ [])) ⊛ ‵ (flft κ q))) (ref-comes-back 𝓛 R (named 0) κ (lft_at n j ok κs) q γ b o δ x y) $
          await ! tt $ split ! $ at_once ! $ check ! tt $ done !
      backs (seen b o m κ q) j ok δ ys w room e =
          qed 𝓛 (‵ (fdead (lft_at n j ok κs)) ∷ ‵ (SeenAgain κ (lft_at n j ok κs) q b o ys) ∷ ‵ ftrue ∷ []) ∵ updating ! $
          use2 𝓛 (later (‵ ((ShrSlice (named 0) κ u8).own_val (record { ref_ptr = (b, o); now = ys }) (slice_val (b, o) m ∷ [])) ⊛ ‵ (flft κ q))) at_count $ await ! tt $ split ! $ at_once ! $ check ! e $ keep ! (0 ∷ 1 ∷ []) $ done !
        where
          at_count : ent 𝓤 (sep 𝓤 (A.dead (lft_at n j ok κs)) (sem 𝓛 (SeenAgain κ (lft_at n j ok κs) q b o ys)))
              (H.⇛ (sep 𝓤 (sem 𝓛 ((ShrSlice (named 0) κ u8).own_val (record { ref_ptr = (b, o); now = ys }) (slice_val (b, o) m ∷ []))) (A.lft κ q)))
          at_count = subst (λ (i : ℕ). ent 𝓤 (sep 𝓤 (A.dead (lft_at n j ok κs)) (sem 𝓛 (SeenAgain κ (lft_at n j ok κs) q b o ys)))
              (H.⇛ (sep 𝓤 (sem 𝓛 ((ShrSlice (named 0) κ u8).own_val (record { ref_ptr = (b, o); now = ys }) (slice_val (b, o) i ∷ []))) (A.lft κ q)))) e
              (seen_back κ (lft_at n j ok κs) q b o 𝓛 ys)

-- ---- a list of them

-- their values
abbrev pub Nows : List Thing → Type 0
Nows [] = Unit {0}
Nows (t ∷ ts) = Now t × Nows ts

-- what is known of them for good
abbrev pub AllFits : List Thing → Type 0
AllFits [] = Unit {0}
AllFits (t ∷ ts) = Fits t × AllFits ts

-- what is known of their values
abbrev pub AllFit : (ts : List Thing) → Nows ts → Type 0
AllFit [] xs = Unit {0}
AllFit (t ∷ ts) xs = Fit t xs.0 × AllFit ts xs.1

-- their names in the call
abbrev pub Names : List Thing → Type 0
Names [] = Unit {0}
Names (t ∷ ts) = GName × Names ts

-- what their holder owns
abbrev pub have : (ts : List Thing) → Nows ts → Fml
have [] xs = ftrue
have (t ∷ ts) xs = fsep (has t xs.0) (have ts xs.1)

-- a share of each one's lifetime
abbrev pub tokens : List Thing → Fml
tokens [] = ftrue
tokens (t ∷ ts) = fsep (token t) (tokens ts)

-- each has a lifetime of its own, from the j-th on
abbrev pub Places : ℕ → ℕ → List Thing → Type 0
Places n j [] = Unit {0}
Places n j (t ∷ ts) = Within n j × Places n (suc j) ts

-- ---- lifetimes that are made for the call

-- n fresh numbers
abbrev pub Numbers : ℕ → Type 0
Numbers zero = Unit {0}
Numbers (suc n) = ℕ × Numbers n

-- the lifetimes of those numbers
abbrev pub fresh : (n : ℕ) → Numbers n → Lfts n
fresh zero αs = tt
fresh (suc n) αs = (αs.0 ∷ [], fresh n αs.1)

-- the whole share of each
abbrev pub whole_shares : (n : ℕ) → Shares n
whole_shares zero = tt
whole_shares (suc n) = (full_share, whole_shares n)

-- all of them are over
abbrev over : (n : ℕ) → Lfts n → Fml
over zero κs = ftrue
over (suc n) κs = fsep (fdead κs.0) (over n κs.1)

module _ {M : Type 1} {𝓤 : Ura M} (𝓛 : Logic 𝓤) where
  -- n lifetimes are made
  open 𝓛 use {H, A}

  all_new : (n : ℕ) → ent 𝓤 (emp 𝓤) (H.⇛ (ex 𝓤 (λ (αs : Numbers n). toks 𝓛 n (fresh n αs) (whole_shares n))))
  all_new zero = qed 𝓛 [] ∵ updating ! $ at_once ! $ show ! (λ (αs : Numbers zero). toks 𝓛 zero (fresh zero αs) (whole_shares zero)) tt $ done !
  all_new (suc n) =
      qed 𝓛 [] ∵ updating ! $ use0 𝓛 (later (some (λ (αs : Numbers n). raw (toks 𝓛 n (fresh n αs) (whole_shares n))))) (all_new n) $ await ! tt $ pick ! (λ αs. lft_new ! tt (λ α.
      at_once ! $ show ! (λ (βs : Numbers (suc n)). toks 𝓛 (suc n) (fresh (suc n) βs) (whole_shares (suc n))) (α, αs) $ done !))

  -- and ended
  all_end : (n : ℕ) (αs : Numbers n) → ent 𝓤 (toks 𝓛 n (fresh n αs) (whole_shares n)) (H.⇛ (sem 𝓛 (over n (fresh n αs))))
  all_end zero αs = qed 𝓛 (‵ ftrue ∷ []) ∵ updating ! $ at_once ! $ done !
  all_end (suc n) αs =
      qed 𝓛 (‵ (flft (αs.0 ∷ []) full_share) ∷ raw (toks 𝓛 n (fresh n αs.1) (whole_shares n)) ∷ []) ∵ updating ! $ lft_end ! tt $ move ! (1 ∷ []) $
      use1 𝓛 (later (‵ (over n (fresh n αs.1)))) (all_end n αs.1) $ await ! tt $ at_once ! $ move ! (1 ∷ 0 ∷ []) $ done !

  -- each of them is over
  dead_at : (n j : ℕ) (ok : Within n j) (κs : Lfts n) → ent 𝓤 (sem 𝓛 (over n κs)) (A.dead (lft_at n j ok κs))
  dead_at zero j ok κs = absurd ok
  dead_at (suc n) zero ok κs = fst∗ 𝓤 (A.dead κs.0) (sem 𝓛 (over n κs.1))
  dead_at (suc n) (suc j) ok κs = via 𝓤 (sem 𝓛 (over n κs.1)) (snd∗ 𝓤 (A.dead κs.0) (sem 𝓛 (over n κs.1))) (dead_at n j ok κs.1)

  -- that they are over can be said twice
  dead_twice : (n : ℕ) (κs : Lfts n) → ent 𝓤 (sem 𝓛 (over n κs)) (sep 𝓤 (sem 𝓛 (over n κs)) (sem 𝓛 (over n κs)))
  dead_twice zero κs = qed 𝓛 (‵ ftrue ∷ []) ∵ nothing ! $ done !
  dead_twice (suc n) κs =
      qed 𝓛 (‵ (fsep (fdead κs.0) (over n κs.1)) ∷ []) ∵ fsplit ! $ use1 𝓛 (‵ (fdead κs.0) ⊛ ‵ (fdead κs.0)) (𝓛.lfts.dead_dup κs.0) $ split ! $ move ! (2 ∷ []) $
      use1 𝓛 (‵ (over n κs.1) ⊛ ‵ (over n κs.1)) (dead_twice n κs.1) $ split ! $ move ! (2 ∷ 0 ∷ []) $ fjoin ! $ move ! (2 ∷ 1 ∷ []) $ fjoin ! $ done !

-- ---- the signature: the lent things, each at a lifetime of its own, then the plain parameters

module _ (n : ℕ) where
  -- the plain parameters
  abbrev pub plains : List RattleType → List (Slot n)
  plains [] = []
  plains (P ∷ Ps) = plain (λ _. P) ∷ plains Ps

  module _ (Ps : List RattleType) where
    -- all parameters
    abbrev pub params : (j : ℕ) (ts : List Thing) → Places n j ts → List (Slot n)
    params j [] places = plains Ps
    params j (t ∷ ts) places = slot n t j places.0 ∷ params (suc j) ts places.1

  module _ (κs : Lfts n) where
    -- the plain arguments
    abbrev pub plain_args : (Ps : List RattleType) → Denots Ps → Denots (types_at (plains Ps) κs)
    plain_args [] ps = tt
    plain_args (P ∷ Ps) ps = (ps.0, plain_args Ps ps.1)

    -- their machine values
    abbrev pub plain_vals : (Ps : List RattleType) → Valss Ps → Valss (types_at (plains Ps) κs)
    plain_vals [] vps = tt
    plain_vals (P ∷ Ps) vps = (vps.0, plain_vals Ps vps.1)

    module _ (Ps : List RattleType) where
      module _ (ps : Denots Ps) where
        -- all arguments
        abbrev pub args : (j : ℕ) (ts : List Thing) (places : Places n j ts) → Names ts → Nows ts → Denots (types_at (params Ps j ts places) κs)
        args j [] places δs xs = plain_args Ps ps
        args j (t ∷ ts) places δs xs = (arg n κs t j places.0 δs.0 xs.0, args (suc j) ts places.1 δs.1 xs.1)

      -- their machine values
      abbrev pub vals : (j : ℕ) (ts : List Thing) (places : Places n j ts) → Valss Ps → Valss (types_at (params Ps j ts places) κs)
      vals j [] places vps = plain_vals Ps vps
      vals j (t ∷ ts) places vps = (val t ∷ [], vals (suc j) ts places.1 vps)

      -- the last values, of what the contract binds
      abbrev pub news : (ps : Denots Ps) (j : ℕ) (ts : List Thing) (places : Places n j ts) (δs : Names ts) (xs : Nows ts) → Fins κs (params Ps j ts places) (all yes (params Ps j ts places)) (args ps j ts places δs xs) → Nows ts
      news ps j [] places δs xs ws = tt
      news ps j (t ∷ ts) places δs xs ws = (new n κs t j places.0 δs.0 xs.0 ws.0, news ps (suc j) ts places.1 δs.1 xs.1 ws.1)

    -- what the holder keeps while they are lent again
    abbrev pub keeps : (j : ℕ) (ts : List Thing) (places : Places n j ts) → Names ts → Nows ts → Fml
    keeps j [] places δs xs = ftrue
    keeps j (t ∷ ts) places δs xs = fsep (kept t (lft_at n j places.0 κs) δs.0 xs.0) (keeps (suc j) ts places.1 δs.1 xs.1)

-- one of them comes back, and then the others: the step of `back_all`
module _ {M : Type 1} {𝓤 : Ura M} (𝓛 : Logic 𝓤) (κ : Lft) (Ds K K' L L' P P' T T' : Fml) (φ ψ : Type 0) where
  open 𝓛 use {H, A}

  back_one : ent 𝓤 (sem 𝓛 Ds) (sep 𝓤 (sem 𝓛 Ds) (sem 𝓛 Ds)) → ent 𝓤 (sem 𝓛 Ds) (A.dead κ)
      → ent 𝓤 (sep 𝓤 (A.dead κ) (sep 𝓤 (sem 𝓛 K) (sem 𝓛 L))) (H.⇛ (guard 𝓤 φ (sep 𝓤 (sem 𝓛 P) (sem 𝓛 T))))
      → ent 𝓤 (sep 𝓤 (sem 𝓛 Ds) (sep 𝓤 (sem 𝓛 K') (sem 𝓛 L'))) (H.⇛ (guard 𝓤 ψ (sep 𝓤 (sem 𝓛 P') (sem 𝓛 T'))))
      → ent 𝓤 (sep 𝓤 (sem 𝓛 Ds) (sep 𝓤 (sem 𝓛 (fsep K K')) (sem 𝓛 (fsep L L')))) (H.⇛ (guard 𝓤 (φ × ψ) (sep 𝓤 (sem 𝓛 (fsep P P')) (sem 𝓛 (fsep T T')))))
  back_one twice it this others =
      qed 𝓛 (‵ Ds ∷ ‵ (fsep K K') ∷ ‵ (fsep L L') ∷ []) ∵ updating ! $ use1 𝓛 (‵ Ds ⊛ ‵ Ds) twice $ split ! $ use1 𝓛 (‵ (fdead κ)) it $ move ! (2 ∷ []) $ fsplit ! $ move ! (4 ∷ []) $ fsplit ! $
      -- [L; L'; K; K'; it is over; all are over]
      move ! (4 ∷ 2 ∷ 0 ∷ []) $ use3 𝓛 (later (given φ (‵ P ⊛ ‵ T))) this $ await ! tt $ learn ! (λ f. split ! $ move ! (4 ∷ 3 ∷ 2 ∷ []) $
      use3 𝓛 (later (given ψ (‵ P' ⊛ ‵ T'))) others $ await ! tt $ learn ! (λ fs. split ! $ at_once ! $ check ! (f, fs) $ move ! (2 ∷ 0 ∷ []) $ fjoin ! $ move ! (2 ∷ 1 ∷ []) $ fjoin ! $ move ! (1 ∷ 0 ∷ []) $ done !))

-- plain arguments are had for nothing
abbrev pub Free : {M : Type 1} {𝓤 : Ura M} (𝓛 : Logic 𝓤) (Ps : List RattleType) → Denots Ps → Valss Ps → Type 1
Free 𝓛 [] ps vps = Unit {1}
Free {𝓤 = 𝓤} 𝓛 (P ∷ Ps) ps vps = ent 𝓤 (emp 𝓤) (sem 𝓛 (P.own_val ps.0 vps.0)) × Free 𝓛 Ps ps.1 vps.1

module _ {M : Type 1} {𝓤 : Ura M} (𝓛 : Logic 𝓤) (n : ℕ) (κs : Lfts n) where
  -- all of them
  open 𝓛 use {H}

  all_free : (Ps : List RattleType) (ps : Denots Ps) (vps : Valss Ps) → Free 𝓛 Ps ps vps → ent 𝓤 (emp 𝓤) (sem 𝓛 (owns (types_at (plains n Ps) κs) (plain_args n κs Ps ps) (plain_vals n κs Ps vps)))
  all_free [] ps vps f = id⊢ 𝓤 (emp 𝓤)
  all_free (P ∷ Ps) ps vps f =
      qed 𝓛 [] ∵ use0 𝓛 (‵ (owns (types_at (plains n Ps) κs) (plain_args n κs Ps ps.1) (plain_vals n κs Ps vps.1))) (all_free Ps ps.1 vps.1 f.1) $
      use0 𝓛 (‵ (P.own_val ps.0 vps.0)) f.0 $ fjoin ! $ done !

  module _ (Ps : List RattleType) (ps : Denots Ps) (vps : Valss Ps) (free : Free 𝓛 Ps ps vps) where
    -- all are lent again
    lend_all : (j : ℕ) (ts : List Thing) (places : Places n j ts) (xs : Nows ts) → AllFit ts xs
        → ent 𝓤 (sep 𝓤 (sem 𝓛 (have ts xs)) (sem 𝓛 (tokens ts)))
        (H.⇛ (ex 𝓤 (λ (δs : Names ts). sep 𝓤 (sem 𝓛 (owns (types_at (params n Ps j ts places) κs) (args n κs Ps ps j ts places δs xs) (vals n κs Ps j ts places vps))) (sem 𝓛 (keeps n κs j ts places δs xs)))))
    lend_all j [] places xs fit =
        qed 𝓛 (‵ ftrue ∷ ‵ ftrue ∷ []) ∵ updating ! $ at_once ! $
        show ! (λ (δs : Names []). sep 𝓤 (sem 𝓛 (owns (types_at (params n Ps j [] places) κs) (args n κs Ps ps j [] places δs xs) (vals n κs Ps j [] places vps))) (sem 𝓛 (keeps n κs j [] places δs xs))) tt $
        use0 𝓛 (‵ (owns (types_at (plains n Ps) κs) (plain_args n κs Ps ps) (plain_vals n κs Ps vps))) (all_free Ps ps vps free) $ keep ! (0 ∷ 1 ∷ []) $ done !
    lend_all j (t ∷ ts) places xs fit =
        qed 𝓛 (‵ (fsep (has t xs.0) (have ts xs.1)) ∷ ‵ (fsep (token t) (tokens ts)) ∷ []) ∵ updating ! $ fsplit ! $ move ! (2 ∷ []) $ fsplit ! $ move ! (2 ∷ 0 ∷ []) $
        use2 𝓛 (later (some (λ (δ : GName). ‵ (((slot n t j places.0).row κs).own_val (arg n κs t j places.0 δ xs.0) (val t ∷ [])) ⊛ ‵ (kept t (lft_at n j places.0 κs) δ xs.0)))) (lends n κs 𝓛 t j places.0 xs.0 fit.0) $
        await ! tt $ pick ! (λ δ. split ! $ move ! (3 ∷ 2 ∷ []) $
        use2 𝓛 (later (some (λ (δs : Names ts). ‵ (owns (types_at (params n Ps (suc j) ts places.1) κs) (args n κs Ps ps (suc j) ts places.1 δs xs.1) (vals n κs Ps (suc j) ts places.1 vps)) ⊛ ‵ (keeps n κs (suc j) ts places.1 δs xs.1)))) (lend_all (suc j) ts places.1 xs.1 fit.1) $
        await ! tt $ pick ! (λ δs. split ! $
        -- [the others, lent; what is kept of them; this one, lent; what is kept of it]
        at_once ! $ show ! (λ (εs : Names (t ∷ ts)). sep 𝓤 (sem 𝓛 (owns (types_at (params n Ps j (t ∷ ts) places) κs) (args n κs Ps ps j (t ∷ ts) places εs xs) (vals n κs Ps j (t ∷ ts) places vps))) (sem 𝓛 (keeps n κs j (t ∷ ts) places εs xs))) (δ, δs) $
        move ! (2 ∷ 0 ∷ []) $ fjoin ! $ move ! (2 ∷ 1 ∷ []) $ fjoin ! $ move ! (1 ∷ 0 ∷ []) $ done !))

    -- all come back
    back_all : (j : ℕ) (ts : List Thing) (places : Places n j ts) (δs : Names ts) (xs : Nows ts) (ws : Fins κs (params n Ps j ts places) (all yes (params n Ps j ts places)) (args n κs Ps ps j ts places δs xs)) → AllFits ts → AllFit ts xs
        → ent 𝓤 (sep 𝓤 (sem 𝓛 (over n κs)) (sep 𝓤 (sem 𝓛 (keeps n κs j ts places δs xs)) (sem 𝓛 (lasts_of κs (params n Ps j ts places) (all yes (params n Ps j ts places)) (args n κs Ps ps j ts places δs xs) ws))))
        (H.⇛ (guard 𝓤 (AllFit ts (news n κs Ps ps j ts places δs xs ws)) (sep 𝓤 (sem 𝓛 (have ts (news n κs Ps ps j ts places δs xs ws))) (sem 𝓛 (tokens ts)))))
    back_all j [] places δs xs ws fits fit =
        qed 𝓛 (‵ (over n κs) ∷ ‵ ftrue ∷ ‵ (lasts_of κs (plains n Ps) (all yes (plains n Ps)) (plain_args n κs Ps ps) ws) ∷ []) ∵ updating ! $ at_once ! $ check ! tt $ nothing ! $ keep ! (0 ∷ 2 ∷ []) $ done !
    back_all j (t ∷ ts) places δs xs ws fits fit =
        back_one 𝓛 (lft_at n j places.0 κs) (over n κs) (kept t (lft_at n j places.0 κs) δs.0 xs.0) (keeps n κs (suc j) ts places.1 δs.1 xs.1)
        (left (((slot n t j places.0).row κs).exit yes) (arg n κs t j places.0 δs.0 xs.0) ws.0) (lasts_of κs (params n Ps (suc j) ts places.1) (all yes (params n Ps (suc j) ts places.1)) (args n κs Ps ps (suc j) ts places.1 δs.1 xs.1) ws.1)
        (has t (new n κs t j places.0 δs.0 xs.0 ws.0)) (have ts (news n κs Ps ps (suc j) ts places.1 δs.1 xs.1 ws.1)) (token t) (tokens ts)
        (Fit t (new n κs t j places.0 δs.0 xs.0 ws.0)) (AllFit ts (news n κs Ps ps (suc j) ts places.1 δs.1 xs.1 ws.1))
        (dead_twice 𝓛 n κs) (dead_at 𝓛 n j places.0 κs) (backs n κs 𝓛 t j places.0 δs.0 xs.0 ws.0 fits.0 fit.0)
        (back_all (suc j) ts places.1 δs.1 xs.1 ws.1 fits.1 fit.1)

-- ---- the contract, and the call

module _ (n : ℕ) (ts : List Thing) (places : Places n 0 ts) (Ps : List RattleType) (D : RattleType) where
  -- the signature of such a function
  abbrev pub Sig : Signature
  Sig = record { lifetimes = n; outlives = []; params = params n Ps 0 ts places; result = plain (λ _. D) }

  -- and with what is kept to its end
  abbrev pub End : Ended
  End = record { signature = Sig; kept = all yes (params n Ps 0 ts places) }

  module _ {M : Type 1} (𝓤 : Ura M) (c : Clauses 𝓤 End) where
    -- its contract, at any clauses; at lists that are written out it computes to the generated one
    abbrev pub Con : (𝓛 : Logic 𝓤) → Contract 𝓤
    Con 𝓛 = triple_of 𝓛 Sig (closing 𝓛 End c)

    module _ (xs : Nows ts) (ps : Denots Ps) (vps : Valss Ps) where
      -- what is passed
      abbrev pub passed : (αs : Numbers n) (δs : Names ts) → Denots (types_at (params n Ps 0 ts places) (fresh n αs))
      passed αs δs = args n (fresh n αs) Ps ps 0 ts places δs xs

      -- a ghost for each lifetime and name
      abbrev pub Ghosts : Type 0
      Ghosts = (αs : Numbers n) (δs : Names ts) → (c (fresh n αs) (passed αs δs)).ghost

      -- what the contract's triple binds outside
      abbrev pub to : (𝓛 : Logic 𝓤) → Ghosts → (αs : Numbers n) (δs : Names ts) → (Con 𝓛).Ghost
      to 𝓛 g αs δs = ((fresh n αs, whole_shares n, tt, passed αs δs, vals n (fresh n αs) Ps 0 ts places vps), g αs δs)

      -- the values afterwards
      abbrev pub after : (αs : Numbers n) (δs : Names ts) → Lasts End (fresh n αs) (passed αs δs) → Nows ts
      after αs δs ws = news n (fresh n αs) Ps ps 0 ts places δs xs ws

      module _ {𝓛 : Logic 𝓤} {K : Type 0} {Γ : List (Item 𝓤)} {E : Env 𝓤 𝓛.H} {C : Calls 𝓤 𝓛.H} {Λ : Loops 𝓤 𝓛.H} {f : Callee} {os : List Operand} {d : Place} {rest : Body} {Q : Post 𝓤 𝓛.H} where
        -- the call; its operands are read with the callee's needs and what is kept in front of the context
        open 𝓛 use {H}

        pub lent : K → FmC 𝓤 H 𝓛.laws C → Triple 𝓤 (C f) (Con 𝓛) → AllFits ts → AllFit ts xs → Free 𝓛 Ps ps vps
            → (g : Ghosts) → ((αs : Numbers n) (δs : Names ts) → ent 𝓤 (emp 𝓤) ((c (fresh n αs) (passed αs δs)).requires (g αs δs)))
            → ((αs : Numbers n) (δs : Names ts) → Opds K 𝓛 (raw ((Con 𝓛).pre (to 𝓛 g αs δs)) ∷ ‵ (keeps n (fresh n αs) 0 ts places δs xs) ∷ Γ) E os (flat (types_at (params n Ps 0 ts places) (fresh n αs)) (vals n (fresh n αs) Ps 0 ts places vps)))
            → ((αs : Numbers n) (δs : Names ts) (w : Val) (r : D.Denot) (ws : Lasts End (fresh n αs) (passed αs δs)) → AllFit ts (after αs δs ws)
            → Seq K 𝓛 (raw ((c (fresh n αs) (passed αs δs)).ensures (g αs δs) r (at_exit End (fresh n αs) (passed αs δs) ws)) ∷ ‵ (D.own_val r (w ∷ [])) ∷ ‵ (have ts (after αs δs ws)) ∷ ‵ (tokens ts) ∷ Γ) (lands C Λ E d w rest Q))
            → Seq K 𝓛 (‵ (have ts xs) ∷ ‵ (tokens ts) ∷ Γ) (runs C Λ E (seq (call f os d) rest) Q)
        lent t fm known fits fit free g req opds k =
            use0 𝓛 (later (some (λ (αs : Numbers n). raw (toks 𝓛 n (fresh n αs) (whole_shares n))))) (all_new 𝓛 n) $ await t tt $ pick t (λ αs. move t (1 ∷ 2 ∷ []) $
            use2 𝓛 (later (some (λ (δs : Names ts). ‵ (owns (types_at (params n Ps 0 ts places) (fresh n αs)) (passed αs δs) (vals n (fresh n αs) Ps 0 ts places vps)) ⊛ ‵ (keeps n (fresh n αs) 0 ts places δs xs)))) (lend_all 𝓛 n (fresh n αs) Ps ps vps free 0 ts places xs fit) $
            await t tt $ pick t (λ δs. split t $ move t (2 ∷ 0 ∷ []) $ use2 𝓛 (raw ((Con 𝓛).pre (to 𝓛 g αs δs))) (goes αs δs) $
            calls_at t fm (Con 𝓛) known (to 𝓛 g αs δs) (opds αs δs) (λ w.
            use1 𝓛 (later (some (λ (r : D.Denot). (raw (toks 𝓛 n (fresh n αs) (whole_shares n)) ⊛ ‵ (D.own_val r (w ∷ []))) ⊛ raw (ensured 𝓛 End c (fresh n αs) (passed αs δs) (g αs δs) r)))) (id⊢ 𝓤 _) $ await t tt $ pick t (λ r.
            split t $ move t (1 ∷ []) $ use1 𝓛 (some (λ (ws : Lasts End (fresh n αs) (passed αs δs)). ‵ (lasts End (fresh n αs) (passed αs δs) ws) ⊛ raw ((c (fresh n αs) (passed αs δs)).ensures (g αs δs) r (at_exit End (fresh n αs) (passed αs δs) ws)))) (id⊢ 𝓤 _) $ pick t (λ ws.
            split t $ move t (2 ∷ []) $ split t $ use1 𝓛 (later (‵ (over n (fresh n αs)))) (all_end 𝓛 n αs) $ await t tt $ move t (0 ∷ 4 ∷ 2 ∷ []) $
            use3 𝓛 (later (given (AllFit ts (after αs δs ws)) (‵ (have ts (after αs δs ws)) ⊛ ‵ (tokens ts)))) (back_all 𝓛 n (fresh n αs) Ps ps vps free 0 ts places δs xs ws fits fit) $ await t tt $ learn t (λ f'. split t $
            move t (3 ∷ 2 ∷ 0 ∷ 1 ∷ []) $ k αs δs w r ws f'))))))
          where
            goes : (αs : Numbers n) (δs : Names ts) → ent 𝓤 (sep 𝓤 (toks 𝓛 n (fresh n αs) (whole_shares n)) (sem 𝓛 (owns (types_at (params n Ps 0 ts places) (fresh n αs)) (passed αs δs) (vals n (fresh n αs) Ps 0 ts places vps)))) ((Con 𝓛).pre (to 𝓛 g αs δs))
            goes αs δs = qed 𝓛 (raw (toks 𝓛 n (fresh n αs) (whole_shares n)) ∷ ‵ (owns (types_at (params n Ps 0 ts places) (fresh n αs)) (passed αs δs) (vals n (fresh n αs) Ps 0 ts places vps)) ∷ []) ∵
                join ! $ use0 𝓛 (raw ((c (fresh n αs) (passed αs δs)).requires (g αs δs))) (req αs δs) $ move ! (1 ∷ 0 ∷ []) $ done !
