-- A `&[u8]` that is lent again for the lifetime κ' of a call, and comes back: of each byte a share is lent, and the reference itself, which is Copy, is kept.
-- Assumes `Logic`.
use Prim.Native.Nat.{ℕ, ◌+◌}
use mathlib.Core.Path.{refl}
use mathlib.Core.List.{List, [], ◌∷◌}
use lib.ListN.{length}
use seplogic.Ra.Ura.{Ura}
use mir.Syntax.{Lifetime, named, w8}
use mir.Val.{Val}
use base.Logic.{ent, sep, id⊢}
use base.Fml.{Lft, Share, Fml, fsep, fex, flft, fdead, flent, fobor, fshr_bor, fhide}
use base.Share.{left, right}
use types.Logic.{Logic, sem}
use types.Kit.{‵, ◌⊛◌, later, ◌$◌, ◌∵◌, !, qed, move, keep, use1, use2, split, rewrite, fsplit, fjoin, fpick, fpack, frame, await, updating, now as at_once, done}
use types.Tokens.{lent_back, obor_close, shr_bor-open}
use denote.Shadow.{pure_l, pure_i}
use denote.Memory.{mem, part_at, cell_at, shared_of}
use denote.Plain.{uint_vals, uint_Tells, uint_row_laws}
use denote.Builtin.{u8}
use denote.Ref.{Bor}
use denote.Slice.{slice_val, ShrSlice, shr_slice_at, shr_slice_copy, elements_shared}
use denote.Opens.{Cuts-Halves}
use denote.Copied.{cell_Cuts, told_in, told_out, uint_Copied}

module _ (κ κ' : Lft) (b : ℕ) where
  -- a share of the place of a byte
  abbrev place_of : ℕ → ℕ → Share → Fml
  place_of o y t = cell_at t u8.mir (uint_vals w8 y) b o

  -- what the holder keeps of a byte: the lender's part at κ' of some share of it, and its own borrow at κ of that share, open
  abbrev SeenByte : ℕ → Share → ℕ → Fml
  SeenByte o q y = fex Share (λ t. fsep (fobor κ q (place_of o y t)) (flent κ' (part_at u8 t y b o)))

  -- and of all bytes, each with a share of the lifetime
  abbrev SeenBytes : ℕ → Share → List ℕ → Fml
  SeenBytes o q [] = flft κ q
  SeenBytes o q (y ∷ ys) = fsep (SeenByte o (left q) y) (SeenBytes (o + (mem u8).size) (right q) ys)

  module _ {M : Type 1} {𝓤 : Ura M} (𝓛 : Logic 𝓤) where
    open 𝓛 use {H, A}

    -- a byte is lent again
    byte_again : (o : ℕ) (q : Share) (y : ℕ) → ent 𝓤 (sep 𝓤 (sem 𝓛 (shared_of u8 y b o κ)) (A.lft κ q)) (H.⇛ (sep 𝓤 (sem 𝓛 (shared_of u8 y b o κ')) (sem 𝓛 (SeenByte o q y))))
    byte_again o q y =
        qed 𝓛 (‵ (shared_of u8 y b o κ) ∷ ‵ (flft κ q) ∷ []) ∵ updating ! $ fpick ! (λ vs. fsplit ! $ pure_l ! (u8.own_val y vs) (λ p.
        rewrite ! 0 (λ (us : List Val). ‵ (fshr_bor κ (λ t. cell_at t u8.mir us b o))) (uint_Tells w8 y vs p) refl $
        shr_bor-open ! tt (Cuts-Halves 𝓛 (place_of o y) (cell_Cuts 𝓛 u8.mir (uint_vals w8 y) b o)) (λ t. move ! (1 ∷ []) $
        pure_i ! (u8.own_val y (uint_vals w8 y)) (tt, tt) (refl, p.1) $ move ! (1 ∷ 0 ∷ []) $ use2 𝓛 (‵ (part_at u8 t y b o)) (told_in 𝓛 u8 (uint_vals w8) (uint_Tells w8) t y b o (uint_vals w8 y)) $
        use1 𝓛 (later (‵ (shared_of u8 y b o κ') ⊛ ‵ (flent κ' (part_at u8 t y b o)))) ((uint_Copied 𝓛 w8).lends t y b o κ') $ await ! tt $ split ! $
        at_once ! $ frame ! $ move ! (1 ∷ 0 ∷ []) $ fjoin ! $ fpack ! Share (λ s. fsep (fobor κ q (place_of o y s)) (flent κ' (part_at u8 s y b o))) t $ done !)))

    -- and comes back
    byte_back : (o : ℕ) (q : Share) (y : ℕ) → ent 𝓤 (sep 𝓤 (A.dead κ') (sem 𝓛 (SeenByte o q y))) (H.⇛ (A.lft κ q))
    byte_back o q y =
        qed 𝓛 (‵ (fdead κ') ∷ ‵ (SeenByte o q y) ∷ []) ∵ updating ! $ move ! (1 ∷ []) $ fpick ! (λ t. fsplit ! $ move ! (2 ∷ 1 ∷ []) $ lent_back ! tt $
        use1 𝓛 (‵ (place_of o y t) ⊛ ‵ (u8.own_val y (uint_vals w8 y))) (told_out 𝓛 u8 (uint_vals w8) (uint_Tells w8) t y b o) $ split ! $ move ! (2 ∷ 0 ∷ []) $ obor_close ! tt $
        at_once ! $ keep ! (1 ∷ []) $ done !)

    -- all bytes are lent again
    bytes_again : (o : ℕ) (q : Share) (ys : List ℕ) → ent 𝓤 (sep 𝓤 (sem 𝓛 (elements_shared u8 ys b o κ)) (A.lft κ q)) (H.⇛ (sep 𝓤 (sem 𝓛 (elements_shared u8 ys b o κ')) (sem 𝓛 (SeenBytes o q ys))))
    bytes_again o q [] = qed 𝓛 (‵ (elements_shared u8 [] b o κ) ∷ ‵ (flft κ q) ∷ []) ∵ updating ! $ at_once ! $ done !
    bytes_again o q (y ∷ ys) =
        qed 𝓛 (‵ (elements_shared u8 (y ∷ ys) b o κ) ∷ ‵ (flft κ q) ∷ []) ∵ updating ! $ fsplit ! $ move ! (2 ∷ []) $ use1 𝓛 (‵ (flft κ (left q)) ⊛ ‵ (flft κ (right q))) (𝓛.lfts.lft_split κ q) $ split ! $
        move ! (2 ∷ 0 ∷ []) $ use2 𝓛 (later (‵ (shared_of u8 y b o κ') ⊛ ‵ (SeenByte o (left q) y))) (byte_again o (left q) y) $ await ! tt $ split ! $
        move ! (3 ∷ 2 ∷ []) $ use2 𝓛 (later (‵ (elements_shared u8 ys b (o + (mem u8).size) κ') ⊛ ‵ (SeenBytes (o + (mem u8).size) (right q) ys))) (bytes_again (o + (mem u8).size) (right q) ys) $ await ! tt $ split ! $
        -- [the others, lent; what is kept of them; this one, lent; what is kept of it]
        at_once ! $ move ! (2 ∷ 0 ∷ []) $ fjoin ! $ move ! (2 ∷ 1 ∷ []) $ fjoin ! $ move ! (1 ∷ 0 ∷ []) $ done !

    -- and come back
    bytes_back : (o : ℕ) (q : Share) (ys : List ℕ) → ent 𝓤 (sep 𝓤 (A.dead κ') (sem 𝓛 (SeenBytes o q ys))) (H.⇛ (A.lft κ q))
    bytes_back o q [] = qed 𝓛 (‵ (fdead κ') ∷ ‵ (flft κ q) ∷ []) ∵ updating ! $ at_once ! $ keep ! (1 ∷ []) $ done !
    bytes_back o q (y ∷ ys) =
        qed 𝓛 (‵ (fdead κ') ∷ ‵ (SeenBytes o q (y ∷ ys)) ∷ []) ∵ updating ! $ use1 𝓛 (‵ (fdead κ') ⊛ ‵ (fdead κ')) (𝓛.lfts.dead_dup κ') $ split ! $ move ! (2 ∷ []) $ fsplit ! $
        move ! (2 ∷ 0 ∷ []) $ use2 𝓛 (later (‵ (flft κ (left q)))) (byte_back o (left q) y) $ await ! tt $
        move ! (2 ∷ 1 ∷ []) $ use2 𝓛 (later (‵ (flft κ (right q)))) (bytes_back (o + (mem u8).size) (right q) ys) $ await ! tt $
        move ! (1 ∷ 0 ∷ []) $ use2 𝓛 (‵ (flft κ q)) (𝓛.lfts.lft_join κ q) $ at_once ! $ done !

module _ (κ κ' : Lft) (q : Share) (b o : ℕ) where
  -- the slice at some bytes; a shared reference has no name of its own
  abbrev at_bytes : List ℕ → Bor (List ℕ)
  at_bytes ys = record { ref_ptr = (b, o); now = ys }

  -- what the holder keeps: the reference, and what it keeps of each byte
  abbrev pub SeenAgain : List ℕ → Fml
  SeenAgain ys = fsep ((ShrSlice (named 0) κ u8).own_val (at_bytes ys) (slice_val (b, o) (length ys) ∷ [])) (SeenBytes κ κ' b o q ys)

  module _ {M : Type 1} {𝓤 : Ura M} (𝓛 : Logic 𝓤) (ys : List ℕ) where
    -- its machine value
    open 𝓛 use {H, A}

    abbrev vals : List Val
    vals = slice_val (b, o) (length ys) ∷ []

    -- what a holder of the reference at κ owns
    abbrev held : Fml
    held = (ShrSlice (named 0) κ u8).own_val (at_bytes ys) vals

    -- it is lent again
    pub seen_again : (ℓ' : Lifetime) → ent 𝓤 (sep 𝓤 (sem 𝓛 held) (A.lft κ q))
        (H.⇛ (sep 𝓤 (sem 𝓛 ((ShrSlice ℓ' κ' u8).own_val (at_bytes ys) vals)) (sem 𝓛 (SeenAgain ys))))
    seen_again ℓ' =
        qed 𝓛 (‵ held ∷ ‵ (flft κ q) ∷ []) ∵ updating ! $ use1 𝓛 (‵ held ⊛ ‵ held) ((shr_slice_copy 𝓛 (named 0) κ u8 (uint_row_laws w8)).twice (at_bytes ys) vals) $ split ! $
        fsplit ! $ pure_l ! (shr_slice_at u8 (at_bytes ys) vals) (λ p. use1 𝓛 (‵ (elements_shared u8 ys b o κ)) (id⊢ 𝓤 _) $ move ! (0 ∷ 2 ∷ []) $
        use2 𝓛 (later (‵ (elements_shared u8 ys b o κ') ⊛ ‵ (SeenBytes κ κ' b o q ys))) (bytes_again κ κ' b 𝓛 o q ys) $ await ! tt $ split ! $
        -- [its bytes at κ'; what is kept of them; the reference]
        at_once ! $ use1 𝓛 (‵ (fhide (elements_shared u8 ys b o κ'))) (id⊢ 𝓤 _) $ pure_i ! (shr_slice_at u8 (at_bytes ys) vals) (tt, (tt, tt)) p $ fjoin ! $
        move ! (2 ∷ 1 ∷ []) $ fjoin ! $ move ! (1 ∷ 0 ∷ []) $ done !)

    -- and back
    pub seen_back : ent 𝓤 (sep 𝓤 (A.dead κ') (sem 𝓛 (SeenAgain ys))) (H.⇛ (sep 𝓤 (sem 𝓛 held) (A.lft κ q)))
    seen_back =
        qed 𝓛 (‵ (fdead κ') ∷ ‵ (SeenAgain ys) ∷ []) ∵ updating ! $ move ! (1 ∷ []) $ fsplit ! $ move ! (2 ∷ 1 ∷ []) $
        use2 𝓛 (later (‵ (flft κ q))) (bytes_back κ κ' b 𝓛 o q ys) $ await ! tt $ at_once ! $ move ! (1 ∷ 0 ∷ []) $ done !
