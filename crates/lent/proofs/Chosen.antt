-- A call that is lent some of the things that the caller holds: a mark for each says which, in the caller's order; the others stay as they are.
use Prim.Native.Nat.{ℕ}
use mathlib.Core.Bool.{Bool, true, false}
use mathlib.Core.List.{List, [], ◌∷◌}
use seplogic.Ra.Ura.{Ura}
use mir.Syntax.{Callee, Place, Opd as Operand, Body, seq, call}
use mir.Val.{Val}
use base.Logic.{ent, sep, emp, fst∗}
use base.Fml.{Fml, ftrue, fsep}
use prog.Wp.{Env, Calls, Loops}
use types.Logic.{Logic, sem}
use types.Kit.{Item, ‵, raw, ◌⊛◌, Post, runs, lands, Seq, ◌$◌, ◌∵◌, !, qed, move, use1, use2, split, fsplit, fjoin, done}
use types.Run.{Opds}
use sound.WpLaws.{FmC}
use denote.RattleType.{RattleType, Denots, Valss, flat}
use denote.Signature.{types_at}
use denote.Steps.{nothing}
use denote.Triple.Statement.{Triple}
use denote.Triple.Clauses.{Clauses, Lasts, at_exit}
use Rattle.lent.proofs.Lent.{Thing, Now, has, token, Nows, AllFits, AllFit, Names, have, tokens, Places, Numbers, fresh, params, vals, keeps, End, Con, passed, Ghosts, to, after, Free, lent}

-- a mark for each thing
abbrev pub Marks : List Thing → Type 0
Marks [] = Unit {0}
Marks (t ∷ ts) = Bool × Marks ts

-- one more, if it is marked
abbrev pub with_it : Bool → Thing → List Thing → List Thing
with_it true t us = t ∷ us
with_it false t us = us

-- the marked ones
abbrev pub chosen : (ts : List Thing) → Marks ts → List Thing
chosen [] ms = []
chosen (t ∷ ts) ms = with_it ms.0 t (chosen ts ms.1)

-- their values
abbrev pub value_with_it : (m : Bool) (t : Thing) (us : List Thing) → Now t → Nows us → Nows (with_it m t us)
value_with_it true t us x ys = (x, ys)
value_with_it false t us x ys = ys

abbrev pub chosen_values : (ts : List Thing) (ms : Marks ts) → Nows ts → Nows (chosen ts ms)
chosen_values [] ms xs = tt
chosen_values (t ∷ ts) ms xs = value_with_it ms.0 t (chosen ts ms.1) xs.0 (chosen_values ts ms.1 xs.1)

-- the value of the first, of the marked ones' or as it was; and those of the marked ones after it
abbrev pub first_of : (m : Bool) (t : Thing) (us : List Thing) → Nows (with_it m t us) → Now t → Now t
first_of true t us ys x = ys.0
first_of false t us ys x = x

abbrev pub after_first : (m : Bool) (t : Thing) (us : List Thing) → Nows (with_it m t us) → Nows us
after_first true t us ys = ys.1
after_first false t us ys = ys

-- all values, those of the marked ones new
abbrev pub renewed : (ts : List Thing) (ms : Marks ts) → Nows (chosen ts ms) → Nows ts → Nows ts
renewed [] ms ys xs = tt
renewed (t ∷ ts) ms ys xs = (first_of ms.0 t (chosen ts ms.1) ys xs.0, renewed ts ms.1 (after_first ms.0 t (chosen ts ms.1) ys) xs.1)

-- what is had of one that is not marked
abbrev pub beside : Bool → Fml → Fml → Fml
beside true F G = G
beside false F G = fsep F G

-- what is had of the others
abbrev pub others : (ts : List Thing) → Marks ts → Nows ts → Fml
others [] ms xs = ftrue
others (t ∷ ts) ms xs = beside ms.0 (has t xs.0) (others ts ms.1 xs.1)

abbrev pub other_tokens : (ts : List Thing) → Marks ts → Fml
other_tokens [] ms = ftrue
other_tokens (t ∷ ts) ms = beside ms.0 (token t) (other_tokens ts ms.1)

module _ {M : Type 1} {𝓤 : Ura M} (𝓛 : Logic 𝓤) where
  -- one is put aside, or with the marked ones
  part_one : (m : Bool) (t : Thing) (us : List Thing) (x : Now t) (ys : Nows us) (F G : Fml)
      → ent 𝓤 (sem 𝓛 F) (sep 𝓤 (sem 𝓛 (have us ys)) (sem 𝓛 G))
      → ent 𝓤 (sem 𝓛 (fsep (has t x) F)) (sep 𝓤 (sem 𝓛 (have (with_it m t us) (value_with_it m t us x ys))) (sem 𝓛 (beside m (has t x) G)))
  part_one true t us x ys F G h = qed 𝓛 (‵ (fsep (has t x) F) ∷ []) ∵ fsplit ! $ move ! (1 ∷ []) $ use1 𝓛 (‵ (have us ys) ⊛ ‵ G) h $ split ! $ move ! (2 ∷ 0 ∷ []) $ fjoin ! $ done !
  part_one false t us x ys F G h = qed 𝓛 (‵ (fsep (has t x) F) ∷ []) ∵ fsplit ! $ move ! (1 ∷ []) $ use1 𝓛 (‵ (have us ys) ⊛ ‵ G) h $ split ! $ move ! (2 ∷ 1 ∷ []) $ fjoin ! $ move ! (1 ∷ 0 ∷ []) $ done !

  parts : (ts : List Thing) (ms : Marks ts) (xs : Nows ts) → ent 𝓤 (sem 𝓛 (have ts xs)) (sep 𝓤 (sem 𝓛 (have (chosen ts ms) (chosen_values ts ms xs))) (sem 𝓛 (others ts ms xs)))
  parts [] ms xs = qed 𝓛 (‵ ftrue ∷ []) ∵ nothing ! $ done !
  parts (t ∷ ts) ms xs = part_one ms.0 t (chosen ts ms.1) xs.0 (chosen_values ts ms.1 xs.1) (have ts xs.1) (others ts ms.1 xs.1) (parts ts ms.1 xs.1)

  -- the same of the tokens
  part_token : (m : Bool) (t : Thing) (us : List Thing) (F G : Fml) → ent 𝓤 (sem 𝓛 F) (sep 𝓤 (sem 𝓛 (tokens us)) (sem 𝓛 G))
      → ent 𝓤 (sem 𝓛 (fsep (token t) F)) (sep 𝓤 (sem 𝓛 (tokens (with_it m t us))) (sem 𝓛 (beside m (token t) G)))
  part_token true t us F G h = qed 𝓛 (‵ (fsep (token t) F) ∷ []) ∵ fsplit ! $ move ! (1 ∷ []) $ use1 𝓛 (‵ (tokens us) ⊛ ‵ G) h $ split ! $ move ! (2 ∷ 0 ∷ []) $ fjoin ! $ done !
  part_token false t us F G h = qed 𝓛 (‵ (fsep (token t) F) ∷ []) ∵ fsplit ! $ move ! (1 ∷ []) $ use1 𝓛 (‵ (tokens us) ⊛ ‵ G) h $ split ! $ move ! (2 ∷ 1 ∷ []) $ fjoin ! $ move ! (1 ∷ 0 ∷ []) $ done !

  part_tokens : (ts : List Thing) (ms : Marks ts) → ent 𝓤 (sem 𝓛 (tokens ts)) (sep 𝓤 (sem 𝓛 (tokens (chosen ts ms))) (sem 𝓛 (other_tokens ts ms)))
  part_tokens [] ms = qed 𝓛 (‵ ftrue ∷ []) ∵ nothing ! $ done !
  part_tokens (t ∷ ts) ms = part_token ms.0 t (chosen ts ms.1) (tokens ts) (other_tokens ts ms.1) (part_tokens ts ms.1)

  -- and back
  join_one : (m : Bool) (t : Thing) (us : List Thing) (x : Now t) (ys : Nows (with_it m t us)) (F G : Fml)
      → ent 𝓤 (sep 𝓤 (sem 𝓛 (have us (after_first m t us ys))) (sem 𝓛 G)) (sem 𝓛 F)
      → ent 𝓤 (sep 𝓤 (sem 𝓛 (have (with_it m t us) ys)) (sem 𝓛 (beside m (has t x) G))) (sem 𝓛 (fsep (has t (first_of m t us ys x)) F))
  join_one true t us x ys F G h = qed 𝓛 (‵ (fsep (has t ys.0) (have us ys.1)) ∷ ‵ G ∷ []) ∵ fsplit ! $ move ! (1 ∷ 2 ∷ []) $ use2 𝓛 (‵ F) h $ move ! (1 ∷ 0 ∷ []) $ fjoin ! $ done !
  join_one false t us x ys F G h = qed 𝓛 (‵ (have us ys) ∷ ‵ (fsep (has t x) G) ∷ []) ∵ move ! (1 ∷ []) $ fsplit ! $ move ! (2 ∷ 1 ∷ []) $ use2 𝓛 (‵ F) h $ move ! (1 ∷ 0 ∷ []) $ fjoin ! $ done !

  joined : (ts : List Thing) (ms : Marks ts) (ys : Nows (chosen ts ms)) (xs : Nows ts) → ent 𝓤 (sep 𝓤 (sem 𝓛 (have (chosen ts ms) ys)) (sem 𝓛 (others ts ms xs))) (sem 𝓛 (have ts (renewed ts ms ys xs)))
  joined [] ms ys xs = fst∗ 𝓤 (sem 𝓛 ftrue) (sem 𝓛 ftrue)
  joined (t ∷ ts) ms ys xs = join_one ms.0 t (chosen ts ms.1) xs.0 ys (have ts (renewed ts ms.1 (after_first ms.0 t (chosen ts ms.1) ys) xs.1)) (others ts ms.1 xs.1) (joined ts ms.1 (after_first ms.0 t (chosen ts ms.1) ys) xs.1)

  join_token : (m : Bool) (t : Thing) (us : List Thing) (F G : Fml) → ent 𝓤 (sep 𝓤 (sem 𝓛 (tokens us)) (sem 𝓛 G)) (sem 𝓛 F)
      → ent 𝓤 (sep 𝓤 (sem 𝓛 (tokens (with_it m t us))) (sem 𝓛 (beside m (token t) G))) (sem 𝓛 (fsep (token t) F))
  join_token true t us F G h = qed 𝓛 (‵ (fsep (token t) (tokens us)) ∷ ‵ G ∷ []) ∵ fsplit ! $ move ! (1 ∷ 2 ∷ []) $ use2 𝓛 (‵ F) h $ move ! (1 ∷ 0 ∷ []) $ fjoin ! $ done !
  join_token false t us F G h = qed 𝓛 (‵ (tokens us) ∷ ‵ (fsep (token t) G) ∷ []) ∵ move ! (1 ∷ []) $ fsplit ! $ move ! (2 ∷ 1 ∷ []) $ use2 𝓛 (‵ F) h $ move ! (1 ∷ 0 ∷ []) $ fjoin ! $ done !

  join_tokens : (ts : List Thing) (ms : Marks ts) → ent 𝓤 (sep 𝓤 (sem 𝓛 (tokens (chosen ts ms))) (sem 𝓛 (other_tokens ts ms))) (sem 𝓛 (tokens ts))
  join_tokens [] ms = fst∗ 𝓤 (sem 𝓛 ftrue) (sem 𝓛 ftrue)
  join_tokens (t ∷ ts) ms = join_token ms.0 t (chosen ts ms.1) (tokens ts) (other_tokens ts ms.1) (join_tokens ts ms.1)

-- the call: as `lent`, of the marked ones; what is kept of the others stands between the callee's needs and the context
module _ (n : ℕ) (ts : List Thing) (ms : Marks ts) (places : Places n 0 (chosen ts ms)) (Ps : List RattleType) (D : RattleType) {M : Type 1} (𝓤 : Ura M) (c : Clauses 𝓤 (End n (chosen ts ms) places Ps D)) (xs : Nows ts) (ps : Denots Ps) (vps : Valss Ps) where
  abbrev Us : List Thing
  Us = chosen ts ms

  abbrev ys : Nows Us
  ys = chosen_values ts ms xs

  module _ {𝓛 : Logic 𝓤} {K : Type 0} {Γ : List (Item 𝓤)} {E : Env 𝓤 𝓛.H} {C : Calls 𝓤 𝓛.H} {Λ : Loops 𝓤 𝓛.H} {f : Callee} {os : List Operand} {d : Place} {rest : Body} {Q : Post 𝓤 𝓛.H} where
    open 𝓛 use {H}

    pub lent_some : K → FmC 𝓤 H 𝓛.laws C → Triple 𝓤 (C f) (Con n Us places Ps D 𝓤 c 𝓛) → AllFits Us → AllFit Us ys → Free 𝓛 Ps ps vps
        → (g : Ghosts n Us places Ps D 𝓤 c ys ps vps) → ((αs : Numbers n) (δs : Names Us) → ent 𝓤 (emp 𝓤) ((c (fresh n αs) (passed n Us places Ps D 𝓤 c ys ps vps αs δs)).requires (g αs δs)))
        → ((αs : Numbers n) (δs : Names Us) → Opds K 𝓛 (raw ((Con n Us places Ps D 𝓤 c 𝓛).pre (to n Us places Ps D 𝓤 c ys ps vps 𝓛 g αs δs)) ∷ ‵ (keeps n (fresh n αs) 0 Us places δs ys) ∷ ‵ (others ts ms xs) ∷ ‵ (other_tokens ts ms) ∷ Γ) E os (flat (types_at (params n Ps 0 Us places) (fresh n αs)) (vals n (fresh n αs) Ps 0 Us places vps)))
        → ((αs : Numbers n) (δs : Names Us) (w : Val) (r : D.Denot) (ws : Lasts (End n Us places Ps D) (fresh n αs) (passed n Us places Ps D 𝓤 c ys ps vps αs δs)) → AllFit Us (after n Us places Ps D 𝓤 c ys ps vps αs δs ws)
        → Seq K 𝓛 (raw ((c (fresh n αs) (passed n Us places Ps D 𝓤 c ys ps vps αs δs)).ensures (g αs δs) r (at_exit (End n Us places Ps D) (fresh n αs) (passed n Us places Ps D 𝓤 c ys ps vps αs δs) ws)) ∷ ‵ (D.own_val r (w ∷ [])) ∷ ‵ (have ts (renewed ts ms (after n Us places Ps D 𝓤 c ys ps vps αs δs ws) xs)) ∷ ‵ (tokens ts) ∷ Γ) (lands C Λ E d w rest Q))
        → Seq K 𝓛 (‵ (have ts xs) ∷ ‵ (tokens ts) ∷ Γ) (runs C Λ E (seq (call f os d) rest) Q)
    lent_some t fm known fits fit free g req opds k =
        use1 𝓛 (‵ (have Us ys) ⊛ ‵ (others ts ms xs)) (parts 𝓛 ts ms xs) $ split t $ move t (2 ∷ []) $
        use1 𝓛 (‵ (tokens Us) ⊛ ‵ (other_tokens ts ms)) (part_tokens 𝓛 ts ms) $ split t $ move t (2 ∷ 0 ∷ 3 ∷ 1 ∷ []) $
        lent n Us places Ps D 𝓤 c ys ps vps t fm known fits fit free g req opds (λ αs δs w r ws f'.
        move t (2 ∷ 4 ∷ []) $ use2 𝓛 (‵ (have ts (renewed ts ms (after n Us places Ps D 𝓤 c ys ps vps αs δs ws) xs))) (joined 𝓛 ts ms (after n Us places Ps D 𝓤 c ys ps vps αs δs ws) xs) $
        move t (3 ∷ 4 ∷ []) $ use2 𝓛 (‵ (tokens ts)) (join_tokens 𝓛 ts ms) $ move t (2 ∷ 3 ∷ 1 ∷ 0 ∷ []) $ k αs δs w r ws f')
