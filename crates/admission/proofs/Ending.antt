-- The end of the check: empty arrays, the kinds written, and the answer by what the sweep and the jumps' test found.
use Prim.Native.Nat.{ℕ, zero, suc, ◌+◌, ◌-◌, ◌*◌, ◌%◌, ◌≤◌, ◌<◌}
use mathlib.Core.Path.{◌≡◌, refl, sym, ◌∙◌, ap, ap₂, subst}
use mathlib.Core.Bool.{Bool, true, false}
use mathlib.Core.List.{List, [], ◌∷◌, ◌++◌, reverse, reverse_aux, reverse_aux-eq}
use native.Mathlib.Omega.{arith}
use lib.Dec.{ltb}
use lib.ListN.{length, get_or, set, drop, replicate, length-replicate, get_or-replicate, get_or-eq_default}
use lib.Seq.{sets, set_comm}
use borrow.Author.Tests.{ltb-true, ltb-false}
use Rattle.slices.proofs.SlicesWrites.{sets_append}
use Rattle.labels.specs.declared.Kind.{Kind}
use Rattle.labels.specs.declared.Kind.TheVariants.{Number, Calldata, Boolean, Text, Numbers}
use Rattle.labels.specs.Labels.{letter, letters, Open, opened, kinds_of, open_loops}
use Rattle.admission.specs.Nodes.{top, below, stacked, Kept}
use Rattle.labels.specs.Check.{admitted, admission}
use Rattle.labels.specs.Faults.{WrongJump, Ended, Fault, without_rule, wrong_jump, open_loop}
use Rattle.labels.proofs.Refused.{refused_at, passed}
use Rattle.errors.specs.declared.Refusal.TheVariants.{NotAdmitted}
use Rattle.admission.specs.Noted.{Opens, no_loop, one_loop, two_loops, Noted, Tells, Fresh, Swept, stuck_at, ended, Jumps, all_right, first_wrong}
use Rattle.admission.specs.Answer.{Zeros, written, answer, answered}
use Rattle.admission.proofs.Landings.{tells_kept, noted_at}
use Rattle.admission.proofs.Turns.{letters_length}
use Rattle.admission.proofs.Stacks.{top_is, below_is}
use Rattle.errors.specs.declared.Refusal.{Refusal}
use Rattle.std.specs.Prelude.{Ok, Err, Result, MatchResult, IsErrAnd, ⊤}

-- an array made of zeros
pub zeros : (size : ℕ) → Zeros size (replicate size 0)
zeros size = record { sized = length-replicate size 0; zero_at = at_zero }
  where
    at_zero : (at : ℕ) → ◌≡◌ {A = ℕ} (get_or (replicate size 0) at 0) 0
    at_zero at = by (ltb at size) refl
      where
        by : (b : Bool) → ltb at size ≡ b → ◌≡◌ {A = ℕ} (get_or (replicate size 0) at 0) 0
        by true e = get_or-replicate size at 0 0 (ltb-true at size e)
        by false e =
            let list : List ℕ = replicate size 0 in
            let long : length list ≡ size = length-replicate size 0 in
            let past : length list ≤ at = omega (arith, ltb-false at size e) in
            get_or-eq_default list 0 past

-- the loop that writes: a turn, and the end
pub written_turn : (cells : List ℕ) (left node next letter : ℕ) (kinds : List ℕ) {whole : List ℕ} → 0 < left → letter ≡ top cells node → next ≡ below cells node
    → written left cells node kinds ≡ whole → written (left - 1) cells next (set kinds (left - 1) (letter % 256)) ≡ whole
unfolding written
written_turn cells zero node next letter kinds some e f inv = absurd (omega arith)
written_turn cells (suc left) node next letter kinds some e f inv =
    let less : suc left - 1 ≡ left = omega arith in
    ap₂ (λ n m. written n cells m (set kinds n (letter % 256))) less f ∙ ap (λ l. written left cells (below cells node) (set kinds left (l % 256))) e ∙ inv

pub written_end : (cells : List ℕ) (left node : ℕ) (kinds : List ℕ) {whole : List ℕ} → left ≤ 0 → written left cells node kinds ≡ whole → kinds ≡ whole
unfolding written
written_end cells zero node kinds none inv = inv
written_end cells (suc left) node kinds none inv = absurd (omega arith)

-- a write behind a list's writes may come first
set_first : (list : List ℕ) (i n x : ℕ) (xs : List ℕ) → i + length xs ≤ n → sets (set list n x) i xs ≡ set (sets list i xs) n x
set_first list i n x [] le = refl
set_first list i n x (y ∷ ys) le = ap (λ l. sets l (suc i) ys) (set_comm list n i x y (λ e. omega arith)) ∙ set_first (set list i y) (suc i) n x ys (omega arith)

map_append : (x y : List Kind) → letters (x ++ y) ≡ letters x ++ letters y
map_append [] y = refl
map_append (k ∷ x) y = ap (λ l. letter k ∷ l) (map_append x y)

aux_length : (x y : List Kind) → length (reverse_aux x y) ≡ length x + length y
aux_length [] y = omega arith
aux_length (k ∷ x) y = aux_length x (k ∷ y) ∙ (let e : length x + suc (length y) ≡ suc (length x) + length y = omega arith in e)

-- the kinds are written bottom first
pub written_is : (cells : List ℕ) (kinds : List Kind) (node : ℕ) (buffer : List ℕ) → stacked cells node ≡ letters kinds → written (length kinds) cells node buffer ≡ sets buffer 0 (letters (reverse kinds))
unfolding written
written_is cells [] node buffer e = refl
written_is cells (kind ∷ kinds) node buffer e =
    ap (λ x. written (length kinds) cells (below cells node) (set buffer (length kinds) (x % 256))) (top_is cells node ∙ ap (λ l. get_or l 0 0) e)
    ∙ ap (λ x. written (length kinds) cells (below cells node) (set buffer (length kinds) x)) (byte_letter kind)
    ∙ written_is cells kinds (below cells node) (set buffer (length kinds) (letter kind)) (below_is cells node ∙ ap (drop 1) e)
    ∙ set_first buffer 0 (length kinds) (letter kind) (letters (reverse kinds)) (omega (arith, long))
    ∙ ap (λ n. set (sets buffer 0 (letters (reverse kinds))) n (letter kind)) (let f : length kinds ≡ 0 + length (letters (reverse kinds)) = omega (arith, long) in f)
    ∙ sym (ap (sets buffer 0) (ap letters (reverse_aux-eq kinds (kind ∷ [])) ∙ map_append (reverse kinds) (kind ∷ [])) ∙ sets_append buffer 0 (letters (reverse kinds)) (letter kind ∷ []))
  where
    long : length (letters (reverse kinds)) ≡ length kinds
    long = letters_length (reverse kinds) ∙ aux_length kinds [] ∙ (let e : length kinds + 0 ≡ length kinds = omega arith in e)

    byte_letter : (kind : Kind) → letter kind % 256 ≡ letter kind
    byte_letter Number = refl
    byte_letter Calldata = refl
    byte_letter Boolean = refl
    byte_letter Text = refl
    byte_letter Numbers = refl

-- arrays of zeros are fresh
pub fresh : (places : ℕ) (code : List ℕ) {cells nodes loops : List ℕ} → length code < places → Zeros (2 * places) cells → Zeros places nodes → Zeros places loops
    → Fresh (length loops) code cells nodes loops
fresh places code few c n l = record {
  enough = omega (arith, few, l.sized);
  cells_size = omega (arith, c.sized, l.sized);
  nodes_size = omega (arith, n.sized, l.sized);
  loops_size = refl;
  no_loops = l.zero_at 0;
  unseen = n.zero_at;
}

-- no loop is open exactly if the word is 0
closed_word : {cells nodes : List ℕ} {at word : ℕ} {loops : List Open} → Opens cells nodes at word loops → loops ≡ [] → word ≡ 0
closed_word (no_loop e) f = e
closed_word (one_loop e l) f = absurd (let z : ◌≡◌ {A = ℕ} 0 1 = cc in omega arith)
closed_word (two_loops e l m) f = absurd (let z : ◌≡◌ {A = ℕ} 0 1 = cc in omega arith)

word_closed : {cells nodes : List ℕ} {at word : ℕ} (loops : List Open) → Opens cells nodes at word loops → word ≡ 0 → loops ≡ []
word_closed [] (no_loop e) f = refl
word_closed (opened a r ∷ []) (one_loop e l) f = absurd (omega (arith, l.some_place))
word_closed (opened a r ∷ opened b s ∷ []) (two_loops e l m) f = absurd (omega (arith, m.some_place))
word_closed (opened a r ∷ (opened b s ∷ (_ ∷ _))) x f = elim x [ ]

module _ {code cells nodes loops : List ℕ} {height : ℕ} where
  pub ended_of : Swept code cells nodes loops (Ok height) → Ended code
  ended_of (ended last h m t) = last

  pub tells_of : Swept code cells nodes loops (Ok height) → (place : ℕ) → Tells code cells nodes loops place
  tells_of (ended last h m t) = t

  pub most_of : Swept code cells nodes loops (Ok height) → height ≤ 1000
  most_of (ended last h m t) = m

  high_of : (s : Swept code cells nodes loops (Ok height)) → height ≡ length (kinds_of (ended_of s).last)
  unfolding ended_of
  high_of (ended last h m t) = h

pub swept_as : {code cells nodes loops : List ℕ} {result other : Result ℕ ℕ} → Swept code cells nodes loops result → result ≡ other → Swept code cells nodes loops other
swept_as {code} {cells} {nodes} {loops} s e = subst (Swept code cells nodes loops) e s

pub swept_kept : {code cells others nodes loops : List ℕ} {height : ℕ} → Kept cells others → Swept code cells nodes loops (Ok height) → Swept code others nodes loops (Ok height)
swept_kept k (ended last h m t) = ended last h m (tells_kept k t)

-- the answer on a program of 1 to 65,535 bytes
module _ (code : List ℕ) (more : 1 ≤ length code) (short : length code ≤ 65535) (buffer : List ℕ) where
  refuses : {at : ℕ} → Fault code at → answer (Err (NotAdmitted at)) buffer ≡ answered (admission code) buffer
  unfolding answered
  refuses {at} f = sym (ap (λ v. answered v buffer) ((refused_at code at more short).1 f))

  stuck_refuses : {cells nodes loops : List ℕ} {at : ℕ} → Swept code cells nodes loops (Err at) → answer (Err (NotAdmitted at)) buffer ≡ answered (admission code) buffer
  stuck_refuses (stuck_at w) = refuses (without_rule w)

  pub stuck_answer : {cells nodes loops : List ℕ} {result : Result ℕ ℕ} {at : ℕ} → Swept code cells nodes loops result → result ≡ Err at → answer (Err (NotAdmitted at)) buffer ≡ answered (admission code) buffer
  stuck_answer {cells} {nodes} {loops} s e = stuck_refuses (swept_as s e)

  module _ {cells nodes loops : List ℕ} {height : ℕ} (s : Swept code cells nodes loops (Ok height)) where
    wrong_refuses : {at : ℕ} → Jumps code (Err at) → answer (Err (NotAdmitted at)) buffer ≡ answered (admission code) buffer
    wrong_refuses (first_wrong j first) = refuses (wrong_jump (ended_of s) j first)

    pub wrong_answer : {result : Result ⊤ ℕ} {at : ℕ} → Jumps code result → result ≡ Err at → answer (Err (NotAdmitted at)) buffer ≡ answered (admission code) buffer
    wrong_answer j e = wrong_refuses (subst (Jumps code) e j)

    at_end : Noted cells nodes loops (length code) (ended_of s).last
    at_end = noted_at code cells nodes loops (tells_of s) (ended_of s).reached

    no_wrong_at : Jumps code (Ok tt) → (at : ℕ) → WrongJump code at → ⊥
    no_wrong_at (all_right right) = right

    no_wrong : {result : Result ⊤ ℕ} → Jumps code result → result ≡ Ok tt → (at : ℕ) → WrongJump code at → ⊥
    no_wrong j e = no_wrong_at (subst (Jumps code) e j)

    pub open_answer : {result : Result ⊤ ℕ} → Jumps code result → result ≡ Ok tt → {word : ℕ} → word ≡ get_or loops (length code) 0 → (word ≡ 0 → ⊥) → answer (Err (NotAdmitted (length code))) buffer ≡ answered (admission code) buffer
    open_answer j r e some = refuses (open_loop (ended_of s) (no_wrong j r) (λ none. some (e ∙ closed_word at_end.opens none)))

    pub admitted_answer : {result : Result ⊤ ℕ} → Jumps code result → result ≡ Ok tt → {word node : ℕ} {out : List ℕ} → word ≡ get_or loops (length code) 0 → word ≡ 0 → node ≡ get_or nodes (length code) 0 - 1 → out ≡ written height cells node buffer
        → answer (Ok height) out ≡ answered (admission code) buffer
    unfolding answered
    admitted_answer j r {word} {node} {out} e none n o =
        let last = (ended_of s).last in
        let kinds = kinds_of last in
        let closed : open_loops last ≡ [] = word_closed (open_loops last) at_end.opens (sym e ∙ none) in
        let verdict : admission code ≡ admitted kinds = passed code more short (ended_of s) (no_wrong j r) closed in
        let list : out ≡ sets buffer 0 (letters (reverse kinds)) =
        o ∙ ap₂ (λ h m. written h cells m buffer) (high_of s) n ∙ written_is cells kinds (get_or nodes (length code) 0 - 1) buffer at_end.kinds in
        ap₂ (λ h l. answer (Ok h) l) (high_of s) list ∙ sym (ap (λ v. answered v buffer) verdict)

-- a result whose errors are mapped: what it was
module _ {A : Type 0} (P : ℕ → Refusal → Type 0) (was : Result A ℕ) (is : Result A Refusal) where
  pub error_was : (refusal : Refusal) → MatchResult was (λ x. is ≡ Ok x) (λ e. IsErrAnd is (P e)) → is ≡ Err refusal → (at : ℕ) × (was ≡ Err at) × P at refusal
  error_was refusal mapped e = by was refl mapped
    where
      by : (r : Result A ℕ) → was ≡ r → MatchResult r (λ x. is ≡ Ok x) (λ e. IsErrAnd is (P e)) → (at : ℕ) × (was ≡ Err at) × P at refusal
      by (Ok x) f m = absurd (let z : ◌≡◌ {A = ℕ} 0 1 = cc in omega arith)
      by (Err at) f m = (at, f, rw e at m)

  pub value_was : (value : A) → MatchResult was (λ x. is ≡ Ok x) (λ e. IsErrAnd is (P e)) → is ≡ Ok value → was ≡ Ok value
  value_was value mapped e = by was refl mapped
    where
      by : (r : Result A ℕ) → was ≡ r → MatchResult r (λ x. is ≡ Ok x) (λ e. IsErrAnd is (P e)) → was ≡ Ok value
      by (Ok x) f m = cc
      by (Err at) f m = absurd (rw e at m)
