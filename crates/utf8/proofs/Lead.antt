-- Which alternative of a rule an octet begins, and that the test takes that one.
use Prim.Native.Nat.{ℕ, zero, suc, ◌≤◌, ◌<◌}
use mathlib.Core.Path.{◌≡◌, refl}
use mathlib.Core.List.Memᴰ
use mathlib.Core.List.{List, [], ◌∷◌, Memᴰ}
use mathlib.Core.Bool.{Bool, true, false, cond, false≢true, and-eq-true_iff}
use mathlib.Core.Logic.{⊎_elim}
use native.Mathlib.Omega.{arith}
use borrow.Author.Tests.{le-leb, leb-true}
use lib.Dec.{leb}
use Rattle.utf8.specs.Grammar.{Range, Rule, UTF8_char, In}
use Rattle.utf8.specs.Utf8.{holds, lead}

-- an octet of the range passes its test
pub in_holds : {r : Range} {b : ℕ} → In r b → holds r b ≡ true
unfolding holds
in_holds {r} {b} p = simp (le-leb r.low b p.at_least, le-leb b r.high p.at_most)

-- an octet that passes is one of the range
pub holds_in : (r : Range) (b : ℕ) → holds r b ≡ true → In r b
unfolding holds
holds_in r b e =
    let t = (and-eq-true_iff (leb r.low b) (leb b r.high)).0 e in
    record { at_least = leb-true _ _ t.0; at_most = leb-true _ _ t.1 }

-- any other octet fails
pub out_fails : (r : Range) (b : ℕ) → (In r b → ⊥) → holds r b ≡ false
out_fails r b out = by (holds r b) refl
  where
    by : (t : Bool) → holds r b ≡ t → t ≡ false
    by true e = absurd (out (holds_in r b e))
    by false e = refl

-- b begins alternative k and none before it; past the last one: none
abbrev pub Begins : Rule → ℕ → ℕ → Type 0
Begins [] k b = Unit {0}
Begins ([] ∷ rule) k b = ⊥
Begins ((r ∷ due) ∷ rule) zero b = In r b
Begins ((r ∷ due) ∷ rule) (suc k) b = (In r b → ⊥) × Begins rule k b

-- what alternative k asks for after its first octet passes `rest`
abbrev pub rest_of : Rule → ℕ → (List Range → Bool) → Bool
rest_of [] k rest = false
rest_of ([] ∷ rule) k rest = false
rest_of ((r ∷ due) ∷ rule) zero rest = rest due
rest_of ((r ∷ due) ∷ rule) (suc k) rest = rest_of rule k rest

-- the test takes the alternative that b begins
pub takes : (rule : Rule) (k b : ℕ) (rest : List Range → Bool) → Begins rule k b → lead rule b rest ≡ rest_of rule k rest
unfolding lead
takes [] k b rest u = refl
takes ([] ∷ rule) k b rest u = absurd u
takes ((r ∷ due) ∷ rule) zero b rest u = rw (in_holds u)
takes ((r ∷ due) ∷ rule) (suc k) b rest u = rw (out_fails r b u.0) (takes rule k b rest u.1)

-- the first ranges of the alternatives rise, the lowest from k
abbrev Rising : ℕ → Rule → Type 0
Rising k [] = Unit {0}
Rising k ([] ∷ rule) = ⊥
Rising k ((r ∷ due) ∷ rule) = (k ≤ r.low) × (r.low ≤ r.high) × Rising (suc r.high) rule

-- then the test takes any alternative that b begins
finds :
    (rule : Rule) (k : ℕ) {r : Range} {due : List Range} {b : ℕ} (rest : List Range → Bool) →
    Rising k rule → Memᴰ (r ∷ due) rule → In r b → (k ≤ b) × (lead rule b rest ≡ rest due)
unfolding lead
finds [] k rest u m p = absurd (Memᴰ.not-nil m)
finds ([] ∷ rule) k rest u m p = absurd u
finds ((q ∷ more) ∷ rule) k {r} {due} {b} rest u m p =
    ⊎_elim here (λ n. there (finds rule (suc q.high) rest u.2 n p)) (Memᴰ.cases_cons m)
  where
    Found : Type 0
    Found = (k ≤ b) × (cond (holds q b) (rest more) (lead rule b rest) ≡ rest due)

    here : ◌≡◌ {A = List Range} (r ∷ due) (q ∷ more) → Found
    here e =
        let first : r ≡ q = cc in
        let others : due ≡ more = cc in
        let i : In q b = rw first at p in
        (omega arith, rw (in_holds i, others))

    there : (q.high < b) × (lead rule b rest ≡ rest due) → Found
    there h = (omega arith, rw (out_fails q b (λ i. omega arith)) h.1)

-- so it does with UTF8-char
pub begins :
    {r : Range} {due : List Range} {b : ℕ} (rest : List Range → Bool) →
    Memᴰ (r ∷ due) UTF8_char → In r b → lead UTF8_char b rest ≡ rest due
unfolding UTF8_char
begins rest m p = (finds UTF8_char 0 rest (omega arith) m p).1

-- an octet that passes begins an alternative whose others pass
pub begun :
    {A : Type 0} (rule : Rule) (b : ℕ) (rest : List Range → Bool) →
    ((r : Range) (due : List Range) → Memᴰ (r ∷ due) rule → In r b → rest due ≡ true → A) → lead rule b rest ≡ true → A
unfolding lead
begun [] b rest then e = absurd (false≢true e)
begun ([] ∷ rule) b rest then e = begun rule b rest (λ r due m. then r due (Memᴰ.tail m)) e
begun {A} ((q ∷ more) ∷ rule) b rest then e =
    by (holds q b) refl (begun rule b rest (λ r due m. then r due (Memᴰ.tail m))) e
  where
    by : (t : Bool) → holds q b ≡ t → (lead rule b rest ≡ true → A) → cond t (rest more) (lead rule b rest) ≡ true → A
    by true h later e = then q more (Memᴰ.head refl) (holds_in q b h) e
    by false h later e = later e
