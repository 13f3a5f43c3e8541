-- The test is RFC 3629's grammar: it accepts what the grammar has, and rejects everything else.
use Prim.Native.Nat.{ℕ}
use mathlib.Core.Path.{◌≡◌, refl, ◌∙◌}
use mathlib.Core.List.{List, [], ◌∷◌, ◌++◌, Memᴰ}
use mathlib.Core.Bool.{true, false≢true, and-eq-true_iff}
use Rattle.utf8.specs.Grammar.{Range, UTF8_char, In, Fits, end, octet, word, UTF8_octets, none, char}
use Rattle.utf8.specs.Utf8.{holds, from, valid}
use Rattle.utf8.proofs.Lead.{in_holds, holds_in, begins, begun}

-- octets that are due are taken
fitting : {due : List Range} {c : List ℕ} → Fits due c → (s : List ℕ) → from (c ++ s) due ≡ from s []
unfolding from
fitting end s = refl
fitting (octet p f) s = rw (in_holds p) (fitting f s)

-- UTF8-octets pass the test
pub accepts : {s : List ℕ} → UTF8_octets s → valid s ≡ true
unfolding valid from
accepts none = refl
accepts (char (word m end) o) = accepts o
accepts (char {s = s} (word m (octet {s = c} p f)) o) = begins (from (c ++ s)) m p ∙ fitting f s ∙ accepts o

-- octets that are due, and then UTF8-octets
data Read (due : List Range) : List ℕ → Type 0 where
  read : {c s : List ℕ} → Fits due c → UTF8_octets s → Read due (c ++ s)

-- an octet that is due in front of them
further : {r : Range} {due : List Range} {b : ℕ} {s : List ℕ} → In r b → Read due s → Read (r ∷ due) (b ∷ s)
further p (read f o) = read (octet p f) o

-- a first octet in front of them
first : {r : Range} {due : List Range} {b : ℕ} {s : List ℕ} → Memᴰ (r ∷ due) UTF8_char → In r b → Read due s → Read [] (b ∷ s)
first m p (read f o) = read end (char (word m (octet p f)) o)

-- nothing is due
whole : {s : List ℕ} → Read [] s → UTF8_octets s
whole (read end o) = o

-- what passes is due, and then UTF8-octets
passing : (s : List ℕ) (due : List Range) → from s due ≡ true → Read due s
unfolding from
passing [] [] e = read end none
passing [] (r ∷ due) e = absurd (false≢true e)
passing (b ∷ s) [] e = begun UTF8_char b (from s) (λ r due m p t. first m p (passing s due t)) e
passing (b ∷ s) (r ∷ due) e =
    let t = (and-eq-true_iff (holds r b) (from s due)).0 e in
    further (holds_in r b t.0) (passing s due t.1)

-- nothing else passes it
pub rejects : (s : List ℕ) → valid s ≡ true → UTF8_octets s
unfolding valid
rejects s e = whole (passing s [] e)
