-- Lines as templates: refusals by how many details they have, numbers by whether there are any, and a slot without a line.
use Rattle.std.proofs.Common.{◌≡◌, ℕ, ◌<◌, ◌≤◌, Bool, true, false, List, [], ◌∷◌, length, sym, refl, ap, ◌∙◌, arith, le-leb}
use Rattle.errors.specs.Refusals.{number_of, details_of, listed}
use Rattle.errors.specs.declared.Refusal.{Refusal}
use Rattle.errors.specs.declared.Details.{Details}
use Rattle.errors.specs.declared.Details.TheVariants.{Nothing, One, Two}
use Rattle.text.specs.Ascii.{ascii}
use Rattle.text.specs.Numbers.{spaced, words, filled_in, numbers_left, filled}
use Rattle.text.specs.Lines.{formed, line, said, lined, put_line, measure_line, tell_line}
use Rattle.text.specs.declared.Form.TheVariants.{Plain, Spaced}
use Rattle.listing.specs.Listing.{line_of_refusal, line_of_numbers}
use Rattle.std.specs.Prelude.{Ok}

-- a refusal's line by its details
refused_by : (refusal : Refusal) {text : List ℕ} {number : ℕ} {given : Details} (details : Details)
    → text ≡ line_of_refusal number (listed details) → number ≡ number_of refusal → listed given ≡ details_of refusal → given ≡ details
    → text ≡ line_of_refusal (number_of refusal) (details_of refusal)
refused_by refusal details shape number_is details-is told =
    shape
    ∙ ap (λ (n : ℕ). line_of_refusal n (listed details)) number_is
    ∙ ap (line_of_refusal (number_of refusal)) (sym (ap listed told) ∙ details-is)

module _ (refusal : Refusal) {number : ℕ} {given : Details} (number_is : number ≡ number_of refusal) (details-is : listed given ≡ details_of refusal) where
  pub refused_plain : given ≡ Nothing → said (ascii "refused #") (number ∷ []) ≡ line_of_refusal (number_of refusal) (details_of refusal)
  unfolding said line formed filled filled_in numbers_left ascii line_of_refusal spaced
  refused_plain = refused_by refusal Nothing refl number_is details-is

  pub refused_one : {detail : ℕ} → given ≡ One detail
      → line (ascii "refused # #") (number ∷ detail ∷ []) Plain [] ≡ line_of_refusal (number_of refusal) (details_of refusal)
  unfolding line formed filled filled_in numbers_left ascii line_of_refusal spaced
  refused_one {detail} = refused_by refusal (One detail) refl number_is details-is

  pub refused_two : {detail second : ℕ} → given ≡ Two detail second
      → line (ascii "refused # # #") (number ∷ detail ∷ second ∷ []) Plain [] ≡ line_of_refusal (number_of refusal) (details_of refusal)
  unfolding line formed filled filled_in numbers_left ascii line_of_refusal spaced
  refused_two {detail} {second} = refused_by refusal (Two detail second) refl number_is details-is

pub no_numbers : (part : List ℕ) → length part < 4 → said (ascii "vec ") [] ≡ line_of_numbers (words part)
unfolding said line formed filled filled_in numbers_left ascii line_of_numbers words
no_numbers [] few = refl
no_numbers (a ∷ []) few = refl
no_numbers (a ∷ b ∷ []) few = refl
no_numbers (a ∷ b ∷ c ∷ []) few = refl
no_numbers (a ∷ b ∷ c ∷ d ∷ more) few = absurd (omega arith)

pub some_numbers : (part : List ℕ) → 4 ≤ length part → line (ascii "vec") [] Spaced part ≡ line_of_numbers (words part)
unfolding line formed filled filled_in numbers_left ascii line_of_numbers words spaced
some_numbers [] many = absurd (omega arith)
some_numbers (a ∷ []) many = absurd (omega arith)
some_numbers (a ∷ b ∷ []) many = absurd (omega arith)
some_numbers (a ∷ b ∷ c ∷ []) many = absurd (omega arith)
some_numbers (a ∷ b ∷ c ∷ d ∷ more) many = refl

-- nothing put, or measured
pub no_line : (writes : Bool) (out : List ℕ) → lined (Ok 0) out ≡ tell_line writes out []
unfolding put_line measure_line tell_line
no_line true out = rw (le-leb 0 (length out) (omega arith))
no_line false out = refl
