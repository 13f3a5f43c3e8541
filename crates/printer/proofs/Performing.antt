-- One call after the other: what each answered, put together.
use Prim.Native.Nat.{ℕ, suc, ◌+◌}
use mathlib.Core.List.{List}
use mathlib.Core.Path.{◌≡◌, refl, sym, ap, ◌∙◌}
use native.Mathlib.Numerals.{add-one}
use lib.ListN.{replicate}
use Rattle.storage.specs.declared.Task.{Task}
use Rattle.storage.specs.Tasks.{blank, After, after}
use Rattle.machine.specs.declared.Machine.{Machine}
use Rattle.machine.specs.World.{World, world}
use Rattle.machine.specs.Creation.{blank_table, machine_of, made, create}
use Rattle.printer.specs.Asked.{count_of}
use Rattle.printer.specs.Shows.{after_call, after_calls, lent, without_table, played, own}
use Rattle.std.specs.Prelude.{Result}
use Rattle.errors.specs.declared.Refusal.{Refusal}

-- ---- one call after the other

-- before the first call
pub none_yet : (calls : List ℕ) (start : ℕ) (w : World) → w ≡ after_calls calls start 0 w
unfolding after_calls
none_yet calls start w = refl

one_more : (calls : List ℕ) (start number : ℕ) (w : World) → after_calls calls start (suc number) w ≡ after_call calls start number (after_calls calls start number w)
unfolding after_calls
one_more calls start number w = refl

-- one call further
pub goes_further : (calls : List ℕ) (start number : ℕ) (w : World) {before now-it-is : World} {c₁ c₂ : List ℕ} → before ≡ after_calls calls start number w → c₁ ≡ calls
    → after now-it-is c₂ ≡ after (after_call c₁ start number before) c₁ → now-it-is ≡ after_calls calls start (number + 1) w
goes_further calls start number w {before} {now-it-is} {c₁} {c₂} so_far same turned =
    ap (λ (x : After World (List ℕ)). x.answer) turned
    ∙ ap (λ (c : List ℕ). after_call c start number before) same
    ∙ ap (after_call calls start number) so_far
    ∙ sym (one_more calls start number w)
    ∙ ap (λ (n : ℕ). after_calls calls start n w) (sym (add-one number))

-- the calls stay
pub calls_stay : {x y : World} {c₁ c₂ calls : List ℕ} → c₁ ≡ calls → after x c₂ ≡ after y c₁ → c₂ ≡ calls
calls_stay same turned = ap (λ (x : After World (List ℕ)). x.lent) turned ∙ same

-- ---- over a table of blank slots

pub owns_it : (start count : ℕ) (stack memory pool ends save image program calls : List ℕ) {slot : Task} {creation : Result Machine Refusal} {t₁ : List Task} {p₁ e₁ : List ℕ} {begun : Machine} {allowed : ℕ}
    {at_last : Machine} {t₂ : List Task} {s₂ m₂ p₂ e₂ v₂ c₂ : List ℕ} → slot ≡ blank
    → made creation t₁ p₁ e₁ ≡ create (replicate 256 slot) pool ends image program → begun ≡ machine_of creation → allowed ≡ count_of creation count
    → after (world at_last t₂ s₂ m₂ p₂ e₂ v₂) c₂ ≡ after (after_calls calls start allowed (world begun t₁ stack memory p₁ e₁ save)) calls
    → lent s₂ m₂ p₂ e₂ v₂ c₂ ≡ own start count stack memory pool ends save image program calls
unfolding own played blank_table
owns_it start count stack memory pool ends save image program calls {slot} {creation} {t₁} {p₁} {e₁} {begun} {allowed} blanks creates begins allows plays =
    ap (λ (x : After World (List ℕ)). without_table x.lent x.answer) plays
    ∙ ap (λ (n : ℕ). without_table calls (after_calls calls start n (world begun t₁ stack memory p₁ e₁ save))) allows
    ∙ ap (λ (m : Machine). without_table calls (after_calls calls start (count_of creation count) (world m t₁ stack memory p₁ e₁ save))) begins
    ∙ ap (played start count stack memory save calls) creates
    ∙ ap (λ (t : Task). played start count stack memory save calls (create (replicate 256 t) pool ends image program)) blanks
