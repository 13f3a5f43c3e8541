-- What the calls of a run for a host answer, put together.
use Prim.Native.Nat.{ℕ}
use mathlib.Core.List.{List}
use mathlib.Core.Path.{◌≡◌, ap, ◌∙◌}
use lib.ListN.{replicate}
use Rattle.storage.specs.declared.Task.{Task}
use Rattle.storage.specs.Tasks.{blank}
use Rattle.machine.specs.declared.Machine.{Machine}
use Rattle.machine.specs.World.{world}
use Rattle.machine.specs.declared.Report.{Report}
use Rattle.machine.specs.declared.SaveReport.{SaveReport}
use Rattle.machine.specs.Calls.{reported, start}
use Rattle.machine.specs.Creation.{blank_table, machine_of, made, create}
use Rattle.machine.specs.Reads.{saved_to, host_save}
use Rattle.host.specs.declared.hosting.RunSummary.{RunSummary}
use Rattle.host.specs.declared.answering.ListingLengths.{ListingLengths}
use Rattle.host.specs.Listings.{ListedIn, listed_in, list_run}
use Rattle.host.specs.Hosting.{to_save, performed, RunSummaryIn, performed_in, with_listing, with_saved_image, with_run, with_creation, perform, owned, without_table, own}
use Rattle.std.specs.Prelude.{Result}
use Rattle.errors.specs.declared.Refusal.{Refusal}

-- creation, start, save and the listing
pub performs : (fuel : ℕ) (table : List Task) (stack memory pool ends save image program listing : List ℕ)
    {creation : Result Machine Refusal} {t₁ : List Task} {p₁ e₁ : List ℕ} {begun : Machine}
    {report : Report} {t₂ : List Task} {s₂ m₂ p₂ e₂ v₂ : List ℕ} {saving : Machine}
    {saved : SaveReport} {t₃ : List Task} {s₃ m₃ p₃ e₃ v₃ : List ℕ} {listed : ListingLengths} {t₄ : List Task} {s₄ m₄ p₄ e₄ l₄ : List ℕ} {r : RunSummary}
    → made creation t₁ p₁ e₁ ≡ create table pool ends image program
    → begun ≡ machine_of creation
    → reported report t₂ s₂ m₂ p₂ e₂ v₂ ≡ start fuel (world begun t₁ stack memory p₁ e₁ save)
    → saving ≡ to_save report
    → saved_to saved t₃ s₃ m₃ p₃ e₃ v₃ ≡ host_save (world saving t₂ s₂ m₂ p₂ e₂ v₂)
    → listed_in listed t₄ s₄ m₄ p₄ e₄ l₄ ≡ list_run creation report t₃ s₃ m₃ p₃ e₃ listing
    → r ≡ performed creation report saved listed
    → performed_in r t₄ s₄ m₄ p₄ e₄ v₃ l₄ ≡ perform fuel table stack memory pool ends save image program listing
unfolding perform with_creation with_run with_saved_image with_listing
performs fuel table stack memory pool ends save image program listing {creation} {t₁} {p₁} {e₁} {begun} {report} {t₂} {s₂} {m₂} {p₂} {e₂} {v₂} {saving} {saved} {t₃} {s₃} {m₃} {p₃} {e₃} {v₃} {listed} {t₄} {s₄} {m₄} {p₄} {e₄} {l₄} {r} creates begins starts chooses saves lists sums =
    ap (λ (a : RunSummary). performed_in a t₄ s₄ m₄ p₄ e₄ v₃ l₄) sums
    ∙ ap (λ (l : ListedIn). with_listing creation report saved v₃ l) lists
    ∙ ap (with_saved_image creation report listing) saves
    ∙ ap (λ (m : Machine). with_saved_image creation report listing (host_save (world m t₂ s₂ m₂ p₂ e₂ v₂))) chooses
    ∙ ap (with_run creation listing) starts
    ∙ ap (λ (m : Machine). with_run creation listing (start fuel (world m t₁ stack memory p₁ e₁ save))) begins
    ∙ ap (with_creation fuel stack memory save listing) creates

-- over a table of blank slots
pub owns_it : (fuel : ℕ) (stack memory pool ends save image program listing : List ℕ) {slot : Task}
    {r : RunSummary} {t : List Task} {s₂ m₂ p₂ e₂ v₂ l₂ : List ℕ} → slot ≡ blank
    → performed_in r t s₂ m₂ p₂ e₂ v₂ l₂ ≡ perform fuel (replicate 256 slot) stack memory pool ends save image program listing
    → owned r s₂ m₂ p₂ e₂ v₂ l₂ ≡ own fuel stack memory pool ends save image program listing
unfolding own blank_table
owns_it fuel stack memory pool ends save image program listing blanks performs-it =
    ap (λ (p : RunSummaryIn). without_table p) performs-it
    ∙ ap (λ (t : Task). without_table (perform fuel (replicate 256 t) stack memory pool ends save image program listing)) blanks
