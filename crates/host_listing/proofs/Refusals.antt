-- What a run for a host leaves: all that is lent where the creation is refused, the save buffer where the run is.
use Prim.Native.Nat.{ℕ}
use mathlib.Core.Bool.{Bool, true, false}
use mathlib.Core.List.{List}
use mathlib.Core.Path.{◌≡◌, refl, ap, ◌∙◌}
use lib.Dec.{eqb}
use lib.ListN.{length}
use Rattle.errors.specs.declared.Refusal.{Refusal}
use Rattle.storage.specs.declared.Task.{Task}
use Rattle.storage.specs.Table.{sound_counts, sound_table}
use Rattle.machine.specs.declared.Machine.{Machine}
use Rattle.machine.specs.declared.Outcome.{Outcome}
use Rattle.machine.specs.declared.Outcome.TheVariants.{Refused}
use Rattle.machine.specs.World.{world}
use Rattle.machine.specs.Sound.{sound_record, sound_world}
use Rattle.machine.specs.Calls.{may_start, not_allowed, Reported, reports, is_sound, start}
use Rattle.machine.specs.Creation.{Made, stopped, machine_of}
use Rattle.machine.specs.Reads.{saved_to, not_saved, host_save}
use Rattle.laws.proofs.Refused.{start_in_phase}
use Rattle.host.specs.Listings.{list_run}
use Rattle.host.specs.Hosting.{unsavable, machine_to_save, with_listing, with_saved_image, with_run, with_creation}
use Rattle.std.specs.Prelude.{Err, Result}

-- ---- a machine that does not start, and one that no save takes

pub stays_stopped : (fuel : ℕ) (table : List Task) (stack memory pool ends save : List ℕ)
    → start fuel (world stopped table stack memory pool ends save) ≡ reports (not_allowed stopped) (world stopped table stack memory pool ends save)
unfolding may_start
stays_stopped fuel table stack memory pool ends save = start_in_phase fuel (world stopped table stack memory pool ends save) refl

too_many : (slots count : ℕ) (test : Bool) → eqb slots 256 ≡ test → sound_counts slots 257 count ≡ false
unfolding sound_counts
too_many slots count true test = rw test
too_many slots count false test = rw test

no_table : (table : List Task) (count : ℕ) → sound_table table 257 count ≡ false
unfolding sound_table
no_table table count = rw (too_many (length table) count (eqb (length table) 256) refl)

unsound : (machine : Machine) (table : List Task) (stack memory pool ends save : List ℕ) → is_sound (world (unsavable machine) table stack memory pool ends save) ≡ false
unfolding sound_world sound_record
unsound machine table stack memory pool ends save = rw (no_table table machine.count)

not_taken : (machine : Machine) (table : List Task) (stack memory pool ends save : List ℕ)
    → host_save (world (unsavable machine) table stack memory pool ends save) ≡ saved_to (not_saved (unsavable machine)) table stack memory pool ends save
unfolding host_save
not_taken machine table stack memory pool ends save = rw (unsound machine table stack memory pool ends save)

-- ---- a refused run

-- what a refused run leaves is what is left: the save buffer is as the run left it
pub refused_run : (creation : Result Machine Refusal) (listing : List ℕ) (r : Reported) {refusal : Refusal} → r.report.outcome ≡ Refused refusal
    → with_run creation listing r
    ≡ with_saved_image creation r.report listing (saved_to (not_saved (unsavable r.report.machine)) r.table r.stack r.memory r.pool r.ends r.save)
unfolding with_run machine_to_save
refused_run creation listing r is =
    ap (λ (o : Outcome). with_saved_image creation r.report listing (host_save (world (machine_to_save o r.report.machine) r.table r.stack r.memory r.pool r.ends r.save))) is
    ∙ ap (with_saved_image creation r.report listing) (not_taken r.report.machine r.table r.stack r.memory r.pool r.ends r.save)

-- ---- a refused creation

-- a refused creation leaves memory, the save buffer and the stack; the run counts as refused, and nothing is saved
pub refused_creation : (fuel : ℕ) (stack memory save listing : List ℕ) (m : Made) {refusal : Refusal} → m.answer ≡ Err refusal
    → with_creation fuel stack memory save listing m
    ≡ with_listing (Err refusal) (not_allowed stopped) (not_saved (unsavable stopped)) save
    (list_run (Err refusal) (not_allowed stopped) m.table stack memory m.pool m.ends listing)
unfolding with_creation with_saved_image machine_of
refused_creation fuel stack memory save listing m {refusal} is =
    ap (λ (a : Result Machine Refusal). with_run a listing (start fuel (world (machine_of a) m.table stack memory m.pool m.ends save))) is
    ∙ ap (with_run (Err refusal) listing) (stays_stopped fuel m.table stack memory m.pool m.ends save)
    ∙ refused_run (Err refusal) listing (reports (not_allowed stopped) (world stopped m.table stack memory m.pool m.ends save)) refl
