-- What an instruction on a task does to its slot in a run, by the definition that the contract of the run goes by.
use Prim.Native.Nat.{ℕ}
use mathlib.Core.List.{List}
use mathlib.Core.Path.{◌≡◌, refl}
use lib.ListN.{set}
use Rattle.std.specs.Prelude.{Ok, Err}
use Rattle.errors.specs.declared.Refusal.{Refusal}
use Rattle.storage.specs.declared.Task.{Task}
use Rattle.machine.specs.declared.Machine.{Machine}
use Rattle.mechanism.specs.Changes.{applied}
use Rattle.mechanism.specs.Act.{OnAll}
use Rattle.mechanism.specs.declared.Change.TheVariants.{Put}
use Rattle.runner.specs.Going.{acted}

module _ (machine reached : Machine) (left slot : ℕ) (table : List Task) (after : OnAll) (task : Task) where
  -- a refused one puts no record
  pub refused_puts : (refusal : Refusal) → (acted machine left slot table after (Err refusal)).table ≡ table
  unfolding acted
  refused_puts refusal = refl

  -- a finished one puts the record that it changed
  pub finished_puts : (acted machine left slot table after (Ok (reached, Put task))).table ≡ set table slot task
  unfolding acted applied
  finished_puts = refl
