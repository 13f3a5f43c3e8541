-- The parts of a creation are the creation: for every table, pool, image and program.
use Prim.Native.Nat.{ℕ}
use mathlib.Core.List.{List}
use mathlib.Core.Path.{◌≡◌, refl, ap}
use lib.ListN.{length}
use Rattle.pools.specs.Pool.{interned}
use Rattle.storage.specs.declared.Task.{Task}
use Rattle.table_image.proofs.Fits.{Fits, fits, records_told}
use Rattle.table_image.specs.Creation.{creation_tests}
use Rattle.table_image.specs.Tables.{in_use}
use Rattle.machine.specs.Creation.{loaded, create_behind, create_fit, create}
use Rattle.mechanism.specs.Creating.{with_program, prepared, prepare_fit, prepare, create_ready, create_as, create_by_parts}
use Rattle.std.specs.Prelude.{Ok, Err, Result}
use Rattle.errors.specs.declared.Refusal.{Refusal}
use Rattle.pools.specs.declared.InstructionsRef.{InstructionsRef}
use Rattle.table_image.specs.declared.creation.Fit.{Fit}

module _ (table : List Task) (pool ends image program : List ℕ) where
  -- behind the program, as many records as the image counts are its tasks
  behind : (next_id count s_len : ℕ) → Fits (length table) (length pool) (length program) image next_id count s_len → (after new : List ℕ) (answer : Result (InstructionsRef × ℕ) Refusal)
      → create_as table image (prepared (with_program next_id count s_len answer) after new) ≡ create_behind table image next_id s_len after new answer
  unfolding create_ready with_program create_behind
  behind next_id count s_len f after new (Ok (entry, bytes)) = ap (loaded next_id s_len) (records_told f table after new (in_use bytes 1))
  behind next_id count s_len f after new (Err refusal) = refl

  by_tests : (result : Result Fit Refusal) → creation_tests (length table) (length pool) (length program) image ≡ result → create_as table image (prepare_fit pool ends program result) ≡ create_fit table pool ends image program result
  unfolding create_ready prepare_fit create_fit
  by_tests (Ok fit) e =
      behind fit.next_id.0 fit.count fit.s_len (fits (length table) (length pool) (length program) image fit.next_id.0 fit.count fit.s_len e) (interned pool ends 0 0 program).pool (interned pool ends 0 0 program).ends
      (interned pool ends 0 0 program).answer
  by_tests (Err refusal) e = refl

  -- what the code does a part after the other is creation
  pub create_is : create_by_parts table pool ends image program ≡ create table pool ends image program
  unfolding create_by_parts prepare create
  create_is = by_tests (creation_tests (length table) (length pool) (length program) image) refl
