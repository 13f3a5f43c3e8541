-- The machines that the cases run on are created ones.
use Prim.Native.Nat.{ℕ, ◌+◌, ◌≤◌, min}
use mathlib.Core.List.{List, [], ◌∷◌, ◌++◌}
use mathlib.Core.Path.{◌≡◌, refl, ap, ◌∙◌, subst}
use native.Mathlib.Omega.{arith}
use lib.ListN.{length, replicate, length-append}
use lib.Seq.{sets, sets-eq, drop_at}
use borrow.Author.Tests.{ne_eqb, le-ltb, le-leb}
use Rattle.pools.specs.Pool.{has_room, interned}
use Rattle.storage.specs.Tasks.{blank}
use Rattle.image.specs.Image.{read_image}
use Rattle.image.specs.Reading.{s_len_of, instruction_bytes, image_result}
use Rattle.image.specs.Table.{load_tasks, load_read, load_table}
use Rattle.table_image.specs.Creation.{image_tests, creation_tests}
use Rattle.machine.specs.Creation.{new_machine, Made, made, create_behind, create_fit, create}
use Rattle.machine.specs.History.{FreshWorld, is_created, new_world}
use Rattle.cases.specs.Cases.{Save, lent, I1_world}
use Rattle.roundtrips.specs.Images.{I1}
use Rattle.cases.proofs.Table.{cases}
use Rattle.std.specs.Prelude.{Ok}

module _ (save program : List ℕ) (some : 1 ≤ length program) (short : length program ≤ 65535) where
  abbrev pool : List ℕ
  pool = program ++ replicate 16 0

  abbrev ends : List ℕ
  ends = length program ∷ replicate 1023 0

  roomy : length program ≤ min 65536 (length pool)
  roomy = let n = length-append program (replicate 16 0) in omega (arith, n, short)

  written : sets pool 0 program ≡ pool
  written = sets-eq program pool 0 (omega (arith, roomy)) ∙ ap (λ (rest : List ℕ). program ++ rest) (drop_at program (replicate 16 0) (0 + length program) (omega arith))

  -- the machine of a program without tasks
  pub is_fresh : FreshWorld program [] (lent save program)
  unfolding create create_fit create_behind creation_tests image_tests image_result read_image has_room interned load_table load_read load_tasks s_len_of instruction_bytes
  is_fresh =
      let none_more : length program + 0 ≡ length program = omega arith in
      let none_before : 0 + length program ≡ length program = omega arith in
      let fits = le-leb (length program) (min 65536 (length pool)) roomy in
      let created : create (replicate 256 blank) pool ends [] program ≡ made (Ok (new_machine (length program) 1 0 0)) (replicate 256 blank) pool ends =
      rw (ne_eqb (length program) 0 (λ (z : length program ≡ 0). omega (arith, some)), le-ltb 65535 (length program) short, none_more, fits) (rw (none_before, fits, written)) in
      subst (λ (m : Made). FreshWorld program [] (new_world (new_machine (length program) 1 0 0) m (replicate 1000 0) (replicate 64 0) save)) created
      (is_created (replicate 256 blank) pool ends (new_machine (length program) 1 0 0) (replicate 1000 0) (replicate 64 0) save refl refl (ap (λ (m : Made). m.answer) created))

-- the machine of image I1
pub I1_is_fresh : FreshWorld Save I1 I1_world
I1_is_fresh = is_created (replicate 256 blank) (replicate 16 0) (replicate 1024 0) (new_machine 1 2 1 1) (replicate 1000 0) (replicate 64 0) (replicate 31 9) refl refl cases.c12.0
