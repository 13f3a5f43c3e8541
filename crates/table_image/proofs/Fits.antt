-- What creation's tests tell of the image, the program and the pool, and so of the load behind them.
use Prim.Native.Nat.{ℕ, ◌<◌, ◌≤◌}
use mathlib.Core.Bool.{Bool, true, false, cond}
use mathlib.Core.List.{List}
use mathlib.Core.Path.{◌≡◌, ap, refl, sym, ◌∙◌}
use native.Mathlib.Omega.{arith}
use lib.Dec.{eqb, ltb}
use lib.ListN.{length, replicate}
use borrow.Author.Tests.{eqb-true, eqb-false, ltb-false}
use Rattle.errors.specs.declared.Refusal.TheVariants.{EmptyInstructions, PoolFull, WrongPhaseOrUnsound, ProgramTooLong}
use Rattle.image.specs.Image.{Image, Parsed, sound, bad_at, task_count, read_image}
use Rattle.image.specs.Reading.{s_len_of, instruction_bytes, image_result}
use Rattle.image.specs.Table.{load_table}
use Rattle.pools.proofs.Interns.{Room, room}
use Rattle.pools.specs.Pool.{has_room}
use Rattle.storage.specs.Tasks.{blank}
use Rattle.storage.specs.declared.Task.{Task}
use Rattle.table_image.proofs.Loads.{count_is, loads_all}
use Rattle.table_image.specs.Creation.{image_tests, creation_tests}
use Rattle.table_image.specs.Loops.{load_records}
use Rattle.table_image.specs.Tables.{loading}
use Rattle.table_image.specs.declared.InUse.{InUse}
use Rattle.std.specs.Prelude.{Ok, Err, Result}
use Rattle.errors.specs.declared.Refusal.{Refusal}
use Rattle.image.specs.declared.SoundImage.{SoundImage}
use Rattle.table_image.specs.declared.creation.Fit.{Fit}

-- an image of this next id, with so many tasks, this S_LEN and so many bytes of instructions
pub record Tested (bytes : List ℕ) (next_id count len instructions : ℕ) : Type 0 where
  pub image : Image
  pub read : read_image bytes ≡ sound image
  pub next_id_is : image.next_id ≡ next_id
  pub count_is : length image.tasks ≡ count
  pub s_len_is : s_len_of image.tasks ≡ len
  pub bytes_are : instruction_bytes image.tasks ≡ instructions

-- the answer `Sound` tells of such an image
pub tested_sound : (bytes : List ℕ) (next_id count len instructions : ℕ) → Ok (record { next_id = record { 0 = next_id }; count = count; s_len = len; instructions = instructions }) ≡ image_result (read_image bytes) → Tested bytes next_id count len instructions
unfolding image_result
tested_sound bytes next_id count len instructions e = by (read_image bytes) refl e
  where
    by : (r : Parsed Image) → read_image bytes ≡ r → Ok (record { next_id = record { 0 = next_id }; count = count; s_len = len; instructions = instructions }) ≡ image_result r → Tested bytes next_id count len instructions
    by (sound image) q j =
        let same : ◌≡◌ {A = SoundImage} (record { next_id = record { 0 = next_id }; count = count; s_len = len; instructions = instructions })
        (record { next_id = record { 0 = image.next_id }; count = length image.tasks; s_len = s_len_of image.tasks; instructions = instruction_bytes image.tasks }) = cc in
        record {
          image = image;
          read = q;
          next_id_is = sym (ap (λ (s : SoundImage). s.next_id.0) same);
          count_is = sym (ap (λ (s : SoundImage). s.count) same);
          s_len_is = sym (ap (λ (s : SoundImage). s.s_len) same);
          bytes_are = sym (ap (λ (s : SoundImage). s.instructions) same);
        }
    by (bad_at place) q j = absurd (let z : ◌≡◌ {A = ℕ} 0 1 = cc in omega arith)

-- an image that was tested, with room behind the program for its instructions
record Taken (lent size : ℕ) (answer : Result SoundImage Refusal) (next_id count len : ℕ) : Type 0 where
  instructions : ℕ
  is_sound : answer ≡ Ok (record { next_id = record { 0 = next_id }; count = count; s_len = len; instructions = instructions })
  has : Room lent size count instructions

image_taken : (lent size : ℕ) (answer : Result SoundImage Refusal) (next_id count len : ℕ) → image_tests lent size answer ≡ Ok (record { next_id = record { 0 = next_id }; count = count; s_len = len }) → Taken lent size answer next_id count len
unfolding image_tests
image_taken lent size (Err refusal) next_id count len e = absurd (let z : ◌≡◌ {A = ℕ} 0 1 = cc in omega arith)
image_taken lent size (Ok image) next_id count len e = by (has_room lent size image.count image.instructions) refl e
  where
    by : (test : Bool) → has_room lent size image.count image.instructions ≡ test
        → cond {A = Result Fit Refusal} test (Ok (record { next_id = image.next_id; count = image.count; s_len = image.s_len })) (Err PoolFull) ≡ Ok (record { next_id = record { 0 = next_id }; count = count; s_len = len })
        → Taken lent size (Ok image) next_id count len
    by true roomy q =
        let same : ◌≡◌ {A = Fit} (record { next_id = image.next_id; count = image.count; s_len = image.s_len }) (record { next_id = record { 0 = next_id }; count = count; s_len = len }) = cc in
        let counted : image.count ≡ count = ap (λ (f : Fit). f.count) same in
        let there : has_room lent size count image.instructions ≡ true = rw (← counted) roomy in
        record {
          instructions = image.instructions;
          is_sound = ap (λ (f : Fit). Ok (record { next_id = f.next_id; count = f.count; s_len = f.s_len; instructions = image.instructions })) same;
          has = room lent size count image.instructions there;
        }
    by false full q = absurd (let z : ◌≡◌ {A = ℕ} 0 1 = cc in omega arith)

tests_taken : (table none long : Bool) (rest : Result Fit Refusal) (next_id count len : ℕ)
    → cond table (cond none (Err EmptyInstructions) (cond long (Err ProgramTooLong) rest)) (Err WrongPhaseOrUnsound) ≡ Ok (record { next_id = record { 0 = next_id }; count = count; s_len = len })
    → (table ≡ true) × (none ≡ false) × (long ≡ false) × (rest ≡ Ok (record { next_id = record { 0 = next_id }; count = count; s_len = len }))
tests_taken true false false rest next_id count len e = (refl, refl, refl, e)
tests_taken true false true rest next_id count len e = absurd (let z : ◌≡◌ {A = ℕ} 0 1 = cc in omega arith)
tests_taken true true long rest next_id count len e = absurd (let z : ◌≡◌ {A = ℕ} 0 1 = cc in omega arith)
tests_taken false none long rest next_id count len e = absurd (let z : ◌≡◌ {A = ℕ} 0 1 = cc in omega arith)

-- what creation takes: 256 slots, a program of 1 to 65,535 bytes, a sound image, and room for the program and all instructions
pub record Fits (slots lent size : ℕ) (bytes : List ℕ) (next_id count len : ℕ) : Type 0 where
  pub table : slots ≡ 256
  pub some : 0 < size
  pub short : size ≤ 65535
  pub instructions : ℕ
  pub image : Tested bytes next_id count len instructions
  pub room : Room lent size count instructions

-- the answer `Fit` tells of them
pub fits : (slots lent size : ℕ) (bytes : List ℕ) (next_id count len : ℕ) → creation_tests slots lent size bytes ≡ Ok (record { next_id = record { 0 = next_id }; count = count; s_len = len }) → Fits slots lent size bytes next_id count len
unfolding creation_tests
fits slots lent size bytes next_id count len e =
    let t = tests_taken (eqb slots 256) (eqb size 0) (ltb 65535 size) (image_tests lent size (image_result (read_image bytes))) next_id count len e in
    let k = image_taken lent size (image_result (read_image bytes)) next_id count len t.3 in
    let n = eqb-false size 0 t.1 in
    record {
      table = eqb-true slots 256 t.0;
      some = omega (arith, n);
      short = ltb-false 65535 size t.2;
      instructions = k.instructions;
      image = tested_sound bytes next_id count len k.instructions (sym k.is_sound);
      room = k.has;
    }

-- ---- the load behind the tests

-- the image's own count is how many records are loaded
pub count_told : {slots lent size : ℕ} (bytes : List ℕ) {next_id count len : ℕ} → Fits slots lent size bytes next_id count len → count ≡ task_count bytes
count_told bytes f = sym (count_is bytes f.image.image f.image.read ∙ f.image.count_is)

-- so the records that `table_image::loading::load_table` goes through are the image
pub records_told : {slots lent size : ℕ} {bytes : List ℕ} {next_id count len : ℕ} → Fits slots lent size bytes next_id count len → (table : List Task) (pool ends : List ℕ) (used : InUse)
    → load_records count bytes 14 (loading (replicate (length table) blank) pool ends used) ≡ load_table bytes (loading table pool ends used)
records_told {bytes = bytes} {count = count} f table pool ends used = loads_all count bytes f.image.image table pool ends used f.image.read (count_told bytes f)
