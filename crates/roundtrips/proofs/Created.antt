-- What creation's tests promise of the load behind them: each task's instructions have room.
use Prim.Native.Nat.{ℕ, ◌+◌, ◌<◌, ◌≤◌}
use mathlib.Core.List.{List, [], ◌∷◌}
use mathlib.Core.Path.{◌≡◌, refl, ap, sym}
use native.Mathlib.Omega.{arith}
use lib.ListN.{length}
use Rattle.image.specs.Image.{Image, sound, task_count, read_image}
use Rattle.slices.specs.Numbers.{number_at, Bytes}
use Rattle.image.specs.Table.{Loading, cleared, load_tasks, load_read, load_table}
use Rattle.roundtrips.proofs.LoadSave.{load_sound}
use Rattle.roundtrips.proofs.Loads.{Done, load_holds}
use Rattle.roundtrips.proofs.Stores.{Pool}
use Rattle.roundtrips.proofs.Tested.{s_len_most, s_len_least}
use Rattle.table_image.proofs.Fits.{Fits, count_told}

none_read : (image : Image) → read_image [] ≡ sound image → length image.tasks ≡ 0
unfolding read_image
none_read image e =
    let q : record { next_id = 0; tasks = [] } ≡ image = cc in
    sym (ap (λ (i : Image). length i.tasks) q)

none_counted : task_count [] ≡ 0
unfolding number_at
none_counted = refl

-- a sound image has at most 256 tasks: with the program's entry they never fill 1,024, so 22 is for the bytes alone
pub few_tasks : (bytes : List ℕ) (image : Image) → Bytes bytes → read_image bytes ≡ sound image → length image.tasks ≤ 256
few_tasks [] image b e = omega (arith, none_read image e)
few_tasks (byte ∷ bytes) image b e =
    let z = load_sound (byte ∷ bytes) image (omega arith) e b in
    omega (arith, z.few, s_len_least z.tasks, s_len_most z.tasks)

-- an image without bytes loads no task
pub load_none : (l : Loading) → load_table [] l ≡ cleared l
unfolding load_table load_read load_tasks read_image
load_none l = refl

module _ {slots lent size : ℕ} {bytes : List ℕ} {next_id count len : ℕ} (f : Fits slots lent size bytes next_id count len) (l : Loading)
    (pool : length l.pool ≡ lent) (program : l.bytes ≡ size) (one : l.entries ≡ 1) (b : Bytes bytes) (wide : 256 ≤ length l.table) (p : Pool l) where
  -- behind the program's entry each task's instructions are interned, none is refused, and each task names its own entry
  pub load_whole : 0 < length bytes → Done 0 (cleared l) (load_table bytes l) f.image.image.tasks
  load_whole some =
      load_holds bytes f.image.image l b some f.image.read wide p
      (record { few = omega (arith, f.room.few, f.image.count_is); small = omega (arith, f.room.small, f.room.there, f.image.bytes_are) })

  -- the entries in use are then the program's and one for each task
  some_entries : 0 < length bytes → (load_table bytes l).entries ≡ 1 + count
  some_entries some = omega (arith, (load_whole some).count, f.image.count_is)

-- the same of an image with no bytes
pub load_entries : {slots lent size : ℕ} (bytes : List ℕ) {next_id count len : ℕ} → Fits slots lent size bytes next_id count len → (l : Loading)
    → length l.pool ≡ lent → l.bytes ≡ size → l.entries ≡ 1 → Bytes bytes → 256 ≤ length l.table → Pool l → (load_table bytes l).entries ≡ 1 + count
load_entries [] f l pool program one b wide p =
    let n = count_told [] f in
    let z = none_counted in
    rw (load_none l) (omega arith)
load_entries (byte ∷ bytes) f l pool program one b wide p = some_entries f l pool program one b wide p (omega arith)
