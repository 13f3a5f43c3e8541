-- A world that passes the test of 26, or is sound, as facts: those of the machine beside its stack and pool, and those of the table.
use Prim.Native.Nat.{ℕ, ◌≤◌}
use mathlib.Core.Bool.{Bool, true, false, cond, false≢true, and-eq-true_iff}
use mathlib.Core.List.{List}
use mathlib.Core.Path.{◌≡◌, refl}
use lib.Dec.{ltb}
use lib.ListN.{length, get_or}
use borrow.Author.Tests.{ltb-false, leb-true, le-ltb, le-leb}
use Rattle.pools.specs.Pool.{end_to_end}
use Rattle.storage.specs.declared.Task.{Task}
use Rattle.storage.specs.Table.{sound_table}
use Rattle.storage.specs.Tasks.{blank}
use Rattle.machine.specs.declared.Machine.{Machine}
use Rattle.machine.specs.World.{World}
use Rattle.machine.specs.Sound.{sound_frames, sound_lengths, sound_record, sound_world}
use Rattle.machine.specs.Calls.{is_sound}
use Rattle.laws.proofs.Stack.{Holds}
use Rattle.laws.specs.Sound.{Passes, Sound}

-- so many bytes and entries in use are sound beside a lent pool of a length and its ends
pub record Entries (lent : ℕ) (ends : List ℕ) (bytes entries : ℕ) : Type 0 where
  pub small : bytes ≤ 65536
  pub there : bytes ≤ lent
  pub joined : end_to_end ends bytes entries ≡ true
  pub ends_long : length ends ≡ 1024

-- the machine beside memory, a pool and a save buffer of these lengths, the stack and the ends
pub record Machined (asked : Type 0) (memory pool save : ℕ) (stack ends : List ℕ) (machine : Machine) : Type 0 where
  pub values : Holds asked memory machine.height machine.loops.count machine.memory stack
  pub entries : Entries pool ends machine.pool machine.entries
  pub frames : sound_frames machine.frames machine.entries ≡ true
  pub kept : machine.saved ≤ save

-- the table, with the next id and the S_LEN count
pub record Tabled (asked : Type 0) (table : List Task) (next_id count : ℕ) : Type 0 where
  pub sound : sound_table table next_id count ≡ true
  pub titles : asked → (slot : ℕ) → length (get_or table slot blank).title ≡ 128

-- ---- the test, taken apart

refuses : (b rest : Bool) → cond b false rest ≡ true → (b ≡ false) × (rest ≡ true)
refuses true rest e = absurd (false≢true e)
refuses false rest e = (refl, e)

record Lengths (memory pool save : ℕ) (machine : Machine) : Type 0 where
  high : machine.height ≤ 1000
  few : machine.loops.count ≤ 2
  used : machine.memory ≤ memory
  small : machine.pool ≤ 65536
  there : machine.pool ≤ pool
  kept : machine.saved ≤ save

lengths : (memory pool save : ℕ) (machine : Machine) → sound_lengths memory pool save machine ≡ true → Lengths memory pool save machine
unfolding sound_lengths
lengths memory pool save machine e =
    let a = refuses (ltb 1000 machine.height) _ e in
    let b = refuses (ltb 2 machine.loops.count) _ a.1 in
    let c = refuses (ltb memory machine.memory) _ b.1 in
    let d = refuses (ltb 65536 machine.pool) _ c.1 in
    let f = refuses (ltb pool machine.pool) _ d.1 in
    record {
      high = ltb-false _ _ a.0;
      few = ltb-false _ _ b.0;
      used = ltb-false _ _ c.0;
      small = ltb-false _ _ d.0;
      there = ltb-false _ _ f.0;
      kept = leb-true _ _ f.1;
    }

lengths_hold : (memory pool save : ℕ) (machine : Machine) → Lengths memory pool save machine → sound_lengths memory pool save machine ≡ true
unfolding sound_lengths
lengths_hold memory pool save machine l =
    simp (
      le-ltb 1000 machine.height l.high,
      le-ltb 2 machine.loops.count l.few,
      le-ltb memory machine.memory l.used,
      le-ltb 65536 machine.pool l.small,
      le-ltb pool machine.pool l.there,
      le-leb machine.saved save l.kept,
    )

record Tests (w : World) : Type 0 where
  table : sound_table w.table w.machine.next_id.0 w.machine.count ≡ true
  all_lengths : sound_lengths (length w.memory) (length w.pool) (length w.save) w.machine ≡ true
  frames : sound_frames w.machine.frames w.machine.entries ≡ true
  joined : end_to_end w.ends w.machine.pool w.machine.entries ≡ true

tests : (w : World) → is_sound w ≡ true → Tests w
unfolding sound_world sound_record
tests w e =
    let a = (and-eq-true_iff (sound_table w.table w.machine.next_id.0 w.machine.count) _).0 e in
    let b = (and-eq-true_iff (sound_lengths (length w.memory) (length w.pool) (length w.save) w.machine) _).0 a.1 in
    let c = (and-eq-true_iff (sound_frames w.machine.frames w.machine.entries) _).0 b.1 in
    record { table = a.0; all_lengths = b.0; frames = c.0; joined = c.1 }

tests_hold : (w : World) → Tests w → is_sound w ≡ true
unfolding sound_world sound_record
tests_hold w t = simp (t.table, t.all_lengths, t.frames, t.joined)

-- ---- a world, both ways

-- a world that passes the test of 26, and is sound in all else where that is asked
pub record Kept (asked : Type 0) (w : World) : Type 0 where
  pub machine_kept : Machined asked (length w.memory) (length w.pool) (length w.save) w.stack w.ends w.machine
  pub table_kept : Tabled asked w.table w.machine.next_id.0 w.machine.count

kept : {asked : Type 0} (w : World) → Passes w → (asked → Sound w) → Kept asked w
kept w p s =
    let t = tests w p.tested in
    let l = lengths _ _ _ w.machine t.all_lengths in
    record {
      machine_kept = record {
        values = record { high = l.high; few = l.few; there = l.used; stack_long = λ it. (s it).stack_lent; inside = λ it. (s it).vectors_inside };
        entries = record { small = l.small; there = l.there; joined = t.joined; ends_long = p.ends_lent };
        frames = t.frames;
        kept = l.kept;
      };
      table_kept = record { sound = t.table; titles = λ it. (s it).titles_lent };
    }

pub passes_kept : (w : World) → Passes w → Kept ⊥ w
passes_kept w p = kept w p (λ none. absurd none)

pub sound_kept : (w : World) → Sound w → Kept (Unit {0}) w
sound_kept w s = kept w (record { tested = s.tested; ends_lent = s.ends_lent }) (λ _. s)

pub kept_passes : {asked : Type 0} (w : World) → Kept asked w → Passes w
kept_passes w k =
    let m = k.machine_kept in
    let l : Lengths (length w.memory) (length w.pool) (length w.save) w.machine =
    record { high = m.values.high; few = m.values.few; used = m.values.there; small = m.entries.small; there = m.entries.there; kept = m.kept } in
    record {
      tested = tests_hold w (record { table = k.table_kept.sound; all_lengths = lengths_hold _ _ _ w.machine l; frames = m.frames; joined = m.entries.joined });
      ends_lent = m.entries.ends_long;
    }

pub kept_sound : (w : World) → Kept (Unit {0}) w → Sound w
kept_sound w k =
    let p = kept_passes w k in
    record {
      tested = p.tested;
      stack_lent = k.machine_kept.values.stack_long tt;
      ends_lent = p.ends_lent;
      titles_lent = k.table_kept.titles tt;
      vectors_inside = k.machine_kept.values.inside tt;
    }

-- the facts of a sound world
pub machined : (w : World) → Sound w → Machined (Unit {0}) (length w.memory) (length w.pool) (length w.save) w.stack w.ends w.machine
machined w s = (sound_kept w s).machine_kept

pub tabled : (w : World) → Sound w → Tabled (Unit {0}) w.table w.machine.next_id.0 w.machine.count
tabled w s = (sound_kept w s).table_kept
