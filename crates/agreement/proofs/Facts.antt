-- What a sound world is, as facts.
use Prim.Native.Nat.{ℕ, ◌+◌, ◌≤◌, ◌<◌}
use mathlib.Core.Bool.{Bool, true, false, cond, ◌&&◌, and-eq-true_iff, false≢true}
use mathlib.Core.Path.{◌≡◌, refl, sym, ◌∙◌}
use mathlib.Core.List.{List}
use native.Mathlib.Omega.{arith}
use native.Mathlib.Decide.{dec_lt}
use lib.Dec.{eqb}
use lib.ListN.{length, get_or, get_or-eq_default}
use borrow.Author.Tests.{ltb-true, eqb-true}
use Rattle.inlinevec.specs.Stacks.{last_two}
use Rattle.pools.specs.Pool.{end_to_end}
use Rattle.storage.specs.declared.Task.{Task}
use Rattle.storage.specs.Tasks.{blank}
use Rattle.storage.specs.Table.{sound_table, sound_counts, sound_slots}
use Rattle.storage.proofs.Soundness.{Living, sound_living, sound_at, Counts, sound_counted}
use Rattle.machine.specs.Machines.{current}
use Rattle.machine.specs.Sound.{names, sound_frames}
use Rattle.machine.specs.World.{World}
use Rattle.laws.specs.Sound.{Sound, Inside}
use Rattle.laws.proofs.Parts.{machined, tabled}
use Rattle.inlinevec.specs.declared.Two.{Two}
use Rattle.inlinevec.specs.declared.Frame.{Frame}

pub record Facts (w : World) : Type 0 where
  pub height : w.machine.height ≤ 1000
  pub loops : w.machine.loops.count ≤ 2
  pub memory : w.machine.memory ≤ length w.memory
  pub small : w.machine.pool ≤ 65536
  pub pool : w.machine.pool ≤ length w.pool
  pub some_frame : 1 ≤ w.machine.frames.count
  pub few_frames : w.machine.frames.count ≤ 2
  pub main : w.machine.frames.first.entry.0 < w.machine.entries
  pub frame : (current w.machine.frames).entry.0 < w.machine.entries
  pub ends : end_to_end w.ends w.machine.pool w.machine.entries ≡ true
  pub counts : Counts (length w.table) w.machine.next_id.0 w.machine.count
  pub living : (slot : ℕ) → (get_or w.table slot blank).living ≡ true → Living (get_or w.table slot blank) slot w.machine.count
  pub stack_lent : length w.stack ≡ 1000
  pub ends_lent : length w.ends ≡ 1024
  pub titles_lent : (slot : ℕ) → length (get_or w.table slot blank).title ≡ 128
  pub inside : (i : ℕ) → i < w.machine.height → Inside w.machine.memory (get_or w.stack i 0)

-- both of two
pub both : (a b : Bool) → (a && b) ≡ true → (a ≡ true) × (b ≡ true)
both a b e = (and-eq-true_iff a b).0 e

record Framed (frames : Two Frame) (entries : ℕ) : Type 0 where
  some_frame : 1 ≤ frames.count
  few : frames.count ≤ 2
  main : frames.first.entry.0 < entries
  frame : (current frames).entry.0 < entries

framed : (frames : Two Frame) (entries : ℕ) → sound_frames frames entries ≡ true → Framed frames entries
unfolding sound_frames current last_two
framed frames entries e = by (eqb frames.count 1) (eqb frames.count 2) refl refl e
  where
    by : (one two : Bool) → eqb frames.count 1 ≡ one → eqb frames.count 2 ≡ two
        → cond one (names frames.first entries) (cond two (names frames.first entries && names frames.second entries) false) ≡ true → Framed frames entries
    by true two p q e =
        let n : frames.count ≡ 1 = eqb-true _ _ p in
        record { some_frame = omega arith; few = omega arith; main = ltb-true _ _ e; frame = rw p (ltb-true _ _ e) }
    by false true p q e =
        let n : frames.count ≡ 2 = eqb-true _ _ q in
        let b = both (names frames.first entries) (names frames.second entries) e in
        record { some_frame = omega arith; few = omega arith; main = ltb-true _ _ b.0; frame = rw p (ltb-true _ _ b.1) }
    by false false p q e = absurd (false≢true e)

blank_dead : blank.living ≡ false
unfolding blank
blank_dead = refl

slots : (table : List Task) (count : ℕ) → sound_slots table 0 count ≡ true → (slot : ℕ) → (get_or table slot blank).living ≡ true → Living (get_or table slot blank) slot count
slots table count e slot l = by (dec_lt slot (length table))
  where
    by : Dec (slot < length table) → Living (get_or table slot blank) slot count
    by (yes q) =
        let z : 0 + slot ≡ slot = omega arith in
        sound_living (get_or table slot blank) slot count l (rw z at (sound_at table 0 slot count q e))
    by (no q) =
        let z : get_or table slot blank ≡ blank = get_or-eq_default table blank (omega arith) in
        absurd (false≢true (sym blank_dead ∙ (rw z at l)))

-- the facts of a sound world
pub facts : {w : World} → Sound w → Facts w
unfolding sound_table
facts {w} s =
    let m = w.machine in
    let parts = machined w s in
    let d = both (sound_counts (length w.table) m.next_id.0 m.count) (sound_slots w.table 0 m.count) (tabled w s).sound in
    let f = framed m.frames m.entries parts.frames in
    record {
      height = parts.values.high;
      loops = parts.values.few;
      memory = parts.values.there;
      small = parts.entries.small;
      pool = parts.entries.there;
      some_frame = f.some_frame;
      few_frames = f.few;
      main = f.main;
      frame = f.frame;
      ends = parts.entries.joined;
      counts = sound_counted _ _ _ d.0;
      living = slots w.table m.count d.1;
      stack_lent = s.stack_lent;
      ends_lent = s.ends_lent;
      titles_lent = s.titles_lent;
      inside = s.vectors_inside;
    }
