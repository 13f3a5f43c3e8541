-- The machine's record stays sound: registers put back, a frame more or less, CALL and END_CALL.
use Prim.Native.Nat.{ℕ, ◌+◌, ◌≤◌, ◌<◌, min}
use mathlib.Core.Bool.{Bool, true, false, cond, ◌&&◌, false≢true, and-eq-true_iff}
use mathlib.Core.List.{List}
use mathlib.Core.Path.{◌≡◌, refl}
use native.Mathlib.Omega.{arith}
use lib.Dec.{eqb, ltb, leb}
use borrow.Author.Tests.{eqb-true, ltb-true, leb-false, lt-ltb}
use Rattle.errors.specs.declared.Refusal.{Refusal}
use Rattle.inlinevec.specs.Stacks as stacks
use Rattle.inlinevec.specs.Stacks.{if_room, if_some, push_two, last_two, change_two, push_onto, pop_off}
use Rattle.inlinevec.specs.declared.Frame.{Frame}
use Rattle.pools.specs.Pool.{bounds}
use Rattle.pools.specs.declared.InstructionsRef.{InstructionsRef}
use Rattle.storage.specs.declared.Task.{Task}
use Rattle.mechanism.specs.Registers.{moved}
use Rattle.mechanism.specs.declared.Registers.{Registers}
use Rattle.machine.specs.declared.Machine.{Machine}
use Rattle.machine.specs.Machines.{main_alone, current, with_current, with_frames}
use Rattle.mechanism.specs.Registers.{registers_of, settled}
use Rattle.mechanism.specs.Frames.{framed, enter_bounded, enter, call_popped, op_call, left_frame, op_end_call}
use Rattle.mechanism.specs.Registers.{machine_at}
use Rattle.machine.specs.Sound.{names, sound_frames}
use Rattle.laws.proofs.Either.{either}
use Rattle.laws.proofs.Parts.{Machined}
use Rattle.laws.proofs.Stack.{Registered, lowered, Pops, popped, not_popped, pops}
use Rattle.std.specs.Prelude.{Ok, Err, Result}
use Rattle.inlinevec.specs.declared.Two.{Two}

-- ---- the frames

-- the current frame at another place
with_place : (b : Bool) (frames : Two Frame) (entries place : ℕ) → sound_frames frames entries ≡ true
    → sound_frames (cond b (record { count = frames.count; first = record { entry = (cond b frames.first frames.second).entry; place = place }; second = frames.second })
    (record { count = frames.count; first = frames.first; second = record { entry = (cond b frames.first frames.second).entry; place = place } })) entries ≡ true
unfolding sound_frames
with_place true frames entries place sound = sound
with_place false frames entries place sound = sound

settled_frames : (frames : Two Frame) (entries place : ℕ) → sound_frames frames entries ≡ true
    → sound_frames (with_current frames (record { entry = (current frames).entry; place = place })) entries ≡ true
unfolding with_current current last_two change_two
settled_frames frames entries place sound = with_place (eqb frames.count 1) frames entries place sound

-- what sound frames are
data Framed (frames : Two Frame) (entries : ℕ) : Type 0 where
  one : frames.count ≡ 1 → names frames.first entries ≡ true → Framed frames entries
  two : frames.count ≡ 2 → names frames.first entries ≡ true → names frames.second entries ≡ true → Framed frames entries

framed_by : (frames : Two Frame) (entries : ℕ) (single double : Bool) → eqb frames.count 1 ≡ single → eqb frames.count 2 ≡ double
    → cond single (names frames.first entries) (cond double (names frames.first entries && names frames.second entries) false) ≡ true → Framed frames entries
framed_by frames entries true double s d e = one (eqb-true _ _ s) e
framed_by frames entries false true s d e = let b = (and-eq-true_iff (names frames.first entries) (names frames.second entries)).0 e in two (eqb-true _ _ d) b.0 b.1
framed_by frames entries false false s d e = absurd (false≢true e)

frames_are : (frames : Two Frame) (entries : ℕ) → sound_frames frames entries ≡ true → Framed frames entries
unfolding sound_frames
frames_are frames entries sound = framed_by frames entries (eqb frames.count 1) (eqb frames.count 2) refl refl sound

-- at most two
few_by : (frames : Two Frame) (entries : ℕ) → Framed frames entries → frames.count ≤ 2
few_by frames entries (one single main) = omega (arith, single)
few_by frames entries (two double main task) = omega (arith, double)

pub few_frames : (frames : Two Frame) (entries : ℕ) → sound_frames frames entries ≡ true → frames.count ≤ 2
few_frames frames entries sound = few_by frames entries (frames_are frames entries sound)

one_sound : (frames : Two Frame) (entries : ℕ) → frames.count ≡ 1 → names frames.first entries ≡ true → sound_frames frames entries ≡ true
unfolding sound_frames
one_sound frames entries single main = simp (single, main)

-- at least one
some_by : (frames : Two Frame) (entries : ℕ) → Framed frames entries → eqb frames.count 0 ≡ false
some_by frames entries (one single main) = rw single
some_by frames entries (two double main task) = rw double

pub some_frame : (frames : Two Frame) (entries : ℕ) → sound_frames frames entries ≡ true → eqb frames.count 0 ≡ false
some_frame frames entries sound = some_by frames entries (frames_are frames entries sound)

-- main alone
main_named : (frames : Two Frame) (entries : ℕ) → Framed frames entries → names frames.first entries ≡ true
main_named frames entries (one single main) = main
main_named frames entries (two double main task) = main

pub main_alone_sound : (frames : Two Frame) (entries : ℕ) → sound_frames frames entries ≡ true → sound_frames (main_alone frames) entries ≡ true
main_alone_sound frames entries sound = one_sound (main_alone frames) entries refl (main_named frames entries (frames_are frames entries sound))

two_sound : (frames : Two Frame) (entries : ℕ) → frames.count ≡ 2 → names frames.first entries ≡ true → names frames.second entries ≡ true → sound_frames frames entries ≡ true
unfolding sound_frames
two_sound frames entries double main task = simp (double, main, task)

-- with more entries
names_more : (frame : Frame) (entries more : ℕ) → entries ≤ more → names frame entries ≡ true → names frame more ≡ true
names_more frame entries more less named = let l = ltb-true frame.entry.0 entries named in lt-ltb frame.entry.0 more (omega (arith, l))

more_by : (frames : Two Frame) (entries more : ℕ) → entries ≤ more → Framed frames entries → sound_frames frames more ≡ true
more_by frames entries more less (one single main) = one_sound frames more single (names_more frames.first entries more less main)
more_by frames entries more less (two double main task) =
    two_sound frames more double (names_more frames.first entries more less main) (names_more frames.second entries more less task)

pub frames_more : (frames : Two Frame) (entries more : ℕ) → entries ≤ more → sound_frames frames entries ≡ true → sound_frames frames more ≡ true
frames_more frames entries more less sound = more_by frames entries more less (frames_are frames entries sound)

-- ---- the record

-- a machine's registers are sound
pub registered : {asked : Type 0} {memory pool save : ℕ} {stack ends : List ℕ} {machine : Machine} → Machined asked memory pool save stack ends machine → Registered asked memory (registers_of machine) stack
unfolding registers_of
registered m = m.values

-- sound registers put back
pub settled_sound : {asked : Type 0} {memory pool save : ℕ} {stack ends : List ℕ} {machine : Machine} (registers : Registers) (new : List ℕ) → Machined asked memory pool save stack ends machine
    → Registered asked memory registers new → Machined asked memory pool save new ends (settled machine registers)
unfolding settled
settled_sound {machine = machine} registers new m r =
    record { values = r; entries = m.entries; frames = settled_frames machine.frames machine.entries registers.place m.frames; kept = m.kept }

-- another place, and a height that is not above
pub placed_sound : {asked : Type 0} {memory pool save : ℕ} {stack ends : List ℕ} {machine : Machine} (next height : ℕ) → Machined asked memory pool save stack ends machine → height ≤ machine.height
    → Machined asked memory pool save stack ends (machine_at machine next height)
unfolding registers_of
placed_sound {memory = memory} {stack = stack} {machine = machine} next height m low =
    settled_sound (moved (registers_of machine) next height) stack m (lowered memory (registers_of machine) stack next height (registered m) low)

-- other frames
framed_sound : {asked : Type 0} {memory pool save : ℕ} {stack ends : List ℕ} {machine : Machine} (frames : Two Frame) → Machined asked memory pool save stack ends machine
    → sound_frames frames machine.entries ≡ true → Machined asked memory pool save stack ends (with_frames machine frames)
framed_sound frames m sound = record { values = m.values; entries = m.entries; frames = sound; kept = m.kept }

-- ---- CALL and END_CALL

-- the ids are as they were
pub record Same (machine after : Machine) : Type 0 where
  pub next_id : after.next_id.0 ≡ machine.next_id.0
  pub count : after.count ≡ machine.count

-- so many ids given out, none or one: the next id goes up by as many, and the S_LEN count is the one given plus 1
pub record Given (made : ℕ) (machine after : Machine) : Type 0 where
  pub next_id : after.next_id.0 ≡ machine.next_id.0 + made
  pub none : made ≡ 0 → after.count ≡ machine.count
  pub one : made ≡ 1 → after.count ≡ machine.next_id.0 + 1

pub none_given : {machine after : Machine} → Same machine after → Given 0 machine after
none_given same = record { next_id = omega (arith, same.next_id); none = λ _. same.count; one = λ e. absurd (omega arith) }

pub data WentOn (asked : Type 0) (memory pool save : ℕ) (stack ends : List ℕ) (machine : Machine) : Result Machine Refusal → Type 0 where
  went_on : (after : Machine) → Machined asked memory pool save stack ends after → after.entries ≡ machine.entries → Same machine after → WentOn asked memory pool save stack ends machine (Ok after)
  refused : (refusal : Refusal) → WentOn asked memory pool save stack ends machine (Err refusal)

data Pushes (entries : ℕ) : Result (Two Frame) Refusal → Type 0 where
  pushes : (frames : Two Frame) → sound_frames frames entries ≡ true → Pushes entries (Ok frames)
  not_pushes : (refusal : Refusal) → Pushes entries (Err refusal)

push_sound : (frames : Two Frame) (entries : ℕ) (entered : Frame) → Framed frames entries → frames.count < 2 → names entered entries ≡ true
    → sound_frames (push_two frames entered) entries ≡ true
unfolding push_two sound_frames
push_sound frames entries entered (one single main) less named = simp (single, main, named)
push_sound frames entries entered (two double main task) less named = absurd (omega arith)

frame_pushes : (frames : Two Frame) (entries : ℕ) (entered : Frame) → sound_frames frames entries ≡ true → names entered entries ≡ true → Pushes entries (push_onto frames entered)
unfolding push_onto if_room
frame_pushes frames entries entered sound named =
    either (Pushes entries) (ltb frames.count 2) _ _ (λ less. pushes _ (push_sound frames entries entered (frames_are frames entries sound) (ltb-true _ _ less) named)) (λ _. not_pushes _)

data Leaves (entries : ℕ) : Result (Frame × Two Frame) Refusal → Type 0 where
  leaves : (frame : Frame) (frames : Two Frame) → sound_frames frames entries ≡ true → Leaves entries (Ok (frame, frames))
  not_leaves : (refusal : Refusal) → Leaves entries (Err refusal)

pop_sound : (frames : Two Frame) (entries : ℕ) → Framed frames entries → 1 < frames.count → sound_frames (stacks.pop_two frames) entries ≡ true
unfolding stacks.pop_two sound_frames
pop_sound frames entries (one single main) more = absurd (omega arith)
pop_sound frames entries (two double main task) more = simp (double, main)

frame_leaves : (frames : Two Frame) (entries : ℕ) → sound_frames frames entries ≡ true → 1 < frames.count → Leaves entries (pop_off frames)
unfolding pop_off if_some
frame_leaves frames entries sound more =
    either (Leaves entries) (eqb frames.count 0) _ _ (λ _. not_leaves _)
    (λ _. either (Leaves entries) (leb frames.count 2) _ _ (λ _. leaves _ _ (pop_sound frames entries (frames_are frames entries sound) more)) (λ _. not_leaves _))

-- where an entry has bounds, it is one
data Bounded (entries : ℕ) (entry : InstructionsRef) : Result (ℕ × ℕ) Refusal → Type 0 where
  bounded : (start end : ℕ) → entry.0 < entries → Bounded entries entry (Ok (start, end))
  not_bounded : (refusal : Refusal) → Bounded entries entry (Err refusal)

bounds_told : (ends : List ℕ) (entries : ℕ) (entry : InstructionsRef) → Bounded entries entry (bounds ends entries entry)
unfolding bounds
bounds_told ends entries entry =
    either (Bounded entries entry) (ltb entry.0 (min entries 1024)) _ _ (λ less. bounded _ _ (let l = ltb-true entry.0 (min entries 1024) less in omega (arith, l))) (λ _. not_bounded _)

module _ {asked : Type 0} (memory pool save : ℕ) (stack ends : List ℕ) (machine : Machine) (m : Machined asked memory pool save stack ends machine) where
  abbrev On : Result Machine Refusal → Type 0
  On = WentOn asked memory pool save stack ends machine

  framed_on : (caller : Machine) (result : Result (Two Frame) Refusal) → Machined asked memory pool save stack ends caller → caller.entries ≡ machine.entries → Same machine caller → Pushes caller.entries result → On (framed caller result)
  unfolding framed
  framed_on caller _ c many same (pushes frames sound) = went_on _ (framed_sound frames c sound) many (record { next_id = same.next_id; count = same.count })
  framed_on caller _ c many same (not_pushes refusal) = refused refusal

  bounded_on : (caller : Machine) (entry : InstructionsRef) (result : Result (ℕ × ℕ) Refusal) → Machined asked memory pool save stack ends caller → caller.entries ≡ machine.entries → Same machine caller
      → Bounded caller.entries entry result → On (enter_bounded caller entry result)
  unfolding enter_bounded
  bounded_on caller entry _ c many same (bounded start end less) =
      either On (leb end start) _ _ (λ _. went_on caller c many same)
      (λ _. framed_on caller _ c many same (frame_pushes caller.frames caller.entries _ c.frames (lt-ltb entry.0 caller.entries less)))
  bounded_on caller entry _ c many same (not_bounded refusal) = refused refusal

  placed_same : (next height : ℕ) → Same machine (machine_at machine next height)
  unfolding settled
  placed_same next height = record { next_id = refl; count = refl }

  placed_entries : (next height : ℕ) → (machine_at machine next height).entries ≡ machine.entries
  unfolding settled
  placed_entries next height = refl

  popped_on : (next : ℕ) (task : Task) (result : Result (ℕ × ℕ) Refusal) → Pops stack machine.height result → On (call_popped ends machine next task result)
  unfolding call_popped enter
  popped_on next task _ (popped new less) =
      let c : Machined asked memory pool save stack ends (machine_at machine next new) = placed_sound next new m (omega arith) in
      either On task.living _ _ (λ _. bounded_on (machine_at machine next new) task.instructions_ref _ c (placed_entries next new) (placed_same next new) (bounds_told ends _ task.instructions_ref))
      (λ _. went_on _ c (placed_entries next new) (placed_same next new))
  popped_on next task _ (not_popped refusal) = refused refusal

  pub call_on : (next : ℕ) (task : Task) → On (op_call stack ends machine next task)
  unfolding op_call
  call_on next task = popped_on next task _ (pops stack machine.height)

  left_on : (result : Result (Frame × Two Frame) Refusal) → Leaves machine.entries result → On (left_frame machine result)
  unfolding left_frame
  left_on _ (leaves frame frames sound) = went_on _ (framed_sound frames m sound) refl (record { next_id = refl; count = refl })
  left_on _ (not_leaves refusal) = refused refusal

  pub end_call_on : (next : ℕ) → On (op_end_call machine next)
  unfolding op_end_call
  end_call_on next =
      either On (leb machine.frames.count 1) _ _ (λ _. went_on _ (placed_sound next machine.height m (omega arith)) (placed_entries next machine.height) (placed_same next machine.height))
      (λ more. left_on _ (frame_leaves machine.frames machine.entries m.frames (leb-false _ _ more)))
