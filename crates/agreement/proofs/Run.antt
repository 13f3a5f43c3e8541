-- One run: our run of some fuel beside as many turns of the Rust's loop.
use Prim.Native.Nat.{ℕ, zero, suc}
use mathlib.Core.Bool.{Bool, true, false, cond, true≢false}
use mathlib.Core.Path.{◌≡◌, refl}
use lib.Dec.{ltb}
use lib.ListN.{length}
use borrow.Author.Tests.{leb-true, leb-false, lt-ltb, le-ltb}
use Rattle.errors.specs.declared.Refusal.{Refusal}
use Rattle.errors.specs.declared.Refusal.TheVariants as refusal
use Rattle.slices.specs.Numbers.{Bytes}
use Rattle.pools.proofs.Laws.{getD_entries}
use Rattle.machine.specs.Machines.{current, code_of}
use Rattle.machine.specs.declared.Outcome.TheVariants as outcome
use Rattle.machine.specs.World.{World, code, place, at_end}
use Rattle.machine.specs.Words.{StepResult}
use Rattle.machine.specs.Step.{step}
use Rattle.machine.specs.Run.{End, end_at, follow, run}
use Rattle.laws.specs.Sound.{Sound}
use Rattle.laws.proofs.Step.{step_sound}
use Rattle.rust.specs.Errors.{VMError, Out, ok, err, panic}
use Rattle.rust.specs.Vm as rust
use Rattle.rust.specs.Vm.{VM}
use Rattle.rust.specs.Run.{Ran, running, failed, panicked, onward, finished, while}
use Rattle.agreement.specs.View.{view}
use Rattle.agreement.specs.Agreement.{Agree, goes_on, lacks, errs, panics, Over, refusal_of}
use Rattle.agreement.specs.Exceptions.{excepted, comes_later, comes_to_excepted}
use Rattle.agreement.proofs.Facts.{facts}
use Rattle.agreement.proofs.Step.{agrees}

-- where a run ends, sound, its pool of bytes, beside what the Rust's loop comes to
pub data Same : End → Ran → Type 0 where
  both_end : (stale : ℕ) (w : World) (left : ℕ) → Sound w → Bytes w.pool → Same (end_at w left outcome.Done) (finished (view stale w))
  both_pause : (stale : ℕ) (w : World) → Sound w → Bytes w.pool → Same (end_at w 0 outcome.Paused) (running (view stale w))
  both_err : (stale : ℕ) (w : World) (left : ℕ) (error : VMError) → Sound w → Bytes w.pool → rust.step (view stale w) ≡ err error
      → Same (end_at w left (outcome.Refused (refusal_of error))) (failed error (view stale w))
  both_panic : (stale : ℕ) (w : World) (left : ℕ) → Sound w → Bytes w.pool → rust.step (view stale w) ≡ panic → Same (end_at w left (outcome.Refused refusal.UnexpectedEOB)) panicked
  meets : (stale : ℕ) (w : World) (left : ℕ) (number : Refusal) (vm : VM) (ran : Ran) → rust.step (view stale w) ≡ ok vm → Over w number vm → Same (end_at w left (outcome.Refused number)) ran

-- the Rust's test of its loop is ours
module _ (w : World) (stale : ℕ) (s : Sound w) where
  code_is : rust.instructions (view stale w) ≡ code w
  unfolding view code_of
  code_is = getD_entries w.pool w.ends w.machine.entries (current w.machine.frames).entry.0 (facts s).frame

  goes : at_end w ≡ false → ltb (view stale w).pc (length (rust.instructions (view stale w))) ≡ true
  unfolding at_end view
  goes before = rw code_is (lt-ltb (place w) (length (code w)) (leb-false _ _ before))

  stops : at_end w ≡ true → ltb (view stale w).pc (length (rust.instructions (view stale w))) ≡ false
  unfolding at_end view
  stops past = rw code_is (le-ltb (place w) (length (code w)) (leb-true _ _ past))

-- on from an instruction
module _ (others : World → End) (comes : World → Bool) (turn : VM → Ran) (alike : (v : World) (stale : ℕ) → Sound v → Bytes v.pool → comes v ≡ false → Same (others v) (turn (view stale v))) where
  follows : (w : World) (stale left : ℕ) (a : StepResult) (o : Out VM) → Sound w → Bytes w.pool → step w ≡ a → rust.step (view stale w) ≡ o → comes_later comes a ≡ false → Agree w a o
      → Same (follow others w left a) (onward turn (view stale w) o)
  unfolding follow onward comes_later
  follows w stale left _ _ s bytes e o common (goes_on later after) = alike _ later (step_sound w _ s e) after common
  follows w stale left _ _ s bytes e o common (lacks {r} {vm} over) = meets stale w left r vm _ o over
  follows w stale left _ _ s bytes e o common (errs error) = both_err stale w left error s bytes o
  follows w stale left _ _ s bytes e o common panics = both_panic stale w left s bytes o

-- the instruction at hand is not left out, and none behind it
none_excepted : (w : World) (comes : Bool) → cond (excepted w) true comes ≡ false → (excepted w ≡ false) × (comes ≡ false)
none_excepted w comes = by (excepted w)
  where
    by : (b : Bool) → cond b true comes ≡ false → (b ≡ false) × (comes ≡ false)
    by true e = absurd (true≢false e)
    by false e = (refl, e)

pub run_same : (fuel : ℕ) (w : World) (stale : ℕ) → Sound w → Bytes w.pool → comes_to_excepted fuel w ≡ false → Same (run fuel w) (while fuel (view stale w))
unfolding run while comes_to_excepted
run_same zero w stale s bytes common = by (at_end w) refl
  where
    by : (b : Bool) → at_end w ≡ b → Same (run zero w) (while zero (view stale w))
    by true e = rw (e, stops w stale s e) (both_end stale w 0 s bytes)
    by false e = rw (e, goes w stale s e) (both_pause stale w s bytes)
run_same (suc fuel) w stale s bytes common = by (at_end w) refl (λ v later sound more none. run_same fuel v later sound more none)
  where
    by : (b : Bool) → at_end w ≡ b → ((v : World) (later : ℕ) → Sound v → Bytes v.pool → comes_to_excepted fuel v ≡ false → Same (run fuel v) (while fuel (view later v)))
        → Same (run (suc fuel) w) (while (suc fuel) (view stale w))
    by true e ih = rw (e, stops w stale s e) (both_end stale w (suc fuel) s bytes)
    by false e ih =
        let none = none_excepted w (comes_later (λ v. comes_to_excepted fuel v) (step w)) (simp e at common) in
        rw (e, goes w stale s e)
        (follows (λ v. run fuel v) (λ v. comes_to_excepted fuel v) (while fuel) ih w stale (suc fuel) (step w) (rust.step (view stale w)) s bytes refl refl none.1 (agrees w stale s bytes e none.0))
