-- Runs of an admitted program: how each ends, and what is on the stack where it is done.
use Prim.Native.Nat.{ℕ, ◌≤◌, ◌<◌}
use mathlib.Core.Path.{◌≡◌, refl, sym, ap, ◌∙◌, subst}
use mathlib.Core.Bool.{true}
use mathlib.Core.List.{List, [], ◌∷◌, reverse, reverse-cons}
use native.Mathlib.Decide.{ℕ_discrete}
use native.Mathlib.Omega.{arith}
use lib.ListN.{length, get_or, length-reverse, get_or-append}
use lib.Seq.{get_or_at}
use borrow.Author.Tests.{leb-true}
use Rattle.errors.specs.declared.Refusal.{Refusal}
use Rattle.machine.specs.declared.Outcome.TheVariants.{Done, Paused, Refused}
use Rattle.machine.specs.World.{World, place, at_end}
use Rattle.machine.specs.World as worlds
use Rattle.machine.specs.Words.{StepResult, next, refused}
use Rattle.machine.specs.Run.{End, end_at, run}
use Rattle.laws.proofs.Finished.{finished}
use Rattle.laws.specs.Finished.{Reaches, here, onto, Ends, is_done, is_paused, is_refused}
use Rattle.labels.specs.declared.Kind.{Kind}
use Rattle.labels.specs.declared.Kind.TheVariants.{Number}
use Rattle.labels.specs.Labels.{Open, Label, label, kinds_of, open_loops, Start, zeroth, follow, Labelling, Labelled}
use Rattle.labels.proofs.Ways.{fits}
use Rattle.safety.specs.Kinds.{HasKind, Listed}
use Rattle.safety.proofs.Kinded.{Kinded, nil, more, lengths}
use Rattle.safety.proofs.Holds.{May, Looping, none_open, one_open, two_open, Holds, starts, middle}
use Rattle.safety.proofs.Stands.{Stands, Steps, steps_to, may_stop, runs_program}
use Rattle.safety.proofs.Step.{step_good}
use Rattle.inlinevec.specs.declared.Two.{Two}
use Rattle.inlinevec.specs.declared.Loop.{Loop}

-- ---- the values, bottom first

-- the value at a position has the kind that is listed there
listed_kind : {stack : List ℕ} {height : ℕ} {kinds : List Kind} → Kinded stack height kinds → (position : ℕ) → position < length kinds → HasKind (get_or (reverse kinds) position Number) (get_or stack position 0)
listed_kind nil position less = absurd (omega arith)
listed_kind {stack} (more {height = h} {kind = kind} {kinds = kinds} has rest) position less = by (ℕ_discrete position h) (λ l. listed_kind rest position l)
  where
    long : length (reverse kinds) ≡ h
    long = length-reverse kinds ∙ sym (lengths rest)

    by : Dec (position ≡ h) → (position < length kinds → HasKind (get_or (reverse kinds) position Number) (get_or stack position 0)) → HasKind (get_or (reverse (kind ∷ kinds)) position Number) (get_or stack position 0)
    by (yes e) below = rw (reverse-cons kind kinds, e, get_or_at (reverse kinds) kind [] Number h long) has
    by (no e) below =
        let inside : position < length (reverse kinds) = omega (arith, lengths rest, length-reverse kinds) in
        rw (reverse-cons kind kinds, get_or-append (reverse kinds) (kind ∷ []) Number position inside) (below (omega (arith, lengths rest)))

pub listed : {kinds : List Kind} (w : World) → Kinded w.stack w.machine.height kinds → Listed (reverse kinds) w
listed {kinds} w kinded = record {
  as_many = lengths kinded ∙ sym (length-reverse kinds);
  of_kind = λ position less. listed_kind kinded position (rw (length-reverse kinds) at less);
}

-- ---- a run

module _ (program : List ℕ) (kinds : List Kind) (labelled : Labelled program kinds) where
  abbrev labels : ℕ → Label
  labels = labelled.labels

  abbrev lab : Labelling program labels
  lab = labelled.labelling

  steps_on : {s : StepResult} (v : World) → Steps program labels s → s ≡ next v → Stands program labels v
  steps_on v (steps_to {v = u} stands) e = let same : u ≡ v = cc in subst (Stands program labels) same stands
  steps_on v (may_stop may) e = absurd (let z : ◌≡◌ {A = ℕ} 0 1 = cc in omega arith)

  may_refuse : {s : StepResult} (refusal : Refusal) → Steps program labels s → s ≡ refused refusal → May refusal
  may_refuse refusal (steps_to stands) e = absurd (let z : ◌≡◌ {A = ℕ} 0 1 = cc in omega arith)
  may_refuse refusal (may_stop {refusal = r} may) e = let same : r ≡ refusal = cc in subst May same may

  -- finished instructions keep the invariant
  reaches : {n : ℕ} {w v : World} → Reaches n w v → Stands program labels w → Stands program labels v
  reaches (here w) stands = stands
  reaches (onto n w u v inside s way) stands = reaches way (steps_on u (step_good lab labelled.short w stands inside) s)

  -- how a run ends
  pub data Runs : End → Type 0 where
    runs_done : {v : World} {left : ℕ} → Stands program labels v → at_end v ≡ true → Runs (end_at v left Done)
    runs_paused : {v : World} {left : ℕ} → Stands program labels v → Runs (end_at v left Paused)
    runs_refused : {v : World} {left : ℕ} {refusal : Refusal} → Stands program labels v → May refusal → Runs (end_at v left (Refused refusal))

  by_end : {fuel : ℕ} {w : World} {e : End} → Ends fuel w e → Stands program labels w → Runs e
  by_end (is_done n left v sum way over) stands = runs_done (reaches way stands) over
  by_end (is_paused v way inside) stands = runs_paused (reaches way stands)
  by_end (is_refused n left v refusal sum way inside s) stands =
      let there = reaches way stands in
      runs_refused there (may_refuse refusal (step_good lab labelled.short v there inside) s)

  pub run_good : (fuel : ℕ) (w : World) → Stands program labels w → Runs (run fuel w)
  run_good fuel w stands = by_end (finished fuel w) stands

  -- ---- the end of the code

  start_within : {at : ℕ} → Start program at → at ≤ length program
  start_within zeroth = omega arith
  start_within (follow {at = at} start inside) = fits program at (labels at) (lab.rules at start inside)

  -- the machine's loops and values at the end
  pub record AtEnd (w : World) : Type 0 where
    pub closed : w.machine.loops.count ≡ 0
    pub kinded : Kinded w.stack w.machine.height kinds

  no_loops : {loops : Two Loop} {opens : List Open} → Looping program labels loops opens → opens ≡ [] → loops.count ≡ 0
  no_loops none_open e = refl
  no_loops (one_open first) e = absurd (let z : ◌≡◌ {A = ℕ} 0 1 = cc in omega arith)
  no_loops (two_open first second) e = absurd (let z : ◌≡◌ {A = ℕ} 0 1 = cc in omega arith)

  end_holds : (w : World) → length program ≤ place w → Holds program labels (place w) w.machine.height w.machine.loops w.stack → AtEnd w
  end_holds w over (starts {kinds = found} {opens = opens} at kinded looping) =
      let e : place w ≡ length program = omega (arith, start_within at.start) in
      let l : labels (length program) ≡ label found opens = subst (λ (i : ℕ). labels i ≡ label found opens) e at.label_is in
      let same : found ≡ kinds = sym (ap kinds_of l) ∙ labelled.at_end in
      record { closed = no_loops looping (sym (ap open_loops l) ∙ lab.closed); kinded = subst (Kinded w.stack w.machine.height) same kinded }
  end_holds w over (middle there e half high few top fielded kinded at looping) = absurd (omega arith)

  pub end_good : (w : World) → Stands program labels w → at_end w ≡ true → AtEnd w
  unfolding at_end
  end_good w stands over =
      let same : worlds.code w ≡ program = runs_program w stands.main in
      end_holds w (subst (λ (c : List ℕ). length c ≤ place w) same (leb-true (length (worlds.code w)) (place w) over)) stands.holds
