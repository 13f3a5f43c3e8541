-- PUSH_CALLDATA: the pool has one entry more, and the program stays its first.
use Prim.Native.Nat.{ℕ, ◌+◌, ◌≤◌, ◌<◌}
use mathlib.Core.Path.{◌≡◌, refl, sym, ◌∙◌, subst}
use mathlib.Core.List.{List, ◌∷◌}
use native.Mathlib.Omega.{arith}
use lib.ListN.{length, set, length-set}
use borrow.Author.Tests.{lt-leb}
use Rattle.values.specs.Values.{to_calldata_val}
use Rattle.pools.specs.Pool.{Pooled, has_room, new_entry, interned}
use Rattle.pools.proofs.Interns.{when_full}
use Rattle.inlinevec.specs.declared.Frame.{Frame}
use Rattle.storage.specs.declared.Task.{Task}
use Rattle.machine.specs.Machines.{current}
use Rattle.mechanism.specs.Registers.{registers_of, settled}
use Rattle.mechanism.specs.Frames.{OnPool, intern_sized, intern_calldata, with_entry, calldata_pushed, push_calldata}
use Rattle.mechanism.specs.Act.{after_pool, keeping}
use Rattle.machine.specs.World.{World, place}
use Rattle.machine.specs.World as worlds
use Rattle.mechanism.specs.Step.{acts_result}
use Rattle.mechanism.proofs.Settled.{current_changed}
use Rattle.labels.specs.declared.Kind.{Kind}
use Rattle.labels.specs.declared.Kind.TheVariants.{Calldata}
use Rattle.labels.specs.Labels.{Open, Label}
use Rattle.safety.proofs.Kinded.{Kinded, lengths, pushed, calldata_kind}
use Rattle.safety.proofs.Rules.{on_bool}
use Rattle.safety.proofs.Holds.{At, Looping, Holds, starts}
use Rattle.safety.proofs.Places.{operand_there}
use Rattle.safety.proofs.Interned.{Joins, joins_one}
use Rattle.safety.proofs.Stands.{Main, Steps, steps_to, may_stop, moved_main}
use Rattle.std.specs.Prelude.{Result}
use Rattle.errors.specs.declared.Refusal.{Refusal}
use Rattle.pools.specs.declared.InstructionsRef.{InstructionsRef}

module _ (w : World) (labels : ℕ → Label) (lent : length w.stack ≡ 1000) (main : Main (worlds.code w) w.machine.frames w.machine.pool w.machine.entries w.pool w.ends)
    (slot next : ℕ) (task : Task) {kinds : List Kind} {opens : List Open} (at : At (worlds.code w) labels next (Calldata ∷ kinds) opens) (kinded : Kinded w.stack w.machine.height kinds)
    (looping : Looping (worlds.code w) labels w.machine.loops opens) where
  -- what is to be shown of what PUSH_CALLDATA leaves
  abbrev Goal : OnPool → Type 0
  Goal a = Steps (worlds.code w) labels (acts_result w slot (after_pool a w.memory) (keeping a.result))

  abbrev height : ℕ
  height = w.machine.height

  few : height < 1000
  few = omega (arith, lengths kinded, at.few_kinds)

  -- the reference is pushed
  joined_steps : (calldata : List ℕ) → Joins w.pool w.ends w.machine.pool w.machine.entries calldata
      → Goal (calldata_pushed w.stack w.machine next (interned w.pool w.ends w.machine.pool w.machine.entries calldata) (new_entry w.machine.entries (w.machine.pool + length calldata)))
  unfolding acts_result calldata_pushed with_entry settled registers_of keeping
  joined_steps calldata j = steps_to (record {
    lent = length-set w.stack height (to_calldata_val w.machine.entries) ∙ lent;
    main = record {
      one_frame = (moved_main next main).one_frame;
      in_main = (moved_main next main).in_main;
      ends_lent = j.still_lent;
      pooled = j.still_pooled;
      some_entries = omega arith;
      program = j.old 0 main.some_entries ∙ main.program;
    };
    holds = subst (λ (f : Frame). Holds (worlds.code w) labels f.place (height + 1) w.machine.loops (set w.stack height (to_calldata_val w.machine.entries)))
        (sym (current_changed w.machine.frames (record { entry = (current w.machine.frames).entry; place = next })))
        (starts at (pushed (to_calldata_val w.machine.entries) (omega (arith, few)) (calldata_kind w.machine.entries) kinded) looping);
  })

  interned_steps : (calldata : List ℕ)
      → Goal (calldata_pushed w.stack w.machine next (interned w.pool w.ends w.machine.pool w.machine.entries calldata) (interned w.pool w.ends w.machine.pool w.machine.entries calldata).answer)
  unfolding acts_result calldata_pushed keeping
  interned_steps calldata =
      on_bool (has_room (length w.pool) w.machine.pool w.machine.entries (length calldata))
      (λ held. let j = joins_one w.pool w.ends w.machine.pool w.machine.entries calldata main.ends_lent main.pooled held in
      subst (λ (answer : Result (InstructionsRef × ℕ) Refusal). Goal (calldata_pushed w.stack w.machine next (interned w.pool w.ends w.machine.pool w.machine.entries calldata) answer)) (sym j.answered) (joined_steps calldata j))
      (λ failed. subst (λ (p : Pooled). Goal (calldata_pushed w.stack w.machine next p p.answer)) (sym (when_full w.pool w.ends w.machine.pool w.machine.entries calldata failed)) (may_stop refl))

  pub calldata_steps : place w + 3 ≤ length (worlds.code w) → Goal (push_calldata w.stack w.pool w.ends w.machine (place w) next)
  unfolding push_calldata intern_calldata intern_sized
  calldata_steps there =
      rw (lt-leb 1000 height few, operand_there 2 (worlds.code w) (place w + 1) (omega arith)) (interned_steps _)
