-- CALL and END_CALL leave the table as it is, and go on behind their byte.
use Rattle.std.proofs.Common.{◌≡◌, ℕ, ◌+◌, ◌-◌, ◌^◌, ◌<◌, ◌≤◌, true, false, eqb, List, length, get_or, drop, sym, refl, ap, ◌∙◌, subst, arith, length-drop, length-take}
use native.Mathlib.Decide.{dec_lt}
use lib.ListN.{get_or-eq_default}
use borrow.Author.Tests.{lt-leb}
use Rattle.bytecode.specs.Opcodes.{CALL, END_CALL}
use Rattle.inlinevec.specs.Stacks.{if_some, pop}
use Rattle.pools.specs.Pool.{entry_of, end_of, start_of}
use Rattle.storage.specs.declared.Task.{Task}
use Rattle.storage.specs.Tasks.{blank}
use Rattle.mechanism.specs.Changes.{applied}
use Rattle.machine.specs.declared.Machine.{Machine}
use Rattle.machine.specs.Machines.{current, code_of}
use Rattle.mechanism.specs.Frames.{op_call, op_end_call}
use Rattle.mechanism.specs.Act.{keeping, on_all, on_frames, act_by, act_at, act, bare}
use Rattle.machine.specs.Machines.{op_at}
use Rattle.mechanism.specs.Advance.{named_by, named, wanted}
use Rattle.mechanism.specs.Turns.{turned}
use Rattle.runner.proofs.Extents.{bare_extent}
use Rattle.mechanism.proofs.Settled.{on_bool}
use Rattle.runner.specs.Behind.{next_of}
use Rattle.runner.specs.Going.{Acting, acting, acted, after_act, task_turn, returned, called, call_turn, from_entering, state_turn, act_turn}
use Rattle.runner.specs.States.{stated}
use Rattle.std.specs.Prelude.{Ok, Err, Result}
use Rattle.errors.specs.declared.Refusal.{Refusal}

module _ (pool ends : List ℕ) (machine : Machine) where
  abbrev pub place : ℕ
  place = (current machine.frames).place

  -- code is no longer than the pool
  code_short : length (code_of pool ends machine) ≤ length pool
  unfolding code_of entry_of
  code_short =
      let from = start_of ends (current machine.frames).entry.0 in
      let size = end_of ends (current machine.frames).entry.0 - from in
      omega (arith, length-take size (drop from pool), length-drop from pool)

  -- an opcode lies in the code
  pub inside : (op : ℕ) → op_at pool ends machine ≡ op → (op ≡ 0 → ⊥) → place < length (code_of pool ends machine)
  unfolding op_at
  inside op at some = by (dec_lt place (length (code_of pool ends machine)))
    where
      by : Dec (place < length (code_of pool ends machine)) → place < length (code_of pool ends machine)
      by (yes here) = here
      by (no out) = absurd (some (sym at ∙ get_or-eq_default (code_of pool ends machine) 0 (omega (arith, out))))

  -- the next place
  pub next_is : length pool < 2 ^ 64 → place < length (code_of pool ends machine) → next_of machine ≡ place + 1
  unfolding next_of
  next_is fits here = omega (arith, fits, here, code_short)

module _ (stack memory pool ends : List ℕ) (machine : Machine) (task : Task) where
  -- an opcode without operands
  pub acts_bare : (op : ℕ) → op_at pool ends machine ≡ op → (op ≡ 0 → ⊥) → bare op ≡ true
      → act stack memory pool ends machine task ≡ on_frames stack memory pool ends machine task op (place pool ends machine) (place pool ends machine + 1)
  unfolding act act_at act_by op_at
  acts_bare op at some alone =
      let here = inside pool ends machine op at some in
      simp (lt-leb _ _ here, bare_extent (code_of pool ends machine) (place pool ends machine) here (subst (λ (o : ℕ). bare o ≡ true) (sym at) alone), at)

-- an answer that changes no slot
kept_turn : (table : List Task) (stack memory pool ends : List ℕ) (machine : Machine) (left slot : ℕ) (result : Result Machine Refusal)
    → after_act machine left slot table (on_all (keeping result) stack memory pool ends) ≡ acting (turned machine left result) table stack memory pool ends
unfolding acted keeping applied
kept_turn table stack memory pool ends machine left slot (Ok reached) = refl
kept_turn table stack memory pool ends machine left slot (Err refusal) = refl

-- CALL names the slot of the value on top, past the last one where there is none
names_top : (stack : List ℕ) (machine : Machine) (op : ℕ) → op ≡ CALL → wanted stack machine op ≡ named stack machine.height
unfolding wanted named named_by pop if_some
names_top stack machine op is = on_bool (eqb machine.height 0) (λ none. simp (is, none)) (λ some. simp (is, some))

module _ (table : List Task) (stack memory pool ends : List ℕ) (machine : Machine) (left op : ℕ) (fits : length pool < 2 ^ 64) where
  abbrev slot : ℕ
  slot = wanted stack machine op

  -- the same turn, its answer and its next place given
  abbrev with_next : (ℕ → Result Machine Refusal) → ℕ → Acting
  with_next result next = acting (turned machine left (result next)) table stack memory pool ends

  -- END_CALL
  pub returns_turn : op_at pool ends machine ≡ END_CALL → acting (returned machine left) table stack memory pool ends ≡ task_turn table stack memory pool ends machine left op
  unfolding task_turn returned on_frames bare
  returns_turn at =
      ap (with_next (op_end_call machine)) (next_is pool ends machine fits (inside pool ends machine END_CALL at (λ none. omega arith)))
      ∙ sym (kept_turn table stack memory pool ends machine left slot (op_end_call machine (place pool ends machine + 1)))
      ∙ sym (ap (after_act machine left slot table) (acts_bare stack memory pool ends machine (get_or table slot blank) END_CALL at (λ none. omega arith) refl))

  -- CALL
  pub calls_turn : op ≡ CALL → op_at pool ends machine ≡ CALL → from_entering (call_turn table stack ends machine left) memory pool ≡ task_turn table stack memory pool ends machine left op
  unfolding task_turn call_turn called on_frames bare
  calls_turn is at =
      ap (λ (at_slot : ℕ). acting (called stack ends machine left (get_or table at_slot blank)) table stack memory pool ends) (sym (names_top stack machine op is))
      ∙ ap (with_next (λ (next : ℕ). op_call stack ends machine next (get_or table slot blank))) (next_is pool ends machine fits (inside pool ends machine CALL at (λ none. omega arith)))
      ∙ sym (kept_turn table stack memory pool ends machine left slot (op_call stack ends machine (place pool ends machine + 1) (get_or table slot blank)))
      ∙ sym (ap (after_act machine left slot table) (acts_bare stack memory pool ends machine (get_or table slot blank) CALL at (λ none. omega arith) refl))

-- ---- an instruction by its opcode

module _ (table : List Task) (stack memory pool ends : List ℕ) (machine : Machine) (left op : ℕ) where
  pub at_end_call : eqb op END_CALL ≡ true → act_turn table stack memory pool ends machine left op ≡ acting (returned machine left) table stack memory pool ends
  unfolding act_turn
  at_end_call is = simp (is)

  pub at_call : eqb op END_CALL ≡ false → eqb op CALL ≡ true → act_turn table stack memory pool ends machine left op ≡ from_entering (call_turn table stack ends machine left) memory pool
  unfolding act_turn
  at_call not is = simp (not, is)

  pub at_other : eqb op END_CALL ≡ false → eqb op CALL ≡ false
      → act_turn table stack memory pool ends machine left op
      ≡ state_turn table memory pool ends machine left op (wanted stack machine op) (stated stack machine op (get_or table (wanted stack machine op) blank))
  unfolding act_turn
  at_other not none = simp (not, none)
