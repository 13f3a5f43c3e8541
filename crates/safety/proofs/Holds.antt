-- What holds of a machine on its way through an admitted program: its values and loops are those of the label where it stands.
use Prim.Native.Nat.{ℕ, suc, ◌+◌, ◌≤◌, ◌<◌}
use mathlib.Core.Path.{◌≡◌, ◌∙◌}
use mathlib.Core.Bool.{true}
use mathlib.Core.List.{List, [], ◌∷◌}
use native.Mathlib.Omega.{arith}
use lib.ListN.{length, get_or, length-set}
use borrow.Author.Tests.{lt-ltb}
use Rattle.errors.specs.declared.Refusal.{Refusal}
use Rattle.errors.specs.Refusals.{number_of}
use Rattle.bytecode.specs.Opcodes.{T_GET_FIELD, T_SET_FIELD}
use Rattle.values.specs.Values.{to_u32_val}
use Rattle.inlinevec.specs.Stacks.{if_room, push}
use Rattle.inlinevec.specs.declared.Loop.{Loop}
use Rattle.mechanism.specs.Registers.{OnStack, OnMemory}
use Rattle.mechanism.specs.Stack.{pushed_to, push_value, finish}
use Rattle.mechanism.specs.declared.Registers.{Registers}
use Rattle.labels.specs.declared.Kind.{Kind}
use Rattle.labels.specs.declared.Kind.TheVariants.{Number, Calldata, Text}
use Rattle.labels.specs.Labels.{Open, opened, Label, label, Start}
use Rattle.safety.specs.Kinds.{HasKind}
use Rattle.safety.specs.Safe.{may_come}
use Rattle.safety.proofs.Kinded.{Kinded, lengths, pushed}
use Rattle.std.specs.Prelude.{Ok, Err, Result}
use Rattle.inlinevec.specs.declared.Two.{Two}

-- a refusal that may still come at run
abbrev pub May : Refusal → Type 0
May refusal = may_come (number_of refusal) ≡ true

-- a calculation gives a value of a kind, or such a refusal
pub data Gives (kind : Kind) : Result ℕ Refusal → Type 0 where
  is_value : {value : ℕ} → HasKind kind value → Gives kind (Ok value)
  is_refused : {refusal : Refusal} → May refusal → Gives kind (Err refusal)

-- a field's number and its kind
pub data FieldKind : ℕ → Kind → Type 0 where
  is_title : FieldKind 0 Text
  is_state : FieldKind 1 Number
  is_instructions : FieldKind 2 Calldata

-- the second instruction of a joined element: the kinds below the field before it, and those after it
pub data Second : ℕ → Kind → List Kind → List Kind → Type 0 where
  is_get : {kind : Kind} {kinds : List Kind} → Second T_GET_FIELD kind (Number ∷ kinds) (kind ∷ kinds)
  is_set : {kind : Kind} {kinds : List Kind} → Second T_SET_FIELD kind (Number ∷ kind ∷ kinds) kinds

-- the registers of a machine
abbrev pub registers_at : ℕ → ℕ → Two Loop → ℕ → Registers
registers_at place height loops used = record { place = place; height = height; loops = loops; memory = used }

module _ (code : List ℕ) (labels : ℕ → Label) where
  -- an element starts at a place, or the code ends there, and it has this label
  pub record At (place : ℕ) (kinds : List Kind) (opens : List Open) : Type 0 where
    pub start : Start code place
    pub label_is : labels place ≡ label kinds opens
    pub few_kinds : length kinds ≤ 1000
    pub few_loops : length opens ≤ 2

  -- a loop of the machine is an open loop of a label: behind its DO stands the label with the kinds that the DO left and this loop innermost
  pub data Opened (loop : Loop) : Open → List Open → Type 0 where
    goes_back : {left : List Kind} {outer : List Open} → At loop.place left (opened loop.place left ∷ outer) → Opened loop (opened loop.place left) outer

  -- the machine's loops are a label's open loops
  pub data Looping : Two Loop → List Open → Type 0 where
    none_open : {outer inner : Loop} → Looping (record { count = 0; first = outer; second = inner }) []
    one_open : {outer inner : Loop} {first : Open} → Opened outer first [] → Looping (record { count = 1; first = outer; second = inner }) (first ∷ [])
    two_open : {outer inner : Loop} {first second : Open} → Opened outer first [] → Opened inner second (first ∷ []) → Looping (record { count = 2; first = outer; second = inner }) (second ∷ first ∷ [])

  -- at an element's start, or between the two instructions of a joined element with the field's number on top
  pub data Holds (place height : ℕ) (loops : Two Loop) (stack : List ℕ) : Type 0 where
    starts : {kinds : List Kind} {opens : List Open} → At place kinds opens → Kinded stack height kinds → Looping loops opens → Holds place height loops stack
    middle : {op h field : ℕ} {kind : Kind} {before kinds : List Kind} {opens : List Open} → place < length code → get_or code place 0 ≡ op → Second op kind before kinds
        → height ≡ suc h → h < 1000 → get_or stack h 0 ≡ to_u32_val field → FieldKind field kind → Kinded stack h before → At (place + 1) kinds opens → Looping loops opens
        → Holds place height loops stack

  -- an instruction goes on to where this holds again, or is refused with what admission leaves possible
  pub data Good : Result Registers Refusal → List ℕ → Type 0 where
    goes_on : {registers : Registers} {stack : List ℕ} → length stack ≡ 1000 → Holds registers.place registers.height registers.loops stack → Good (Ok registers) stack
    may_end : {refusal : Refusal} {stack : List ℕ} → May refusal → Good (Err refusal) stack

  abbrev pub GoodOn : OnStack → Type 0
  GoodOn a = Good a.result a.stack

  abbrev pub GoodIn : OnMemory → Type 0
  GoodIn a = Good a.result a.stack

  -- a value pushed
  pub push_good : {kind : Kind} {kinds : List Kind} {opens : List Open} (registers : Registers) (next height value : ℕ) (stack : List ℕ) → length stack ≡ 1000 → At next (kind ∷ kinds) opens
      → HasKind kind value → Kinded stack height kinds → Looping registers.loops opens → GoodOn (push_value stack registers next height value)
  unfolding push_value push if_room pushed_to
  push_good registers next height value stack lent at has kinded looping =
      let few : height < 1000 = omega (arith, lengths kinded, at.few_kinds) in
      simp (lt-ltb height 1000 few) (goes_on (length-set stack height value ∙ lent) (starts at (pushed value (omega arith) has kinded) looping))

  -- a calculation's value pushed
  pub finish_good : {kind : Kind} {kinds : List Kind} {opens : List Open} {result : Result ℕ Refusal} (registers : Registers) (next height : ℕ) (stack : List ℕ) → length stack ≡ 1000 → At next (kind ∷ kinds) opens
      → Gives kind result → Kinded stack height kinds → Looping registers.loops opens → GoodOn (finish stack registers next height result)
  unfolding finish
  finish_good registers next height stack lent at (is_value {value = value} has) kinded looping = push_good registers next height value stack lent at has kinded looping
  finish_good registers next height stack lent at (is_refused may) kinded looping = may_end may
