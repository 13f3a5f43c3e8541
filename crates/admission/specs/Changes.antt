-- What an element makes of the kinds, from the letters of the three topmost (0: there is none).
use Rattle.std.specs.Prelude.{ℕ, cond, eqb, ltb, Option, Some, None}
use Rattle.labels.specs.Labels.{letter}
use Rattle.labels.specs.declared.Exchange.{Exchange}
use Rattle.labels.specs.declared.Exchange.TheVariants.{Unchanged, Adds, Takes, Turns, Joins, Creates, Gets, Sets, Dup, Swap, Drop, Compares, Changes}
use Rattle.labels.specs.declared.Element.{Element}
use Rattle.labels.specs.declared.Element.TheVariants.{NoRule, Kinds, Do, Loop, LoopIndex, JumpIfFalse}
use Rattle.admission.specs.declared.elements.Change.{Change}

-- a change that takes so many kinds and gives these letters
abbrev pub taking : ℕ → ℕ → ℕ → Option Change
taking taken low top = Some (record { taken = taken; low = low; top = top })

-- one kind is taken, and one given (0: none)
unfoldable pub take_one : ℕ → ℕ → ℕ → Option Change
take_one wanted first given = cond (eqb wanted first) (taking 1 given 0) None

-- N is taken and another kind below it, and one given (0: none)
unfoldable pub take_two : ℕ → ℕ → ℕ → ℕ → Option Change
take_two wanted first second given = cond (eqb first 78) (cond (eqb wanted second) (taking 2 given 0) None) None

-- T_CREATE
unfoldable pub create : ℕ → ℕ → ℕ → Option Change
create first second third =
    cond (eqb first 67) (cond (eqb second 78) (cond (eqb third 83) (taking 3 0 0) None) None) None

-- EQ and NEQ
unfoldable pub compare : ℕ → ℕ → Option Change
compare first second =
    cond (eqb second 0) None (cond (eqb first second) (taking 2 66 0) None)

-- M_MUTA
unfoldable pub change_vector : ℕ → ℕ → ℕ → Option Change
change_vector first second third =
    cond (eqb third 83) (take_two 78 first second 0) (cond (eqb third 86) (take_two 78 first second 0) None)

-- so many are taken and two given, if there is this one
unfoldable pub move_kinds : ℕ → ℕ → ℕ → ℕ → Option Change
move_kinds needed taken low top = cond (eqb needed 0) None (taking taken low top)

unfoldable pub exchange_change : Exchange → ℕ → ℕ → ℕ → ℕ → Option Change
exchange_change Unchanged height first second third = taking 0 0 0
exchange_change (Adds kind) height first second third = taking 0 (letter kind) 0
exchange_change (Takes kind) height first second third = take_one (letter kind) first 0
exchange_change (Turns kind other) height first second third = take_one (letter kind) first (letter other)
exchange_change (Joins kind) height first second third = take_two 78 first second (letter kind)
exchange_change Creates height first second third = create first second third
exchange_change (Gets kind) height first second third = cond (ltb height 1000) (take_one 78 first (letter kind)) None
exchange_change (Sets kind) height first second third = cond (ltb height 1000) (take_two (letter kind) first second 0) None
exchange_change Dup height first second third = move_kinds first 0 first 0
exchange_change Swap height first second third = move_kinds second 2 first second
exchange_change Drop height first second third = move_kinds first 1 0 0
exchange_change Compares height first second third = compare first second
exchange_change Changes height first second third = change_vector first second third

unfoldable pub element_change : Element → ℕ → ℕ → ℕ → ℕ → Option Change
element_change NoRule height first second third = None
element_change (Kinds exchange) height first second third = exchange_change exchange height first second third
element_change Do height first second third = take_two 78 first second 0
element_change Loop height first second third = taking 0 0 0
element_change LoopIndex height first second third = taking 0 78 0
element_change (JumpIfFalse target) height first second third = take_one 66 first 0
