-- The bounded stacks of inlinevec.rs: 1,000 values in a lent array with a height, and the stacks of at most two, of loops and of frames.
use Rattle.std.specs.Prelude.{ℕ, zero, suc, ◌+◌, ◌-◌, cond, List, [], ◌∷◌, get_or, set, eqb, ltb, leb, Ok, Err, Result}
use Rattle.errors.specs.declared.Refusal.{Refusal}
use Rattle.errors.specs.declared.Refusal.TheVariants.{StackUnderflow, StackOverflow, WrongPhaseOrUnsound}
use Rattle.inlinevec.specs.declared.Loop.{Loop}
use Rattle.inlinevec.specs.declared.Frame.{Frame}
use Rattle.inlinevec.specs.declared.Two.{Two}

-- ---- what is refused

-- a push on a full stack, and on one whose height is above its capacity
unfoldable pub if_room : {A : Type 0} → ℕ → ℕ → (Refusal → A) → A → A
if_room capacity height refuse answer = cond (ltb height capacity) answer (refuse StackOverflow)

-- a pop or a look at an empty stack; a height above the capacity is unsound
unfoldable pub if_some : {A : Type 0} → ℕ → ℕ → (Refusal → A) → A → A
if_some capacity height refuse answer =
    cond (eqb height 0) (refuse StackUnderflow) (cond (leb height capacity) answer (refuse WrongPhaseOrUnsound))

-- ---- the values

-- an answer, and the lent array after it
pub record Stacked : Type 0 where
  pub answer : Result ℕ Refusal
  pub stack : List ℕ

-- these two together
abbrev pub stacked : Result ℕ Refusal → List ℕ → Stacked
stacked answer stack = record { answer = answer; stack = stack }

-- one value more, at the height
unfoldable pub push : List ℕ → ℕ → ℕ → Stacked
push stack height value =
    if_room 1000 height (λ refusal. stacked (Err refusal) stack)
    (stacked (Ok (height + 1)) (set stack height value))

-- the value below the height, and the height without it
unfoldable pub pop : List ℕ → ℕ → Result (ℕ × ℕ) Refusal
pop stack height = if_some 1000 height Err (Ok (get_or stack (height - 1) 0, height - 1))

-- the value below the height
unfoldable pub last : List ℕ → ℕ → Result ℕ Refusal
last stack height = if_some 1000 height Err (Ok (get_or stack (height - 1) 0))

-- what is on the stack, top first
unfoldable pub values_of : ℕ → List ℕ → List ℕ
values_of zero stack = []
values_of (suc height) stack = get_or stack height 0 ∷ values_of height stack

-- ---- stacks of at most two

-- one more
unfoldable pub push_two : {A : Type 0} → Two A → A → Two A
push_two two a =
    cond (eqb two.count 0) (record { count = two.count + 1; first = a; second = two.second })
    (record { count = two.count + 1; first = two.first; second = a })

-- the last one
unfoldable pub last_two : {A : Type 0} → Two A → A
last_two two = cond (eqb two.count 1) two.first two.second

-- one less, which stays at its place
unfoldable pub pop_two : {A : Type 0} → Two A → Two A
pop_two two = record { count = two.count - 1; first = two.first; second = two.second }

-- another last one
unfoldable pub change_two : {A : Type 0} → Two A → A → Two A
change_two two a =
    cond (eqb two.count 1) (record { count = two.count; first = a; second = two.second })
    (record { count = two.count; first = two.first; second = a })

-- what is on the stack, top first
unfoldable pub two_of : {A : Type 0} → Two A → List A
two_of two = cond (eqb two.count 0) [] (cond (eqb two.count 1) (two.first ∷ []) (two.second ∷ two.first ∷ []))

-- one more, where there is room
unfoldable pub push_onto : {A : Type 0} → Two A → A → Result (Two A) Refusal
push_onto two a = if_room 2 two.count Err (Ok (push_two two a))

-- the last one, and the stack without it
unfoldable pub pop_off : {A : Type 0} → Two A → Result (A × Two A) Refusal
pop_off two = if_some 2 two.count Err (Ok (last_two two, pop_two two))

-- the last one
unfoldable pub last_on : {A : Type 0} → Two A → Result A Refusal
last_on two = if_some 2 two.count Err (Ok (last_two two))

-- the open loops that are on the stack, top first
abbrev pub loops_of : Two Loop → List Loop
loops_of loops = two_of loops

-- the frames, top first
abbrev pub frames_of : Two Frame → List Frame
frames_of frames = two_of frames
