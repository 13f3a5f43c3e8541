-- The bounded stacks, empty, full and between, computed from `inlinevec`.
use Prim.Native.Nat.{ℕ}
use mathlib.Core.List.{[], ◌∷◌}
use mathlib.Core.Path.{◌≡◌, refl}
use Rattle.errors.specs.declared.Refusal.TheVariants.{StackOverflow, StackUnderflow}
use Rattle.inlinevec.specs.Stacks.{push, pop, last, push_onto, pop_off, last_on, if_room, if_some, push_two, last_two, pop_two}
use Rattle.inlinevec.specs.declared.Frame.{Frame}
use Rattle.inlinevec.specs.declared.Loop.{Loop}
use Rattle.std.specs.Prelude.{Ok, Err}
use Rattle.inlinevec.specs.declared.Two.{Two}

-- loops at places 1 and 2, and as many open as is said
abbrev loop : ℕ → Loop
loop place = record { place = place; index = 0; limit = 9 }

abbrev opened : ℕ → Two Loop
opened count = record { count = count; first = loop 1; second = loop 2 }

-- frames at places 1 and 2 of entry 0
abbrev frame : ℕ → Frame
frame place = record { entry = record { 0 = 0 }; place = place }

abbrev called : ℕ → Two Frame
called count = record { count = count; first = frame 1; second = frame 2 }

abbrev with_task : ℕ → Two Frame
with_task place = record { count = 2; first = frame 1; second = frame place }

abbrev with_inner : ℕ → Two Loop
with_inner place = record { count = 2; first = loop 1; second = loop place }

-- the examples
pub record Examples : Type 0 where
  pub pushed : (push (7 ∷ 8 ∷ 9 ∷ []) 1 5).stack ≡ 7 ∷ 5 ∷ 9 ∷ []
  -- full is 4
  pub full : (push [] 1000 5).answer ≡ Err StackOverflow
  pub popped : pop (7 ∷ 8 ∷ 9 ∷ []) 2 ≡ Ok (8, 1)
  -- empty is 3
  pub empty : pop (7 ∷ []) 0 ≡ Err StackUnderflow
  pub top : last (7 ∷ 8 ∷ 9 ∷ []) 2 ≡ Ok 8
  pub no_top : last (7 ∷ []) 0 ≡ Err StackUnderflow
  -- a second loop stands behind the first, and there is no third
  pub second_loop : push_onto (opened 1) (loop 3) ≡ Ok (with_inner 3)
  pub third_loop : push_onto (opened 2) (loop 3) ≡ Err StackOverflow
  -- the inner loop is closed first
  pub closed_loop : pop_off (opened 2) ≡ Ok (loop 2, opened 1)
  pub innermost : last_on (opened 2) ≡ Ok (loop 2)
  pub one_top : last_two (opened 1) ≡ loop 1
  pub two_top : last_two (opened 2) ≡ loop 2
  pub no_loop : last_on (opened 0) ≡ Err StackUnderflow
  -- a second frame, and no third
  pub second_frame : push_onto (called 1) (frame 3) ≡ Ok (with_task 3)
  pub third_frame : push_onto (called 2) (frame 3) ≡ Err StackOverflow
  -- the task's frame goes before main's
  pub left_frame : pop_off (called 2) ≡ Ok (frame 2, called 1)
  pub no_frame : pop_off (called 0) ≡ Err StackUnderflow

pub examples : Examples
unfolding if_room if_some push pop last push_two last_two pop_two push_onto pop_off last_on
examples = record {
  pushed = refl;
  full = refl;
  popped = refl;
  empty = refl;
  top = refl;
  no_top = refl;
  second_loop = refl;
  third_loop = refl;
  closed_loop = refl;
  innermost = refl;
  one_top = refl;
  two_top = refl;
  no_loop = refl;
  second_frame = refl;
  third_frame = refl;
  left_frame = refl;
  no_frame = refl;
}
