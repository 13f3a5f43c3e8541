-- How the arrays hold the labels of a program.
use Rattle.std.specs.Prelude.{ℕ, ◌+◌, ◌*◌, ◌-◌, ◌≤◌, ◌<◌, ◌≡◌, List, [], ◌∷◌, length, get_or, Ok, Err, Result, ⊤}
use Rattle.labels.specs.declared.Kind.{Kind}
use Rattle.labels.specs.Labels.{letters, Open, opened, Label, kinds_of, open_loops}
use Rattle.labels.specs.Faults.{Reached, WithoutRule, WrongJump, Ended}
use Rattle.admission.specs.Nodes.{stacked}

-- a loop that is open at `at`, by the place behind its DO: the kinds that the DO left are that place's
pub record LoopAt (cells nodes : List ℕ) (at place : ℕ) (left : List Kind) : Type 0 where
  pub some_place : 1 ≤ place
  pub near : place ≤ at
  pub small : place < 65536
  pub holds : stacked cells (get_or nodes place 0 - 1) ≡ letters left

-- the open loops as a word
pub data Opens (cells nodes : List ℕ) (at word : ℕ) : List Open → Type 0 where
  no_loop : word ≡ 0 → Opens cells nodes at word []
  one_loop : {inner : ℕ} {left : List Kind} → word ≡ inner → LoopAt cells nodes at inner left → Opens cells nodes at word (opened inner left ∷ [])
  two_loops : {inner outer : ℕ} {left first : List Kind} → word ≡ outer * 65536 + inner → LoopAt cells nodes at inner left → LoopAt cells nodes at outer first
      → Opens cells nodes at word (opened inner left ∷ opened outer first ∷ [])

-- the arrays hold this label at a place
pub record Noted (cells nodes loops : List ℕ) (at : ℕ) (now : Label) : Type 0 where
  pub seen : 1 ≤ get_or nodes at 0
  pub kinds : stacked cells (get_or nodes at 0 - 1) ≡ letters (kinds_of now)
  pub opens : Opens cells nodes at (get_or loops at 0) (open_loops now)

-- they hold the label that the rules lead to at a place, or nothing where no element starts
pub data Tells (code cells nodes loops : List ℕ) (at : ℕ) : Type 0 where
  nothing : get_or nodes at 0 ≡ 0 → ((now : Label) → Reached code at now → ⊥) → Tells code cells nodes loops at
  this : {now : Label} → Reached code at now → Noted cells nodes loops at now → Tells code cells nodes loops at

-- the sweep stands at an element's start, with so many kinds, and the nodes from `free` on are free; the arrays have so many places
pub record Standing (places : ℕ) (code cells nodes loops : List ℕ) (at height free : ℕ) : Type 0 where
  pub now : Label
  pub reached : Reached code at now
  pub noted : Noted cells nodes loops at now
  pub high : height ≡ length (kinds_of now)
  pub most : height ≤ 1000
  pub inside : at ≤ length code
  pub past : (place : ℕ) → place < at → Tells code cells nodes loops place
  pub later : (place : ℕ) → at < place → get_or nodes place 0 ≡ 0
  pub marks : (place : ℕ) → get_or nodes place 0 ≤ free
  pub room : free ≤ 2 * at + 1
  pub enough : length code < places
  pub cells_size : length cells ≡ 2 * places
  pub nodes_size : length nodes ≡ places
  pub loops_size : length loops ≡ places

-- the arrays before the sweep: two cells and a number for each place of the code, its length included
pub record Fresh (places : ℕ) (code cells nodes loops : List ℕ) : Type 0 where
  pub enough : length code < places
  pub cells_size : length cells ≡ 2 * places
  pub nodes_size : length nodes ≡ places
  pub loops_size : length loops ≡ places
  pub no_loops : get_or loops 0 0 ≡ 0
  pub unseen : (place : ℕ) → get_or nodes place 0 ≡ 0

-- what the sweep leaves: the first element without a rule, or the labels of all places, with so many kinds at the end
pub data Swept (code cells nodes loops : List ℕ) : Result ℕ ℕ → Type 0 where
  stuck_at : {at : ℕ} → WithoutRule code at → Swept code cells nodes loops (Err at)
  ended : {height : ℕ} (last : Ended code) → height ≡ length (kinds_of last.last) → height ≤ 1000 → ((place : ℕ) → Tells code cells nodes loops place)
      → Swept code cells nodes loops (Ok height)

-- what the jumps' test finds: no wrong jump, or the first
pub data Jumps (code : List ℕ) : Result ⊤ ℕ → Type 0 where
  all_right : ((at : ℕ) → WrongJump code at → ⊥) → Jumps code (Ok tt)
  first_wrong : {at : ℕ} → WrongJump code at → ((earlier : ℕ) → earlier < at → WrongJump code earlier → ⊥) → Jumps code (Err at)
