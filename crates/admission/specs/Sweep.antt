-- One element of the sweep on the arrays: `nodes` and `loops` hold, for each place, its node and 1 (0: no element starts there) and its open loops.
use Rattle.std.specs.Prelude.{ℕ, ◌+◌, ◌*◌, ◌-◌, ◌/◌, ◌%◌, cond, List, eqb, ltb, get_or, set, Some, None, Option}
use Rattle.slices.specs.Same.{same}
use Rattle.labels.specs.declared.Element.{Element}
use Rattle.labels.specs.declared.Element.TheVariants.{NoRule, Kinds, Do, Loop, LoopIndex, JumpIfFalse}
use Rattle.admission.specs.declared.elements.Change.{Change}
use Rattle.admission.specs.declared.Plan.{Plan}
use Rattle.admission.specs.declared.Step.{Step}
use Rattle.admission.specs.Found.{found}
use Rattle.admission.specs.Changes.{element_change}
use Rattle.admission.specs.Nodes.{top, below, stacked, lowered, given_node, given_cells}

-- the open loops after an element: the outer one's place times 65,536, and the inner one's
unfoldable pub word_after : List ℕ → List ℕ → Element → ℕ → ℕ → ℕ → Option ℕ
word_after cells nodes NoRule next node word = None
word_after cells nodes (Kinds exchange) next node word = Some word
word_after cells nodes Do next node word = cond (ltb word 65536) (Some (word * 65536 + next % 65536)) None
word_after cells nodes Loop next node word =
    cond (eqb (word % 65536) 0) None
    (cond (same (stacked cells node) (stacked cells (get_or nodes (word % 65536) 0 - 1))) (Some (word / 65536)) None)
word_after cells nodes LoopIndex next node word = cond (eqb (word % 65536) 0) None (Some word)
word_after cells nodes (JumpIfFalse target) next node word = Some word

-- how many kinds a letter is
unfoldable pub count : ℕ → ℕ
count letter = cond (eqb letter 0) 0 1

unfoldable pub height_after : ℕ → ℕ → ℕ → ℕ → ℕ
height_after height taken low high = height - taken + count low + count high

-- what a plan says
pub record Outline : Type 0 where
  pub node : ℕ
  pub low : ℕ
  pub top : ℕ
  pub word : ℕ
  pub height : ℕ

abbrev pub outlined : Option Plan → Option Outline
outlined None = None
outlined (Some plan) = Some (record { node = plan.node; low = plan.low; top = plan.top; word = plan.word; height = plan.height })

unfoldable pub plan_loops : ℕ → ℕ → ℕ → ℕ → Option ℕ → Option Outline
plan_loops node low high height None = None
plan_loops node low high height (Some word) = Some (record { node = node; low = low; top = high; word = word; height = height })

unfoldable pub plan_change : List ℕ → List ℕ → ℕ → Element → ℕ → ℕ → ℕ → Option Change → Option Outline
plan_change cells nodes word element next height node None = None
plan_change cells nodes word element next height node (Some change) =
    cond (ltb 1000 (height_after height change.taken change.low change.top)) None
    (plan_loops (lowered change.taken cells node) change.low change.top (height_after height change.taken change.low change.top) (word_after cells nodes element next node word))

-- what is to be noted behind an element
unfoldable pub plan : List ℕ → List ℕ → List ℕ → Element → ℕ → ℕ → ℕ → Option Outline
plan cells nodes loops element at next height =
    plan_change cells nodes (get_or loops at 0) element next height (get_or nodes at 0 - 1)
    (element_change element height (top cells (get_or nodes at 0 - 1)) (top cells (below cells (get_or nodes at 0 - 1)))
    (top cells (below cells (below cells (get_or nodes at 0 - 1)))))

-- the two letters become the nodes from `free` on
unfoldable pub noted_node : ℕ → ℕ → ℕ → ℕ → ℕ
noted_node free node low high = given_node (free + count low) (given_node free node low) high

unfoldable pub noted_cells : List ℕ → ℕ → ℕ → ℕ → ℕ → List ℕ
noted_cells cells free node low high = given_cells (given_cells cells free node low) (free + count low) (given_node free node low) high

unfoldable pub noted_nodes : List ℕ → ℕ → ℕ → ℕ → ℕ → ℕ → List ℕ
noted_nodes nodes free next node low high = set nodes next (noted_node free node low high % 131072 + 1)

-- where the sweep stands, in numbers
pub record Stance : Type 0 where
  pub at : ℕ
  pub height : ℕ
  pub free : ℕ

abbrev pub stance : Option Step → Option Stance
stance None = None
stance (Some here) = Some (record { at = here.at; height = here.height; free = here.free })

-- what the sweep did, and the arrays then
pub record Stepped : Type 0 where
  pub step : Option Stance
  pub cells : List ℕ
  pub nodes : List ℕ
  pub loops : List ℕ

abbrev pub stepped : Option Step → List ℕ → List ℕ → List ℕ → Stepped
stepped step cells nodes loops = record { step = stance step; cells = cells; nodes = nodes; loops = loops }

unfoldable pub step_plan : List ℕ → List ℕ → List ℕ → ℕ → ℕ → Option Outline → Stepped
step_plan cells nodes loops free next None = stepped None cells nodes loops
step_plan cells nodes loops free next (Some plan) =
    record {
      step = Some (record { at = next; height = plan.height; free = free + count plan.low + count plan.top });
      cells = noted_cells cells free plan.node plan.low plan.top;
      nodes = noted_nodes nodes free next plan.node plan.low plan.top;
      loops = set loops next plan.word;
    }

unfoldable pub step_found : List ℕ → List ℕ → List ℕ → ℕ → ℕ → ℕ → Option (Element × ℕ) → Stepped
step_found cells nodes loops at height free None = stepped None cells nodes loops
step_found cells nodes loops at height free (Some (element, next)) = step_plan cells nodes loops free next (plan cells nodes loops element at next height)

-- the element at a place: its label's successor is noted behind it
unfoldable pub step : List ℕ → List ℕ → List ℕ → List ℕ → ℕ → ℕ → ℕ → Stepped
step cells nodes loops code at height free = step_found cells nodes loops at height free (found code at)
