-- The printed text of an order of the steps of a changeover between two plans of the same nodes.
use Rattle.std.specs.Prelude.{ℕ, ◌+◌, ◌≤◌, List, [], ◌∷◌, ◌++◌, length, codes}
use Rattle.std.specs.List.{flat_map}
use Rattle.plan_model.specs.Network.{Network}
use Rattle.plan_change.specs.declared.answer.Change.{Change}
use Rattle.plan_change.specs.declared.answer.Change.TheVariants.{Kept, Broken, TooWide}
use Rattle.plan_order.specs.declared.answer.Order.{Order}
use Rattle.plan_order.specs.declared.answer.Order.TheVariants.{Steps, NoOrder, Undecided}
use Rattle.plan_order.specs.declared.safe_step.SafeStep.{SafeStep}
use Rattle.plan_order.specs.declared.stuck.Stuck.{Stuck}
use Rattle.sccp_report.specs.Changes.{covers_words, mixed_hops_text}
use Rattle.sccp_report.specs.Hops.{node_text}
use Rattle.sccp_report.specs.Served.{path_text}
use Rattle.sccp_report.specs.Values.{numbered}
use Rattle.sccp_report.specs.Verdicts.{kind_words}

-- an order of this number of steps follows
unfoldable pub order_line : ℕ → List ℕ
order_line count = numbered (codes "order ") count ++ codes "\n"

-- the step of this number: the names of its relays, with commas between them, and its bound in hops
unfoldable pub step_line : Network → ℕ → SafeStep → List ℕ
step_line plan number step =
    numbered (codes "step ") number ++ codes " " ++ path_text plan step.nodes ++ numbered (codes " bound ") step.bound ++ codes "\n"

-- a line for each step, the first of which has this number
abbrev pub steps_text : Network → ℕ → List SafeStep → List ℕ
steps_text plan number [] = []
steps_text plan number (step ∷ steps) = step_line plan number step ++ steps_text plan (number + 1) steps

unfoldable pub no_order_line : List ℕ
no_order_line = codes "no order\n"

unfoldable pub undecided_line : List ℕ
undecided_line = codes "undecided\n"

-- the relay at this place cannot be next
unfoldable pub stuck_words : Network → ℕ → List ℕ
stuck_words plan node = codes "stuck " ++ node_text plan node ++ codes " "

-- what goes wrong: the kind of a bad mixed route, the covers that have its title, and a line for each hop
abbrev pub broken_text : Network → Change → List ℕ
broken_text plan (Broken old_cover new_cover spot turns hops kind) =
    (kind_words kind ++ covers_words old_cover new_cover) ++ mixed_hops_text plan hops turns
broken_text plan (Kept bound spot turns) = []
broken_text plan TooWide = []

-- the answer shows a bad mixed route, with a turn for each hop
abbrev pub HasTurns : Change → Type 0
HasTurns (Broken old_cover new_cover spot turns hops kind) = length hops ≤ length turns
HasTurns (Kept bound spot turns) = ⊥
HasTurns TooWide = ⊥

abbrev pub stuck_text : Network → Stuck → List ℕ
stuck_text plan stuck = stuck_words plan stuck.node ++ broken_text plan stuck.why

-- The order; or the safe steps that lead to a point from which no relay can be next, and what goes wrong with each that is left; or
-- that the search was given up. The names of the relays are the same in both plans.
abbrev pub order_text : Network → Order → List ℕ
order_text plan (Steps steps) = order_line (length steps) ++ steps_text plan 1 steps
order_text plan (NoOrder steps stuck) = (no_order_line ++ steps_text plan 1 steps) ++ flat_map (stuck_text plan) stuck
order_text plan Undecided = undecided_line
