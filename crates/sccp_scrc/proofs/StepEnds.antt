-- how a step ends
use Rattle.std.specs.Prelude.{ℕ, ◌≡◌, ◌==◌, ◌&&◌, not, Bool, true, false, nat_lt, if◌then◌else◌, List, [], ◌∷◌, length, Option, Some, None}
use Rattle.std.specs.Prelude.{slice_get, refl}
use Rattle.std.specs.List.{list_any}
use Rattle.std.specs.Option.{unwrap_or, option_map_or}
use Rattle.std.proofs.Common.{ap}
use Rattle.sccp_base.specs.declared.mark.Mark.{Mark}
use Rattle.plan_rules.specs.declared.target.Target.{Target}
use Rattle.plan_rules.specs.declared.target.Target.TheVariants.{Relay, Final}
use Rattle.plan_rules.specs.Rule.{Rule}
use Rattle.plan_rules.specs.Rows.{has_selector}
use Rattle.plan_model.specs.declared.node.Node.{Node}
use Rattle.plan_model.specs.declared.spot.Spot.{Spot}
use Rattle.plan_model.specs.declared.hop.Step.{Step}
use Rattle.plan_model.specs.declared.hop.Step.TheVariants.{Sent, Ended, Blocked, NoRow, Overgrown}
use Rattle.plan_model.specs.Network.{Network, node_of}
use Rattle.plan_model.specs.Steps.{row_for, rewritten, led, taken, first_open, step_by, step_at, step}
use Rattle.sccp_scrc.specs.Arriving.{point_of, subsystems_of}

-- a destination at the node itself is one of its subsystems; without a way on the cause is one of a return without marks
abbrev pub EndsRightly : Network → ℕ → Step → Type 0
EndsRightly plan node (Ended pc ssn place) = (pc == point_of plan node) ≡ true
    → list_any (λ own. own == ssn) (subsystems_of plan node) ≡ true
EndsRightly plan node (NoRow cause) = list_any (λ n. n == cause) (0 ∷ 1 ∷ 4 ∷ 9 ∷ 12 ∷ []) ≡ true
EndsRightly plan node (Sent next place) = Unit {0}
EndsRightly plan node (Blocked cause shut) = Unit {0}
EndsRightly plan node Overgrown = Unit {0}

by_tests : (plan : Network) (node pc ssn place : ℕ) (here equipped : Bool) → (pc == point_of plan node) ≡ here
    → list_any (λ own. own == ssn) (subsystems_of plan node) ≡ equipped
    → EndsRightly plan node (if here && not equipped then NoRow 4 else Ended pc ssn place)
by_tests plan node pc ssn place true true a b = λ e. b
by_tests plan node pc ssn place true false a b = refl
by_tests plan node pc ssn place false equipped a b = λ e. absurd (never (pc == point_of plan node) a e)
  where
    never : (b : Bool) → b ≡ false → b ≡ true → ⊥
    never true e f = cc
    never false e f = cc

by_size : (plan : Network) (node place : ℕ) (next : Spot) (b : Bool) → EndsRightly plan node (if b then Overgrown else Sent next place)
by_size plan node place next true = tt
by_size plan node place next false = tt

by_target : (plan : Network) (s : Spot) (node : Node) (place : ℕ) (t : Target) → slice_get plan.nodes s.node ≡ Some node
    → EndsRightly plan s.node (led plan node s place t)
by_target plan s node place (Final pc named) at =
    let ssn : ℕ = unwrap_or named s.ssn in
    by_tests plan s.node pc ssn place (pc == node.pc) (list_any (λ own. own == ssn) node.subsystems)
    (ap (λ o. pc == option_map_or (λ (n : Node). n.pc) o 0) at)
    (ap (λ o. list_any (λ own. own == ssn) (option_map_or (λ (n : Node). n.subsystems) o [])) at)
by_target plan s node place (Relay pc strip put selector named) at =
    let next : Spot = record {
      node = node_of plan.nodes pc;
      selector = unwrap_or selector s.selector;
      ssn = unwrap_or named s.ssn;
      digits = rewritten strip put s.digits;
    } in
    by_size plan s.node place next (nat_lt 32 (length next.digits))

by_first : (plan : Network) (s : Spot) (marking : List Mark) (node : Node) (r : Rule) (o : Option (ℕ × Target))
    → slice_get plan.nodes s.node ≡ Some node → EndsRightly plan s.node (taken plan node s marking r o)
by_first plan s marking node r (Some q) at = by_target plan s node q.0 q.1 at
by_first plan s marking node r None at = tt

by_row : (plan : Network) (s : Spot) (marking : List Mark) (node : Node) (o : Option Rule) → slice_get plan.nodes s.node ≡ Some node
    → EndsRightly plan s.node (step_by plan node s marking o)
by_row plan s marking node None at = either (list_any (has_selector s.selector) node.table)
  where
    either : (b : Bool) → list_any (λ n. n == (if b then 1 else 0)) (0 ∷ 1 ∷ 4 ∷ 9 ∷ 12 ∷ []) ≡ true
    either true = refl
    either false = refl
by_row plan s marking node (Some r) at = by_first plan s marking node r (first_open node s.ssn marking 0 r.targets) at

by_node : (plan : Network) (s : Spot) (marking : List Mark) (o : Option Node) → slice_get plan.nodes s.node ≡ o
    → EndsRightly plan s.node (step_at plan s marking o)
by_node plan s marking None at = refl
by_node plan s marking (Some node) at = by_row plan s marking node (row_for node s) at

pub ends_rightly : (plan : Network) (s : Spot) (marking : List Mark) → EndsRightly plan s.node (step plan s marking)
ends_rightly plan s marking = by_node plan s marking (slice_get plan.nodes s.node) refl
