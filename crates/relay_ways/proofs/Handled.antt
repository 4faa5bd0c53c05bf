-- The target that a node takes; without a row that counts, none.
use Rattle.std.proofs.Common.{◌≡◌, ℕ, List, Option, Some, None, refl, sym}
use Rattle.std.specs.Prelude.{slice_get, option_map}
use Rattle.std.specs.Option.{option_and_then}
use Rattle.sccp_base.specs.declared.mark.Mark.{Mark}
use Rattle.plan_rules.specs.Rule.{Rule}
use Rattle.plan_model.specs.declared.node.Node.{Node}
use Rattle.plan_model.specs.declared.spot.Spot.{Spot}
use Rattle.plan_model.specs.Network.{Network}
use Rattle.plan_model.specs.RowFor.{row_for, row_of}
use Rattle.plan_model.specs.Steps.{step, step_at, step_by}
use Rattle.relay_ways.specs.Handling.{at_target, target_of, row_at, IsTakenAt}

by_row : (plan : Network) (node : Node) (spot : Spot) (M : List Mark) (r : Option Rule) → r ≡ None
    → target_of (step_by plan node spot M r) ≡ None
by_row plan node spot M None e = refl
by_row plan node spot M (Some r) e = absurd cc

by_node : (plan : Network) (spot : Spot) (M : List Mark) (o : Option Node) → option_and_then (λ n. row_for n spot) o ≡ None
    → target_of (step_at plan spot M o) ≡ None
by_node plan spot M None e = refl
by_node plan spot M (Some node) e = by_row plan node spot M (row_for node spot) e

pub no_target : (plan : Network) (spot : Spot) (M : List Mark) → row_of plan spot ≡ None → target_of (step plan spot M) ≡ None
no_target plan spot M e = by_node plan spot M (slice_get plan.nodes spot.node) e

pub taken_none : (plan : Network) (spot : Spot) (M : List Mark) → row_of plan spot ≡ None → IsTakenAt plan spot M None
taken_none plan spot M e = record { target_is = sym (no_target plan spot M e); row_is = tt }

pub taken_some : (plan : Network) (spot : Spot) (M : List Mark) (row : ℕ) (target : Option ℕ) → row_at plan spot.node row ≡ row_of plan spot
    → target ≡ target_of (step plan spot M) → IsTakenAt plan spot M (option_map (at_target row) target)
taken_some plan spot M row None placed is = record { target_is = is; row_is = tt }
taken_some plan spot M row (Some t) placed is = record { target_is = is; row_is = placed }
