-- The turns of a spot are its steps over all markings.
use Rattle.std.proofs.Common.{◌≡◌, ℕ, Bool, true, false, cond, List, [], ◌∷◌, ◌++◌, length, Option, Some, None, refl, sym, ◌∙◌, not, ◌&&◌}
use Rattle.std.specs.Prelude.{◌==◌, nat_lt, slice_get, unwrap_or, IsSomeAnd}
use Rattle.std.specs.List.{AllByRecursion, list_any, list_any}
use Rattle.std.specs.Option.{option_map_or}
use Rattle.sccp_base.specs.declared.mark.Mark.{Mark}
use Rattle.plan_rules.specs.Rule.{Rule}
use Rattle.plan_rules.specs.declared.target.Target.{Target}
use Rattle.plan_rules.specs.declared.target.Target.TheVariants.{Relay, Final}
use Rattle.plan_model.specs.declared.node.Node.{Node}
use Rattle.plan_model.specs.declared.spot.Spot.{Spot}
use Rattle.plan_model.specs.declared.hop.Step.{Step}
use Rattle.plan_model.specs.declared.hop.Step.TheVariants as steps
use Rattle.plan_model.specs.Network.{Network, node_of}
use Rattle.plan_model.specs.Steps.{led, step, step_by, step_at, row_for, arrived, passed, rewritten}
use Rattle.relay_ways.specs.Conditions.{meets}
use Rattle.relay_ways.specs.Turns.{Turn, taken_turns, closed_row, turns_by, turns_of, without_marks, Makes, HasTarget, HasRow}
use Rattle.relay_ways.proofs.Cover.{one_made}
use Rattle.relay_ways.proofs.TurnLemmas.{Takes, each_takes, Shuts, each_shuts, map_each}

without_marks_choice : (b : Bool) (x y : Step) → without_marks x ≡ x → without_marks y ≡ y → without_marks (cond b x y) ≡ cond b x y
without_marks_choice true x y e f = e
without_marks_choice false x y e f = f

without_marks_arrived : (node : Node) (pc ssn place : ℕ) → without_marks (arrived node pc ssn place) ≡ arrived node pc ssn place
without_marks_arrived node pc ssn place = without_marks_choice (pc == node.pc && not (list_any (λ own. own == ssn) node.subsystems))
    (steps.NoRow 4) (steps.Ended pc ssn place) refl refl

without_marks_passed : (next : Spot) (place : ℕ) → without_marks (passed next place) ≡ passed next place
without_marks_passed next place = without_marks_choice (nat_lt 32 (length next.digits)) steps.Overgrown (steps.Sent next place) refl refl

without_marks_led : (plan : Network) (node : Node) (spot : Spot) (place : ℕ) (t : Target)
    → without_marks (led plan node spot place t) ≡ led plan node spot place t
without_marks_led plan node spot place (Final pc named) = without_marks_arrived node pc (unwrap_or named spot.ssn) place
without_marks_led plan node spot place (Relay pc strip put selector named) =
    without_marks_passed (record {
      node = node_of plan.nodes pc;
      selector = unwrap_or selector spot.selector;
      ssn = unwrap_or named spot.ssn;
      digits = rewritten strip put spot.digits;
    }) place

each_append : {X : Type 0} (P : X → Type 0) (xs ys : List X) → AllByRecursion P xs → AllByRecursion P ys → AllByRecursion P (xs ++ ys)
each_append P [] ys a b = b
each_append P (x ∷ xs) ys a b = (a.0, each_append P xs ys a.1 b)

taken_makes : (plan : Network) (node : Node) (spot : Spot) (M : List Mark) (r : Rule) (t : Turn) → Takes plan node spot M [] 0 r.targets t
    → Makes (step_by plan node spot M (Some r)) M t
taken_makes plan node spot M r t takes e =
    let q = (takes e).1 in
    rw q.1 (without_marks_led plan node spot q.0.0 q.0.1 ∙ sym q.2)

shut_makes : (plan : Network) (node : Node) (spot : Spot) (M : List Mark) (r : Rule) (t : Turn) → Shuts node spot.ssn M [] 0 r.targets t
    → Makes (step_by plan node spot M (Some r)) M t
shut_makes plan node spot M r t shuts e =
    let q = (shuts e).1 in
    rw (q.0, q.1.1) (sym q.1.2)

pub each_made : (plan : Network) (node : Node) (spot : Spot) (M : List Mark) (o : Option Rule) → slice_get plan.nodes spot.node ≡ Some node
    → row_for node spot ≡ o
    → AllByRecursion (Makes (step_by plan node spot M o) M) (turns_by plan node spot o)
each_made plan node spot M None at row = (λ e. rw (at, row) refl, tt)
each_made plan node spot M (Some r) at row =
    each_append (Makes (step_by plan node spot M (Some r)) M) (taken_turns plan node spot [] 0 r.targets)
    (closed_row node spot.ssn [] r.targets)
    (map_each (Takes plan node spot M [] 0 r.targets) (Makes (step_by plan node spot M (Some r)) M) (taken_makes plan node spot M r)
    (taken_turns plan node spot [] 0 r.targets)
    (each_takes plan node spot M [] 0 r.targets))
    (map_each (Shuts node spot.ssn M [] 0 r.targets) (Makes (step_by plan node spot M (Some r)) M) (shut_makes plan node spot M r)
    (closed_row node spot.ssn [] r.targets)
    (each_shuts node spot.ssn M [] 0 r.targets))

-- a spot of no node has no turn
pub each_of : (plan : Network) (spot : Spot) (M : List Mark) → AllByRecursion (Makes (step plan spot M) M) (turns_of plan spot)
each_of plan spot M = by (slice_get plan.nodes spot.node) refl where
  by : (o : Option Node) → slice_get plan.nodes spot.node ≡ o
      → AllByRecursion (Makes (step_at plan spot M o) M) (option_map_or (λ node. turns_by plan node spot (row_for node spot)) o [])
  by None at = tt
  by (Some node) at = each_made plan node spot M (row_for node spot) at refl

pub one_of : (plan : Network) (spot : Spot) (M : List Mark) → HasRow plan spot
    → list_any (λ t. meets M t.condition) (turns_of plan spot) ≡ true
one_of plan spot M has = by (slice_get plan.nodes spot.node) has where
  by : (o : Option Node) → IsSomeAnd o (λ node. HasTarget (row_for node spot))
      → list_any (λ t. meets M t.condition) (option_map_or (λ node. turns_by plan node spot (row_for node spot)) o []) ≡ true
  by None h = absurd h
  by (Some node) h = one_made plan node spot M (row_for node spot) h
