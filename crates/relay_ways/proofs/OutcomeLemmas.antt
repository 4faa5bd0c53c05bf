-- The outcomes of octets are what becomes of them over all markings.
use Rattle.std.proofs.Common.{◌≡◌, ℕ, ◌<◌, Bool, true, false, List, [], ◌∷◌, length, map, Option, Some, None, refl, sym, ◌∙◌, ap, subst}
use Rattle.std.proofs.Common.{not, ◌&&◌, ◌||◌, ⊎_elim, arith}
use Rattle.std.specs.Prelude.{◌==◌, ◌≤◌, slice_get, get_or, unwrap_or, if◌then◌else◌, Result, Ok, Err, IsSomeAnd}
use Rattle.std.specs.List.{AllByRecursion, list_any}
use Rattle.std.proofs.lemmas.Option.{slice_get_cases}
use Rattle.sccp_base.specs.Marks.{holds}
use Rattle.sccp_base.specs.declared.mark.Mark.{Mark}
use Rattle.sccp_base.specs.declared.mark.Mark.TheVariants.{Subsystem}
use Rattle.sccp_base.proofs.Among.{All-among, Among-slice_get}
use Rattle.sccp_address.specs.declared.address.Address.{Address}
use Rattle.sccp_address.specs.declared.address.Title.{Title}
use Rattle.sccp_address.specs.declared.address.Title.TheVariants.{Absent, Global, Raw}
use Rattle.sccp_message.specs.declared.message.Message.{Message}
use Rattle.sccp_message.specs.declared.fault.DecodeFault.{DecodeFault}
use Rattle.sccp_message.specs.Reading.{reading}
use Rattle.sccp_message.specs.Unitdata.{called_of, hops_of}
use Rattle.plan_rules.specs.Rule.{Rule}
use Rattle.plan_rules.specs.Tables.{IsRule, IsTable}
use Rattle.plan_model.specs.declared.node.Node.{Node}
use Rattle.plan_model.specs.declared.spot.Spot.{Spot}
use Rattle.plan_model.specs.declared.hop.Step.{Step}
use Rattle.plan_model.specs.Network.{Network, IsPlan}
use Rattle.plan_model.specs.Steps.{row_for, step}
use Rattle.plan_model.proofs.Leading.{counting_row}
use Rattle.sccp_scrc.specs.Arriving.{after_step, at_subsystem, at_title, translated, by_called, of_message, is_last_hop, point_of}
use Rattle.sccp_scrc.specs.Arriving.{subsystems_of}
use Rattle.sccp_scrc.specs.Returning.{returned}
use Rattle.sccp_scrc.specs.Rewriting.{spot_of, title_spot}
use Rattle.sccp_scrc.specs.declared.arrival.Arrival.{Arrival}
use Rattle.sccp_scrc.specs.declared.arrival.Arrival.TheVariants.{Local, Management}
use Rattle.relay_ways.specs.Conditions.{always, meets}
use Rattle.relay_ways.specs.Outcomes.{Outcome, outcome, after_turn, titled, is_user, at_user, on_subsystem, by_address, outcomes_of}
use Rattle.relay_ways.specs.Outcomes.{outcomes, cleared, Becomes}
use Rattle.relay_ways.specs.Turns.{Turn, turns_of, Makes, HasTarget, HasRow}
use Rattle.relay_ways.proofs.Clearing.{cleared_returned, cleared_step}
use Rattle.relay_ways.proofs.Stepping.{each_of, one_of}

-- an outcome is the one under a marking
abbrev Is : Arrival → List Mark → Outcome → Type 0
Is arrived M o = meets M o.condition ≡ true → cleared arrived ≡ o.arrival

each_turned : (plan : Network) (node : ℕ) (M : List Mark) (origin : ℕ) (m : Message) (a : Address) (s : Step) (ts : List Turn)
    → AllByRecursion (Makes s M) ts
    → AllByRecursion (Is (after_step plan node M origin m a s) M) (map (after_turn plan node origin m a) ts)
each_turned plan node M origin m a s [] all = tt
each_turned plan node M origin m a s (t ∷ ts) all = (
  λ e. cleared_step plan node M origin m a s ∙ ap (after_step plan node [] origin m a) (all.0 e),
  each_turned plan node M origin m a s ts all.1,
)

each_titled : (plan : Network) (node : ℕ) (M : List Mark) (origin : ℕ) (m : Message) (a : Address) (o : Option Spot)
    → AllByRecursion (Is (translated plan node M origin m a o) M) (titled plan node origin m a o)
each_titled plan node M origin m a None = (λ e. cleared_returned M origin m 0 [], tt)
each_titled plan node M origin m a (Some spot) =
    each_turned plan node M origin m a (step plan spot M) (turns_of plan spot) (each_of plan spot M)

-- a subsystem of the node, by whether it is prohibited
each_user : (plan : Network) (node : ℕ) (M : List Mark) (origin : ℕ) (m : Message) (ssn : ℕ) (h : Bool)
    → holds M (Subsystem (point_of plan node) ssn) ≡ h
    → AllByRecursion (Is (if h then returned M origin m 3 (Subsystem (point_of plan node) ssn ∷ []) else Local ssn m) M)
    (at_user plan node origin m ssn)
each_user plan node M origin m ssn true e = (
  λ f. absurd (one (holds M (Subsystem (point_of plan node) ssn)) e f),
  (λ f. cleared_returned M origin m 3 (Subsystem (point_of plan node) ssn ∷ []), tt),
) where
  one : (h : Bool) → h ≡ true → (true && not (h || false)) ≡ true → ⊥
  one true e f = absurd cc
  one false e f = absurd cc
each_user plan node M origin m ssn false e = (
  λ f. refl,
  (λ f. absurd (one (holds M (Subsystem (point_of plan node) ssn)) e f), tt),
) where
  one : (h : Bool) → h ≡ false → (((h || false) && true) && not false) ≡ true → ⊥
  one true e f = absurd cc
  one false e f = absurd cc

each_numbered : (plan : Network) (node : ℕ) (M : List Mark) (origin : ℕ) (m : Message) (ssn : ℕ) (managed own : Bool)
    → AllByRecursion (Is (if managed then Management m
    else if not own then returned M origin m 4 []
    else if holds M (Subsystem (point_of plan node) ssn) then returned M origin m 3 (Subsystem (point_of plan node) ssn ∷ [])
    else Local ssn m) M)
    (if not managed && own then at_user plan node origin m ssn
    else outcome always (if managed then Management m else if not own then returned [] origin m 4 [] else Local ssn m) ∷ [])
each_numbered plan node M origin m ssn true own = (λ e. refl, tt)
each_numbered plan node M origin m ssn false false = (λ e. cleared_returned M origin m 4 [], tt)
each_numbered plan node M origin m ssn false true =
    each_user plan node M origin m ssn (holds M (Subsystem (point_of plan node) ssn)) refl

each_subsystem : (plan : Network) (node : ℕ) (M : List Mark) (origin : ℕ) (m : Message) (o : Option ℕ)
    → AllByRecursion (Is (at_subsystem plan node M origin m o) M) (on_subsystem plan node origin m o)
each_subsystem plan node M origin m None = (λ e. cleared_returned M origin m 4 [], tt)
each_subsystem plan node M origin m (Some ssn) =
    each_numbered plan node M origin m ssn (ssn == 1) (list_any (λ own. own == ssn) (subsystems_of plan node))

each_counted : (plan : Network) (node : ℕ) (M : List Mark) (origin : ℕ) (m : Message) (a : Address) (last : Bool)
    → AllByRecursion (Is (if last then returned M origin m 12 [] else translated plan node M origin m a (spot_of node a)) M)
    (if last then outcome always (returned [] origin m 12 []) ∷ [] else titled plan node origin m a (spot_of node a))
each_counted plan node M origin m a true = (λ e. cleared_returned M origin m 12 [], tt)
each_counted plan node M origin m a false = each_titled plan node M origin m a (spot_of node a)

each_routed : (plan : Network) (node : ℕ) (M : List Mark) (origin : ℕ) (m : Message) (a : Address) (by_ssn : Bool)
    → AllByRecursion (Is (if by_ssn then at_subsystem plan node M origin m a.ssn else at_title plan node M origin m a) M)
    (if by_ssn then on_subsystem plan node origin m a.ssn
    else if is_last_hop (hops_of m) then outcome always (returned [] origin m 12 []) ∷ []
    else titled plan node origin m a (spot_of node a))
each_routed plan node M origin m a true = each_subsystem plan node M origin m a.ssn
each_routed plan node M origin m a false = each_counted plan node M origin m a (is_last_hop (hops_of m))

each_addressed : (plan : Network) (node : ℕ) (M : List Mark) (origin : ℕ) (m : Message) (o : Option Address)
    → AllByRecursion (Is (by_called plan node M origin m o) M) (by_address plan node origin m o)
each_addressed plan node M origin m None = (λ e. refl, tt)
each_addressed plan node M origin m (Some a) = each_routed plan node M origin m a a.by_ssn

each_read : (plan : Network) (node : ℕ) (M : List Mark) (origin : ℕ) (r : Result Message DecodeFault)
    → AllByRecursion (Is (of_message plan node M origin r) M) (outcomes_of plan node origin r)
each_read plan node M origin (Err fault) = (λ e. refl, tt)
each_read plan node M origin (Ok m) = each_addressed plan node M origin m (called_of m)

-- under a marking that meets an outcome's condition, it is what becomes of the octets
pub each_outcome : (plan : Network) (node origin : ℕ) (b : List ℕ) (M : List Mark)
    → AllByRecursion (Becomes plan node origin b M) (outcomes plan node origin b)
each_outcome plan node origin b M = each_read plan node M origin (reading b)

-- Each marking meets the condition of one.

abbrev any_outcome : List Mark → List Outcome → Bool
any_outcome M os = list_any (λ o. meets M o.condition) os

row_has : (node : Node) (spot : Spot) (o : Option Rule) → IsTable node.table → row_for node spot ≡ o → HasTarget o
row_has node spot None is e = tt
row_has node spot (Some r) is e = (All-among IsRule r node.table is.rules (counting_row node spot r e).0).short.some

pub has_row : (plan : Network) (spot : Spot) → IsPlan plan → spot.node < length plan.nodes → HasRow plan spot
has_row plan spot is inside =
    ⊎_elim
    (λ (at : (x : Node) × (spot.node < length plan.nodes) × (slice_get plan.nodes spot.node ≡ Some x)
    × (get_or plan.nodes spot.node x ≡ x)).
    let found : slice_get plan.nodes spot.node ≡ Some at.0 = at.2 in
    let table : IsTable at.0.table =
    All-among (λ (n : Node). IsTable n.table) at.0 plan.nodes is.tables (Among-slice_get plan.nodes spot.node at.0 found) in
    subst (λ (o : Option Node). IsSomeAnd o (λ node. HasTarget (row_for node spot))) (sym found)
    (row_has at.0 spot (row_for at.0 spot) table refl))
    (λ (past : (length plan.nodes ≤ spot.node) × (slice_get plan.nodes spot.node ≡ None)). absurd (omega (arith, past.0)))
    (slice_get_cases plan.nodes spot.node).1

any_turned : (plan : Network) (node origin : ℕ) (m : Message) (a : Address) (M : List Mark) (ts : List Turn)
    → any_outcome M (map (after_turn plan node origin m a) ts) ≡ list_any (λ t. meets M t.condition) ts
any_turned plan node origin m a M [] = refl
any_turned plan node origin m a M (t ∷ ts) = ap (λ b. meets M t.condition || b) (any_turned plan node origin m a M ts)

titled_at : (node : ℕ) (ssn : Option ℕ) (t : Title) (spot : Spot) → title_spot node ssn t ≡ Some spot → spot.node ≡ node
titled_at node ssn Absent spot e = absurd cc
titled_at node ssn (Raw kind octets) spot e = absurd cc
titled_at node ssn (Global selector digits) spot e =
    let same : record { node = node; selector = selector; ssn = unwrap_or ssn 0; digits = digits } ≡ spot = cc in
    sym (ap (λ (s : Spot). s.node) same)

one_titled : (plan : Network) (node origin : ℕ) (m : Message) (a : Address) (M : List Mark) (o : Option Spot)
    → IsPlan plan → node < length plan.nodes → spot_of node a ≡ o → any_outcome M (titled plan node origin m a o) ≡ true
one_titled plan node origin m a M None is inside e = refl
one_titled plan node origin m a M (Some spot) is inside e =
    let at : spot.node ≡ node = titled_at node a.ssn a.title spot e in
    any_turned plan node origin m a M (turns_of plan spot)
    ∙ one_of plan spot M (has_row plan spot is (subst (λ n. n < length plan.nodes) (sym at) inside))

one_user : (plan : Network) (node origin : ℕ) (m : Message) (M : List Mark) (ssn : ℕ)
    → any_outcome M (at_user plan node origin m ssn) ≡ true
one_user plan node origin m M ssn = by (holds M (Subsystem (point_of plan node) ssn)) where
  by : (h : Bool) → ((true && not (h || false)) || ((((h || false) && true) && not false) || false)) ≡ true
  by true = refl
  by false = refl

one_subsystem : (plan : Network) (node origin : ℕ) (m : Message) (M : List Mark) (o : Option ℕ)
    → any_outcome M (on_subsystem plan node origin m o) ≡ true
one_subsystem plan node origin m M None = refl
one_subsystem plan node origin m M (Some ssn) = by (is_user plan node ssn) where
  by : (b : Bool) → any_outcome M (if b then at_user plan node origin m ssn
      else outcome always (at_subsystem plan node [] origin m (Some ssn)) ∷ []) ≡ true
  by true = one_user plan node origin m M ssn
  by false = refl

one_routed : (plan : Network) (node origin : ℕ) (m : Message) (M : List Mark) (a : Address) (by_ssn last : Bool)
    → IsPlan plan → node < length plan.nodes
    → any_outcome M (if by_ssn then on_subsystem plan node origin m a.ssn
    else if last then outcome always (returned [] origin m 12 []) ∷ []
    else titled plan node origin m a (spot_of node a)) ≡ true
one_routed plan node origin m M a true last is inside = one_subsystem plan node origin m M a.ssn
one_routed plan node origin m M a false true is inside = refl
one_routed plan node origin m M a false false is inside = one_titled plan node origin m a M (spot_of node a) is inside refl

one_addressed : (plan : Network) (node origin : ℕ) (m : Message) (M : List Mark) (o : Option Address)
    → IsPlan plan → node < length plan.nodes → any_outcome M (by_address plan node origin m o) ≡ true
one_addressed plan node origin m M None is inside = refl
one_addressed plan node origin m M (Some a) is inside = one_routed plan node origin m M a a.by_ssn (is_last_hop (hops_of m)) is inside

one_read : (plan : Network) (node origin : ℕ) (M : List Mark) (r : Result Message DecodeFault)
    → IsPlan plan → node < length plan.nodes → any_outcome M (outcomes_of plan node origin r) ≡ true
one_read plan node origin M (Err fault) is inside = refl
one_read plan node origin M (Ok m) is inside = one_addressed plan node origin m M (called_of m) is inside

pub one_outcome : (plan : Network) (node origin : ℕ) (b : List ℕ) (M : List Mark) → IsPlan plan → node < length plan.nodes
    → list_any (λ o. meets M o.condition) (outcomes plan node origin b) ≡ true
one_outcome plan node origin b M is inside = one_read plan node origin M (reading b) is inside
