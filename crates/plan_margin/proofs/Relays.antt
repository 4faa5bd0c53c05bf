-- the relays at which a title is while points are lost
use Rattle.std.specs.Prelude.{ℕ, ◌≡◌, ◌<◌, ◌≤◌, ◌==◌, ◌&&◌, not, Bool, true, false, nat_lt, if◌then◌else◌, List, [], ◌∷◌, length}
use Rattle.std.specs.Prelude.{replicate, Option, Some, None, IsSomeAnd, slice_get, get_or, refl}
use Rattle.std.specs.List.{All, list_any}
use Rattle.std.specs.Option.{unwrap_or}
use Rattle.std.proofs.Common.{zero, suc, sym, ◌∙◌, ap, subst, inl, ⊎_elim, arith}
use Rattle.std.proofs.lemmas.Bool.{eqb-true}
use Rattle.std.proofs.lemmas.List.Elements.{All-nil, All-cons}
use Rattle.std.proofs.lemmas.List.Folds.{find_at}
use Rattle.std.proofs.lemmas.Option.{slice_get_cases}
use Rattle.sccp_base.specs.declared.mark.Mark.{Mark}
use Rattle.sccp_base.specs.declared.mark.Mark.TheVariants.{PointCode, Sccp}
use Rattle.sccp_base.specs.Marks.{holds}
use Rattle.sccp_base.proofs.Among.{Among-slice_get, find-None, find-Some}
use Rattle.plan_rules.specs.declared.target.Target.{Target}
use Rattle.plan_rules.specs.declared.target.Target.TheVariants.{Relay, Final}
use Rattle.plan_rules.specs.Rule.{Rule}
use Rattle.plan_model.specs.declared.node.Node.{Node}
use Rattle.plan_model.specs.declared.spot.Spot.{Spot}
use Rattle.plan_model.specs.declared.hop.Hop.{Hop}
use Rattle.plan_model.specs.declared.hop.Step.{Step}
use Rattle.plan_model.specs.declared.hop.Step.TheVariants.{Sent, Ended, Blocked, NoRow, Overgrown}
use Rattle.plan_model.specs.Network.{Network, IsPlan, LeadsOn, has_point, node_of}
use Rattle.plan_model.specs.Next.{next_of}
use Rattle.plan_model.specs.RowFor.{row_for}
use Rattle.plan_model.specs.Steps.{step, step_at, step_by, taken, led, rewritten, closing, first_open}
use Rattle.plan_model.specs.Routes.{route, onward}
use Rattle.plan_model.proofs.Leading.{counting_row, first_open-Among}
use Rattle.plan_model.proofs.SoundTargets.{sound_target}
use Rattle.plan_model.proofs.Ways.{hop_at}
use Rattle.plan_margin.specs.Outages.{IsUp}

-- a relay of the plan whose point is not held
point_up : (plan : Network) (marks : List Mark) (pc : ℕ) → node_of plan.nodes pc < length plan.nodes → holds marks (PointCode pc) ≡ false
    → IsUp plan marks (node_of plan.nodes pc)
point_up plan marks pc lt free =
    let i : ℕ = node_of plan.nodes pc in
    ⊎_elim
    (λ (at : (c : Node) × (i < length plan.nodes) × (slice_get plan.nodes i ≡ Some c) × (get_or plan.nodes i c ≡ c)).
    let own : at.0.pc ≡ pc = eqb-true at.0.pc pc
    (find-Some (has_point pc) at.0 plan.nodes (find_at (has_point pc) plan.nodes ∙ at.2)).1 in
    subst (λ (o : Option Node). IsSomeAnd o (λ n. holds marks (PointCode n.pc) ≡ false)) (sym at.2)
    (ap (λ (p : ℕ). holds marks (PointCode p)) own ∙ free))
    (λ (past : (length plan.nodes ≤ i) × (slice_get plan.nodes i ≡ None)). let le : length plan.nodes ≤ i = past.0 in
    absurd (omega (arith, le, lt)))
    (slice_get_cases plan.nodes i).1

-- a relay to which the step sends the title is up
abbrev SendsUp : Network → List Mark → Step → Type 0
SendsUp plan marks (Sent next target) = IsUp plan marks next.node
SendsUp plan marks (Ended pc ssn target) = Unit {0}
SendsUp plan marks (Blocked cause shut) = Unit {0}
SendsUp plan marks (NoRow cause) = Unit {0}
SendsUp plan marks Overgrown = Unit {0}

ended_up : (plan : Network) (marks : List Mark) (pc ssn place : ℕ) (b : Bool)
    → SendsUp plan marks (if b then NoRow 4 else Ended pc ssn place)
ended_up plan marks pc ssn place true = tt
ended_up plan marks pc ssn place false = tt

sent_up : (plan : Network) (marks : List Mark) (next : Spot) (place : ℕ) (b : Bool) → IsUp plan marks next.node
    → SendsUp plan marks (if b then Overgrown else Sent next place)
sent_up plan marks next place true up = tt
sent_up plan marks next place false up = up

led_up : (plan : Network) (marks : List Mark) (node : Node) (s : Spot) (place : ℕ) (t : Target) → closing node s.ssn marks t ≡ None
    → LeadsOn plan.nodes node t → SendsUp plan marks (led plan node s place t)
led_up plan marks node s place (Final pc named) clear on =
    ended_up plan marks pc (unwrap_or named s.ssn) place (pc == node.pc
    && not (list_any (λ own. own == unwrap_or named s.ssn) node.subsystems))
led_up plan marks node s place (Relay pc strip put selector named) clear on =
    let next : Spot = record {
      node = node_of plan.nodes pc;
      selector = unwrap_or selector s.selector;
      ssn = unwrap_or named s.ssn;
      digits = rewritten strip put s.digits;
    } in
    sent_up plan marks next place (nat_lt 32 (length next.digits)) (point_up plan marks pc on.0
    (find-None (holds marks) (PointCode pc) (PointCode pc ∷ Sccp pc ∷ []) clear (inl refl)))

taken_up : (plan : Network) → IsPlan plan → (marks : List Mark) (node : Node) (s : Spot) (r : Rule) (o : Option (ℕ × Target))
    → slice_get plan.nodes s.node ≡ Some node → row_for node s ≡ Some r → first_open node s.ssn marks 0 r.targets ≡ o
    → SendsUp plan marks (taken plan node s marks r o)
taken_up plan is marks node s r None at counts first = tt
taken_up plan is marks node s r (Some q) at counts first =
    let f = first_open-Among node s.ssn marks 0 r.targets q first in
    led_up plan marks node s q.0 q.1 f.1
    (sound_target plan node r q.1 is (Among-slice_get plan.nodes s.node node at) (counting_row node s r counts).0 f.0).leads

row_up : (plan : Network) → IsPlan plan → (marks : List Mark) (node : Node) (s : Spot) (o : Option Rule)
    → slice_get plan.nodes s.node ≡ Some node → row_for node s ≡ o → SendsUp plan marks (step_by plan node s marks o)
row_up plan is marks node s None at counts = tt
row_up plan is marks node s (Some r) at counts =
    taken_up plan is marks node s r (first_open node s.ssn marks 0 r.targets) at counts refl

node_up : (plan : Network) → IsPlan plan → (marks : List Mark) (s : Spot) (o : Option Node) → slice_get plan.nodes s.node ≡ o
    → SendsUp plan marks (step_at plan s marks o)
node_up plan is marks s None at = tt
node_up plan is marks s (Some node) at = row_up plan is marks node s (row_for node s) at refl

onward_up : (plan : Network) (marks : List Mark) (x : Step) (follow : Spot → List Hop) → SendsUp plan marks x
    → ((next : Spot) → IsUp plan marks next.node → All (λ hop. IsUp plan marks hop.spot.node) (follow next))
    → All (λ hop. IsUp plan marks hop.spot.node) (onward (next_of x) follow)
onward_up plan marks (Sent next target) follow up rest = rest next up
onward_up plan marks (Ended pc ssn target) follow up rest = All-nil (λ (hop : Hop). IsUp plan marks hop.spot.node)
onward_up plan marks (Blocked cause shut) follow up rest = All-nil (λ (hop : Hop). IsUp plan marks hop.spot.node)
onward_up plan marks (NoRow cause) follow up rest = All-nil (λ (hop : Hop). IsUp plan marks hop.spot.node)
onward_up plan marks Overgrown follow up rest = All-nil (λ (hop : Hop). IsUp plan marks hop.spot.node)

pub hops_are_up : (plan : Network) → IsPlan plan → (marks : List Mark) (n : ℕ) (s : Spot) → IsUp plan marks s.node
    → All (λ hop. IsUp plan marks hop.spot.node) (route plan s (replicate n marks))
hops_are_up plan is marks zero s up = All-nil (λ (hop : Hop). IsUp plan marks hop.spot.node)
hops_are_up plan is marks (suc n) s up =
    All-cons (λ (hop : Hop). IsUp plan marks hop.spot.node) (hop_at plan s marks)
    (onward (next_of (step plan s marks)) (λ next. route plan next (replicate n marks))) up
    (onward_up plan marks (step plan s marks) (λ next. route plan next (replicate n marks))
    (node_up plan is marks s (slice_get plan.nodes s.node) refl) (λ next on. hops_are_up plan is marks n next on))
