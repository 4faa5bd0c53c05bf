-- a plan is as safe without its needless covers
use Rattle.std.specs.Prelude.{ℕ, ◌≡◌, ◌↔◌, List, Option, Some, None, IsSomeAnd, slice_get, refl}
use Rattle.std.specs.List.{All, Any, Contains}
use Rattle.std.proofs.Common.{sym, ◌∙◌, ap, subst}
use Rattle.std.proofs.lemmas.Option.{slice_get-get_or}
use Rattle.sccp_base.specs.declared.mark.Mark.{Mark}
use Rattle.sccp_base.proofs.Among.{Among, All-among, Among-get_or, place_of_Among}
use Rattle.plan_rules.specs.declared.target.Target.{Target}
use Rattle.plan_rules.specs.declared.target.Target.TheVariants.{Relay, Final}
use Rattle.plan_rules.specs.Rule.{Rule}
use Rattle.plan_model.specs.declared.node.Node.{Node}
use Rattle.plan_model.specs.declared.cover.Cover.{Cover}
use Rattle.plan_model.specs.declared.spot.Spot.{Spot}
use Rattle.plan_model.specs.declared.hop.Step.{Step}
use Rattle.plan_model.specs.declared.hop.Step.TheVariants.{Sent, Ended, Blocked, NoRow, Overgrown}
use Rattle.plan_model.specs.Network.{Network, network}
use Rattle.plan_model.specs.Covered.{Covers, IsAllowed}
use Rattle.plan_model.specs.Steps.{row_for, first_open, led, taken, step_by, step_at, step}
use Rattle.plan_model.specs.Routes.{route, route_by}
use Rattle.plan_model.specs.Verdicts.{last, MayEnd, Safe}
use Rattle.plan_covers.specs.declared.needless.Needless.{Needless}
use Rattle.plan_covers.specs.Needless.{AddsNothing, AreNeedless}
use Rattle.plan_covers.specs.Remaining.{not_listed, remaining}
use Rattle.plan_covers.proofs.Titles.{covers_within}
use Rattle.plan_covers.proofs.Climbing.{needed}
use Rattle.plan_covers.proofs.Listing.{needed_kept, unlisted_among}

-- a step asks for the nodes alone
same_led : (plan : Network) (covers : List Cover) (node : Node) (spot : Spot) (place : ℕ) (t : Target)
    → led (network plan.nodes covers) node spot place t ≡ led plan node spot place t
same_led plan covers node spot place (Final pc named) = refl
same_led plan covers node spot place (Relay pc strip put selector named) = refl

same_taken : (plan : Network) (covers : List Cover) (node : Node) (spot : Spot) (marking : List Mark) (r : Rule) (o : Option (ℕ × Target))
    → taken (network plan.nodes covers) node spot marking r o ≡ taken plan node spot marking r o
same_taken plan covers node spot marking r (Some q) = same_led plan covers node spot q.0 q.1
same_taken plan covers node spot marking r None = refl

same_by : (plan : Network) (covers : List Cover) (node : Node) (spot : Spot) (marking : List Mark) (o : Option Rule)
    → step_by (network plan.nodes covers) node spot marking o ≡ step_by plan node spot marking o
same_by plan covers node spot marking (Some r) = same_taken plan covers node spot marking r (first_open node spot.ssn marking 0 r.targets)
same_by plan covers node spot marking None = refl

same_at : (plan : Network) (covers : List Cover) (spot : Spot) (marking : List Mark) (o : Option Node)
    → step_at (network plan.nodes covers) spot marking o ≡ step_at plan spot marking o
same_at plan covers spot marking (Some node) = same_by plan covers node spot marking (row_for node spot)
same_at plan covers spot marking None = refl

same_step : (plan : Network) (covers : List Cover) (spot : Spot) (marking : List Mark)
    → step (network plan.nodes covers) spot marking ≡ step plan spot marking
same_step plan covers spot marking = same_at plan covers spot marking (slice_get plan.nodes spot.node)

abbrev does : Network → List Mark → Spot → Step
does plan marking spot = step plan spot marking

same_route : (plan : Network) (covers : List Cover) (spot : Spot) (ms : List (List Mark))
    → route (network plan.nodes covers) spot ms ≡ route plan spot ms
same_route plan covers spot ms =
    let e : does (network plan.nodes covers) ≡ does plan = λ i marking s. same_step plan covers s marking i in
    ap (λ (f : List Mark → Spot → Step). route_by f spot ms) e

ends_weaker : (a b : ℕ → ℕ → Type 0) (x : Step) → ((pc ssn : ℕ) → a pc ssn → b pc ssn) → MayEnd a x → MayEnd b x
ends_weaker a b (Sent next target) f h = h
ends_weaker a b (Ended pc ssn target) f h = f pc ssn h
ends_weaker a b (Blocked cause marks) f h = h
ends_weaker a b (NoRow cause) f h = h
ends_weaker a b Overgrown f h = h

some_weaker : (a b : ℕ → ℕ → Type 0) (o : Option Step) → ((pc ssn : ℕ) → a pc ssn → b pc ssn) → IsSomeAnd o (MayEnd a)
    → IsSomeAnd o (MayEnd b)
some_weaker a b (Some x) f h = ends_weaker a b x f h
some_weaker a b None f h = h

any_among : (P : Cover → Type 0) (c : Cover) (cs : List Cover) → Among c cs → P c → Any P cs
any_among P c cs h p = let k = place_of_Among c cs h in (k.0, c, k.1, k.2 c, p)

among_any : (P : Cover → Type 0) (cs : List Cover) → (h : Any P cs) → Among h.1 cs
among_any P cs h = subst (λ (c : Cover). Among c cs) h.3 (Among-get_or cs h.0 h.1 h.2)

all_from : (P : Cover → Type 0) (cs : List Cover) → ((c : Cover) → Among c cs → P c) → All P cs
all_from P cs f k d lt = f _ (Among-get_or cs k d lt)

-- each cover adds nothing to one that is kept
kept_for : (plan : Network) (found : List Needless) (c : Cover) → AreNeedless plan.covers found → Among c plan.covers
    → (d : Cover) × Among d (not_listed found 0 plan.covers) × AddsNothing c d
kept_for plan found c are among =
    let k = place_of_Among c plan.covers among in
    let at : slice_get plan.covers k.0 ≡ Some c = slice_get-get_or plan.covers k.0 c k.1 ∙ ap Some (k.2 c) in
    let n = needed plan.covers k.0 c at in
    (n.1, needed_kept plan.covers found n.0 n.1 are n.2 n.4, n.3)

pub as_safe : (plan : Network) (found : List Needless) (bound : ℕ) → AreNeedless plan.covers found
    → Safe plan bound ↔ Safe (remaining plan found) bound
as_safe plan found bound are = (fewer, more)
  where
    left : List Cover
    left = not_listed found 0 plan.covers

    fewer : Safe plan bound → Safe (remaining plan found) bound
    fewer safe spot ms covered len =
        subst (λ hops. IsSomeAnd (last hops) (MayEnd (IsAllowed (remaining plan found) spot))) (sym (same_route plan left spot ms))
        (some_weaker (IsAllowed plan spot) (IsAllowed (remaining plan found) spot) (last (route plan spot ms))
        (λ pc ssn all. all_from (λ c. Covers c spot → Contains c.allowed (pc, ssn)) left (λ c among.
        All-among (λ c. Covers c spot → Contains c.allowed (pc, ssn)) c plan.covers all (unlisted_among found 0 plan.covers c among)))
        (safe spot ms (any_among (λ c. Covers c spot) covered.1 plan.covers (unlisted_among found 0 plan.covers covered.1
        (among_any (λ c. Covers c spot) left covered)) covered.4) len))

    more : Safe (remaining plan found) bound → Safe plan bound
    more safe spot ms covered len =
        let top = kept_for plan found covered.1 are (among_any (λ c. Covers c spot) plan.covers covered) in
        some_weaker (IsAllowed (remaining plan found) spot) (IsAllowed plan spot) (last (route plan spot ms))
        (λ pc ssn all. all_from (λ c. Covers c spot → Contains c.allowed (pc, ssn)) plan.covers (λ c among has.
        let k = kept_for plan found c are among in
        k.2.allowed (pc, ssn) (All-among (λ d. Covers d spot → Contains d.allowed (pc, ssn)) k.0 left all k.1
        (covers_within c k.0 spot k.2.within has))))
        (subst (λ hops. IsSomeAnd (last hops) (MayEnd (IsAllowed (remaining plan found) spot))) (same_route plan left spot ms)
        (safe spot ms (any_among (λ c. Covers c spot) top.0 left top.1 (covers_within covered.1 top.0 spot top.2.within covered.4)) len))
