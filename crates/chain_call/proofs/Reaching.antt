-- A request for a title that a safe plan covers goes to a place that the plan allows.
use Rattle.std.specs.Prelude.{ℕ, ◌≡◌, ◌==◌, ◌<◌, ◌≤◌, ◌+◌, Bool, true, false, cond, ◌||◌, List, [], ◌∷◌, length, map, filter_map, find}
use Rattle.std.specs.Prelude.{position, replicate, ◌-◌, Option, Some, None, IsSomeAnd, refl}
use Rattle.std.specs.Prelude.{nat_le, slice_get}
use Rattle.std.specs.List.{list_any, cons_option}
use Rattle.std.specs.Option.{option_map_or}
use Rattle.std.proofs.Common.{zero, suc, sym, ◌∙◌, ap, subst, ⊎_elim, inl, inr, arith}
use Rattle.std.proofs.lemmas.Bool.{eq-eqb, ne_eqb, lt-leb}
use Rattle.std.proofs.lemmas.List.{length-replicate}
use Rattle.sccp_address.specs.declared.address.Address.{Address}
use Rattle.sccp_base.specs.declared.mark.Mark.{Mark}
use Rattle.sccp_message.specs.declared.message.Message.TheVariants as messages
use Rattle.plan_model.specs.Covered.{Covered, IsAllowed}
use Rattle.plan_model.specs.Network as plans
use Rattle.plan_model.specs.Network.{IsPlan, node_of, has_point}
use Rattle.plan_model.specs.Routes.{route, onward}
use Rattle.plan_model.specs.Next.{next_of}
use Rattle.plan_model.specs.Steps.{step, cause_of, closing, marks}
use Rattle.plan_rules.specs.declared.target.Target.{Target}
use Rattle.sccp_base.specs.Marks.{holds}
use Rattle.plan_model.specs.Verdicts.{last, MayEnd, Safe}
use Rattle.plan_model.specs.declared.node.Node.{Node}
use Rattle.plan_model.specs.declared.hop.Step.{Step}
use Rattle.plan_model.specs.declared.hop.Step.TheVariants as steps
use Rattle.plan_model.specs.declared.spot.Spot.{Spot}
use Rattle.plan_model.proofs.Leading.{Facts, step_facts}
use Rattle.sccp_scrc.specs.Arriving.{point_of}
use Rattle.sccp_scrc.specs.Rewriting.{one_less, spot_of, to_place, to_relay}
use Rattle.sccp_scrc.proofs.Addresses.{spot-relay}
use Rattle.sccp_scrc.proofs.Arrivals.{node_again, next_within}
use Rattle.sccp_couple.specs.declared.way.Way.TheVariants.{Refused, Onward}
use Rattle.sccp_couple.specs.Ways.{way_of, at_subsystem, translated, after_step}
use Rattle.couple_chain.specs.World.{Network, is_node}
use Rattle.chain_world.specs.Kept.{kept, network_of}
use Rattle.chain_world.proofs.Nodes.{At, at_place, node_not_there}
use Rattle.sccp_couple.proofs.Lookups.{option_cases}
use Rattle.chain_call.specs.Answered.{IsCall, AllowsEnds, ReachesPlace, spot_called}
use Rattle.chain_call.specs.Course.{beginning}
use Rattle.chain_call.specs.Steps.{called_of, name_at, outcome}
use Rattle.chain_call.specs.declared.call.Call.{Call}
use Rattle.chain_call.specs.declared.outcome.Outcome.{Outcome}
use Rattle.chain_call.proofs.Hops.{Hop}
use Rattle.chain_call.proofs.Confirms.{before}
use Rattle.chain_call.proofs.Requests.{Goes, hops_param, one_less_is}
use Rattle.chain_call.proofs.Outcomes.{Answered, refused, connected, FineAnswered, answered}

-- ---- relays

among_points : (nodes : List Node) (i : ℕ) (node : Node) → slice_get nodes i ≡ Some node
    → list_any (λ n. n == node.pc) (map (λ (n : Node). n.pc) nodes) ≡ true
among_points [] i node h = absurd (let z : None ≡ Some node = h in cc)
among_points (x ∷ xs) zero node h =
    let same : x ≡ node = cc in
    ap (λ (b : Bool). b || list_any (λ n. n == node.pc) (map (λ (n : Node). n.pc) xs)) (eq-eqb x.pc node.pc (ap (λ (n : Node). n.pc) same))
among_points (x ∷ xs) (suc i) node h =
    ap (λ (b : Bool). (x.pc == node.pc) || b) (among_points xs i node h)
    ∙ elim (x.pc == node.pc) as (λ b. (b || true) ≡ true) [ true ↦ refl | false ↦ refl ]

pub inner_at : (plan : plans.Network) (place : ℕ) (node : Node) → slice_get plan.nodes place ≡ Some node
    → is_node (network_of plan) (point_of plan place) ≡ true
inner_at plan place node at =
    ap (λ o. is_node (network_of plan) (option_map_or (λ (n : Node). n.pc) o 0)) at ∙ among_points plan.nodes place node at

-- ---- what a plan makes of a request

way_is : (plan : plans.Network) (node n slr : ℕ) (called : Address) (s : Spot) → called.by_ssn ≡ false → nat_le n 1 ≡ false
    → spot_of node called ≡ Some s
    → way_of plan node [] (messages.Cr slr 2 called (hops_param n)) ≡ after_step plan node called (hops_param n) (step plan s [])
way_is plan node n slr called s by_title left spot =
    ap (λ (b : Bool). cond b (at_subsystem plan node [] called.ssn)
    (cond (nat_le n 1) (Refused 16) (translated plan node [] called (hops_param n) (spot_of node called)))) by_title
    ∙ ap (λ (b : Bool). cond b (Refused 16) (translated plan node [] called (hops_param n) (spot_of node called))) left
    ∙ ap (translated plan node [] called (hops_param n)) spot

come_any : (network : Network) (allowed : ℕ → Type 0) (k pc : ℕ) (called : Address) (n : ℕ) → is_node network pc ≡ false → allowed pc
    → Goes network allowed k pc called n
come_any network allowed zero pc called n outer may = (outer, may)
come_any network allowed (suc k) pc called n outer may = inl (outer, may)

-- nothing is closed while nothing is prohibited
none_found : (list : List Mark) → find (holds []) list ≡ None
none_found [] = refl
none_found (m ∷ list) = none_found list

some_shut : (node : Node) (ssn cause : ℕ) (targets : List Target) (shut : List Mark) → map (closing node ssn []) targets ≡ map Some shut
    → IsSomeAnd (slice_get shut (length shut - 1)) (λ mark. cause ≡ cause_of mark) → ⊥
some_shut node ssn cause targets [] closed named = named
some_shut node ssn cause [] (m ∷ shut) closed named = let z : [] ≡ Some m ∷ map Some shut = closed in cc
some_shut node ssn cause (t ∷ targets) (m ∷ shut) closed named =
    let head : closing node ssn [] t ≡ Some m = cc in
    let z : None ≡ Some m = sym (none_found (marks node ssn t)) ∙ head in cc

-- the ends that are allowed for a title
abbrev Ends : (ℕ → ℕ → Type 0) → ℕ → Type 0
Ends allowed far = (ssn : ℕ) × allowed far ssn

-- a route that ends as it may, while nothing is prohibited, is the way of a request
goes_on : (plan : plans.Network) → IsPlan plan → (allowed : ℕ → ℕ → Type 0)
    → ((pc ssn : ℕ) → allowed pc ssn → is_node (network_of plan) pc ≡ false)
    → (k : ℕ) (s : Spot) (called : Address) (n : ℕ) → s.node < length plan.nodes → spot_of s.node called ≡ Some s → called.by_ssn ≡ false
    → k < n → n ≤ 15 → IsSomeAnd (last (route plan s (replicate k []))) (MayEnd allowed)
    → Goes (network_of plan) (Ends allowed) k (point_of plan s.node) called n
goes_on plan is allowed ends zero s called n within spot by_title left few may = absurd may
goes_on plan is allowed ends (suc k) s called zero within spot by_title left few may = absurd (omega (arith, left))
goes_on plan is allowed ends (suc k) s called (suc n) within spot by_title left few may =
    by_step (step plan s []) refl (step_facts plan is s []) may
    (λ next within. goes_on plan is allowed ends k next (to_relay called next) n within
    (spot-relay called next) refl (omega (arith, left)) (omega (arith, few)))
  where
    less : one_less (suc n) ≡ n
    less = one_less_is n few

    way : (origin slr : ℕ) → (network_of plan).way (point_of plan s.node) origin (messages.Cr slr 2 called (hops_param (suc n)))
        ≡ after_step plan s.node called (hops_param (suc n)) (step plan s [])
    way origin slr =
        ap (λ (m : ℕ). way_of plan m [] (messages.Cr slr 2 called (hops_param (suc n)))) (node_again plan s.node is within)
        ∙ way_is plan s.node (suc n) slr called s by_title (lt-leb (suc n) 1 (omega (arith, left))) spot

    on_to : (k : ℕ) (next : Spot) (target : ℕ) → step plan s [] ≡ steps.Sent next target → Facts plan s [] (steps.Sent next target)
        → IsSomeAnd (last (record { spot = s; step = steps.Sent next target } ∷ route plan next (replicate k []))) (MayEnd allowed)
        → ((next : Spot) → next.node < length plan.nodes → IsSomeAnd (last (route plan next (replicate k []))) (MayEnd allowed)
        → Goes (network_of plan) (Ends allowed) k (point_of plan next.node) (to_relay called next) n)
        → Goes (network_of plan) (Ends allowed) (suc k) (point_of plan s.node) called (suc n)
    on_to zero next target e facts may later = absurd may
    on_to (suc k) next target e facts may later =
        inr (
          inner_at plan s.node facts.node facts.at,
          point_of plan next.node,
          to_relay called next,
          (λ origin slr. way origin slr ∙ ap (after_step plan s.node called (hops_param (suc n))) e),
          subst (λ (j : ℕ). Goes (network_of plan) (Ends allowed) (suc k) (point_of plan next.node) (to_relay called next) j) (sym less)
              (later next (next_within plan s next is facts) may),
        )

    none_held : (cause : ℕ) (shut : List Mark) → Facts plan s [] (steps.Blocked cause shut) → ⊥
    none_held cause shut facts = some_shut facts.node s.ssn cause facts.row.targets shut facts.closed facts.cause_is

    kinds : (x : Step) → step plan s [] ≡ x → Facts plan s [] x
        → IsSomeAnd (last (record { spot = s; step = x } ∷ onward (next_of x) (λ next. route plan next (replicate k [])))) (MayEnd allowed)
        → ((next : Spot) → next.node < length plan.nodes → IsSomeAnd (last (route plan next (replicate k []))) (MayEnd allowed)
        → Goes (network_of plan) (Ends allowed) k (point_of plan next.node) (to_relay called next) n)
        → Goes (network_of plan) (Ends allowed) (suc k) (point_of plan s.node) called (suc n)
    kinds (steps.Sent next target) e facts may later = on_to k next target e facts may later
    kinds (steps.Ended pc ssn target) e facts may later =
        let inner = inner_at plan s.node facts.node facts.at in
        let outer = ends pc ssn may in
        let other : (pc == point_of plan s.node) ≡ false = ne_eqb pc (point_of plan s.node)
        (λ same. let z : true ≡ false = sym inner ∙ ap (is_node (network_of plan)) (sym same) ∙ outer in cc) in
        inr (
          inner,
          pc,
          to_place called ssn,
          (λ origin slr. way origin slr ∙ ap (after_step plan s.node called (hops_param (suc n))) e
              ∙ ap (λ (b : Bool). cond b (Refused 6) (Onward pc (to_place called ssn) (hops_param (one_less (suc n))))) other),
          come_any (network_of plan) (Ends allowed) k pc (to_place called ssn) (one_less (suc n)) outer (ssn, may),
        )
    kinds (steps.Blocked cause shut) e facts may later = absurd (none_held cause shut facts)
    kinds (steps.NoRow cause) e facts may later = absurd may
    kinds steps.Overgrown e facts may later = absurd may

    by_step : (x : Step) → step plan s [] ≡ x → Facts plan s [] (step plan s [])
        → IsSomeAnd (last (record { spot = s; step = step plan s [] }
        ∷ onward (next_of (step plan s [])) (λ next. route plan next (replicate k []))))
        (MayEnd allowed)
        → ((next : Spot) → next.node < length plan.nodes → IsSomeAnd (last (route plan next (replicate k []))) (MayEnd allowed)
        → Goes (network_of plan) (Ends allowed) k (point_of plan next.node) (to_relay called next) n)
        → Goes (network_of plan) (Ends allowed) (suc k) (point_of plan s.node) called (suc n)
    by_step x e facts may later =
        kinds x e (subst (Facts plan s []) e facts)
        (subst (λ (y : Step). IsSomeAnd (last (record { spot = s; step = y }
        ∷ onward (next_of y) (λ next. route plan next (replicate k [])))) (MayEnd allowed)) e may)
        later

-- ---- the whole outcome

first_goes : (plan : plans.Network) (call : Call) (bound : ℕ) → IsPlan plan → Safe plan bound → bound ≤ 14 → IsCall plan call
    → Covered plan (spot_called plan call) → AllowsEnds plan (spot_called plan call) → node_of plan.nodes call.entry < length plan.nodes
    → point_of plan (node_of plan.nodes call.entry) ≡ call.entry
    → Goes (network_of plan) (Ends (IsAllowed plan (spot_called plan call))) bound call.entry (called_of call) 15
first_goes plan call bound is safe few fits covered ends within point =
    let s : Spot = spot_called plan call in
    subst (λ (y : ℕ). Goes (network_of plan) (Ends (IsAllowed plan s)) bound y (called_of call) 15) point
    (goes_on plan is (IsAllowed plan s) ends bound s (called_of call) 15 within refl refl (omega (arith, few)) (omega arith)
    (safe s (replicate bound []) covered (length-replicate bound [])))

-- the relay that the request is sent to, at its place of the plan
record Found (plan : plans.Network) (pc : ℕ) : Type 0 where
  pub place : ℕ
  pub at : At plan pc place

entry_at : (plan : plans.Network) (pc : ℕ) → is_node (network_of plan) pc ≡ true → Found plan pc
entry_at plan pc inner =
    ⊎_elim
    (λ (none : position (has_point pc) plan.nodes ≡ None). absurd (let z : true ≡ false = sym inner ∙ node_not_there plan pc none in cc))
    (λ (some : (place : ℕ) × (position (has_point pc) plan.nodes ≡ Some place)). record
    { place = some.0; at = at_place plan pc some.0 some.1 })
    (option_cases (position (has_point pc) plan.nodes))

one_more : (o : Option (List ℕ)) (names : List (List ℕ)) (most : ℕ) → length names ≤ most → length (cons_option o names) ≤ suc most
one_more None names most h = omega (arith, h)
one_more (Some name) names most h = omega (arith, h)

names_few : (plan : plans.Network) (points : List ℕ) → length (filter_map (name_at plan) points) ≤ length points
names_few plan [] = omega arith
names_few plan (p ∷ points) = one_more (name_at plan p) (filter_map (name_at plan) points) (length points) (names_few plan points)

before_long : (back hops : List Hop) → length (map (λ (g : Hop). g.node) (before back hops)) ≡ length back + length hops
before_long [] [] = refl
before_long [] (h ∷ hops) = let r = before_long [] hops in omega (arith, r)
before_long (h ∷ back) hops = let r = before_long back (h ∷ hops) in omega (arith, r)

reached : (plan : plans.Network) (call : Call) (s : Spot) (bound : ℕ) (out : Outcome) (answer : Answered plan call out)
    → FineAnswered (Ends (IsAllowed plan s)) bound answer → ReachesPlace plan s bound out
reached plan call s bound out (refused cause e) fine = absurd fine
reached plan call s bound out (connected end h back o) fine =
    let a = names_few plan (map (λ (g : Hop). g.node) (before (h ∷ back) [])) in
    let b = before_long (h ∷ back) [] in
    let c = fine.1 in
    subst (ReachesPlace plan s bound) (sym o.out_is) (omega (arith, a, b, c), fine.0.0, fine.0.1)

pub is_reached : (plan : plans.Network) (call : Call) (bound : ℕ) → IsPlan plan → Safe plan bound → bound ≤ 14 → IsCall plan call
    → Covered plan (spot_called plan call) → AllowsEnds plan (spot_called plan call)
    → ReachesPlace plan (spot_called plan call) bound (outcome call (beginning (kept plan [])))
is_reached plan call bound is safe few fits covered ends =
    let s : Spot = spot_called plan call in
    let at = (entry_at plan call.entry fits.entry).at in
    let r = answered (Ends (IsAllowed plan s)) plan call fits in
    reached plan call s bound (outcome call (beginning (kept plan []))) r.0
    (r.1 bound (first_goes plan call bound is safe few fits covered ends (let w = at.within in let f = at.found in omega (arith, w, f))
    (ap (point_of plan) at.found ∙ at.point_is)))
