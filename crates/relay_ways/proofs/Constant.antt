-- Under each marking that meets the condition of one of its ways, a node handles octets in the same way.
use Rattle.std.proofs.Common.{◌≡◌, ℕ, Bool, true, false, cond, List, [], ◌∷◌, ◌++◌, map, Option, Some, None, refl, sym, ◌∙◌, ap, subst, not}
use Rattle.std.proofs.Common.{⊎_elim, inl, inr, ◌⊎◌}
use Rattle.std.specs.Prelude.{◌==◌, if◌then◌else◌, Result, Ok, Err, IfOk}
use Rattle.std.specs.List.{AllByRecursion, filter, flat_map, list_any}
use Rattle.std.specs.Option.{option_and_then}
use Rattle.std.proofs.lemmas.Bool.{and_parts}
use Rattle.std.proofs.lemmas.List.Elements.{All-from_recursion}
use Rattle.sccp_base.specs.declared.mark.Mark.{Mark}
use Rattle.sccp_base.specs.declared.out_of_memory.OutOfMemory.{OutOfMemory}
use Rattle.sccp_base.proofs.Among.{Among, All-among}
use Rattle.sccp_address.specs.declared.address.Address.{Address}
use Rattle.sccp_message.specs.declared.message.Message.{Message}
use Rattle.sccp_message.specs.declared.fault.DecodeFault.{DecodeFault}
use Rattle.sccp_message.specs.Reading.{reading}
use Rattle.sccp_message.specs.Unitdata.{called_of, hops_of}
use Rattle.plan_model.specs.declared.spot.Spot.{Spot}
use Rattle.plan_model.specs.declared.hop.Step.{Step}
use Rattle.plan_model.specs.declared.hop.Step.TheVariants as steps
use Rattle.plan_model.specs.Network.{Network}
use Rattle.plan_model.specs.Steps.{step}
use Rattle.sccp_scrc.specs.Arriving.{arrival, at_subsystem, is_last_hop, point_of, subsystems_of}
use Rattle.sccp_scrc.specs.Returning.{returned, service_for}
use Rattle.sccp_scrc.specs.Rewriting.{spot_of}
use Rattle.sccp_scrc.specs.declared.arrival.Arrival.{Arrival}
use Rattle.sccp_scrc.specs.declared.arrival.Arrival.TheVariants.{Relayed, Ended, Local, Returned, Connection, Management, Undecodable}
use Rattle.sccp_scrc.specs.declared.way.Way as back
use Rattle.sccp_scrc.specs.declared.way.Way.TheVariants.{Direct, Shut, ByTitle}
use Rattle.relay_ways.specs.Conditions.{meets, both, is_possible, always}
use Rattle.relay_ways.specs.Turns.{Turn, turns_of, without_marks, Makes}
use Rattle.relay_ways.specs.Sends.{sending, forwarded}
use Rattle.relay_ways.specs.Outcomes.{Outcome, outcome, at_user, outcomes, outcomes_of, by_address, on_subsystem, is_user, titled}
use Rattle.relay_ways.specs.Outcomes.{after_turn, cleared, cleared_way, Becomes}
use Rattle.relay_ways.specs.Ways.{forwarded_way, service_ways, ways_of, way_if, possible, possible_ways, ways, reaches}
use Rattle.relay_ways.specs.Handling.{target_of, IsTakenBy, spot_read, IsTakenBack, HandlesAs, Handles, HandlesIf, HasCondition}
use Rattle.relay_ways.specs.declared.condition.Condition.{Condition}
use Rattle.relay_ways.specs.declared.handling.Taken.{Taken}
use Rattle.relay_ways.specs.declared.handling.Handling.{Handling}
use Rattle.relay_ways.specs.declared.way.Sending.{Sending}
use Rattle.relay_ways.specs.declared.way.Way.{Way}
use Rattle.relay_ways.proofs.OutcomeLemmas.{each_outcome}
use Rattle.relay_ways.proofs.Possible.{meets_both, met_possible}
use Rattle.relay_ways.proofs.Stepping.{each_of}

-- The outcome of a way.

has_either : (c : Condition) (xs ys : List Way) → HasCondition c (xs ++ ys) → HasCondition c xs ⊎ HasCondition c ys
has_either c [] ys has = inr has
has_either c (x ∷ xs) ys has =
    ⊎_elim (λ (e : x.condition ≡ c). inl (inl e))
    (λ (r : HasCondition c (xs ++ ys)). ⊎_elim (λ (a : HasCondition c xs). inl (inr a)) (λ (b : HasCondition c ys). inr b)
    (has_either c xs ys r)) has

has_unfiltered : (p : Way → Bool) (c : Condition) (xs : List Way) → HasCondition c (filter p xs) → HasCondition c xs
has_unfiltered p c [] has = absurd has
has_unfiltered p c (x ∷ xs) has =
    elim (p x) as (λ b. HasCondition c (cond b (x ∷ filter p xs) (filter p xs)) → HasCondition c (x ∷ xs)) [
      | true ↦ λ h. ⊎_elim (λ (e : x.condition ≡ c). inl e) (λ (r : HasCondition c (filter p xs)). inr (has_unfiltered p c xs r)) h
      | false ↦ λ h. inr (has_unfiltered p c xs h)
    ] has

has_outcome : (f : Outcome → List Way) (c : Condition) (os : List Outcome) → HasCondition c (flat_map f os)
    → (o : Outcome) × Among o os × HasCondition c (f o)
has_outcome f c [] has = absurd has
has_outcome f c (o ∷ os) has =
    ⊎_elim (λ (a : HasCondition c (f o)). (o, inl refl, a))
    (λ (r : HasCondition c (flat_map f os)). let k = has_outcome f c os r in (k.0, inr k.1, k.2))
    (has_either c (f o) (flat_map f os) has)

has_possible : (plan : Network) (node : ℕ) (c : Condition) (o : Outcome) → HasCondition c (possible_ways plan node o)
    → HasCondition c (ways_of plan node o.condition o.arrival)
has_possible plan node c o has =
    elim (is_possible o.condition) as (λ b. HasCondition c (if b then possible (ways_of plan node o.condition o.arrival) else [])
    → HasCondition c (ways_of plan node o.condition o.arrival)) [
      | true ↦ λ h. has_unfiltered (λ w. is_possible w.condition) c (ways_of plan node o.condition o.arrival) h
      | false ↦ λ h. absurd h
    ] has

-- The target that is taken, under two markings that meet the condition of one outcome by which the message goes on.

target_plain : (s : Step) → target_of (without_marks s) ≡ target_of s
target_plain (steps.Sent next target) = refl
target_plain (steps.Ended pc ssn target) = refl
target_plain (steps.Blocked cause marks) = refl
target_plain (steps.NoRow cause) = refl
target_plain steps.Overgrown = refl

of_turn : (plan : Network) (spot : Spot) (M : List Mark) (t : Turn) → Among t (turns_of plan spot) → meets M t.condition ≡ true
    → target_of (step plan spot M) ≡ target_of t.step
of_turn plan spot M t at met =
    sym (target_plain (step plan spot M))
    ∙ ap target_of (All-among (Makes (step plan spot M) M) t (turns_of plan spot)
    (All-from_recursion (Makes (step plan spot M) M) (turns_of plan spot) (each_of plan spot M)) at met)

turn_among : (f : Turn → Outcome) (o : Outcome) (ts : List Turn) → Among o (map f ts) → (t : Turn) × Among t ts × (f t ≡ o)
turn_among f o [] at = absurd at
turn_among f o (t ∷ ts) at =
    ⊎_elim (λ (e : f t ≡ o). (t, inl refl, e))
    (λ (r : Among o (map f ts)). let k = turn_among f o ts r in (k.0, inr k.1, k.2)) at

-- one message, under two markings
abbrev Stays : Network → List Mark → List Mark → Option Spot → Type 0
Stays plan L M spot = (found : Option Taken) → IsTakenBy plan L spot found → IsTakenBy plan M spot found

stays_titled : (plan : Network) (node origin : ℕ) (m : Message) (a : Address) (spot : Option Spot) (L M : List Mark) (o : Outcome)
    → Among o (titled plan node origin m a spot) → meets L o.condition ≡ true → meets M o.condition ≡ true → Stays plan L M spot
stays_titled plan node origin m a None L M o at l k = λ found is. is
stays_titled plan node origin m a (Some spot) L M o at l k = λ found is.
    let t = turn_among (after_turn plan node origin m a) o (turns_of plan spot) at in
    let same : t.0.condition ≡ o.condition = ap (λ (x : Outcome). x.condition) t.2 in
    let here = of_turn plan spot L t.0 t.1 (subst (λ (c : Condition). meets L c ≡ true) (sym same) l) in
    let there = of_turn plan spot M t.0 t.1 (subst (λ (c : Condition). meets M c ≡ true) (sym same) k) in
    record { target_is = is.target_is ∙ here ∙ sym there; row_is = is.row_is }

-- nothing goes on that is routed on its subsystem number
ends_at : (plan : Network) (node origin : ℕ) (m : Message) (o : Option ℕ) → forwarded (at_subsystem plan node [] origin m o) ≡ None
ends_at plan node origin m None = refl
ends_at plan node origin m (Some ssn) = by (ssn == 1) (not (list_any (λ own. own == ssn) (subsystems_of plan node))) where
  by : (own equipped : Bool) → forwarded (if own then Management m
      else if equipped then Returned 4 [] (service_for [] origin 4 m)
      else Local ssn m) ≡ None
  by true equipped = refl
  by false true = refl
  by false false = refl

ends_in : (o : Outcome) (os : List Outcome) → AllByRecursion (λ (x : Outcome). forwarded x.arrival ≡ None) os → Among o os
    → forwarded o.arrival ≡ None
ends_in o os all at =
    All-among (λ (x : Outcome). forwarded x.arrival ≡ None) o os
    (All-from_recursion (λ (x : Outcome). forwarded x.arrival ≡ None) os all) at

ends_here : (plan : Network) (node origin : ℕ) (m : Message) (ssn : Option ℕ)
    → AllByRecursion (λ (x : Outcome). forwarded x.arrival ≡ None) (on_subsystem plan node origin m ssn)
ends_here plan node origin m None = (ends_at plan node origin m None, tt)
ends_here plan node origin m (Some ssn) = by (is_user plan node ssn) where
  by : (b : Bool) → AllByRecursion (λ (x : Outcome). forwarded x.arrival ≡ None)
      (if b then at_user plan node origin m ssn else outcome always (at_subsystem plan node [] origin m (Some ssn)) ∷ [])
  by true = (refl, (refl, tt))
  by false = (ends_at plan node origin m (Some ssn), tt)

goes : (o : Option Sending) (s : Sending) → o ≡ Some s → o ≡ None → ⊥
goes o s e f = let g : Some s ≡ None = sym e ∙ f in cc

stays_addressed : (plan : Network) (node origin : ℕ) (m : Message) (a : Option Address) (L M : List Mark) (o : Outcome) (s : Sending)
    → Among o (by_address plan node origin m a) → forwarded o.arrival ≡ Some s → meets L o.condition ≡ true → meets M o.condition ≡ true
    → Stays plan L M (option_and_then (spot_of node) a)
stays_addressed plan node origin m None L M o s at e l k = λ found is. is
stays_addressed plan node origin m (Some a) L M o s at e l k = by a.by_ssn (is_last_hop (hops_of m)) at where
  by : (ssn last : Bool) → Among o (if ssn then on_subsystem plan node origin m a.ssn
      else if last then outcome always (returned [] origin m 12 []) ∷ []
      else titled plan node origin m a (spot_of node a)) → Stays plan L M (spot_of node a)
  by true last at = absurd (goes (forwarded o.arrival) s e
      (ends_in o (on_subsystem plan node origin m a.ssn) (ends_here plan node origin m a.ssn) at))
  by false true at = absurd (goes (forwarded o.arrival) s e
      (ends_in o (outcome always (returned [] origin m 12 []) ∷ []) (refl, tt) at))
  by false false at = stays_titled plan node origin m a (spot_of node a) L M o at l k

stays_read : (plan : Network) (node origin : ℕ) (r : Result Message DecodeFault) (L M : List Mark) (o : Outcome) (s : Sending)
    → Among o (outcomes_of plan node origin r) → forwarded o.arrival ≡ Some s → meets L o.condition ≡ true → meets M o.condition ≡ true
    → Stays plan L M (spot_read node r)
stays_read plan node origin (Err fault) L M o s at e l k = λ found is. is
stays_read plan node origin (Ok m) L M o s at e l k = stays_addressed plan node origin m (called_of m) L M o s at e l k

stays : (plan : Network) (node origin : ℕ) (b : List ℕ) (L M : List Mark) (o : Outcome) (s : Sending)
    → Among o (outcomes plan node origin b)
    → forwarded o.arrival ≡ Some s → meets L o.condition ≡ true → meets M o.condition ≡ true → Stays plan L M (spot_read node (reading b))
stays plan node origin b L M o s at e l k = stays_read plan node origin (reading b) L M o s at e l k

-- What is handled.

met_second : (M : List Mark) (c d : Condition) → meets M (both c d) ≡ true → (meets M c ≡ true) × (meets M d ≡ true)
met_second M c d e = and_parts (meets M c) (meets M d) (sym (meets_both M c d) ∙ e)

if_forwarded : (c d : Condition) (s : Option Sending) → HasCondition c (way_if d s) → (x : Sending) × (s ≡ Some x) × (d ≡ c)
if_forwarded c d None has = absurd has
if_forwarded c d (Some x) has = (x, refl, ⊎_elim (λ (e : d ≡ c). e) (λ (r : ⊥). absurd r) has)

back_stays : (plan : Network) (node : ℕ) (d c : Condition) (octets : List ℕ) (way : back.Way) (L M : List Mark) (found : Option Taken)
    → HasCondition c (service_ways plan node d octets way) → meets L c ≡ true → meets M c ≡ true
    → IsTakenBack plan node L octets way found → IsTakenBack plan node M octets way found
back_stays plan node d c octets (Direct pc) L M found has l k is = is
back_stays plan node d c octets (Shut mark) L M found has l k is = is
back_stays plan node d c octets ByTitle L M found has l k is =
    let o = has_outcome (forwarded_way d) c (outcomes plan node (point_of plan node) octets) has in
    let x = if_forwarded c (both d o.0.condition) (forwarded o.0.arrival) o.2 in
    let l2 = met_second L d o.0.condition (subst (λ (y : Condition). meets L y ≡ true) (sym x.2) l) in
    let k2 = met_second M d o.0.condition (subst (λ (y : Condition). meets M y ≡ true) (sym x.2) k) in
    stays plan node (point_of plan node) octets L M o.0 x.0 o.1 x.1 l2.1 k2.1 found is

-- the condition of the outcome is met
back_met : (plan : Network) (node : ℕ) (d c : Condition) (octets : List ℕ) (way : back.Way) (M : List Mark)
    → HasCondition c (service_ways plan node d octets way) → meets M c ≡ true → meets M d ≡ true
back_met plan node d c octets (Direct pc) M has k =
    (met_second M d (reaches pc) (subst (λ (y : Condition). meets M y ≡ true)
    (sym (⊎_elim (λ (e : both d (reaches pc) ≡ c). e) (λ (r : ⊥). absurd r) has)) k)).0
back_met plan node d c octets (Shut mark) M has k = absurd has
back_met plan node d c octets ByTitle M has k =
    let o = has_outcome (forwarded_way d) c (outcomes plan node (point_of plan node) octets) has in
    let x = if_forwarded c (both d o.0.condition) (forwarded o.0.arrival) o.2 in
    (met_second M d o.0.condition (subst (λ (y : Condition). meets M y ≡ true) (sym x.2) k)).0

outcome_met : (plan : Network) (node : ℕ) (d c : Condition) (a : Arrival) (M : List Mark) → HasCondition c (ways_of plan node d a)
    → meets M c ≡ true → meets M d ≡ true
outcome_met plan node d c (Relayed pc octets) M has k =
    ⊎_elim (λ (e : d ≡ c). subst (λ (y : Condition). meets M y ≡ true) (sym e) k) (λ (r : ⊥). absurd r) has
outcome_met plan node d c (Ended pc ssn octets) M has k =
    ⊎_elim (λ (e : d ≡ c). subst (λ (y : Condition). meets M y ≡ true) (sym e) k) (λ (r : ⊥). absurd r) has
outcome_met plan node d c (Local ssn m) M has k = absurd has
outcome_met plan node d c (Returned cause marks None) M has k = absurd has
outcome_met plan node d c (Returned cause marks (Some s)) M has k = back_met plan node d c s.octets s.way M has k
outcome_met plan node d c (Connection m) M has k = absurd has
outcome_met plan node d c (Management m) M has k = absurd has
outcome_met plan node d c (Undecodable fault) M has k = absurd has

handled_on : (plan : Network) (node origin : ℕ) (b : List ℕ) (o : Outcome) (c : Condition) (a : Arrival) (L M : List Mark) (h : Handling)
    → Among o (outcomes plan node origin b) → o.arrival ≡ a → HasCondition c (ways_of plan node o.condition a)
    → meets L c ≡ true → meets M c ≡ true → HandlesAs plan node L b a h → HandlesAs plan node M b a h
handled_on plan node origin b o c (Relayed pc octets) L M h at e has l k is = (
  is.0,
  stays plan node origin b L M o (sending pc octets) at (ap forwarded e)
      (outcome_met plan node o.condition c (Relayed pc octets) L has l)
      (outcome_met plan node o.condition c (Relayed pc octets) M has k) h.taken is.1,
)
handled_on plan node origin b o c (Ended pc ssn octets) L M h at e has l k is = (
  is.0,
  stays plan node origin b L M o (sending pc octets) at (ap forwarded e)
      (outcome_met plan node o.condition c (Ended pc ssn octets) L has l)
      (outcome_met plan node o.condition c (Ended pc ssn octets) M has k) h.taken is.1,
)
handled_on plan node origin b o c (Local ssn m) L M h at e has l k is = is
handled_on plan node origin b o c (Returned cause marks None) L M h at e has l k is = is
handled_on plan node origin b o c (Returned cause marks (Some s)) L M h at e has l k is =
    (is.0, back_stays plan node o.condition c s.octets s.way L M h.taken has l k is.1)
handled_on plan node origin b o c (Connection m) L M h at e has l k is = is
handled_on plan node origin b o c (Management m) L M h at e has l k is = is
handled_on plan node origin b o c (Undecodable fault) L M h at e has l k is = is

-- whether a way back is shut makes no difference

back_to : (plan : Network) (node : ℕ) (M : List Mark) (octets : List ℕ) (way : back.Way) (found : Option Taken)
    → IsTakenBack plan node M octets way found → IsTakenBack plan node M octets (cleared_way way) found
back_to plan node M octets (Direct pc) found is = is
back_to plan node M octets (Shut mark) found is = is
back_to plan node M octets ByTitle found is = is

back_from : (plan : Network) (node : ℕ) (M : List Mark) (octets : List ℕ) (way : back.Way) (found : Option Taken)
    → IsTakenBack plan node M octets (cleared_way way) found → IsTakenBack plan node M octets way found
back_from plan node M octets (Direct pc) found is = is
back_from plan node M octets (Shut mark) found is = is
back_from plan node M octets ByTitle found is = is

to_cleared : (plan : Network) (node : ℕ) (M : List Mark) (b : List ℕ) (a : Arrival) (h : Handling)
    → HandlesAs plan node M b a h → HandlesAs plan node M b (cleared a) h
to_cleared plan node M b (Relayed pc octets) h is = is
to_cleared plan node M b (Ended pc ssn octets) h is = is
to_cleared plan node M b (Local ssn m) h is = is
to_cleared plan node M b (Returned cause marks None) h is = is
to_cleared plan node M b (Returned cause marks (Some s)) h is = (is.0, back_to plan node M s.octets s.way h.taken is.1)
to_cleared plan node M b (Connection m) h is = is
to_cleared plan node M b (Management m) h is = is
to_cleared plan node M b (Undecodable fault) h is = is

from_cleared : (plan : Network) (node : ℕ) (M : List Mark) (b : List ℕ) (a : Arrival) (h : Handling)
    → HandlesAs plan node M b (cleared a) h → HandlesAs plan node M b a h
from_cleared plan node M b (Relayed pc octets) h is = is
from_cleared plan node M b (Ended pc ssn octets) h is = is
from_cleared plan node M b (Local ssn m) h is = is
from_cleared plan node M b (Returned cause marks None) h is = is
from_cleared plan node M b (Returned cause marks (Some s)) h is = (is.0, back_from plan node M s.octets s.way h.taken is.1)
from_cleared plan node M b (Connection m) h is = is
from_cleared plan node M b (Management m) h is = is
from_cleared plan node M b (Undecodable fault) h is = is

becomes : (plan : Network) (node origin : ℕ) (b : List ℕ) (M : List Mark) (o : Outcome) → Among o (outcomes plan node origin b)
    → meets M o.condition ≡ true → cleared (arrival plan node M origin b) ≡ o.arrival
becomes plan node origin b M o at met =
    All-among (Becomes plan node origin b M) o (outcomes plan node origin b)
    (All-from_recursion (Becomes plan node origin b M) (outcomes plan node origin b) (each_outcome plan node origin b M)) at met

pub handled_each : (plan : Network) (node origin : ℕ) (b : List ℕ) (c : Condition) (L M : List Mark) (h : Handling)
    → HasCondition c (ways plan node origin b) → meets L c ≡ true → meets M c ≡ true
    → Handles plan node L origin b h → Handles plan node M origin b h
unfolding ways
handled_each plan node origin b c L M h has l k is =
    let o = has_outcome (possible_ways plan node) c (outcomes plan node origin b) has in
    let own = has_possible plan node c o.0 o.2 in
    let here = becomes plan node origin b L o.0 o.1 (outcome_met plan node o.0.condition c o.0.arrival L own l) in
    let there = becomes plan node origin b M o.0 o.1 (outcome_met plan node o.0.condition c o.0.arrival M own k) in
    let plain = to_cleared plan node L b (arrival plan node L origin b) h is in
    let moved = handled_on plan node origin b o.0 c o.0.arrival L M h o.1 refl own l k
    (subst (λ (a : Arrival). HandlesAs plan node L b a h) here plain) in
    from_cleared plan node M b (arrival plan node M origin b) h (subst (λ (a : Arrival). HandlesAs plan node M b a h) (sym there) moved)

pub handled_if : (plan : Network) (node origin : ℕ) (b : List ℕ) (c : Condition) (L : List Mark) (r : Result Handling OutOfMemory)
    → meets L c ≡ true → IfOk r (Handles plan node L origin b) → IfOk r (HandlesIf plan node origin b c)
handled_if plan node origin b c L (Ok h) met is = λ has M k. handled_each plan node origin b c L M h has met k is
handled_if plan node origin b c L (Err fault) met is = tt

-- no marking meets the condition
pub handled_never : (plan : Network) (node origin : ℕ) (b : List ℕ) (c : Condition) (h : Handling) → is_possible c ≡ false
    → HandlesIf plan node origin b c h
handled_never plan node origin b c h e has M met = absurd (goes_not (met_possible M c met) e) where
  goes_not : is_possible c ≡ true → is_possible c ≡ false → ⊥
  goes_not f g = cc
