-- The ways of octets are what the node sends because of them over all markings.
use Rattle.std.proofs.Common.{◌≡◌, ℕ, ◌<◌, Bool, true, false, cond, List, [], ◌∷◌, ◌++◌, length, Option, Some, None, refl, sym, ◌∙◌, ap}
use Rattle.std.proofs.Common.{subst, not, ◌&&◌, ◌||◌}
use Rattle.std.specs.Prelude.{◌==◌, is_some, option_map, if◌then◌else◌, unwrap_or, Result, Ok, Err, IsSome}
use Rattle.std.specs.List.{AllByRecursion, filter, flat_map, list_any}
use Rattle.std.specs.Option.{option_map_or, option_and_then}
use Rattle.std.proofs.lemmas.Bool.{and_parts}
use Rattle.std.proofs.lemmas.List.Elements.{All-from_recursion}
use Rattle.std.proofs.lemmas.List.Folds.{list_any-append}
use Rattle.sccp_base.specs.Marks.{holds}
use Rattle.sccp_base.specs.declared.mark.Mark.{Mark}
use Rattle.sccp_base.specs.declared.mark.Mark.TheVariants.{PointCode, Sccp, Subsystem}
use Rattle.sccp_address.specs.declared.address.Address.{Address}
use Rattle.sccp_message.specs.declared.message.Message.{Message}
use Rattle.sccp_message.specs.declared.fault.DecodeFault.{DecodeFault}
use Rattle.sccp_message.specs.declared.message.Message.TheVariants as messages
use Rattle.sccp_message.specs.Reading.{reading}
use Rattle.sccp_message.specs.Unitdata.{called_of, hops_of}
use Rattle.plan_model.specs.declared.spot.Spot.{Spot}
use Rattle.plan_model.specs.declared.hop.Step.{Step}
use Rattle.plan_model.specs.declared.hop.Step.TheVariants as steps
use Rattle.plan_model.specs.Network.{Network, IsPlan}
use Rattle.plan_model.specs.Steps.{step}
use Rattle.sccp_scrc.specs.Arriving.{arrival, after_step, leaving, at_subsystem, translated, by_called, of_message, is_last_hop, point_of}
use Rattle.sccp_scrc.specs.Arriving.{subsystems_of}
use Rattle.sccp_scrc.specs.Returning.{way_to, way_back, asks_for_return, service_message, service_by, returned}
use Rattle.sccp_scrc.specs.Rewriting.{rewritten, spot_of}
use Rattle.sccp_scrc.specs.Unitdata.{octets_of}
use Rattle.sccp_scrc.specs.declared.arrival.Arrival.{Arrival}
use Rattle.sccp_scrc.specs.declared.arrival.Arrival.TheVariants.{Relayed, Ended, Local, Returned, Connection, Management, Undecodable}
use Rattle.sccp_scrc.specs.declared.service.Service.{Service}
use Rattle.sccp_scrc.specs.declared.way.Way as back
use Rattle.sccp_scrc.specs.declared.way.Way.TheVariants.{Direct, Shut, ByTitle}
use Rattle.relay_ways.specs.Conditions.{held, meets, is_possible, both}
use Rattle.relay_ways.specs.Outcomes.{Outcome, outcomes, cleared_way, cleared_service, cleared, Becomes}
use Rattle.relay_ways.specs.Sends.{sending, forwarded, service_sent, sent_of, sends}
use Rattle.relay_ways.specs.Ways.{way_if, reaches, forwarded_way, service_ways, ways_of, possible_ways, ways, AreWays}
use Rattle.relay_ways.specs.declared.condition.Condition.{Condition}
use Rattle.relay_ways.specs.declared.way.Sending.{Sending}
use Rattle.relay_ways.specs.declared.way.Way.{Way}
use Rattle.relay_ways.proofs.OutcomeLemmas.{each_outcome, one_outcome}
use Rattle.relay_ways.proofs.Possible.{meets_both, met_possible, parts_met}

-- What is sent under a marking, said of an arrival in which no way is shut.

abbrev pub service_free : Network → ℕ → List Mark → List ℕ → back.Way → Option Sending
service_free plan node M octets (Direct pc) = if held M (PointCode pc ∷ Sccp pc ∷ []) then None else Some (sending pc octets)
service_free plan node M octets (Shut mark) = None
service_free plan node M octets ByTitle = forwarded (arrival plan node M (point_of plan node) octets)

abbrev pub free_of : Network → ℕ → List Mark → Arrival → Option Sending
free_of plan node M (Relayed pc octets) = Some (sending pc octets)
free_of plan node M (Ended pc ssn octets) = Some (sending pc octets)
free_of plan node M (Local ssn m) = None
free_of plan node M (Returned cause marks service) = option_and_then (λ s. service_free plan node M s.octets s.way) service
free_of plan node M (Connection m) = None
free_of plan node M (Management m) = None
free_of plan node M (Undecodable fault) = None

-- it is the same
abbrev Fits : Network → ℕ → List Mark → Arrival → Type 0
Fits plan node M a = sent_of plan node M a ≡ free_of plan node M (cleared a)

fits_to : (plan : Network) (node : ℕ) (M : List Mark) (octets : List ℕ) (pc : ℕ)
    → service_sent plan node M octets (way_to M pc) ≡ service_free plan node M octets (cleared_way (way_to M pc))
fits_to plan node M octets pc = by (holds M (PointCode pc)) (holds M (Sccp pc)) refl refl where
  by : (p q : Bool) → holds M (PointCode pc) ≡ p → holds M (Sccp pc) ≡ q
      → service_sent plan node M octets (option_map_or Shut (cond p (Some (PointCode pc)) (cond q (Some (Sccp pc)) None)) (Direct pc))
      ≡ service_free plan node M octets
      (cleared_way (option_map_or Shut (cond p (Some (PointCode pc)) (cond q (Some (Sccp pc)) None)) (Direct pc)))
  by true q e f = rw e refl
  by false true e f = rw (e, f) refl
  by false false e f = rw (e, f) refl

fits_back : (plan : Network) (node : ℕ) (M : List Mark) (octets : List ℕ) (origin : ℕ) (a : Address)
    → service_sent plan node M octets (way_back M origin a) ≡ service_free plan node M octets (cleared_way (way_back M origin a))
fits_back plan node M octets origin a = by (not a.by_ssn && is_some (spot_of 0 a)) where
  by : (b : Bool) → service_sent plan node M octets (if b then ByTitle else way_to M (unwrap_or a.pc origin))
      ≡ service_free plan node M octets (cleared_way (if b then ByTitle else way_to M (unwrap_or a.pc origin)))
  by true = refl
  by false = fits_to plan node M octets (unwrap_or a.pc origin)

fits_toward : (plan : Network) (node : ℕ) (M : List Mark) (octets : List ℕ) (origin : ℕ) (o : Option Address) → IsSome o
    → service_sent plan node M octets (option_map_or (way_back M origin) o (Direct origin))
    ≡ service_free plan node M octets (cleared_way (option_map_or (way_back M origin) o (Direct origin)))
fits_toward plan node M octets origin (Some a) is = fits_back plan node M octets origin a
fits_toward plan node M octets origin None is = absurd cc

abbrev sent_service : Network → ℕ → List Mark → Option Service → Option Sending
sent_service plan node M service = option_and_then (λ s. service_sent plan node M s.octets s.way) service

abbrev free_service : Network → ℕ → List Mark → Option Service → Option Sending
free_service plan node M service = option_and_then (λ s. service_free plan node M s.octets s.way) service

fits_by : (plan : Network) (node : ℕ) (M : List Mark) (origin : ℕ) (m : Message) → IsSome (called_of m)
    → sent_service plan node M (service_by M origin m) ≡ free_service plan node M (option_map cleared_service (service_by M origin m))
fits_by plan node M origin m is = by (octets_of m) where
  by : (o : Option (List ℕ))
      → sent_service plan node M
      (option_map (λ octets. record { octets = octets; way = option_map_or (way_back M origin) (called_of m) (Direct origin) }) o)
      ≡ free_service plan node M (option_map cleared_service
      (option_map (λ octets. record { octets = octets; way = option_map_or (way_back M origin) (called_of m) (Direct origin) }) o))
  by None = refl
  by (Some octets) = fits_toward plan node M octets origin (called_of m) is

-- a service message has a called address
service_called : (cause : ℕ) (m s : Message) → service_message cause m ≡ Some s → IsSome (called_of s)
service_called cause (messages.Udt class called calling payload) s e =
    let same : messages.Udts cause calling called payload ≡ s = cc in
    subst (λ (x : Message). IsSome (called_of x)) same refl
service_called cause (messages.Xudt class hops called calling payload params) s e =
    let same : messages.Xudts cause 15 calling called payload params ≡ s = cc in
    subst (λ (x : Message). IsSome (called_of x)) same refl
service_called cause (messages.Ludt class hops called calling payload params) s e =
    let same : messages.Ludts cause 15 calling called payload params ≡ s = cc in
    subst (λ (x : Message). IsSome (called_of x)) same refl
service_called cause m s e = absurd cc

fits_if : (plan : Network) (node : ℕ) (M : List Mark) (origin : ℕ) (asks : Bool) (made : Option Message)
    → ((s : Message) → made ≡ Some s → IsSome (called_of s))
    → sent_service plan node M (if asks then option_and_then (service_by M origin) made else None)
    ≡ free_service plan node M (option_map cleared_service (if asks then option_and_then (service_by M origin) made else None))
fits_if plan node M origin false made is = refl
fits_if plan node M origin true None is = refl
fits_if plan node M origin true (Some m) is = fits_by plan node M origin m (is m refl)

fits_returned : (plan : Network) (node : ℕ) (M : List Mark) (origin : ℕ) (m : Message) (cause : ℕ) (marks : List Mark)
    → Fits plan node M (returned M origin m cause marks)
fits_returned plan node M origin m cause marks =
    fits_if plan node M origin (asks_for_return m) (service_message cause m) (service_called cause m)

fits_leaving : (plan : Network) (node : ℕ) (M : List Mark) (origin : ℕ) (m : Message) (as_octets : List ℕ → Arrival) (o : Option (List ℕ))
    → ((octets : List ℕ) → Fits plan node M (as_octets octets)) → Fits plan node M (leaving M origin m as_octets o)
fits_leaving plan node M origin m as_octets (Some octets) same = same octets
fits_leaving plan node M origin m as_octets None same = fits_returned plan node M origin m 9 []

fits_step : (plan : Network) (node : ℕ) (M : List Mark) (origin : ℕ) (m : Message) (a : Address) (s : Step)
    → Fits plan node M (after_step plan node M origin m a s)
fits_step plan node M origin m a (steps.Sent next target) =
    fits_leaving plan node M origin m (Relayed (point_of plan next.node)) (octets_of (rewritten a (steps.Sent next target) m))
    (λ octets. refl)
fits_step plan node M origin m a (steps.Ended pc ssn target) = by (pc == point_of plan node) where
  by : (own : Bool) → Fits plan node M (if own then Local ssn (rewritten a (steps.Ended pc ssn target) m)
      else leaving M origin m (Ended pc ssn) (octets_of (rewritten a (steps.Ended pc ssn target) m)))
  by true = refl
  by false = fits_leaving plan node M origin m (Ended pc ssn) (octets_of (rewritten a (steps.Ended pc ssn target) m)) (λ octets. refl)
fits_step plan node M origin m a (steps.Blocked cause marks) = fits_returned plan node M origin m cause marks
fits_step plan node M origin m a (steps.NoRow cause) = fits_returned plan node M origin m cause []
fits_step plan node M origin m a steps.Overgrown = fits_returned plan node M origin m 9 []

fits_subsystem : (plan : Network) (node : ℕ) (M : List Mark) (origin : ℕ) (m : Message) (o : Option ℕ)
    → Fits plan node M (at_subsystem plan node M origin m o)
fits_subsystem plan node M origin m None = fits_returned plan node M origin m 4 []
fits_subsystem plan node M origin m (Some ssn) =
    by (ssn == 1) (list_any (λ own. own == ssn) (subsystems_of plan node)) (holds M (Subsystem (point_of plan node) ssn)) where
      by : (managed own shut : Bool) → Fits plan node M (if managed then Management m
          else if not own then returned M origin m 4 []
          else if shut then returned M origin m 3 (Subsystem (point_of plan node) ssn ∷ [])
          else Local ssn m)
      by true own shut = refl
      by false false shut = fits_returned plan node M origin m 4 []
      by false true true = fits_returned plan node M origin m 3 (Subsystem (point_of plan node) ssn ∷ [])
      by false true false = refl

fits_translated : (plan : Network) (node : ℕ) (M : List Mark) (origin : ℕ) (m : Message) (a : Address) (o : Option Spot)
    → Fits plan node M (translated plan node M origin m a o)
fits_translated plan node M origin m a None = fits_returned plan node M origin m 0 []
fits_translated plan node M origin m a (Some spot) = fits_step plan node M origin m a (step plan spot M)

fits_called : (plan : Network) (node : ℕ) (M : List Mark) (origin : ℕ) (m : Message) (o : Option Address)
    → Fits plan node M (by_called plan node M origin m o)
fits_called plan node M origin m None = refl
fits_called plan node M origin m (Some a) = by a.by_ssn (is_last_hop (hops_of m)) where
  by : (by_ssn last : Bool) → Fits plan node M (if by_ssn then at_subsystem plan node M origin m a.ssn
      else if last then returned M origin m 12 []
      else translated plan node M origin m a (spot_of node a))
  by true last = fits_subsystem plan node M origin m a.ssn
  by false true = fits_returned plan node M origin m 12 []
  by false false = fits_translated plan node M origin m a (spot_of node a)

fits_read : (plan : Network) (node : ℕ) (M : List Mark) (origin : ℕ) (r : Result Message DecodeFault)
    → Fits plan node M (of_message plan node M origin r)
fits_read plan node M origin (Err fault) = refl
fits_read plan node M origin (Ok m) = fits_called plan node M origin m (called_of m)

fits : (plan : Network) (node : ℕ) (M : List Mark) (origin : ℕ) (b : List ℕ)
    → sends plan node M origin b ≡ free_of plan node M (cleared (arrival plan node M origin b))
fits plan node M origin b = fits_read plan node M origin (reading b)

-- The ways of an outcome.

-- what a way says, if its condition is met
abbrev Says : Network → ℕ → List Mark → Condition → Arrival → Way → Type 0
Says plan node M c a w = meets M w.condition ≡ true → (meets M c ≡ true) × (free_of plan node M a ≡ Some w.sending)

pub forwarded_cleared : (a : Arrival) → forwarded (cleared a) ≡ forwarded a
forwarded_cleared (Relayed pc octets) = refl
forwarded_cleared (Ended pc ssn octets) = refl
forwarded_cleared (Local ssn m) = refl
forwarded_cleared (Returned cause marks service) = refl
forwarded_cleared (Connection m) = refl
forwarded_cleared (Management m) = refl
forwarded_cleared (Undecodable fault) = refl

each_append : {X : Type 0} (P : X → Type 0) (xs ys : List X) → AllByRecursion P xs → AllByRecursion P ys → AllByRecursion P (xs ++ ys)
each_append P [] ys a b = b
each_append P (x ∷ xs) ys a b = (a.0, each_append P xs ys a.1 b)

-- what the node forwards of a service message under this marking
abbrev Forwards : Network → ℕ → List Mark → Condition → List ℕ → Way → Type 0
Forwards plan node M c octets w = meets M w.condition ≡ true
    → (meets M c ≡ true) × (forwarded (arrival plan node M (point_of plan node) octets) ≡ Some w.sending)

each_if : (plan : Network) (node : ℕ) (M : List Mark) (c : Condition) (octets : List ℕ) (o : Outcome) (s : Option Sending)
    → Becomes plan node (point_of plan node) octets M o → forwarded o.arrival ≡ s
    → AllByRecursion (Forwards plan node M c octets) (way_if (both c o.condition) s)
each_if plan node M c octets o None becomes e = tt
each_if plan node M c octets o (Some s) becomes e = (
  λ met.
      let p = and_parts (meets M c) (meets M o.condition) (sym (meets_both M c o.condition) ∙ met) in
      (p.0, sym (forwarded_cleared (arrival plan node M (point_of plan node) octets)) ∙ ap forwarded (becomes p.1) ∙ e),
  tt,
)

each_forwarded : (plan : Network) (node : ℕ) (M : List Mark) (c : Condition) (octets : List ℕ) (os : List Outcome)
    → AllByRecursion (Becomes plan node (point_of plan node) octets M) os
    → AllByRecursion (Forwards plan node M c octets) (flat_map (forwarded_way c) os)
each_forwarded plan node M c octets [] all = tt
each_forwarded plan node M c octets (o ∷ os) all =
    each_append (Forwards plan node M c octets) (forwarded_way c o) (flat_map (forwarded_way c) os)
    (each_if plan node M c octets o (forwarded o.arrival) all.0 refl) (each_forwarded plan node M c octets os all.1)

each_service : (plan : Network) (node : ℕ) (M : List Mark) (c : Condition) (octets : List ℕ) (w : back.Way)
    → AllByRecursion (λ v. meets M v.condition ≡ true → (meets M c ≡ true) × (service_free plan node M octets w ≡ Some v.sending))
    (service_ways plan node c octets w)
each_service plan node M c octets (Direct pc) = (
  λ met.
      let p = and_parts (meets M c) (meets M (reaches pc)) (sym (meets_both M c (reaches pc)) ∙ met) in
      (p.0, rw ((parts_met M (reaches pc) p.1).1) refl),
  tt,
)
each_service plan node M c octets (Shut mark) = tt
each_service plan node M c octets ByTitle =
    each_forwarded plan node M c octets (outcomes plan node (point_of plan node) octets)
    (each_outcome plan node (point_of plan node) octets M)

each_way : (plan : Network) (node : ℕ) (M : List Mark) (c : Condition) (a : Arrival)
    → AllByRecursion (Says plan node M c a) (ways_of plan node c a)
each_way plan node M c (Relayed pc octets) = (λ met. (met, refl), tt)
each_way plan node M c (Ended pc ssn octets) = (λ met. (met, refl), tt)
each_way plan node M c (Local ssn m) = tt
each_way plan node M c (Returned cause marks None) = tt
each_way plan node M c (Returned cause marks (Some service)) = each_service plan node M c service.octets service.way
each_way plan node M c (Connection m) = tt
each_way plan node M c (Management m) = tt
each_way plan node M c (Undecodable fault) = tt

-- What is sent has a way.

abbrev any_way : List Mark → List Way → Bool
any_way M found = list_any (λ w. meets M w.condition) found

or_left : (a b : Bool) → a ≡ true → (a || b) ≡ true
or_left true b e = refl
or_left false b e = absurd cc

or_right : (a b : Bool) → b ≡ true → (a || b) ≡ true
or_right true b e = refl
or_right false b e = e

one_if : (M : List Mark) (c d : Condition) (s : Option Sending) → meets M c ≡ true → meets M d ≡ true → IsSome s
    → any_way M (way_if (both c d) s) ≡ true
one_if M c d None e f is = absurd cc
one_if M c d (Some s) e f is = or_left (meets M (both c d)) false (meets_both M c d ∙ rw (e, f) refl)

one_forwarded : (plan : Network) (node : ℕ) (M : List Mark) (c : Condition) (octets : List ℕ) (os : List Outcome)
    → AllByRecursion (Becomes plan node (point_of plan node) octets M) os → list_any (λ o. meets M o.condition) os ≡ true
    → meets M c ≡ true → IsSome (forwarded (arrival plan node M (point_of plan node) octets))
    → any_way M (flat_map (forwarded_way c) os) ≡ true
one_forwarded plan node M c octets [] all some e is = absurd cc
one_forwarded plan node M c octets (o ∷ os) all some e is =
    list_any-append (λ w. meets M w.condition) (forwarded_way c o) (flat_map (forwarded_way c) os)
    ∙ by (meets M o.condition) refl some (λ rest. one_forwarded plan node M c octets os all.1 rest e is) where
      by : (b : Bool) → meets M o.condition ≡ b → (b || list_any (λ o. meets M o.condition) os) ≡ true
          → (list_any (λ o. meets M o.condition) os ≡ true → any_way M (flat_map (forwarded_way c) os) ≡ true)
          → (any_way M (forwarded_way c o) || any_way M (flat_map (forwarded_way c) os)) ≡ true
      by true f any later =
          or_left (any_way M (forwarded_way c o)) (any_way M (flat_map (forwarded_way c) os))
          (one_if M c o.condition (forwarded o.arrival) e f
          (subst (λ (s : Option Sending). IsSome s)
          (sym (forwarded_cleared (arrival plan node M (point_of plan node) octets)) ∙ ap forwarded (all.0 f)) is))
      by false f any later = or_right (any_way M (forwarded_way c o)) (any_way M (flat_map (forwarded_way c) os)) (later any)

one_service : (plan : Network) (node : ℕ) (M : List Mark) (c : Condition) (octets : List ℕ) (w : back.Way) → IsPlan plan
    → node < length plan.nodes → meets M c ≡ true → IsSome (service_free plan node M octets w)
    → any_way M (service_ways plan node c octets w) ≡ true
one_service plan node M c octets (Direct pc) is inside e some =
    by (held M (PointCode pc ∷ Sccp pc ∷ [])) refl some where
      by : (b : Bool) → held M (PointCode pc ∷ Sccp pc ∷ []) ≡ b → IsSome (if b then None else Some (sending pc octets))
          → any_way M (service_ways plan node c octets (Direct pc)) ≡ true
      by true f none = absurd cc
      by false f found =
          or_left (meets M (both c (reaches pc))) false
          (meets_both M c (reaches pc) ∙ ap (λ x. x && meets M (reaches pc)) e ∙ ap (λ x. true && not x) f)
one_service plan node M c octets (Shut mark) is inside e some = absurd cc
one_service plan node M c octets ByTitle is inside e some =
    one_forwarded plan node M c octets (outcomes plan node (point_of plan node) octets)
    (each_outcome plan node (point_of plan node) octets M) (one_outcome plan node (point_of plan node) octets M is inside) e some

one_way : (plan : Network) (node : ℕ) (M : List Mark) (c : Condition) (a : Arrival) → IsPlan plan → node < length plan.nodes
    → meets M c ≡ true → IsSome (free_of plan node M a) → any_way M (ways_of plan node c a) ≡ true
one_way plan node M c (Relayed pc octets) is inside e some = or_left (meets M c) false e
one_way plan node M c (Ended pc ssn octets) is inside e some = or_left (meets M c) false e
one_way plan node M c (Local ssn m) is inside e some = absurd cc
one_way plan node M c (Returned cause marks None) is inside e some = absurd cc
one_way plan node M c (Returned cause marks (Some service)) is inside e some =
    one_service plan node M c service.octets service.way is inside e some
one_way plan node M c (Connection m) is inside e some = absurd cc
one_way plan node M c (Management m) is inside e some = absurd cc
one_way plan node M c (Undecodable fault) is inside e some = absurd cc

-- The possible ways of all outcomes.

each_filter : {X : Type 0} (P : X → Type 0) (p : X → Bool) (xs : List X) → AllByRecursion P xs → AllByRecursion P (filter p xs)
each_filter P p [] all = tt
each_filter P p (x ∷ xs) all =
    elim (p x) as (λ b. AllByRecursion P (cond b (x ∷ filter p xs) (filter p xs))) [
      | true ↦ (all.0, each_filter P p xs all.1)
      | false ↦ each_filter P p xs all.1
    ]

-- a test that only passes what is kept finds the same
any_kept : {X : Type 0} (p q : X → Bool) (xs : List X) → ((x : X) → p x ≡ true → q x ≡ true) → list_any p xs ≡ true
    → list_any p (filter q xs) ≡ true
any_kept p q [] keeps any = any
any_kept p q (x ∷ xs) keeps any = by (p x) (q x) refl refl any (λ rest. any_kept p q xs keeps rest) where
  by : (a b : Bool) → p x ≡ a → q x ≡ b → (a || list_any p xs) ≡ true
      → (list_any p xs ≡ true → list_any p (filter q xs) ≡ true) → list_any p (cond b (x ∷ filter q xs) (filter q xs)) ≡ true
  by true true e f some later = or_left (p x) (list_any p (filter q xs)) e
  by true false e f some later = absurd (off (keeps x e) f) where
    off : q x ≡ true → q x ≡ false → ⊥
    off g h = cc
  by false true e f some later = or_right (p x) (list_any p (filter q xs)) (later some)
  by false false e f some later = later some

-- what a way says of what the node sends
abbrev Sends : Network → ℕ → ℕ → List ℕ → List Mark → Way → Type 0
Sends plan node origin b M w = meets M w.condition ≡ true → sends plan node M origin b ≡ Some w.sending

map_each : {X : Type 0} (P R : X → Type 0) → ((x : X) → P x → R x) → (xs : List X) → AllByRecursion P xs → AllByRecursion R xs
map_each P R f [] a = a
map_each P R f (x ∷ xs) a = (f x a.0, map_each P R f xs a.1)

each_possible_way : (plan : Network) (node origin : ℕ) (b : List ℕ) (M : List Mark) (o : Outcome) → Becomes plan node origin b M o
    → AllByRecursion (Sends plan node origin b M) (possible_ways plan node o)
each_possible_way plan node origin b M o becomes =
    elim (is_possible o.condition) as (λ p. AllByRecursion (Sends plan node origin b M)
    (cond p (filter (λ w. is_possible w.condition) (ways_of plan node o.condition o.arrival)) [])) [
      | true ↦ each_filter (Sends plan node origin b M) (λ w. is_possible w.condition) (ways_of plan node o.condition o.arrival)
          (map_each (Says plan node M o.condition o.arrival) (Sends plan node origin b M)
          (λ w says met. let p = says met in fits plan node M origin b ∙ ap (free_of plan node M) (becomes p.0) ∙ p.1)
          (ways_of plan node o.condition o.arrival) (each_way plan node M o.condition o.arrival))
      | false ↦ tt
    ]

each_of_all : (plan : Network) (node origin : ℕ) (b : List ℕ) (M : List Mark) (os : List Outcome)
    → AllByRecursion (Becomes plan node origin b M) os → AllByRecursion (Sends plan node origin b M) (flat_map (possible_ways plan node) os)
each_of_all plan node origin b M [] all = tt
each_of_all plan node origin b M (o ∷ os) all =
    each_append (Sends plan node origin b M) (possible_ways plan node o) (flat_map (possible_ways plan node) os)
    (each_possible_way plan node origin b M o all.0) (each_of_all plan node origin b M os all.1)

one_possible_way : (plan : Network) (node origin : ℕ) (b : List ℕ) (M : List Mark) (o : Outcome) → IsPlan plan → node < length plan.nodes
    → Becomes plan node origin b M o → meets M o.condition ≡ true → IsSome (sends plan node M origin b)
    → any_way M (possible_ways plan node o) ≡ true
one_possible_way plan node origin b M o is inside becomes e some =
    rw (met_possible M o.condition e)
    (any_kept (λ w. meets M w.condition) (λ w. is_possible w.condition) (ways_of plan node o.condition o.arrival)
    (λ w met. met_possible M w.condition met)
    (one_way plan node M o.condition o.arrival is inside e
    (subst (λ (s : Option Sending). IsSome s) (fits plan node M origin b ∙ ap (free_of plan node M) (becomes e)) some)))

one_of_all : (plan : Network) (node origin : ℕ) (b : List ℕ) (M : List Mark) (os : List Outcome) → IsPlan plan → node < length plan.nodes
    → AllByRecursion (Becomes plan node origin b M) os → list_any (λ o. meets M o.condition) os ≡ true
    → IsSome (sends plan node M origin b) → any_way M (flat_map (possible_ways plan node) os) ≡ true
one_of_all plan node origin b M [] is inside all any some = absurd cc
one_of_all plan node origin b M (o ∷ os) is inside all any some =
    list_any-append (λ w. meets M w.condition) (possible_ways plan node o) (flat_map (possible_ways plan node) os)
    ∙ by (meets M o.condition) refl any (λ rest. one_of_all plan node origin b M os is inside all.1 rest some) where
      by : (p : Bool) → meets M o.condition ≡ p → (p || list_any (λ o. meets M o.condition) os) ≡ true
          → (list_any (λ o. meets M o.condition) os ≡ true → any_way M (flat_map (possible_ways plan node) os) ≡ true)
          → (any_way M (possible_ways plan node o) || any_way M (flat_map (possible_ways plan node) os)) ≡ true
      by true f found later =
          or_left (any_way M (possible_ways plan node o)) (any_way M (flat_map (possible_ways plan node) os))
          (one_possible_way plan node origin b M o is inside all.0 f some)
      by false f found later =
          or_right (any_way M (possible_ways plan node o)) (any_way M (flat_map (possible_ways plan node) os)) (later found)

pub ways_are : (plan : Network) (node origin : ℕ) (b : List ℕ) → IsPlan plan → node < length plan.nodes
    → AreWays plan node origin b (ways plan node origin b)
unfolding ways
ways_are plan node origin b is inside = record {
  each = λ M. All-from_recursion (Sends plan node origin b M) (flat_map (possible_ways plan node) (outcomes plan node origin b))
      (each_of_all plan node origin b M (outcomes plan node origin b) (each_outcome plan node origin b M));
  all = λ M some. one_of_all plan node origin b M (outcomes plan node origin b) is inside (each_outcome plan node origin b M)
      (one_outcome plan node origin b M is inside) some;
}
