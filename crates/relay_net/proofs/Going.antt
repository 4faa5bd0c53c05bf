-- under a safe plan the journey of a covered message follows the title's way to a good end
use Rattle.std.specs.Prelude.{◌≡◌, ℕ, ◌<◌, ◌≤◌, ◌==◌, Bool, true, false, List, [], ◌∷◌, length, Option, Some, IfSome, is_some, refl}
use Rattle.std.specs.Prelude.{if◌then◌else◌, Ok, Err}
use Rattle.std.proofs.Common.{zero, suc, sym, ◌∙◌, ap, subst, arith}
use Rattle.std.proofs.lemmas.Bool.{eqb-true, eq-eqb, false≢true}
use Rattle.sccp_base.specs.Marks.{holds}
use Rattle.sccp_base.specs.declared.mark.Mark.{Mark}
use Rattle.sccp_base.specs.declared.mark.Mark.TheVariants.{Subsystem}
use Rattle.sccp_address.specs.declared.address.Address.{Address}
use Rattle.sccp_address.proofs.Kept.{AreOctets}
use Rattle.sccp_message.specs.declared.message.Message.{Message}
use Rattle.sccp_message.specs.Reading.{reading}
use Rattle.sccp_message.specs.Written.{message_octets}
use Rattle.sccp_message.specs.Unitdata.{hops_of}
use Rattle.plan_model.specs.declared.spot.Spot.{Spot}
use Rattle.plan_model.specs.declared.hop.Step.{Step}
use Rattle.plan_model.specs.declared.hop.Step.TheVariants as steps
use Rattle.plan_model.specs.Network.{Network, IsPlan, node_of}
use Rattle.plan_model.specs.Next.{next_of}
use Rattle.plan_model.specs.Steps.{step}
use Rattle.plan_model.specs.Covered.{IsAllowed}
use Rattle.plan_model.specs.Verdicts.{Safe}
use Rattle.plan_model.proofs.Leading.{Facts, step_facts}
use Rattle.plan_model.proofs.Within.{Within, not_within, within_next, within_end}
use Rattle.sccp_scrc.specs.declared.arrival.Arrival.{Arrival}
use Rattle.sccp_scrc.specs.declared.arrival.Arrival.TheVariants as arrivals
use Rattle.sccp_scrc.specs.Unitdata.{redirected, octets_of}
use Rattle.sccp_scrc.specs.Rewriting.{one_less, to_relay, to_place, rewritten}
use Rattle.sccp_scrc.specs.Returning.{service_for}
use Rattle.sccp_scrc.specs.Unchanged.{SameData, IsFor}
use Rattle.sccp_scrc.specs.Arriving.{point_of, leaving, after_step}
use Rattle.sccp_scrc.proofs.Redirected.{redirected-twice, redirected-own, own_hops, hops-redirected, octets_written}
use Rattle.sccp_scrc.proofs.Addresses.{IsSpot, IsSpot-sent}
use Rattle.sccp_scrc.proofs.Arrivals.{Carries, IsTitled-read, IsTitled-reads, spot_title, not_last, counts_down, arrives, relayed_octets}
use Rattle.sccp_scrc.proofs.Arrivals.{Carries-relayed, next_again, Writable-placed, placed_reads, ended_ssn, IsOpen, open_place}
use Rattle.relay_net.specs.Journeys.{Trip, trip, after, held_at, onward, travel, most_arrivals, trip_of, end_at, end_of, journey}
use Rattle.relay_net.specs.Headline.{Follows, IsGoodEnd, IsCoveredMessage, GoesWell}

-- what is to be shown of a trip from a spot on
record Went (plan : Network) (states : List (List Mark)) (allowed : ℕ → ℕ
    → Type 0) (n : ℕ) (first : Message) (s : Spot) (t : Trip) : Type 0 where
  few : length t.path ≤ n
  stop : Spot
  way : Follows plan states s t.path stop
  good : IsGoodEnd plan allowed first stop (held_at states stop.node) (end_of t.last)

abbrev Claim : Network → List (List Mark) → (ℕ → ℕ → Type 0) → Message → ℕ → ℕ → Type 0
Claim plan states allowed first n left =
    (m : Message) (a : Address) (s : Spot) (origin : ℕ) (b : List ℕ) → reading b ≡ Ok m → Carries m a s → Within plan allowed n s
    → IfSome (hops_of m) (λ h. n < h) → SameData first m →
    Went plan states allowed n first s (travel plan states left s.node origin b)

-- the same data after a change of the called address
redirected_data : (first m : Message) (x : Address) → SameData first m → SameData first (redirected x one_less m)
redirected_data first m x d = record {
  called = x;
  hops = one_less d.hops;
  same = ap (redirected x one_less) d.same ∙ redirected-twice x d.called d.hops (one_less d.hops) one_less first refl;
}

for_place : (first m : Message) (a : Address) (ssn : ℕ) → SameData first m → IsFor ssn first (redirected (to_place a ssn) one_less m)
unfolding redirected_data
for_place first m a ssn d = let r = redirected_data first m (to_place a ssn) d in record
    { called = to_place a ssn; hops = one_less d.hops; same = r.same; on_ssn = refl; subsystem = refl }

-- one more node in front
in_front : (plan : Network) (states : List (List Mark)) (s next stop : Spot) (path : List ℕ)
    → next_of (step plan s (held_at states s.node)) ≡ Some next → Follows plan states next path stop
    → Follows plan states s (s.node ∷ path) stop
in_front plan states s next stop [] e h = absurd h
in_front plan states s next stop (p ∷ ps) e h = (refl, next, e, h)

-- the trip ends here
stops : (plan : Network) (states : List (List Mark)) (allowed : ℕ → ℕ → Type 0) (n : ℕ) (first : Message) (s : Spot) (x : Arrival)
    → IsGoodEnd plan allowed first s (held_at states s.node) (end_at x)
    → Went plan states allowed (suc n) first s (trip (s.node ∷ []) (Some x))
stops plan states allowed n first s x good = record { few = omega arith; stop = s; way = (refl, refl); good = good }

-- the trip goes on
goes_on : (plan : Network) (states : List (List Mark)) (allowed : ℕ → ℕ → Type 0) (n : ℕ) (first : Message) (s next : Spot) (t : Trip)
    → next_of (step plan s (held_at states s.node)) ≡ Some next → Went plan states allowed n first next t
    → Went plan states allowed (suc n) first s (after s.node t)
goes_on plan states allowed n first s next t e w = record {
  few = let le : length t.path ≤ n = w.few in let goal : suc (length t.path)
      ≤ suc n = omega (arith, le) in goal;
  stop = w.stop;
  way = in_front plan states s next w.stop t.path e w.way;
  good = w.good;
}

-- a destination at another point or at the node
places : (plan : Network) (states : List (List Mark)) (allowed : ℕ → ℕ
    → Type 0) (n : ℕ) (first m : Message) (a : Address) (s : Spot) (origin pc ssn place : ℕ) (follow : ℕ → ℕ → List ℕ → Trip) (c : Bool)
    → (pc == point_of plan s.node) ≡ c → Carries m a s → SameData first m → IsOpen plan s (held_at states s.node) pc ssn → ssn < 256
    → allowed pc ssn →
    Went plan states allowed (suc n) first s
    (onward plan s.node
    (if c then arrivals.Local ssn (rewritten a (steps.Ended pc ssn place) m)
    else leaving (held_at states s.node) origin m (arrivals.Ended pc ssn) (octets_of (rewritten a (steps.Ended pc ssn place) m))) follow)
places plan states allowed n first m a s origin pc ssn place follow true e c d opens lt ok =
    let own : pc ≡ point_of plan s.node = eqb-true pc (point_of plan s.node) e in
    stops plan states allowed n first s (arrivals.Local ssn (redirected (to_place a ssn) one_less m)) (
      subst (λ p. allowed p ssn) own ok,
      subst (λ p. holds (held_at states s.node) (Subsystem p ssn)
          ≡ false) own opens.subsystem,
      for_place first m a ssn d,
    )
places plan states allowed n first m a s origin pc ssn place follow false e c d opens lt ok =
    let new : Message = redirected (to_place a ssn) one_less m in
    let unmarked = opens.point e in
    subst (λ (o : Option (List ℕ)). Went plan states allowed (suc n) first s
    (onward plan s.node (leaving (held_at states s.node) origin m (arrivals.Ended pc ssn) o) follow))
    (sym (octets_written new (Writable-placed m a s ssn c)))
    (stops plan states allowed n first s (arrivals.Ended pc ssn (message_octets new)) (
      ok,
      (λ own. false≢true (sym e ∙ eq-eqb pc (point_of plan s.node) own)),
      unmarked.0,
      unmarked.1,
      opens.subsystem,
      (new, placed_reads m a s ssn c.titled lt, for_place first m a ssn d),
    ))

-- one arrival, by what the step is
turn : (plan : Network) (states : List (List Mark)) (allowed : ℕ → ℕ → Type 0) (n left : ℕ) (first m : Message) (a : Address) (s : Spot)
    (origin : ℕ) (x : Step) → IsPlan plan → suc n ≤ 14 → Claim plan states allowed first n left → Carries m a s
    → Within plan allowed (suc n) s → IfSome (hops_of m) (λ h. suc n < h) → SameData first m →
    step plan s (held_at states s.node) ≡ x → Facts plan s (held_at states s.node) x →
    Went plan states allowed (suc n) first s (onward plan s.node (after_step plan s.node (held_at states s.node) origin m a x)
    (λ next from octets. travel plan states left next from octets))
turn plan states allowed n left first m a s origin (steps.Sent next place) is le ih c w hops d e facts =
    let follow : ℕ → ℕ → List ℕ → Trip = λ next from octets. travel plan states left next from octets in
    let new : Message = redirected (to_relay a next) one_less m in
    let spot : IsSpot next = IsSpot-sent plan s next is c.titled.spot facts in
    let carried : Carries new (to_relay a next) next = Carries-relayed m a s next c spot in
    let counter : IfSome (hops_of new) (λ h. n < h) = subst (λ (o : Option ℕ). IfSome o (λ h. n < h))
    (sym (hops-redirected (to_relay a next) one_less m)) (counts_down (hops_of m) n le hops) in
    subst (λ (o : Option (List ℕ)). Went plan states allowed (suc n) first s
    (onward plan s.node (leaving (held_at states s.node) origin m (arrivals.Relayed (point_of plan next.node)) o) follow))
    (sym (relayed_octets m a s next c spot))
    (goes_on plan states allowed n first s next (travel plan states left (node_of plan.nodes (point_of plan next.node))
    (point_of plan s.node) (message_octets new)) (ap next_of e)
    (subst (λ k. Went plan states allowed n first next (travel plan states left k (point_of plan s.node) (message_octets new)))
    (sym (next_again plan s next is facts))
    (ih new (to_relay a next) next (point_of plan s.node) (message_octets new)
    (IsTitled-reads new (to_relay a next) next carried.titled) carried
    (within_next plan allowed n s next (held_at states s.node) place w e) counter (redirected_data first m (to_relay a next) d))))
turn plan states allowed n left first m a s origin (steps.Ended pc ssn place) is le ih c w hops d e facts =
    places plan states allowed n first m a s origin pc ssn place (λ next from octets. travel plan states left next from octets)
    (pc == point_of plan s.node) refl c d (open_place plan s (held_at states s.node) pc ssn facts)
    (ended_ssn plan s (held_at states s.node) pc ssn is c.titled.spot facts)
    (within_end plan allowed n s (held_at states s.node) (steps.Ended pc ssn place) w e refl)
turn plan states allowed n left first m a s origin (steps.Blocked cause shut) is le ih c w hops d e facts =
    stops plan states allowed n first s (arrivals.Returned cause shut (service_for (held_at states s.node) origin cause m)) facts
turn plan states allowed n left first m a s origin (steps.NoRow cause) is le ih c w hops d e facts =
    absurd (within_end plan allowed n s (held_at states s.node) (steps.NoRow cause) w e refl)
turn plan states allowed n left first m a s origin steps.Overgrown is le ih c w hops d e facts =
    absurd (within_end plan allowed n s (held_at states s.node) steps.Overgrown w e refl)

goes : (plan : Network) (states : List (List Mark)) (allowed : ℕ → ℕ → Type 0) (first : Message) (n left : ℕ) → IsPlan plan → n ≤ 14
    → n ≤ left → Claim plan states allowed first n left
goes plan states allowed first zero left is le fits m a s origin b reads c w hops d = absurd (not_within plan allowed s w)
goes plan states allowed first (suc n) zero is le fits m a s origin b reads c w hops d = absurd (omega (arith, fits))
goes plan states allowed first (suc n) (suc left) is le fits m a s origin b reads c w hops d =
    let marking : List Mark = held_at states s.node in
    subst (λ (x : Arrival). Went plan states allowed (suc n) first s
    (onward plan s.node x (λ next from octets. travel plan states left next from octets)))
    (sym (arrives plan marking origin b m a s reads c.titled (not_last (hops_of m) n hops)))
    (turn plan states allowed n left first m a s origin (step plan s marking) is le
    (goes plan states allowed first n left is (omega arith) (omega arith)) c w hops d refl (step_facts plan is s marking))

-- ---- the headline

enough : (b : List ℕ) → 14 ≤ most_arrivals (reading b)
enough b = elim (reading b) as (λ r. 14 ≤ most_arrivals r) [ Ok m ↦ some (is_some (hops_of m)) | Err f ↦ omega arith ]
  where
    some : (c : Bool) → 14 ≤ (if c then 15 else 14)
    some true = omega arith
    some false = omega arith

begins : (plan : Network) (bound entry : ℕ) (b : List ℕ) (m : Message) (s : Spot) → AreOctets b
    → (h : IsCoveredMessage plan bound entry b m s) → Carries m h.called s
begins plan bound entry b m s octets h =
    record { titled = IsTitled-read b entry m h.called s octets h.reads h.connectionless h.by_title h.at; room = h.room }

pub goes_well : (plan : Network) (bound : ℕ) (states : List (List Mark)) (entry origin : ℕ) (b : List ℕ) (m : Message) (s : Spot) →
    IsPlan plan → bound ≤ 14 → Safe plan bound → AreOctets b → IsCoveredMessage plan bound entry b m s →
    GoesWell plan states bound m s (journey plan states entry origin b).path (journey plan states entry origin b).end
goes_well plan bound states entry origin b m s is le safe octets h =
    let start = begins plan bound entry b m s octets h in
    let w : Went plan states (IsAllowed plan s) bound m s (travel plan states (most_arrivals (reading b)) s.node origin b) =
    goes plan states (IsAllowed plan s) m bound (most_arrivals (reading b)) is le
    (omega (arith, le, enough b)) m h.called s origin b h.reads start
    (λ ms len. safe s ms h.covered len) h.hops
    (record { called = h.called; hops = own_hops (hops_of m); same = redirected-own h.called m h.connectionless }) in
    let w' : Went plan states (IsAllowed plan s) bound m s (trip_of plan states entry origin b) =
    subst (λ k. Went plan states (IsAllowed plan s) bound m s (travel plan states (most_arrivals (reading b)) k origin b))
    (sym (spot_title entry h.called s h.at).2) w in
    record { few = w'.few; stop = w'.stop; way = w'.way; good = w'.good }
