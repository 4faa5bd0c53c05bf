-- one turn of a trip
use Rattle.std.specs.Prelude.{◌≡◌, ℕ, ◌-◌, ◌<◌, List, [], ◌∷◌, Some, length, refl}
use Rattle.std.proofs.Common.{zero, suc, sym, ◌∙◌, ap, arith}
use Rattle.sccp_base.specs.declared.mark.Mark.{Mark}
use Rattle.sccp_message.specs.Reading.{reading}
use Rattle.plan_model.specs.Network.{Network, IsPlan, node_of}
use Rattle.sccp_scrc.specs.Arriving.{arrival, point_of}
use Rattle.sccp_scrc.specs.declared.arrival.Arrival.{Arrival}
use Rattle.sccp_scrc.specs.declared.arrival.Arrival.TheVariants.{Relayed}
use Rattle.sccp_scrc.specs.declared.arrival.Arrival.TheVariants as arrivals
use Rattle.sccp_scrc.proofs.Meaning.{Means, means}
use Rattle.relay_net.specs.Journeys.{Trip, trip, after, held_at, onward, travel, most_arrivals, trip_of, last_node}

pub travel_turn : (plan : Network) (states : List (List Mark)) (left node origin : ℕ) (b : List ℕ) → 0 < left
    → travel plan states left node origin b ≡ onward plan node (arrival plan node (held_at states node) origin b)
    (λ next from octets. travel plan states (left - 1) next from octets)
travel_turn plan states zero node origin b lt = absurd (omega arith)
travel_turn plan states (suc left) node origin b lt = let e : left ≡ suc left - 1 =
    omega arith in ap (λ n. onward plan node (arrival plan node (held_at states node) origin b)
    (λ next from octets. travel plan states n next from octets)) e

pub relayed_turn : (plan : Network) (states : List (List Mark)) (left node origin : ℕ) (b : List ℕ) (x : Arrival) (pc : ℕ) (octets : List ℕ)
    (next from : ℕ) (there : List ℕ) → 0 < left → x ≡ arrival plan node (held_at states node) origin b → x ≡ Relayed pc octets
    → next ≡ node_of plan.nodes pc → from ≡ point_of plan node → there ≡ octets →
    travel plan states left node origin b ≡ after node (travel plan states (left - 1) next from there)
relayed_turn plan states left node origin b x pc octets next from there lt e r n f o =
    let follow : ℕ → ℕ → List ℕ → Trip = λ u v w. travel plan states (left - 1) u v w in
    travel_turn plan states left node origin b lt
    ∙ (ap (λ y. onward plan node y follow) (sym e ∙ r)
    ∙ (λ i. after node (follow (sym n i) (sym f i) (sym o i))))

pub last_turn : (plan : Network) (states : List (List Mark)) (left node origin : ℕ) (b : List ℕ) (x : Arrival) → 0 < left
    → x ≡ arrival plan node (held_at states node) origin b → ((pc : ℕ) (octets : List ℕ) → x ≡ Relayed pc octets → ⊥)
    → travel plan states left node origin b ≡ trip (node ∷ []) (Some x)
last_turn plan states left node origin b x lt e never =
    let follow : ℕ → ℕ → List ℕ → Trip = λ u v w. travel plan states (left - 1) u v w in
    travel_turn plan states left node origin b lt ∙ (ap (λ y. onward plan node y follow) (sym e) ∙ stays x never)
  where
    stays : (x : Arrival) → ((pc : ℕ) (octets : List ℕ) → x ≡ Relayed pc octets → ⊥)
        → onward plan node x (λ u v w. travel plan states (left - 1) u v w) ≡ trip (node ∷ []) (Some x)
    stays (Relayed pc octets) never = absurd (never pc octets refl)
    stays (arrivals.Ended pc ssn octets) never = refl
    stays (arrivals.Local ssn m) never = refl
    stays (arrivals.Returned cause marks service) never = refl
    stays (arrivals.Connection m) never = refl
    stays (arrivals.Management m) never = refl
    stays (arrivals.Undecodable fault) never = refl

-- ---- the last node

-- the last node of a trip is one of the plan
last_on : (plan : Network) (marking : List Mark) (b : List ℕ) (first node : ℕ) (x : Arrival) (follow : ℕ → ℕ → List ℕ → Trip)
    → node < length plan.nodes → Means plan node marking b x
    → ((next from : ℕ) (octets : List ℕ) → next < length plan.nodes → last_node node (follow next from octets).path < length plan.nodes) →
    last_node first (onward plan node x follow).path < length plan.nodes
last_on plan marking b first node (Relayed pc octets) follow lt m h = h (node_of plan.nodes pc) (point_of plan node) octets m.relay
last_on plan marking b first node (arrivals.Ended pc ssn octets) follow lt m h = lt
last_on plan marking b first node (arrivals.Local ssn new) follow lt m h = lt
last_on plan marking b first node (arrivals.Returned cause marks service) follow lt m h = lt
last_on plan marking b first node (arrivals.Connection new) follow lt m h = lt
last_on plan marking b first node (arrivals.Management new) follow lt m h = lt
last_on plan marking b first node (arrivals.Undecodable fault) follow lt m h = lt

last_within : (plan : Network) (states : List (List Mark)) (left first node origin : ℕ) (b : List ℕ) → IsPlan plan
    → first < length plan.nodes → node < length plan.nodes
    → last_node first (travel plan states left node origin b).path < length plan.nodes
last_within plan states zero first node origin b is lt at = lt
last_within plan states (suc left) first node origin b is lt at =
    last_on plan (held_at states node) b first node (arrival plan node (held_at states node) origin b)
    (λ next from octets. travel plan states left next from octets) at (means plan node (held_at states node) origin b is)
    (λ next from octets within. last_within plan states left node next from octets is at within)

pub last_of_trip : (plan : Network) (states : List (List Mark)) (entry origin : ℕ) (b : List ℕ) → IsPlan plan → entry < length plan.nodes
    → last_node 0 (trip_of plan states entry origin b).path < length plan.nodes
last_of_trip plan states entry origin b is lt = let some : 0 < length plan.nodes = omega (arith, lt) in last_within plan states
    (most_arrivals (reading b)) 0 entry origin b is some lt
