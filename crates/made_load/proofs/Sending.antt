-- What is counted of each message, and that it can be.
use Rattle.std.proofs.Common.{◌≡◌, ◌≤◌, ◌<◌, ℕ, zero, suc, ◌+◌, ◌-◌, ◌*◌, ◌%◌, ◌^◌, Bool, true, false, cond, List, [], ◌∷◌, length, Option}
use Rattle.std.proofs.Common.{None, Some, refl, sym, ◌∙◌, ap, subst, arith}
use Rattle.std.proofs.lemmas.List.{length-set}
use Rattle.std.specs.Prelude.{slice_get, ◌==◌, is_some, Result, Ok, Err}
use Rattle.sccp_base.specs.declared.mark.Mark.{Mark}
use Rattle.sccp_message.specs.Reading.{reading}
use Rattle.sccp_message.specs.declared.fault.DecodeFault.{DecodeFault}
use Rattle.sccp_message.specs.declared.message.Message.{Message}
use Rattle.sccp_message.specs.Unitdata.{hops_of}
use Rattle.plan_model.specs.Network.{Network, node_of}
use Rattle.plan_model.specs.declared.node.Node.{Node}
use Rattle.sccp_scrc.specs.Arriving.{arrival, point_of}
use Rattle.sccp_scrc.specs.declared.arrival.Arrival.{Arrival}
use Rattle.sccp_scrc.specs.declared.arrival.Arrival.TheVariants as arrivals
use Rattle.relay_net.specs.Journeys.{held_at, onward, travel, most_arrivals, journey}
use Rattle.relay_net.specs.States.{State, first_states_from, markings_of, happened, applied, applied_at}
use Rattle.relay_net.specs.declared.happening.Happening.{Happening}
use Rattle.relay_net.specs.declared.happening.Happening.TheVariants.{Managed}
use Rattle.relay_net.specs.declared.travelled.Journey.{Journey}
use Rattle.made_load.specs.Draws.{after, drawn}
use Rattle.made_load.specs.Loads.{Load, IsAfter, IsRoomy, counted, with_fate, drawn_relay, drawn_point, turn, turned, before_message, sent}
use Rattle.made_load.specs.Loads.{all_sent, begun}
use Rattle.made_load.specs.Messages.{made_octets, origin}
use Rattle.made_load.specs.Relays.{load_plan}
use Rattle.made_load.specs.Fates.{fate_of}
use Rattle.made_load.specs.declared.counts.Counts.{Counts}
use Rattle.made_load.specs.declared.fate.Fate.{Fate}
use Rattle.made_load.specs.declared.fate.Fate.TheVariants as fates

-- ---- a message reaches fifteen nodes at most

travel_few : (plan : Network) (states : List (List Mark)) (left node origin : ℕ) (b : List ℕ)
    → length (travel plan states left node origin b).path ≤ left
travel_few plan states zero node origin b = omega arith
travel_few plan states (suc left) node origin b = by (λ next from octets. travel_few plan states left next from octets)
    (arrival plan node (held_at states node) origin b) where
      by : ((next from : ℕ) (octets : List ℕ) → length (travel plan states left next from octets).path ≤ left) → (a : Arrival)
          → length (onward plan node a (λ next from octets. travel plan states left next from octets)).path ≤ suc left
      by rest (arrivals.Relayed pc octets) = omega (arith, rest (node_of plan.nodes pc) (point_of plan node) octets)
      by rest a = omega arith

few_arrivals : (r : Result Message DecodeFault) → most_arrivals r ≤ 15
few_arrivals (Ok m) = by (hops_of m) where
  by : (o : Option ℕ) → cond (is_some o) 15 14 ≤ 15
  by None = omega arith
  by (Some n) = omega arith
few_arrivals (Err fault) = omega arith

few_nodes : (plan : Network) (states : List (List Mark)) (entry origin : ℕ) (b : List ℕ)
    → length (journey plan states entry origin b).path ≤ 15
few_nodes plan states entry origin b = omega (
  arith,
  travel_few plan states (most_arrivals (reading b)) entry origin b,
  few_arrivals
      (reading b),
)

pub few_of : (j : Journey) (plan : Network) (states : List (List Mark)) (entry origin : ℕ) (b : List ℕ) (nodes : ℕ)
    → j ≡ journey plan states entry origin b → nodes ≡ length j.path → nodes ≤ 15
few_of j plan states entry origin b nodes same are = subst (λ n. n ≤ 15) (sym (are ∙ ap (λ (k : Journey). length k.path) same))
    (few_nodes plan states entry origin b)

-- ---- what stays

applied_length : (plan : Network) (states : List State) (node : ℕ) (what : Happening)
    → length (applied plan states node what).states ≡ length states
applied_length plan states node what = by (slice_get states node) where
  by : (o : Option State) → length (applied_at plan states node what o).states ≡ length states
  by None = refl
  by (Some s) = length-set states node (happened plan node s what).state

pub prepared_states : (plan : Network) (place : ℕ) (l : Load) → length (before_message plan place l).states ≡ length l.states
prepared_states plan place l = by (place % 64 == 63) where
  by : (due : Bool) → length (cond due (record l { at = after l.at; states = turned plan l.states (drawn l.at) }) l).states
      ≡ length l.states
  by true = applied_length plan l.states (drawn_relay (drawn l.at))
      (Managed (turn l.states (drawn_relay (drawn l.at)) (drawn_point (drawn l.at))))
  by false = refl

prepared : (plan : Network) (place : ℕ) (l : Load) → IsAfter place l → IsAfter place (before_message plan place l)
prepared plan place l is = by (place % 64 == 63) where
  by : (due : Bool) → IsAfter place (cond due (record l { at = after l.at; states = turned plan l.states (drawn l.at) }) l)
  by true = record {
    states = applied_length plan l.states (drawn_relay (drawn l.at))
        (Managed (turn l.states (drawn_relay (drawn l.at)) (drawn_point (drawn l.at)))) ∙ is.states;
    messages = is.messages;
    ended =
        is.ended;
    returned = is.returned;
    translations = is.translations;
  }
  by false = is

pub of_eight : (plan : Network) (number : ℕ) → plan ≡ load_plan number → length plan.nodes ≡ 8
unfolding load_plan
of_eight plan number own = ap (λ (p : Network). length p.nodes) own

pub ready_after : (plan : Network) (place : ℕ) (l ready : Load) → ready ≡ before_message plan place l → IsAfter place l
    → IsAfter place ready
ready_after plan place l ready same is = subst (IsAfter place) (sym same) (prepared plan place l is)

-- ---- one more message

pub roomy : (place : ℕ) (l : Load) → place < 2 ^ 32 → IsAfter place l → IsRoomy l.counts
roomy place l lt is = record {
  messages = omega (arith, lt, is.messages);
  ended = omega (arith, lt, is.ended);
  returned = omega
      (arith, lt, is.returned);
  translations = omega (arith, lt, is.translations);
}

-- at most this number was counted
record AreAtMost (count : ℕ) (c : Counts) : Type 0 where
  pub messages : c.messages ≤ count
  pub ended : c.ended ≤ count
  pub returned : c.returned ≤ count
  pub translations : c.translations ≤ 15 * count

with_one_end : (fate : Fate) (count : ℕ) (c : Counts) → c.messages ≤ count + 1 → c.ended ≤ count → c.returned ≤ count
    → c.translations ≤ 15 * (count + 1) → AreAtMost (count + 1) (with_fate fate c)
with_one_end fates.Ended count c m e r t = record { messages = m; ended = omega (arith, e); returned = omega (arith, r); translations = t }
with_one_end fates.Returned count c m e r t = record {
  messages = m;
  ended = omega (arith, e);
  returned = omega
      (arith, r);
  translations = t;
}
with_one_end fates.Other count c m e r t = record { messages = m; ended = omega (arith, e); returned = omega (arith, r); translations = t }

one_sent : (plan : Network) (place : ℕ) (l : Load) → IsAfter place l → IsAfter (place + 1) (sent plan place l)
one_sent plan place l is =
    let j : Journey = journey plan (markings_of l.states) 0 origin (made_octets place l.at) in
    let few : length j.path ≤ 15 = few_nodes plan (markings_of l.states) 0 origin (made_octets place l.at) in
    let now : AreAtMost (place + 1) (counted j l.counts) =
    with_one_end (fate_of j.end) place
    (record l.counts { messages = l.counts.messages + 1; translations = l.counts.translations + length j.path })
    (omega (arith, is.messages)) is.ended is.returned (omega (arith, is.translations, few)) in
    record { states = is.states; messages = now.messages; ended = now.ended; returned = now.returned; translations = now.translations }

-- ---- before the first one

first_length : (place : ℕ) (nodes : List Node) → length (first_states_from place nodes) ≡ length nodes
first_length place [] = refl
first_length place (node ∷ nodes) = ap suc (first_length (suc place) nodes)

begun_after : (number : ℕ) (plan : Network) → length plan.nodes ≡ 8 → IsAfter 0 (begun number plan)
begun_after number plan many = record {
  states = first_length 0 plan.nodes
      ∙ many;
  messages = omega arith;
  ended = omega arith;
  returned = omega arith;
  translations = omega arith;
}

-- ---- all of them

-- what is still to be sent from a place on leaves what all messages leave
pub record StillSends (plan : Network) (from upto place : ℕ) (first l : Load) : Type 0 where
  pub whole : all_sent plan (upto - place) place l ≡ all_sent plan (upto - from) from first
  pub after : IsAfter place l

pub starts : (plan : Network) (from upto : ℕ) (first : Load) → IsAfter from first → StillSends plan from upto from first first
starts plan from upto first is = record { whole = refl; after = is }

pub goes_on : (plan : Network) (from upto place : ℕ) (first l ready now : Load) → place < upto → ready ≡ before_message plan place l
    → now ≡ sent plan place ready → StillSends plan from upto place first l → StillSends plan from upto (place + 1) first now
goes_on plan from upto place first l ready now lt prepares sends so_far =
    let next : now ≡ sent plan place (before_message plan place l) = sends ∙ ap (λ k. sent plan place k) prepares in
    let one : upto - place ≡ suc (upto - (place + 1)) = omega (arith, lt) in
    record {
      whole = ap (λ k. all_sent plan (upto - (place + 1)) (place + 1) k) next ∙ sym (ap (λ n. all_sent plan n place l) one) ∙ so_far.whole;
      after = subst (IsAfter (place + 1)) (sym next) (one_sent plan place (before_message plan place l)
          (prepared plan place l so_far.after));
    }

pub ends : (plan : Network) (from upto place : ℕ) (first l : Load) → upto ≤ place → StillSends plan from upto place first l
    → l ≡ all_sent plan (upto - from) from first
ends plan from upto place first l le so_far =
    let none : upto - place ≡ 0 = omega (arith, le) in
    sym (ap (λ n. all_sent plan n place l) none) ∙ so_far.whole

-- what all leave that are sent from a place on
pub all_after : (plan : Network) (count place : ℕ) (l : Load) → IsAfter place l → IsAfter (place + count) (all_sent plan count place l)
all_after plan zero place l is = subst (λ n. IsAfter n l) (omega arith) is
all_after plan (suc count) place l is =
    subst (λ n. IsAfter n (all_sent plan count (place + 1) (sent plan place (before_message plan place l)))) (omega arith)
    (all_after plan count (place + 1) (sent plan place (before_message plan place l))
    (one_sent plan place (before_message plan place l) (prepared plan place l is)))

-- the state of a load before the message at a place
pub stands_after : (plan : Network) (number place : ℕ) → plan ≡ load_plan number → IsAfter place (all_sent plan place 0 (begun number plan))
stands_after plan number place own =
    subst (λ n. IsAfter n (all_sent plan place 0 (begun number plan))) (omega arith)
    (all_after plan place 0 (begun number plan) (begun_after number plan (of_eight plan number own)))
