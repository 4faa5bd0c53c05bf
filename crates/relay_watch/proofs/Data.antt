-- What a relay sends because of a message has the data of that message.
use Rattle.std.proofs.Common.{◌≡◌, ℕ, Bool, true, false, List, [], ◌∷◌, Option, Some, None, refl, sym, ◌∙◌, ap, subst}
use Rattle.std.specs.Prelude.{◌==◌, not, option_map, if◌then◌else◌, IfSome, IsSomeAnd, Result, Ok}
use Rattle.std.specs.List.{list_any}
use Rattle.std.specs.Option.{option_map_or, option_and_then}
use Rattle.sccp_base.specs.Marks.{holds}
use Rattle.sccp_base.specs.declared.mark.Mark.{Mark}
use Rattle.sccp_base.specs.declared.mark.Mark.TheVariants.{Subsystem}
use Rattle.sccp_address.specs.Written.{IsAddress}
use Rattle.sccp_address.specs.declared.address.Address.{Address}
use Rattle.sccp_message.specs.declared.fault.DecodeFault.{DecodeFault}
use Rattle.sccp_message.specs.declared.message.Message.{Message}
use Rattle.sccp_message.specs.declared.message.Message.TheVariants as messages
use Rattle.sccp_message.specs.Reading.{reading}
use Rattle.sccp_message.specs.Unitdata.{called_of, hops_of, payload_of}
use Rattle.plan_model.specs.declared.hop.Step.{Step}
use Rattle.plan_model.specs.declared.hop.Step.TheVariants as steps
use Rattle.plan_model.specs.declared.spot.Spot.{Spot}
use Rattle.plan_model.specs.Network.{Network, IsPlan}
use Rattle.plan_model.specs.Steps.{step}
use Rattle.plan_model.proofs.Leading.{Facts, step_facts}
use Rattle.sccp_scrc.specs.Arriving.{arrival, after_step, leaving, at_subsystem, translated, by_called, of_message, is_last_hop, point_of}
use Rattle.sccp_scrc.specs.Arriving.{subsystems_of}
use Rattle.sccp_scrc.specs.Passing.{ReadsAgain}
use Rattle.sccp_scrc.specs.Returning.{way_back, asks_for_return, service_message, service_by, returned}
use Rattle.sccp_scrc.specs.Rewriting.{one_less, to_relay, to_place, spot_of}
use Rattle.sccp_scrc.specs.Unitdata.{redirected, write_fault, octets_of}
use Rattle.sccp_scrc.specs.declared.arrival.Arrival.{Arrival}
use Rattle.sccp_scrc.specs.declared.arrival.Arrival.TheVariants.{Relayed, Ended, Local, Returned, Connection, Management, Undecodable}
use Rattle.sccp_scrc.specs.declared.service.Service.{Service}
use Rattle.sccp_scrc.specs.declared.way.Way.{Way}
use Rattle.sccp_scrc.specs.declared.way.Way.TheVariants.{Direct, Shut, ByTitle}
use Rattle.sccp_scrc.proofs.Addresses.{IsSpot, IsSpot-sent, IsAddress-relay, IsAddress-place}
use Rattle.sccp_scrc.proofs.Arrivals.{is_spot, ended_ssn}
use Rattle.sccp_scrc.proofs.Meaning.{octets_are}
use Rattle.sccp_scrc.proofs.Redirected.{Sound-redirected, IsMessage-redirected, reads_again, called_kept}
use Rattle.relay_ways.specs.Explained.{IsSendingOf, SendsLike}
use Rattle.relay_ways.specs.Sends.{forwarded, service_sent, sent_of, sends}
use Rattle.relay_ways.specs.declared.way.Sending.{Sending}

-- octets of a message that reads again, with the data of another one
pub record HasDataOf (m : Message) (b : List ℕ) : Type 0 where
  pub message : Message
  pub reads : reading b ≡ Ok message
  pub again : ReadsAgain message
  pub same : payload_of message ≡ payload_of m

-- what leaves the node with an arrival has the data of the message
abbrev pub Keeps : Message → Arrival → Type 0
Keeps m (Relayed pc octets) = HasDataOf m octets
Keeps m (Ended pc ssn octets) = HasDataOf m octets
Keeps m (Local ssn n) = Unit {0}
Keeps m (Returned cause marks service) = IfSome service (λ s. HasDataOf m s.octets)
Keeps m (Connection n) = Unit {0}
Keeps m (Management n) = Unit {0}
Keeps m (Undecodable fault) = Unit {0}

written : (m x : Message) (octets : List ℕ) → ReadsAgain x → payload_of x ≡ payload_of m → octets_of x ≡ Some octets → HasDataOf m octets
written m x octets again same e = record {
  message = x;
  reads = ap reading (octets_are x octets (write_fault x) e) ∙ reads_again x again.message again.sound;
  again = again;
  same = same;
}

-- a service message has the data of the message that is returned
served : (cause : ℕ) (m s : Message) → ReadsAgain m → service_message cause m ≡ Some s → ReadsAgain s × (payload_of s ≡ payload_of m)
served cause (messages.Udt class called calling payload) s again e =
    let same : messages.Udts cause calling called payload ≡ s = cc in
    subst (λ (x : Message). ReadsAgain x × (payload_of x ≡ Some payload)) same (
      record {
        message = record {
          addresses = (again.message.addresses.1.0, (again.message.addresses.0, tt));
          named = again.message.named;
          sevens_fit = again.message.sevens_fit;
        };
        sound = again.sound;
      },
      refl,
    )
served cause (messages.Xudt class hops called calling payload params) s again e =
    let same : messages.Xudts cause 15 calling called payload params ≡ s = cc in
    subst (λ (x : Message). ReadsAgain x × (payload_of x ≡ Some payload)) same (
      record {
        message = record {
          addresses = (again.message.addresses.1.0, (again.message.addresses.0, tt));
          named = again.message.named;
          sevens_fit = again.message.sevens_fit;
        };
        sound = again.sound;
      },
      refl,
    )
served cause (messages.Ludt class hops called calling payload params) s again e =
    let same : messages.Ludts cause 15 calling called payload params ≡ s = cc in
    subst (λ (x : Message). ReadsAgain x × (payload_of x ≡ Some payload)) same (
      record {
        message = record {
          addresses = (again.message.addresses.1.0, (again.message.addresses.0, tt));
          named = again.message.named;
          sevens_fit = again.message.sevens_fit;
        };
        sound = again.sound;
      },
      refl,
    )
served cause m s again e = absurd cc

service_written : (M : List Mark) (origin : ℕ) (m s : Message) → ReadsAgain s × (payload_of s ≡ payload_of m)
    → IfSome (service_by M origin s) (λ (x : Service). HasDataOf m x.octets)
service_written M origin m s k = by (octets_of s) refl where
  by : (o : Option (List ℕ)) → octets_of s ≡ o
      → IfSome (option_map (λ octets. record { octets = octets; way = option_map_or (way_back M origin) (called_of s) (Direct origin) }) o)
      (λ (x : Service). HasDataOf m x.octets)
  by None e = tt
  by (Some octets) e = written m s octets k.0 k.1 e

pub returned_keeps : (M : List Mark) (origin : ℕ) (m : Message) (cause : ℕ) (marks : List Mark) → ReadsAgain m
    → Keeps m (returned M origin m cause marks)
returned_keeps M origin m cause marks again = by (asks_for_return m) (service_message cause m) refl where
  by : (asks : Bool) (o : Option Message) → service_message cause m ≡ o
      → IfSome (if asks then option_and_then (service_by M origin) o else None) (λ (x : Service). HasDataOf m x.octets)
  by false o e = tt
  by true None e = tt
  by true (Some s) e = service_written M origin m s (served cause m s again e)

payload-redirected : (x : Address) (f : ℕ → ℕ) (m : Message) → payload_of (redirected x f m) ≡ payload_of m
payload-redirected x f (messages.Udt c a b d) = refl
payload-redirected x f (messages.Udts c a b d) = refl
payload-redirected x f (messages.Xudt c j a b d p) = refl
payload-redirected x f (messages.Xudts c j a b d p) = refl
payload-redirected x f (messages.Ludt c j a b d p) = refl
payload-redirected x f (messages.Ludts c j a b d p) = refl
payload-redirected x f m = refl

-- the message with another called address reads again
again_with : (x : Address) (m : Message) → IsAddress x → ReadsAgain m → ReadsAgain (redirected x one_less m)
again_with x m is again = record {
  message = IsMessage-redirected x one_less m is again.message;
  sound = Sound-redirected x one_less m again.sound;
}

relays : (M : List Mark) (origin pc : ℕ) (m : Message) (x : Address) → ReadsAgain m → IsAddress x
    → Keeps m (leaving M origin m (Relayed pc) (octets_of (redirected x one_less m)))
relays M origin pc m x again is = by (octets_of (redirected x one_less m)) refl where
  by : (o : Option (List ℕ)) → octets_of (redirected x one_less m) ≡ o → Keeps m (leaving M origin m (Relayed pc) o)
  by None e = returned_keeps M origin m 9 [] again
  by (Some octets) e =
      written m (redirected x one_less m) octets (again_with x m is again) (payload-redirected x one_less m) e

places : (M : List Mark) (origin pc ssn : ℕ) (m : Message) (x : Address) (own : Bool) → ReadsAgain m → IsAddress x
    → Keeps m (if own then Local ssn (redirected x one_less m) else leaving M origin m (Ended pc ssn) (octets_of (redirected x one_less m)))
places M origin pc ssn m x true again is = tt
places M origin pc ssn m x false again is = by (octets_of (redirected x one_less m)) refl where
  by : (o : Option (List ℕ)) → octets_of (redirected x one_less m) ≡ o → Keeps m (leaving M origin m (Ended pc ssn) o)
  by None e = returned_keeps M origin m 9 [] again
  by (Some octets) e =
      written m (redirected x one_less m) octets (again_with x m is again) (payload-redirected x one_less m) e

step_keeps : (plan : Network) (node : ℕ) (M : List Mark) (origin : ℕ) (m : Message) (a : Address) (s : Spot) (x : Step) → IsPlan plan
    → IsSpot s → IsAddress a → ReadsAgain m → Facts plan s M x → Keeps m (after_step plan node M origin m a x)
step_keeps plan node M origin m a s (steps.Sent next place) is spot address again facts =
    relays M origin (point_of plan next.node) m (to_relay a next) again (IsAddress-relay a next (IsSpot-sent plan s next is spot facts))
step_keeps plan node M origin m a s (steps.Ended pc ssn place) is spot address again facts =
    places M origin pc ssn m (to_place a ssn) (pc == point_of plan node) again
    (IsAddress-place a ssn address (ended_ssn plan s M pc ssn is spot facts))
step_keeps plan node M origin m a s (steps.Blocked cause shut) is spot address again facts = returned_keeps M origin m cause shut again
step_keeps plan node M origin m a s (steps.NoRow cause) is spot address again facts = returned_keeps M origin m cause [] again
step_keeps plan node M origin m a s steps.Overgrown is spot address again facts = returned_keeps M origin m 9 [] again

spot_keeps : (plan : Network) (node : ℕ) (M : List Mark) (origin : ℕ) (m : Message) (a : Address) (o : Option Spot) → IsPlan plan
    → IsAddress a → ReadsAgain m → spot_of node a ≡ o → Keeps m (translated plan node M origin m a o)
spot_keeps plan node M origin m a None is address again e = returned_keeps M origin m 0 [] again
spot_keeps plan node M origin m a (Some s) is address again e =
    step_keeps plan node M origin m a s (step plan s M) is (is_spot node a s address e) address again (step_facts plan is s M)

hops_keep : (plan : Network) (node : ℕ) (M : List Mark) (origin : ℕ) (m : Message) (a : Address) (last : Bool) → IsPlan plan
    → IsAddress a → ReadsAgain m
    → Keeps m (if last then returned M origin m 12 [] else translated plan node M origin m a (spot_of node a))
hops_keep plan node M origin m a true is address again = returned_keeps M origin m 12 [] again
hops_keep plan node M origin m a false is address again = spot_keeps plan node M origin m a (spot_of node a) is address again refl

tests_keep : (plan : Network) (node : ℕ) (M : List Mark) (origin : ℕ) (m : Message) (ssn : ℕ) (management missing prohibited : Bool)
    → ReadsAgain m
    → Keeps m (if management then Management m else if missing then returned M origin m 4 [] else if prohibited
    then returned M origin m 3 (Subsystem (point_of plan node) ssn ∷ []) else Local ssn m)
tests_keep plan node M origin m ssn true missing prohibited again = tt
tests_keep plan node M origin m ssn false true prohibited again = returned_keeps M origin m 4 [] again
tests_keep plan node M origin m ssn false false true again =
    returned_keeps M origin m 3 (Subsystem (point_of plan node) ssn ∷ []) again
tests_keep plan node M origin m ssn false false false again = tt

subsystem_keeps : (plan : Network) (node : ℕ) (M : List Mark) (origin : ℕ) (m : Message) (o : Option ℕ) → ReadsAgain m
    → Keeps m (at_subsystem plan node M origin m o)
subsystem_keeps plan node M origin m None again = returned_keeps M origin m 4 [] again
subsystem_keeps plan node M origin m (Some ssn) again =
    tests_keep plan node M origin m ssn (ssn == 1) (not (list_any (λ own. own == ssn) (subsystems_of plan node)))
    (holds M (Subsystem (point_of plan node) ssn)) again

routing_keeps : (plan : Network) (node : ℕ) (M : List Mark) (origin : ℕ) (m : Message) (a : Address) (by_ssn : Bool) → IsPlan plan
    → IsAddress a → ReadsAgain m → Keeps m (if by_ssn then at_subsystem plan node M origin m a.ssn
    else if is_last_hop (hops_of m) then returned M origin m 12 [] else translated plan node M origin m a (spot_of node a))
routing_keeps plan node M origin m a true is address again = subsystem_keeps plan node M origin m a.ssn again
routing_keeps plan node M origin m a false is address again = hops_keep plan node M origin m a (is_last_hop (hops_of m)) is address again

called_keeps : (plan : Network) (node : ℕ) (M : List Mark) (origin : ℕ) (m : Message) (o : Option Address) → IsPlan plan → ReadsAgain m
    → called_of m ≡ o → Keeps m (by_called plan node M origin m o)
called_keeps plan node M origin m None is again e = tt
called_keeps plan node M origin m (Some a) is again e =
    routing_keeps plan node M origin m a a.by_ssn is (called_kept a m e again.message) again

-- what becomes of octets that are this message
arrival_keeps : (plan : Network) (node : ℕ) (M : List Mark) (origin : ℕ) (b : List ℕ) (m : Message) → IsPlan plan → ReadsAgain m
    → reading b ≡ Ok m → Keeps m (arrival plan node M origin b)
arrival_keeps plan node M origin b m is again e =
    subst (λ (r : Result Message DecodeFault). Keeps m (of_message plan node M origin r)) (sym e)
    (called_keeps plan node M origin m (called_of m) is again refl)

-- what is sent has the data
abbrev HasData : Message → Sending → Type 0
HasData m s = HasDataOf m s.octets

forwarded_keeps : (m : Message) (a : Arrival) → Keeps m a → IfSome (forwarded a) (HasData m)
forwarded_keeps m (Relayed pc octets) keeps = keeps
forwarded_keeps m (Ended pc ssn octets) keeps = keeps
forwarded_keeps m (Local ssn n) keeps = tt
forwarded_keeps m (Returned cause marks service) keeps = tt
forwarded_keeps m (Connection n) keeps = tt
forwarded_keeps m (Management n) keeps = tt
forwarded_keeps m (Undecodable fault) keeps = tt

also_of : (m n : Message) (o : Option Sending) → payload_of n ≡ payload_of m → IfSome o (HasData n) → IfSome o (HasData m)
also_of m n None same h = tt
also_of m n (Some s) same h = record { message = h.message; reads = h.reads; again = h.again; same = h.same ∙ same }

service_keeps : (plan : Network) (node : ℕ) (M : List Mark) (m : Message) (octets : List ℕ) (way : Way) → IsPlan plan → HasDataOf m octets
    → IfSome (service_sent plan node M octets way) (HasData m)
service_keeps plan node M m octets (Direct pc) is has = has
service_keeps plan node M m octets (Shut mark) is has = tt
service_keeps plan node M m octets ByTitle is has =
    also_of m has.message (forwarded (arrival plan node M (point_of plan node) octets)) has.same
    (forwarded_keeps has.message (arrival plan node M (point_of plan node) octets)
    (arrival_keeps plan node M (point_of plan node) octets has.message is has.again has.reads))

sent_keeps : (plan : Network) (node : ℕ) (M : List Mark) (m : Message) (a : Arrival) → IsPlan plan → Keeps m a
    → IfSome (sent_of plan node M a) (HasData m)
sent_keeps plan node M m (Relayed pc octets) is keeps = keeps
sent_keeps plan node M m (Ended pc ssn octets) is keeps = keeps
sent_keeps plan node M m (Local ssn n) is keeps = tt
sent_keeps plan node M m (Returned cause marks None) is keeps = tt
sent_keeps plan node M m (Returned cause marks (Some s)) is keeps = service_keeps plan node M m s.octets s.way is keeps
sent_keeps plan node M m (Connection n) is keeps = tt
sent_keeps plan node M m (Management n) is keeps = tt
sent_keeps plan node M m (Undecodable fault) is keeps = tt

same_read : (m n : Message) (r : Result Message DecodeFault) → r ≡ Ok m → r ≡ Ok n → m ≡ n
same_read m n r e f = cc

-- under each marking, a message that is sent has the data of the one because of which it is sent
pub same_data : (plan : Network) (node origin : ℕ) (b : List ℕ) (m : Message) (to : ℕ) (sent : Message) (M : List Mark) → IsPlan plan
    → ReadsAgain m → reading b ≡ Ok m → SendsLike plan node origin b to sent M → payload_of sent ≡ payload_of m
same_data plan node origin b m to sent M is again reads like =
    by (sends plan node M origin b) (sent_keeps plan node M m (arrival plan node M origin b) is
    (arrival_keeps plan node M origin b m is again reads)) like
  where
    by : (o : Option Sending) → IfSome o (HasData m) → IsSomeAnd o (IsSendingOf to sent) → payload_of sent ≡ payload_of m
    by None keeps h = absurd h
    by (Some s) keeps h =
        ap payload_of h.1.2.same ∙ payload-redirected h.1.2.new (λ hops. hops) h.1.0
        ∙ ap payload_of (same_read h.1.0 keeps.message (reading s.octets) h.1.1 keeps.reads) ∙ keeps.same
