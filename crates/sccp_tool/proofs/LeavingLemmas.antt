-- Octets that leave a relay are written for a message that reads again.
use Rattle.std.specs.Prelude.{◌≡◌, ℕ, Bool, true, false, not, ◌==◌, List, [], ◌∷◌, Option, Some, None, Result, Ok, Err, refl}
use Rattle.std.specs.Prelude.{if◌then◌else◌}
use Rattle.std.specs.List.{list_any}
use Rattle.std.proofs.Common.{sym, ◌∙◌}
use Rattle.plan_model.proofs.Leading.{Facts, step_facts}
use Rattle.plan_model.specs.Network.{Network, IsPlan}
use Rattle.plan_model.specs.Steps.{step}
use Rattle.plan_model.specs.declared.hop.Step.{Step}
use Rattle.plan_model.specs.declared.hop.Step.TheVariants as steps
use Rattle.plan_model.specs.declared.spot.Spot.{Spot}
use Rattle.sccp_address.proofs.Kept.{AreOctets}
use Rattle.sccp_address.specs.Written.{IsAddress}
use Rattle.sccp_address.specs.declared.address.Address.{Address}
use Rattle.sccp_base.specs.Marks.{holds}
use Rattle.sccp_base.specs.declared.mark.Mark.{Mark}
use Rattle.sccp_base.specs.declared.mark.Mark.TheVariants.{Subsystem}
use Rattle.sccp_message.specs.Reading.{reading}
use Rattle.sccp_message.specs.Unitdata.{called_of, hops_of}
use Rattle.sccp_message.specs.Written.{message_octets}
use Rattle.sccp_message.specs.declared.fault.DecodeFault.{DecodeFault}
use Rattle.sccp_message.specs.declared.message.Message.{Message}
use Rattle.sccp_scrc.proofs.Addresses.{IsAddress-place, IsSpot-sent}
use Rattle.sccp_scrc.proofs.Arrivals.{IsTitled, IsTitled-read, IsTitled-relayed, ended_ssn}
use Rattle.sccp_scrc.proofs.Redirected.{IsMessage-redirected, Sound-redirected, called_kept, octets_written}
use Rattle.sccp_scrc.proofs.Staying.{has_octets}
use Rattle.sccp_scrc.specs.Arriving.{after_step, arrival, at_subsystem, at_title, by_called, is_last_hop, leaving, of_message, point_of}
use Rattle.sccp_scrc.specs.Arriving.{subsystems_of, translated}
use Rattle.sccp_scrc.specs.Passing.{ReadsAgain}
use Rattle.sccp_scrc.specs.Returning.{returned}
use Rattle.sccp_scrc.specs.Rewriting.{one_less, spot_of, to_place, to_relay}
use Rattle.sccp_scrc.specs.Unitdata.{octets_of, redirected}
use Rattle.sccp_scrc.specs.declared.arrival.Arrival.{Arrival}
use Rattle.sccp_scrc.specs.declared.arrival.Arrival.TheVariants.{Relayed, Ended, Local, Returned, Connection, Management, Undecodable}

-- octets that are written for a message that reads again
pub record IsWritten (octets : List ℕ) : Type 0 where
  pub message : Message
  pub again : ReadsAgain message
  pub same : octets ≡ message_octets message

-- those that leave, if any do
abbrev pub LeaveWritten : Arrival → Type 0
LeaveWritten (Relayed pc octets) = IsWritten octets
LeaveWritten (Ended pc ssn octets) = IsWritten octets
LeaveWritten (Local ssn m) = Unit {0}
LeaveWritten (Returned cause marks service) = Unit {0}
LeaveWritten (Connection m) = Unit {0}
LeaveWritten (Management m) = Unit {0}
LeaveWritten (Undecodable fault) = Unit {0}

written : (m : Message) (octets : List ℕ) → ReadsAgain m → octets_of m ≡ Some octets → IsWritten octets
written m octets again e = record { message = m; again = again; same = by (sym e ∙ octets_written m (has_octets m octets e)) } where
  by : Some octets ≡ Some (message_octets m) → octets ≡ message_octets m
  by h = cc

leaves : (marking : List Mark) (origin : ℕ) (m new : Message) (way : List ℕ → Arrival) (o : Option (List ℕ)) → ReadsAgain new
    → octets_of new ≡ o → ((octets : List ℕ) → IsWritten octets → LeaveWritten (way octets)) → LeaveWritten (leaving marking origin m way o)
leaves marking origin m new way None again e on = tt
leaves marking origin m new way (Some octets) again e on = on octets (written new octets again e)

placed : (marking : List Mark) (origin : ℕ) (m new : Message) (pc ssn : ℕ) (own : Bool) → ReadsAgain new
    → LeaveWritten (if own then Local ssn new else leaving marking origin m (Ended pc ssn) (octets_of new))
placed marking origin m new pc ssn true again = tt
placed marking origin m new pc ssn false again = leaves marking origin m new (Ended pc ssn) (octets_of new) again refl (λ octets w. w)

stepped : (plan : Network) (node : ℕ) (marking : List Mark) (origin : ℕ) (m : Message) (a : Address) (s : Spot) (x : Step) → IsPlan plan
    → IsTitled m a s → Facts plan s marking x → LeaveWritten (after_step plan node marking origin m a x)
stepped plan node marking origin m a s (steps.Sent next target) is t facts =
    let titled = IsTitled-relayed m a s next t (IsSpot-sent plan s next is t.spot facts) in
    leaves marking origin m (redirected (to_relay a next) one_less m) (Relayed (point_of plan next.node))
    (octets_of (redirected (to_relay a next) one_less m)) (record { message = titled.message; sound = titled.sound }) refl (λ octets w. w)
stepped plan node marking origin m a s (steps.Ended pc ssn target) is t facts =
    let address : IsAddress (to_place a ssn) =
    IsAddress-place a ssn (called_kept a m t.called t.message) (ended_ssn plan s marking pc ssn is t.spot facts) in
    placed marking origin m (redirected (to_place a ssn) one_less m) pc ssn (pc == point_of plan node) (record {
      message = IsMessage-redirected (to_place a ssn) one_less m address t.message;
      sound = Sound-redirected (to_place a ssn) one_less m t.sound;
    })
stepped plan node marking origin m a s (steps.Blocked cause marks) is t facts = tt
stepped plan node marking origin m a s (steps.NoRow cause) is t facts = tt
stepped plan node marking origin m a s steps.Overgrown is t facts = tt

by_spot : (plan : Network) (node : ℕ) (marking : List Mark) (origin : ℕ) (b : List ℕ) (m : Message) (a : Address) (o : Option Spot)
    → IsPlan plan → AreOctets b → reading b ≡ Ok m → called_of m ≡ Some a → a.by_ssn ≡ false → spot_of node a ≡ o
    → LeaveWritten (translated plan node marking origin m a o)
by_spot plan node marking origin b m a None is octets reads called by_title at = tt
by_spot plan node marking origin b m a (Some s) is octets reads called by_title at =
    stepped plan node marking origin m a s (step plan s marking) is (IsTitled-read b node m a s octets reads called by_title at)
    (step_facts plan is s marking)

by_hops : (plan : Network) (node : ℕ) (marking : List Mark) (origin : ℕ) (m : Message) (a : Address) (last : Bool)
    → LeaveWritten (translated plan node marking origin m a (spot_of node a))
    → LeaveWritten (if last then returned marking origin m 12 [] else translated plan node marking origin m a (spot_of node a))
by_hops plan node marking origin m a true on = tt
by_hops plan node marking origin m a false on = on

on_ssn : (plan : Network) (node : ℕ) (marking : List Mark) (origin : ℕ) (m : Message) (ssn : ℕ) (management equipped prohibited : Bool)
    → LeaveWritten (if management then Management m else if not equipped then returned marking origin m 4 [] else if prohibited
    then returned marking origin m 3 (Subsystem (point_of plan node) ssn ∷ []) else Local ssn m)
on_ssn plan node marking origin m ssn true equipped prohibited = tt
on_ssn plan node marking origin m ssn false false prohibited = tt
on_ssn plan node marking origin m ssn false true true = tt
on_ssn plan node marking origin m ssn false true false = tt

by_ssn : (plan : Network) (node : ℕ) (marking : List Mark) (origin : ℕ) (m : Message) (o : Option ℕ)
    → LeaveWritten (at_subsystem plan node marking origin m o)
by_ssn plan node marking origin m None = tt
by_ssn plan node marking origin m (Some ssn) =
    on_ssn plan node marking origin m ssn (ssn == 1) (list_any (λ own. own == ssn) (subsystems_of plan node))
    (holds marking (Subsystem (point_of plan node) ssn))

by_routing : (plan : Network) (node : ℕ) (marking : List Mark) (origin : ℕ) (b : List ℕ) (m : Message) (a : Address) (ssn : Bool)
    → IsPlan plan → AreOctets b → reading b ≡ Ok m → called_of m ≡ Some a → a.by_ssn ≡ ssn
    → LeaveWritten (if ssn then at_subsystem plan node marking origin m a.ssn else at_title plan node marking origin m a)
by_routing plan node marking origin b m a true is octets reads called way = by_ssn plan node marking origin m a.ssn
by_routing plan node marking origin b m a false is octets reads called way =
    by_hops plan node marking origin m a (is_last_hop (hops_of m))
    (by_spot plan node marking origin b m a (spot_of node a) is octets reads called way refl)

by_type : (plan : Network) (node : ℕ) (marking : List Mark) (origin : ℕ) (b : List ℕ) (m : Message) (o : Option Address) → IsPlan plan
    → AreOctets b → reading b ≡ Ok m → called_of m ≡ o → LeaveWritten (by_called plan node marking origin m o)
by_type plan node marking origin b m None is octets reads called = tt
by_type plan node marking origin b m (Some a) is octets reads called =
    by_routing plan node marking origin b m a a.by_ssn is octets reads called refl

by_reading : (plan : Network) (node : ℕ) (marking : List Mark) (origin : ℕ) (b : List ℕ) (r : Result Message DecodeFault) → IsPlan plan
    → AreOctets b → reading b ≡ r → LeaveWritten (of_message plan node marking origin r)
by_reading plan node marking origin b (Err fault) is octets reads = tt
by_reading plan node marking origin b (Ok m) is octets reads = by_type plan node marking origin b m (called_of m) is octets reads refl

pub leave_written : (plan : Network) (node : ℕ) (marking : List Mark) (origin : ℕ) (b : List ℕ) → IsPlan plan → AreOctets b
    → LeaveWritten (arrival plan node marking origin b)
leave_written plan node marking origin b is octets = by_reading plan node marking origin b (reading b) is octets refl
