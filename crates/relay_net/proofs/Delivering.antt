-- What the end of a journey leaves to be done can be done. A message for a subsystem of the last node was read, so it is
-- sound.
use Rattle.std.specs.Prelude.{◌≡◌, ℕ, zero, suc, ◌<◌, ◌==◌, Bool, true, false, not, List, [], ◌∷◌, length, Option, Some, None, Result, Ok}
use Rattle.std.specs.Prelude.{Err, if◌then◌else◌}
use Rattle.std.specs.List.{list_any}
use Rattle.std.specs.Option.{option_map}
use Rattle.std.proofs.Common.{refl}
use Rattle.sccp_base.specs.Marks.{holds}
use Rattle.sccp_base.specs.declared.mark.Mark.{Mark}
use Rattle.sccp_base.specs.declared.mark.Mark.TheVariants.{Subsystem}
use Rattle.sccp_address.specs.declared.address.Address.{Address}
use Rattle.sccp_message.specs.declared.message.Message.{Message}
use Rattle.sccp_message.specs.declared.fault.DecodeFault.{DecodeFault}
use Rattle.sccp_message.specs.Reading.{reading}
use Rattle.sccp_message.specs.Written.{Sound}
use Rattle.sccp_message.specs.Unitdata.{called_of, hops_of}
use Rattle.sccp_message.proofs.Laws.{message_takes}
use Rattle.sccp_message.proofs.Made.{reads_sound}
use Rattle.sccp_manage.specs.declared.event.Event.TheVariants.{Knock}
use Rattle.plan_model.specs.declared.spot.Spot.{Spot}
use Rattle.plan_model.specs.declared.hop.Step.{Step}
use Rattle.plan_model.specs.declared.hop.Step.TheVariants as steps
use Rattle.plan_model.specs.Network.{Network, IsPlan, node_of}
use Rattle.plan_model.specs.Steps.{step}
use Rattle.sccp_scrc.specs.declared.arrival.Arrival.{Arrival}
use Rattle.sccp_scrc.specs.declared.arrival.Arrival.TheVariants as arrivals
use Rattle.sccp_scrc.specs.Unitdata.{octets_of}
use Rattle.sccp_scrc.specs.Rewriting.{address_after, one_less, rewritten, spot_of}
use Rattle.sccp_scrc.specs.Returning.{returned}
use Rattle.sccp_scrc.specs.Arriving.{point_of, subsystems_of, at_subsystem, leaving, after_step, translated, is_last_hop, at_title}
use Rattle.sccp_scrc.specs.Arriving.{by_called, of_message, arrival}
use Rattle.sccp_scrc.proofs.Redirected.{Sound-redirected}
use Rattle.relay_net.specs.declared.happening.Happening.TheVariants.{Managed}
use Rattle.relay_net.specs.Journeys.{Trip, end_of, held_at, last_node, most_arrivals, onward, travel, trip_of, journey}
use Rattle.relay_net.specs.Batches.{CanBeDone, due, due_after, incoming, ssn_in}
use Rattle.relay_net.proofs.Turns.{last_of_trip}

-- ---- at one relay

abbrev SoundAt : Arrival → Type 0
SoundAt (arrivals.Relayed pc octets) = Unit {0}
SoundAt (arrivals.Ended pc ssn octets) = Unit {0}
SoundAt (arrivals.Local ssn m) = Sound m
SoundAt (arrivals.Returned cause marks service) = Unit {0}
SoundAt (arrivals.Connection m) = Unit {0}
SoundAt (arrivals.Management m) = Unit {0}
SoundAt (arrivals.Undecodable fault) = Unit {0}

sound_subsystem : (plan : Network) (node : ℕ) (marking : List Mark) (origin : ℕ) (m : Message) → Sound m → (o : Option ℕ)
    → SoundAt (at_subsystem plan node marking origin m o)
sound_subsystem plan node marking origin m sound None = tt
sound_subsystem plan node marking origin m sound (Some ssn) =
    chosen (ssn == 1) (list_any (λ own. own == ssn) (subsystems_of plan node)) (holds marking (Subsystem (point_of plan node) ssn))
  where
    chosen : (managed own down : Bool) → SoundAt (if managed then arrivals.Management m else if not own then returned marking origin m 4 []
        else if down then returned marking origin m 3 (Subsystem (point_of plan node) ssn ∷ []) else arrivals.Local ssn m)
    chosen true own down = tt
    chosen false false down = tt
    chosen false true true = tt
    chosen false true false = sound

sound_ended : (marking : List Mark) (origin : ℕ) (m : Message) (pc ssn : ℕ) (o : Option (List ℕ))
    → SoundAt (leaving marking origin m (arrivals.Ended pc ssn) o)
sound_ended marking origin m pc ssn None = tt
sound_ended marking origin m pc ssn (Some octets) = tt

sound_relayed : (marking : List Mark) (origin : ℕ) (m : Message) (pc : ℕ) (o : Option (List ℕ))
    → SoundAt (leaving marking origin m (arrivals.Relayed pc) o)
sound_relayed marking origin m pc None = tt
sound_relayed marking origin m pc (Some octets) = tt

sound_step : (plan : Network) (node : ℕ) (marking : List Mark) (origin : ℕ) (m : Message) (a : Address) → Sound m → (s : Step)
    → SoundAt (after_step plan node marking origin m a s)
sound_step plan node marking origin m a sound (steps.Sent next target) = sound_relayed marking origin m (point_of plan next.node)
    (octets_of (rewritten a (steps.Sent next target) m))
sound_step plan node marking origin m a sound (steps.Ended pc ssn target) = chosen (pc == point_of plan node)
  where
    new : Message
    new = rewritten a (steps.Ended pc ssn target) m

    chosen : (own : Bool) → SoundAt (if own then arrivals.Local ssn new else leaving marking origin m (arrivals.Ended pc ssn)
        (octets_of new))
    chosen true = Sound-redirected (address_after a (steps.Ended pc ssn target)) one_less m sound
    chosen false = sound_ended marking origin m pc ssn (octets_of new)
sound_step plan node marking origin m a sound (steps.Blocked cause marks) = tt
sound_step plan node marking origin m a sound (steps.NoRow cause) = tt
sound_step plan node marking origin m a sound steps.Overgrown = tt

sound_translated : (plan : Network) (node : ℕ) (marking : List Mark) (origin : ℕ) (m : Message) (a : Address) → Sound m → (s : Option Spot)
    → SoundAt (translated plan node marking origin m a s)
sound_translated plan node marking origin m a sound None = tt
sound_translated plan node marking origin m a sound (Some spot) = sound_step plan node marking origin m a sound (step plan spot marking)

sound_title : (plan : Network) (node : ℕ) (marking : List Mark) (origin : ℕ) (m : Message) (a : Address) → Sound m
    → SoundAt (at_title plan node marking origin m a)
sound_title plan node marking origin m a sound = chosen (is_last_hop (hops_of m))
  where
    chosen : (last : Bool) → SoundAt (if last then returned marking origin m 12 [] else translated plan node marking origin m a
        (spot_of node a))
    chosen true = tt
    chosen false = sound_translated plan node marking origin m a sound (spot_of node a)

sound_called : (plan : Network) (node : ℕ) (marking : List Mark) (origin : ℕ) (m : Message) → Sound m → (o : Option Address)
    → SoundAt (by_called plan node marking origin m o)
sound_called plan node marking origin m sound None = tt
sound_called plan node marking origin m sound (Some a) = chosen a.by_ssn
  where
    chosen : (by_ssn : Bool) → SoundAt (if by_ssn then at_subsystem plan node marking origin m a.ssn
        else at_title plan node marking origin m a)
    chosen true = sound_subsystem plan node marking origin m sound a.ssn
    chosen false = sound_title plan node marking origin m a sound

sound_message : (plan : Network) (node : ℕ) (marking : List Mark) (origin : ℕ) (r : Result Message DecodeFault)
    → ((m : Message) → r ≡ Ok m → Sound m) → SoundAt (of_message plan node marking origin r)
sound_message plan node marking origin (Err fault) h = tt
sound_message plan node marking origin (Ok m) h = sound_called plan node marking origin m (h m refl) (called_of m)

sound_arrival : (plan : Network) (node : ℕ) (marking : List Mark) (origin : ℕ) (b : List ℕ) → SoundAt (arrival plan node marking origin b)
sound_arrival plan node marking origin b = sound_message plan node marking origin (reading b) (λ m e. reads_sound b m (message_takes b m e))

-- ---- from relay to relay

abbrev SoundLast : Option Arrival → Type 0
SoundLast None = Unit {0}
SoundLast (Some x) = SoundAt x

sound_onward : (plan : Network) (node : ℕ) (x : Arrival) (follow : ℕ → ℕ → List ℕ → Trip) → SoundAt x
    → ((next from : ℕ) (octets : List ℕ) → SoundLast (follow next from octets).last) → SoundLast (onward plan node x follow).last
sound_onward plan node (arrivals.Relayed pc octets) follow sound h = h (node_of plan.nodes pc) (point_of plan node) octets
sound_onward plan node (arrivals.Ended pc ssn octets) follow sound h = tt
sound_onward plan node (arrivals.Local ssn m) follow sound h = sound
sound_onward plan node (arrivals.Returned cause marks service) follow sound h = tt
sound_onward plan node (arrivals.Connection m) follow sound h = tt
sound_onward plan node (arrivals.Management m) follow sound h = tt
sound_onward plan node (arrivals.Undecodable fault) follow sound h = tt

sound_travel : (plan : Network) (states : List (List Mark)) (left node origin : ℕ) (b : List ℕ)
    → SoundLast (travel plan states left node origin b).last
sound_travel plan states zero node origin b = tt
sound_travel plan states (suc left) node origin b =
    sound_onward plan node (arrival plan node (held_at states node) origin b) (λ next from octets. travel plan states left next from octets)
    (sound_arrival plan node (held_at states node) origin b) (λ next from octets. sound_travel plan states left next from octets)

-- ---- what is left to be done

last_again : (nodes first second : ℕ) (path : List ℕ) → first < nodes → last_node second path < nodes → last_node first path < nodes
last_again nodes first second [] lt h = lt
last_again nodes first second (node ∷ path) lt h = h

knock_done : (nodes entry origin : ℕ) → entry < nodes → (ssn : Option ℕ)
    → CanBeDone nodes (option_map (λ ssn. due entry (Managed (Knock origin ssn))) ssn)
knock_done nodes entry origin lt None = tt
knock_done nodes entry origin lt (Some ssn) = (lt, tt)

done_at : (nodes entry origin : ℕ) (b path : List ℕ) (last : Option Arrival) → entry < nodes → last_node entry path < nodes → SoundLast last
    → CanBeDone nodes (due_after (incoming entry origin b) path (end_of last))
done_at nodes entry origin b path None lt at sound = tt
done_at nodes entry origin b path (Some (arrivals.Relayed pc octets)) lt at sound = tt
done_at nodes entry origin b path (Some (arrivals.Ended pc ssn octets)) lt at sound = tt
done_at nodes entry origin b path (Some (arrivals.Local ssn m)) lt at sound = (at, sound)
done_at nodes entry origin b path (Some (arrivals.Returned cause marks service)) lt at sound = chosen (cause == 3)
  where
    chosen : (failed : Bool) → CanBeDone nodes (if failed then option_map (λ ssn. due entry (Managed (Knock origin ssn)))
        (ssn_in (reading b)) else None)
    chosen true = knock_done nodes entry origin lt (ssn_in (reading b))
    chosen false = tt
done_at nodes entry origin b path (Some (arrivals.Connection m)) lt at sound = tt
done_at nodes entry origin b path (Some (arrivals.Management m)) lt at sound = tt
done_at nodes entry origin b path (Some (arrivals.Undecodable fault)) lt at sound = tt

-- what the end of a journey leaves to be done can be done at a node of the plan
pub journey_can_be_done : (plan : Network) (states : List (List Mark)) (entry origin : ℕ) (b : List ℕ) → IsPlan plan
    → entry < length plan.nodes →
    CanBeDone (length plan.nodes) (due_after (incoming entry origin b) (journey plan states entry origin b).path
    (journey plan states entry origin b).end)
journey_can_be_done plan states entry origin b is lt =
    let t : Trip = trip_of plan states entry origin b in
    done_at (length plan.nodes) entry origin b t.path t.last lt
    (last_again (length plan.nodes) entry 0 t.path lt (last_of_trip plan states entry origin b is lt))
    (sound_travel plan states (most_arrivals (reading b)) entry origin b)
