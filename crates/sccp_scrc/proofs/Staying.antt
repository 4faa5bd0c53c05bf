-- a message that is not relayed
use Rattle.std.specs.Prelude.{◌≡◌, ℕ, Bool, true, false, ◌==◌, not, List, [], ◌∷◌, Option, Some, None, is_none, if◌then◌else◌, refl}
use Rattle.std.specs.List.{list_any}
use Rattle.sccp_base.specs.Marks.{holds}
use Rattle.sccp_base.specs.declared.mark.Mark.{Mark}
use Rattle.sccp_base.specs.declared.mark.Mark.TheVariants.{Subsystem}
use Rattle.sccp_layout.specs.declared.parts.JoinFault.{JoinFault}
use Rattle.sccp_message.specs.declared.message.Message.{Message}
use Rattle.sccp_message.specs.Written.{message_octets, Writable}
use Rattle.plan_model.specs.Network.{Network}
use Rattle.sccp_scrc.specs.declared.arrival.Arrival.TheVariants.{Ended, Local, Management}
use Rattle.sccp_scrc.specs.Unitdata.{write_fault, octets_of}
use Rattle.sccp_scrc.specs.Returning.{returned}
use Rattle.sccp_scrc.specs.Arriving.{point_of, subsystems_of, at_subsystem, leaving}
use Rattle.sccp_scrc.specs.Passing.{is_relayed}

-- what has octets can be written
pub has_octets : (m : Message) (b : List ℕ) → octets_of m ≡ Some b → Writable m
has_octets m b e = by_fault (write_fault m) e
  where
    by_fault : (o : Option JoinFault) → (if is_none o then Some (message_octets m) else None) ≡ Some b → o ≡ None
    by_fault None w = refl
    by_fault (Some f) w = absurd (cc)

-- nothing is relayed that is routed on SSN
pub subsystem_stays : (plan : Network) (node : ℕ) (marking : List Mark) (origin : ℕ) (m : Message) (ssn : Option ℕ)
    → is_relayed (at_subsystem plan node marking origin m ssn) ≡ false
subsystem_stays plan node marking origin m None = refl
subsystem_stays plan node marking origin m (Some ssn) =
    by_tests (ssn == 1) (not (list_any (λ own. own == ssn) (subsystems_of plan node))) (holds marking (Subsystem (point_of plan node) ssn))
  where
    by_tests : (a b c : Bool) → is_relayed (if a then Management m else if b then returned marking origin m 4 [] else if c
        then returned marking origin m 3 (Subsystem (point_of plan node) ssn ∷ []) else Local ssn m) ≡ false
    by_tests true b c = refl
    by_tests false true c = refl
    by_tests false false true = refl
    by_tests false false false = refl

leaves : (marking : List Mark) (origin pc ssn : ℕ) (m : Message) (o : Option (List ℕ))
    → is_relayed (leaving marking origin m (Ended pc ssn) o) ≡ false
leaves marking origin pc ssn m None = refl
leaves marking origin pc ssn m (Some octets) = refl

-- nor what goes to a destination
pub place_stays : (marking : List Mark) (origin pc ssn : ℕ) (m new : Message) (b : Bool)
    → is_relayed (if b then Local ssn new else leaving marking origin m (Ended pc ssn) (octets_of new)) ≡ false
place_stays marking origin pc ssn m new true = refl
place_stays marking origin pc ssn m new false = leaves marking origin pc ssn m (octets_of new)
