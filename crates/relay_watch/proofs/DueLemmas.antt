-- Because of an arrival that does not wait nothing is ever sent.
use Rattle.std.proofs.Common.{◌≡◌, ℕ, Bool, true, false, List, [], ◌∷◌, Option, Some, None, refl, subst}
use Rattle.std.specs.Prelude.{◌==◌, ◌&&◌, not, if◌then◌else◌, IsSomeAnd, Result, Ok, Err}
use Rattle.std.specs.List.{list_any}
use Rattle.sccp_base.specs.Marks.{holds}
use Rattle.sccp_base.specs.declared.mark.Mark.{Mark}
use Rattle.sccp_base.specs.declared.mark.Mark.TheVariants.{Subsystem}
use Rattle.sccp_address.specs.declared.address.Address.{Address}
use Rattle.sccp_message.specs.declared.fault.DecodeFault.{DecodeFault}
use Rattle.sccp_message.specs.declared.message.Message.{Message}
use Rattle.sccp_message.specs.Reading.{reading}
use Rattle.sccp_message.specs.Unitdata.{called_of}
use Rattle.plan_model.specs.Network.{Network}
use Rattle.sccp_scrc.specs.Arriving.{at_subsystem, at_title, by_called, of_message, point_of, subsystems_of}
use Rattle.sccp_scrc.specs.Returning.{asks_for_return, returned}
use Rattle.sccp_scrc.specs.declared.arrival.Arrival.TheVariants.{Local, Management}
use Rattle.relay_ways.specs.Explained.{IsSendingOf}
use Rattle.relay_ways.specs.Sends.{sent_of}
use Rattle.relay_ways.specs.declared.way.Sending.{Sending}
use Rattle.relay_watch.specs.Arrivals.{may_be_answered, is_management, waits, begins, begins_by, begins_at, target}
use Rattle.relay_watch.specs.Reasons.{NeverSends}
use Rattle.relay_watch.specs.declared.event.Event.{Event}
use Rattle.relay_watch.specs.declared.waiting.Waiting.{Waiting}

-- who does not ask gets nothing back
not_returned : (plan : Network) (node : ℕ) (M : List Mark) (origin : ℕ) (m : Message) (cause : ℕ) (marks : List Mark)
    → asks_for_return m ≡ false → sent_of plan node M (returned M origin m cause marks) ≡ None
not_returned plan node M origin m cause marks e = rw e refl

tested : (plan : Network) (node : ℕ) (M : List Mark) (origin : ℕ) (m : Message) (ssn : ℕ) (management missing prohibited : Bool)
    → (management ≡ false → asks_for_return m ≡ false)
    → sent_of plan node M (if management then Management m else if missing then returned M origin m 4 [] else if prohibited
    then returned M origin m 3 (Subsystem (point_of plan node) ssn ∷ []) else Local ssn m) ≡ None
tested plan node M origin m ssn true missing prohibited asks = refl
tested plan node M origin m ssn false true prohibited asks = not_returned plan node M origin m 4 [] (asks refl)
tested plan node M origin m ssn false false true asks =
    not_returned plan node M origin m 3 (Subsystem (point_of plan node) ssn ∷ []) (asks refl)
tested plan node M origin m ssn false false false asks = refl

both_false : (a b : Bool) → (a && not b) ≡ false → b ≡ false → a ≡ false
both_false true true e f = absurd cc
both_false true false e f = absurd cc
both_false false b e f = refl

at_number : (plan : Network) (node : ℕ) (M : List Mark) (origin : ℕ) (m : Message) (a : Address) (o : Option ℕ) → a.ssn ≡ o
    → a.by_ssn ≡ true → (asks_for_return m && not (is_management a)) ≡ false
    → sent_of plan node M (at_subsystem plan node M origin m o) ≡ None
at_number plan node M origin m a None at on e =
    not_returned plan node M origin m 4 [] (both_false (asks_for_return m) (is_management a) e (rw at refl))
at_number plan node M origin m a (Some ssn) at on e =
    tested plan node M origin m ssn (ssn == 1) (not (list_any (λ own. own == ssn) (subsystems_of plan node)))
    (holds M (Subsystem (point_of plan node) ssn))
    (λ other. both_false (asks_for_return m) (is_management a) e (rw (at, on) other))

at_address : (plan : Network) (node : ℕ) (M : List Mark) (origin : ℕ) (m : Message) (a : Address) (on : Bool) → a.by_ssn ≡ on
    → (if on then asks_for_return m && not (is_management a) else true) ≡ false
    → sent_of plan node M (if on then at_subsystem plan node M origin m a.ssn else at_title plan node M origin m a) ≡ None
at_address plan node M origin m a true at e = at_number plan node M origin m a a.ssn refl at e
at_address plan node M origin m a false at e = absurd cc

answered : (b : Bool) (w : Waiting) → (if b then Some w else None) ≡ None → b ≡ false
answered true w k = absurd cc
answered false w k = refl

by_option : (plan : Network) (node : ℕ) (M : List Mark) (origin : ℕ) (e : Event) (m : Message) (o : Option Address)
    → target plan e ≡ Some node → begins_by plan e m o ≡ None → sent_of plan node M (by_called plan node M origin m o) ≡ None
by_option plan node M origin e m None there none = refl
by_option plan node M origin e m (Some a) there none =
    at_address plan node M origin m a a.by_ssn refl
    (answered (may_be_answered m a) (waits plan node e m) (subst (λ (t : Option ℕ). begins_at plan e m a t ≡ None) there none))

by_reading : (plan : Network) (node : ℕ) (M : List Mark) (origin : ℕ) (e : Event) (r : Result Message DecodeFault)
    → target plan e ≡ Some node → begins plan e r ≡ None → sent_of plan node M (of_message plan node M origin r) ≡ None
by_reading plan node M origin e (Err fault) there none = refl
by_reading plan node M origin e (Ok m) there none = by_option plan node M origin e m (called_of m) there none

-- if nothing begins to wait with an event for a relay, the relay never sends anything because of it
pub never : (plan : Network) (node : ℕ) (e : Event) (to : ℕ) (sent : Message) → target plan e ≡ Some node
    → begins plan e (reading e.octets) ≡ None → NeverSends plan node e.origin e.octets to sent
never plan node e to sent there none M like =
    absurd (subst (λ (o : Option Sending). IsSomeAnd o (IsSendingOf to sent))
    (by_reading plan node M e.origin e (reading e.octets) there none) like)
