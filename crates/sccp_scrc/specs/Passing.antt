-- A message on its way from relay to relay, which is written only when it leaves them.
use Rattle.std.specs.Prelude.{◌≡◌, ℕ, ◌<◌, Bool, true, false, List, length, Option, Some, None, IfSome}
use Rattle.std.specs.Option.{option_and_then}
use Rattle.sccp_base.specs.declared.mark.Mark.{Mark}
use Rattle.sccp_address.specs.declared.address.Address.{Address}
use Rattle.sccp_message.specs.declared.message.Message.{Message}
use Rattle.sccp_message.specs.Written.{message_octets, IsMessage, Sound}
use Rattle.sccp_message.specs.Unitdata.{called_of}
use Rattle.plan_model.specs.declared.hop.Step.{Step}
use Rattle.plan_model.specs.declared.hop.Step.TheVariants as steps
use Rattle.plan_model.specs.declared.hop.Hop.{Hop}
use Rattle.plan_model.specs.Network.{Network}
use Rattle.plan_model.specs.Steps.{step}
use Rattle.plan_model.specs.Routes.{StaysIn}
use Rattle.sccp_scrc.specs.declared.arrival.Arrival.{Arrival}
use Rattle.sccp_scrc.specs.declared.arrival.Arrival.TheVariants.{Relayed, Ended, Local, Returned, Connection, Management, Undecodable}
use Rattle.sccp_scrc.specs.declared.passed.Passed.{Passed}
use Rattle.sccp_scrc.specs.declared.passed.Passed.TheVariants as passes
use Rattle.sccp_scrc.specs.Unitdata.{redirected}
use Rattle.sccp_scrc.specs.Rewriting.{one_less, to_relay, spot_of}
use Rattle.sccp_scrc.specs.Next.{spot_in}
use Rattle.sccp_scrc.specs.Arriving.{point_of, after_step}

-- the message that goes on to a relay after a step
abbrev pub sent_by : Address → Message → Step → Option Message
sent_by a m (steps.Sent next target) = Some (redirected (to_relay a next) one_less m)
sent_by a m (steps.Ended pc ssn target) = None
sent_by a m (steps.Blocked cause marks) = None
sent_by a m (steps.NoRow cause) = None
sent_by a m steps.Overgrown = None

-- the message that goes on from a node which holds a marking, by its called address
abbrev pub sent_from : Network → ℕ → List Mark → Message → Address → Option Message
sent_from plan node marking m a = option_and_then (λ s. sent_by a m (step plan s marking)) (spot_of node a)

abbrev pub sent_on : Network → ℕ → List Mark → Message → Option Message
sent_on plan node marking m = option_and_then (sent_from plan node marking m) (called_of m)

-- whether the message goes on to another relay
abbrev pub is_relayed : Arrival → Bool
is_relayed (Relayed pc octets) = true
is_relayed (Ended pc ssn octets) = false
is_relayed (Local ssn m) = false
is_relayed (Returned cause marks service) = false
is_relayed (Connection m) = false
is_relayed (Management m) = false
is_relayed (Undecodable fault) = false

-- The new message is the one that goes on, to the relay at this place of the plan. Whatever the origin of the old one, its
-- arrival is relayed to that relay with the octets of the new one.
abbrev pub PassesOn : Network → (ℕ → Arrival) → Option Message → Message → ℕ → Type 0
PassesOn plan arrived sent new next =
    (next < length plan.nodes)
    × ((origin : ℕ) → arrived origin ≡ Relayed (point_of plan next) (message_octets new))
    × (sent ≡ Some new)

-- The message stays as it is, and from no origin is it relayed.
abbrev pub IsKept : (ℕ → Arrival) → Message → Message → Type 0
IsKept arrived old new = (new ≡ old) × ((origin : ℕ) → is_relayed (arrived origin) ≡ false)

-- To which relay the message goes on, if it goes on.
abbrev pub IsSent : Network → (ℕ → Arrival) → Option Message → Message → Message → Option ℕ → Type 0
IsSent plan arrived sent old new (Some next) = PassesOn plan arrived sent new next
IsSent plan arrived sent old new None = IsKept arrived old new

-- A hop that was looked up for a message: its spot, and a step that stays in the plan. Whatever the origin, what becomes of
-- the message is what this step makes of it.
pub record IsStepped (plan : Network) (node : ℕ) (marking : List Mark) (arrived : ℕ → Arrival) (m : Message) (hop : Hop) : Type 0 where
  pub spot : spot_in hop.spot.node m ≡ Some hop.spot
  pub within : StaysIn plan hop.step
  pub address : Address
  pub called : called_of m ≡ Some address
  pub becomes : (origin : ℕ) → arrived origin ≡ after_step plan node marking origin m address hop.step

-- The message goes on, or it stays. In the second case, a hop that is given was looked up for it.
abbrev pub IsPassed : Network → ℕ → List Mark → (ℕ → Arrival) → Option Message → Message → Message → Passed → Type 0
IsPassed plan node marking arrived sent old new (passes.On next) = PassesOn plan arrived sent new next
IsPassed plan node marking arrived sent old new (passes.Stays hop) = IsKept arrived old new
    × IfSome hop (IsStepped plan node marking arrived old)

-- a message that reads again once it is written
pub record ReadsAgain (m : Message) : Type 0 where
  pub message : IsMessage m
  pub sound : Sound m
