-- The called address that a message goes on with.
use Rattle.std.specs.Prelude.{ℕ, Bool, true, false, Option, Some, None}
use Rattle.std.specs.Option.{option_and_then}
use Rattle.sccp_address.specs.declared.address.Address.{Address}
use Rattle.sccp_message.specs.declared.message.Message.{Message}
use Rattle.sccp_message.specs.Unitdata.{called_of}
use Rattle.plan_model.specs.declared.spot.Spot.{Spot}
use Rattle.plan_model.specs.declared.hop.Step.{Step}
use Rattle.plan_model.specs.declared.hop.Step.TheVariants.{Sent, Ended, Blocked, NoRow, Overgrown}
use Rattle.sccp_scrc.specs.Rewriting.{to_relay, to_place, spot_of}

-- an address after a step; none if the message does not go on
abbrev pub onward_address : Step → Address → Option Address
onward_address (Sent next target) a = Some (to_relay a next)
onward_address (Ended pc ssn target) a = Some (to_place a ssn)
onward_address (Blocked cause marks) a = None
onward_address (NoRow cause) a = None
onward_address Overgrown a = None

-- the called address of a message after a step; none if it does not go on
abbrev pub new_address : Message → Step → Option Address
new_address m step = option_and_then (onward_address step) (called_of m)

-- the spot of a message at a node
abbrev pub spot_in : ℕ → Message → Option Spot
spot_in node m = option_and_then (spot_of node) (called_of m)

-- whether the step sends the message on or ends at a place
abbrev pub next_place : Step → Bool
next_place (Sent next target) = true
next_place (Ended pc ssn target) = true
next_place (Blocked cause marks) = false
next_place (NoRow cause) = false
next_place Overgrown = false
