-- What is said of a connection that begins in a world in which nothing has happened.
use Rattle.std.specs.Prelude.{◌≡◌, ◌≤◌, ℕ, true, false, List, length, Some}
use Rattle.std.specs.Option.{unwrap_or}
use Rattle.sccp_address.specs.Written.{IsAddress}
use Rattle.plan_model.specs.Covered.{IsAllowed}
use Rattle.plan_model.specs.Network.{Network, node_of}
use Rattle.plan_model.specs.declared.spot.Spot.{Spot}
use Rattle.couple_chain.specs.World.{is_node}
use Rattle.chain_world.specs.Kept.{network_of}
use Rattle.chain_call.specs.Steps.{called_of}
use Rattle.chain_call.specs.declared.call.Call.{Call}
use Rattle.chain_call.specs.declared.outcome.Outcome.{Outcome}
use Rattle.chain_call.specs.declared.outcome.Outcome.TheVariants.{Unsettled, Unanswered, Refused, Opened}

-- The end that calls is no relay, and sends its request to one. The called address is one that a message can have.
pub record IsCall (plan : Network) (call : Call) : Type 0 where
  pub from : is_node (network_of plan) call.from ≡ false
  pub entry : is_node (network_of plan) call.entry ≡ true
  pub called : IsAddress (called_of call)

-- A connection is refused or opened, so it is answered, and no link holds a message after its request and its confirmation. If it is
-- opened, these octets come out at the far end and then at the end that calls, and no relay keeps a section.
abbrev pub IsAnswered : List ℕ → Outcome → Type 0
IsAnswered octets Unsettled = ⊥
IsAnswered octets Unanswered = ⊥
IsAnswered octets (Refused cause) = Unit {0}
IsAnswered octets (Opened names far through) = through ≡ Some (record { forth = octets; back = octets; sections = 0 })

-- the title that is called, at the relay that the request is sent to
abbrev pub spot_called : Network → Call → Spot
spot_called plan call = record {
  node = node_of plan.nodes call.entry;
  selector = call.selector;
  ssn = unwrap_or call.ssn 0;
  digits = call.digits;
}

-- no place that the plan allows for the title is at a relay
abbrev pub AllowsEnds : Network → Spot → Type 0
AllowsEnds plan spot = (pc ssn : ℕ) → IsAllowed plan spot pc ssn → is_node (network_of plan) pc ≡ false

-- a connection is open over at most this number of relays, to a point that the plan allows for the title
abbrev pub ReachesPlace : Network → Spot → ℕ → Outcome → Type 0
ReachesPlace plan spot most (Opened names far through) = (length names ≤ most) × (ssn : ℕ) × IsAllowed plan spot far ssn
ReachesPlace plan spot most outcome = ⊥
