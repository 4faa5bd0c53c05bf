-- How a relay rewrites a message (ITU-T Q.714 section 2).
use Rattle.std.specs.Prelude.{ℕ, ◌-◌, Bool, true, false, ◌==◌, nat_le, ◌&&◌, Option, Some, None, is_none, if◌then◌else◌, unwrap_or}
use Rattle.sccp_address.specs.declared.address.Address.{Address}
use Rattle.sccp_address.specs.declared.address.Title.{Title}
use Rattle.sccp_address.specs.declared.address.Title.TheVariants.{Absent, Global, Raw}
use Rattle.sccp_message.specs.declared.message.Message.{Message}
use Rattle.plan_model.specs.declared.spot.Spot.{Spot}
use Rattle.plan_model.specs.declared.hop.Step.{Step}
use Rattle.plan_model.specs.declared.hop.Step.TheVariants as steps
use Rattle.sccp_scrc.specs.Unitdata.{redirected}

-- the hop counter after a translation: one less; a counter above 15 counts as 15 (profile)
abbrev pub one_less : ℕ → ℕ
one_less hops = (if nat_le hops 15 then hops else 15) - 1

-- the SSN after a step: one that is absent counts as 0, and stays absent if no target names one (profile)
abbrev pub ssn_after : Option ℕ → ℕ → Option ℕ
ssn_after old ssn = if is_none old && (ssn == 0) then None else Some ssn

-- an address that is routed anew keeps its national bit and loses its point code
abbrev pub rerouted : Address → Bool → Option ℕ → Title → Address
rerouted a by_ssn ssn title = record { national = a.national; by_ssn = by_ssn; pc = None; ssn = ssn; title = title }

-- on to a relay: routed on the new title
abbrev pub to_relay : Address → Spot → Address
to_relay a next = rerouted a false (ssn_after a.ssn next.ssn) (Global next.selector next.digits)

-- to a destination: routed on SSN, with the title kept
abbrev pub to_place : Address → ℕ → Address
to_place a ssn = rerouted a true (Some ssn) a.title

-- the called address after a step
abbrev pub address_after : Address → Step → Address
address_after a (steps.Sent next target) = to_relay a next
address_after a (steps.Ended pc ssn target) = to_place a ssn
address_after a (steps.Blocked cause marks) = a
address_after a (steps.NoRow cause) = a
address_after a steps.Overgrown = a

-- the message after a step: all but its called address and hop counter is kept
abbrev pub rewritten : Address → Step → Message → Message
rewritten a step m = redirected (address_after a step) one_less m

-- the spot of an address that routes on a global title
abbrev pub title_spot : ℕ → Option ℕ → Title → Option Spot
title_spot node ssn (Global selector digits) = Some (record { node = node; selector = selector; ssn = unwrap_or ssn 0; digits = digits })
title_spot node ssn Absent = None
title_spot node ssn (Raw kind octets) = None

abbrev pub spot_of : ℕ → Address → Option Spot
spot_of node a = title_spot node a.ssn a.title
