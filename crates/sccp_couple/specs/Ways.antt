-- What a relay makes of a connection request: the point that it goes to, or its refusal cause (ITU-T Q.714 sections 2 and 3).
-- The causes are those of Q.713 section 3.15; their order is this project's profile.
use Rattle.std.specs.Prelude.{◌≡◌, ℕ, ◌≤◌, Bool, true, false, not, ◌==◌, nat_le, if◌then◌else◌, List, [], ◌∷◌, length, Option, Some, None}
use Rattle.std.specs.Prelude.{slice_index}
use Rattle.std.specs.List.{list_any}
use Rattle.std.specs.Option.{option_map_or}
use Rattle.sccp_base.specs.Bits.{bits}
use Rattle.sccp_base.specs.Marks.{holds}
use Rattle.sccp_base.specs.declared.mark.Mark.{Mark}
use Rattle.sccp_base.specs.declared.mark.Mark.TheVariants.{Subsystem}
use Rattle.sccp_address.specs.declared.address.Address.{Address}
use Rattle.sccp_address.specs.Written.{written}
use Rattle.sccp_layout.specs.Joining.{are_short}
use Rattle.sccp_layout.specs.Parameter.{Parameter, parameter}
use Rattle.sccp_layout.specs.Table as names
use Rattle.sccp_message.specs.Fields.{param}
use Rattle.sccp_message.specs.declared.message.Message.{Message}
use Rattle.sccp_message.specs.declared.message.Message.TheVariants.{Cr}
use Rattle.plan_model.specs.declared.hop.Step.{Step}
use Rattle.plan_model.specs.declared.hop.Step.TheVariants as steps
use Rattle.plan_model.specs.declared.spot.Spot.{Spot}
use Rattle.plan_model.specs.Network.{Network}
use Rattle.plan_model.specs.Steps.{step}
use Rattle.sccp_scrc.specs.Arriving.{point_of, subsystems_of}
use Rattle.sccp_scrc.specs.Rewriting.{one_less, spot_of, to_place, to_relay}
use Rattle.sccp_couple.specs.declared.way.Way.{Way}
use Rattle.sccp_couple.specs.declared.way.Way.TheVariants.{Refused, Onward}
use Rattle.sccp_couple.specs.Events.{Event}

-- the hop counter, one less
abbrev pub counted : List ℕ → List ℕ
counted octets = one_less (slice_index octets 0) ∷ []

-- the parameters with the first hop counter one less
abbrev pub count_first : List Parameter → List Parameter
count_first [] = []
count_first (p ∷ params) = if p.name == names.hops then parameter p.name (counted p.octets) ∷ params else p ∷ count_first params

-- A relay couples connections and ends none, so a request that is routed on a subsystem number is refused. The causes are
-- unequipped user (19), subsystem out of service (10), and no connections for this subsystem (6).
abbrev pub at_subsystem : Network → ℕ → List Mark → Option ℕ → Way
at_subsystem plan node marking None = Refused 19
at_subsystem plan node marking (Some ssn) =
    if not (list_any (λ own. own == ssn) (subsystems_of plan node)) then Refused 19
    else if holds marking (Subsystem (point_of plan node) ssn) then Refused 10
    else Refused 6

-- the refusal cause for a title without a row: no translation for an address of such nature (18), destination address unknown
-- (4), unequipped user (19)
abbrev pub refusal_of : ℕ → ℕ
refusal_of cause = if cause == 0 then 18 else if cause == 1 then 4 else 19

-- to another relay, or to the destination, unless that is the relay itself; causes are subsystem failure (10), destination
-- inaccessible (5), SCCP failure (17)
abbrev pub after_step : Network → ℕ → Address → List Parameter → Step → Way
after_step plan node called params (steps.Sent next target) = Onward (point_of plan next.node) (to_relay called next) (count_first params)
after_step plan node called params (steps.Ended pc ssn target) =
    if pc == point_of plan node then Refused 6 else Onward pc (to_place called ssn) (count_first params)
after_step plan node called params (steps.Blocked cause marks) = Refused (if cause == 3 then 10 else 5)
after_step plan node called params (steps.NoRow cause) = Refused (refusal_of cause)
after_step plan node called params steps.Overgrown = Refused 17

-- routed on a title, which must have digits
abbrev pub translated : Network → ℕ → List Mark → Address → List Parameter → Option Spot → Way
translated plan node marking called params None = Refused 18
translated plan node marking called params (Some spot) = after_step plan node called params (step plan spot marking)

-- one more translation uses up the hop counter
abbrev pub is_used_up : Option (List ℕ) → Bool
is_used_up counter = option_map_or (λ octets. nat_le (slice_index octets 0) 1) counter false

-- first the class, which must be 2, then the routing, then the hop counter (16, hop counter violation)
abbrev pub request_way : Network → ℕ → List Mark → ℕ → Address → List Parameter → Way
request_way plan node marking class called params =
    if not (bits class 1 4 == 2) then Refused 6
    else if called.by_ssn then at_subsystem plan node marking called.ssn
    else if is_used_up (param params names.hops) then Refused 16
    else translated plan node marking called params (spot_of node called)

-- what a relay makes of a message; only a CR is asked about
abbrev pub way_of : Network → ℕ → List Mark → Message → Way
way_of plan node marking (Cr slr class called params) = request_way plan node marking class called params
way_of plan node marking _ = Refused 6

-- a message from a point to a node of a plan with this marking
abbrev pub event_of : Network → ℕ → List Mark → ℕ → Message → Event
event_of plan node marking origin message = record { origin = origin; message = message; way = way_of plan node marking message }

-- what a request keeps that goes on: its called address and its parameters fit their length fields
abbrev pub HasRoom : Way → Type 0
HasRoom (Refused cause) = Unit {0}
HasRoom (Onward to called params) = (length (written called) ≤ 21) × (are_short params ≡ true)
