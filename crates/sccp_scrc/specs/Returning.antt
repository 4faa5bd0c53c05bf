-- The return of a message that cannot be delivered (ITU-T Q.714 section 4.2).
use Rattle.std.specs.Prelude.{ℕ, Bool, false, ◌==◌, not, ◌&&◌, List, [], ◌∷◌, Option, Some, None, is_some, if◌then◌else◌, unwrap_or}
use Rattle.std.specs.Prelude.{option_map}
use Rattle.std.specs.List.{find}
use Rattle.std.specs.Option.{option_map_or, option_and_then}
use Rattle.sccp_base.specs.Bits.{bits}
use Rattle.sccp_base.specs.Marks.{holds}
use Rattle.sccp_base.specs.declared.mark.Mark.{Mark}
use Rattle.sccp_base.specs.declared.mark.Mark.TheVariants.{PointCode, Sccp}
use Rattle.sccp_address.specs.declared.address.Address.{Address}
use Rattle.sccp_message.specs.declared.message.Message.{Message}
use Rattle.sccp_message.specs.declared.message.Message.TheVariants.{Udt, Udts, Xudt, Xudts, Ludt, Ludts}
use Rattle.sccp_message.specs.Unitdata.{called_of}
use Rattle.sccp_scrc.specs.declared.way.Way.{Way}
use Rattle.sccp_scrc.specs.declared.way.Way.TheVariants.{Direct, Shut, ByTitle}
use Rattle.sccp_scrc.specs.declared.service.Service.{Service}
use Rattle.sccp_scrc.specs.declared.arrival.Arrival.{Arrival}
use Rattle.sccp_scrc.specs.declared.arrival.Arrival.TheVariants.{Returned}
use Rattle.sccp_scrc.specs.Unitdata.{octets_of}
use Rattle.sccp_scrc.specs.Rewriting.{spot_of}

-- return on error (3.6)
abbrev pub wants_return : ℕ → Bool
wants_return class = bits class 5 8 == 8

-- the way to a point
abbrev pub way_to : List Mark → ℕ → Way
way_to marking pc = option_map_or Shut (find (holds marking) (PointCode pc ∷ Sccp pc ∷ [])) (Direct pc)

-- by translation if the calling address routes on a global title; otherwise to its point code, or without one to the origin
abbrev pub way_back : List Mark → ℕ → Address → Way
way_back marking origin calling =
    if not calling.by_ssn && is_some (spot_of 0 calling) then ByTitle else way_to marking (unwrap_or calling.pc origin)

-- whether the sender asks for the return of a message that is not a service message itself
abbrev pub asks_for_return : Message → Bool
asks_for_return (Udt class called calling payload) = wants_return class
asks_for_return (Xudt class hops called calling payload params) = wants_return class
asks_for_return (Ludt class hops called calling payload params) = wants_return class
asks_for_return m = false

-- the service message of a type: the addresses are exchanged, and a hop counter starts at 15
abbrev pub service_message : ℕ → Message → Option Message
service_message cause (Udt class called calling payload) = Some (Udts cause calling called payload)
service_message cause (Xudt class hops called calling payload params) = Some (Xudts cause 15 calling called payload params)
service_message cause (Ludt class hops called calling payload params) = Some (Ludts cause 15 calling called payload params)
service_message cause m = None

-- the octets and the way of a service message, if it can be written; its called address is the old calling one
abbrev pub service_by : List Mark → ℕ → Message → Option Service
service_by marking origin m =
    option_map (λ octets. record { octets = octets; way = option_map_or (way_back marking origin) (called_of m) (Direct origin) })
    (octets_of m)

-- the service message of a message, if the sender asks for it and it can be written
abbrev pub service_for : List Mark → ℕ → ℕ → Message → Option Service
service_for marking origin cause m = if asks_for_return m then option_and_then (service_by marking origin) (service_message cause m)
    else None

-- the message is returned, for a cause and with the marks that close its targets

abbrev pub returned : List Mark → ℕ → Message → ℕ → List Mark → Arrival
returned marking origin m cause marks = Returned cause marks (service_for marking origin cause m)
