-- Why a node did not send a message because of an arrival with the same data: the first of the tests that fails.
use Rattle.std.specs.Prelude.{ℕ, ◌==◌, nat_eq, nat_lt, Bool, true, false, not, ◌&&◌, if◌then◌else◌, List, [], ◌∷◌, map}
use Rattle.std.specs.Prelude.{Option, Some, None, Result, Ok, Err}
use Rattle.std.specs.Cmp.Lexicographic.{pointwise}
use Rattle.std.specs.List.{filter, list_any}
use Rattle.sccp_base.specs.Selector.{same_selector}
use Rattle.sccp_address.specs.declared.address.Address.{Address}
use Rattle.sccp_address.specs.declared.address.Title.{Title}
use Rattle.sccp_address.specs.declared.address.Title.TheVariants.{Absent, Global, Raw}
use Rattle.sccp_layout.specs.Parameter.{Parameter}
use Rattle.sccp_message.specs.declared.fault.DecodeFault.{DecodeFault}
use Rattle.sccp_message.specs.declared.message.Message.{Message}
use Rattle.sccp_message.specs.declared.message.Message.TheVariants.{Udt, Xudt, Ludt}
use Rattle.sccp_message.specs.Reading.{reading}
use Rattle.sccp_message.specs.Unitdata.{called_of, hops_of}
use Rattle.plan_model.specs.Network.{Network}
use Rattle.sccp_scrc.specs.Returning.{asks_for_return}
use Rattle.relay_ways.specs.Alike.{code_of, number_of, calling_of, params_of, same_flag, same_optional, same_point, same_title, is_absent}
use Rattle.relay_ways.specs.Alike.{same_address}
use Rattle.relay_ways.specs.Candidates.{candidates}
use Rattle.relay_ways.specs.declared.candidate.Candidate.{Candidate}
use Rattle.relay_ways.specs.declared.reason.Reason.{Reason}
use Rattle.relay_ways.specs.declared.reason.Reason.TheVariants as reasons

-- the place of a test in the order of testing
abbrev pub rank : Reason → ℕ
rank reasons.Type = 0
rank reasons.NotAsked = 1
rank reasons.Class = 2
rank reasons.Cause = 3
rank reasons.Calling = 4
rank reasons.Parameters = 5
rank reasons.Stays = 6
rank reasons.Hops = 7
rank reasons.Point = 8
rank reasons.National = 9
rank reasons.Routing = 10
rank reasons.Ssn = 11
rank reasons.Title = 12
rank reasons.Digits = 13
rank reasons.CalledPoint = 14
rank reasons.Closed = 15

-- the later one of two, and of equal ones the first
abbrev pub later : Reason → Reason → Reason
later a b = if nat_lt (rank a) (rank b) then b else a

abbrev pub latest : Reason → List Reason → Reason
latest r [] = r
latest r (x ∷ xs) = latest (later r x) xs

-- ---- the called address that the plan has, and that of the message which was sent to the point

abbrev pub by_point : ℕ → Address → Address → Reason
by_point to a b = if same_point to a.pc b.pc then reasons.Closed else reasons.CalledPoint

-- of two titles that differ
abbrev pub title_fault : Title → Title → Reason
title_fault (Global selector digits) (Global s d) = if same_selector selector s then reasons.Digits else reasons.Title
title_fault (Global selector digits) Absent = reasons.Title
title_fault (Global selector digits) (Raw k o) = reasons.Title
title_fault Absent b = reasons.Title
title_fault (Raw kind octets) b = reasons.Title

-- an address that routes on its subsystem number may leave its title out
abbrev pub by_title : ℕ → Address → Address → Reason
by_title to a b =
    if (if same_title a.title b.title then true else a.by_ssn && is_absent b.title) then by_point to a b else title_fault a.title b.title

abbrev pub by_address : ℕ → Address → Address → Reason
by_address to a b =
    if not (same_flag a.national b.national) then reasons.National
    else if not (same_flag a.by_ssn b.by_ssn) then reasons.Routing
    else if not (same_optional a.ssn b.ssn) then reasons.Ssn
    else by_title to a b

-- a message without a called address is not sent by a plan
abbrev pub by_called : ℕ → Option Address → Option Address → Reason
by_called to None b = reasons.National
by_called to (Some a) None = reasons.National
by_called to (Some a) (Some b) = by_address to a b

-- ---- what the plan would have the node send

-- of a message that the plan would have it send to that place
abbrev pub by_message : ℕ → Message → ℕ → Message → Reason
by_message to sent place m =
    if not (same_optional (hops_of m) (hops_of sent)) then reasons.Hops
    else if not (place == to) then reasons.Point
    else by_called to (called_of m) (called_of sent)

abbrev pub by_reading : ℕ → Message → ℕ → Result Message DecodeFault → Reason
by_reading to sent place (Err fault) = reasons.Hops
by_reading to sent place (Ok m) = by_message to sent place m

abbrev pub by_candidate : ℕ → Message → Candidate → Reason
by_candidate to sent c = by_reading to sent c.to (reading c.octets)

-- of these candidates the nearest; without one the message stays
abbrev pub by_candidates : ℕ → Message → List Candidate → Reason
by_candidates to sent there = latest reasons.Stays (map (by_candidate to sent) there)

-- ---- what does not depend on the plan

abbrev pub same_calling : Option Address → Option Address → Bool
same_calling None None = true
same_calling None (Some b) = false
same_calling (Some a) None = false
same_calling (Some a) (Some b) = same_address a b

abbrev pub same_param : Parameter → Parameter → Bool
same_param a b = (a.name == b.name) && pointwise nat_eq a.octets b.octets

abbrev pub same_params : Option (List Parameter) → Option (List Parameter) → Bool
same_params None None = true
same_params None (Some b) = false
same_params (Some a) None = false
same_params (Some a) (Some b) = pointwise same_param a b

-- the arrived message, whether the calling address is the right one, and the candidates of the sent one's kind
abbrev pub by_contents : Message → Bool → List Candidate → ℕ → Message → Reason
by_contents m same there to sent =
    if not same then reasons.Calling
    else if not (same_params (params_of m) (params_of sent)) then reasons.Parameters
    else by_candidates to sent there

-- the type code of the service message of a type, 0 if it has none
abbrev pub service_code : Message → ℕ
service_code (Udt class called calling payload) = 10
service_code (Xudt class hops called calling payload params) = 18
service_code (Ludt class hops called calling payload params) = 20
service_code m = 0

-- the sent message is of the type of the arrived one's service message
abbrev pub is_service : Message → Message → Bool
is_service m sent = not (service_code m == 0) && (code_of sent == service_code m)

-- a service message with this cause, or without one the message itself
abbrev pub has_cause : Option ℕ → Candidate → Bool
has_cause cause c = same_optional c.cause cause

abbrev pub by_service : Message → List Candidate → ℕ → Message → Reason
by_service m found to sent =
    if not (asks_for_return m) then reasons.NotAsked
    else if not (list_any (has_cause (Some (number_of sent))) found) then reasons.Cause
    else by_contents m (same_calling (called_of m) (calling_of sent)) (filter (has_cause (Some (number_of sent))) found) to sent

abbrev pub by_type : Message → List Candidate → ℕ → Message → Reason
by_type m found to sent =
    if not (code_of sent == code_of m) then reasons.Type
    else if not (number_of sent == number_of m) then reasons.Class
    else by_contents m (same_calling (calling_of m) (calling_of sent)) (filter (has_cause None) found) to sent

abbrev pub why_not_of : List Candidate → Message → ℕ → Message → Reason
why_not_of found m to sent = if is_service m sent then by_service m found to sent else by_type m found to sent

abbrev pub why_not_read : List Candidate → Result Message DecodeFault → ℕ → Message → Reason
why_not_read found (Err fault) to sent = reasons.Type
why_not_read found (Ok m) to sent = why_not_of found m to sent

-- The first test that a message fails which the node sent to that point, of those on octets that arrived from an origin. The message
-- has their data. It is the last one of all if the node would send it, were a marking to allow it.
unfoldable pub why_not : Network → ℕ → ℕ → List ℕ → ℕ → Message → Reason
why_not plan node origin b to sent = why_not_read (candidates plan node origin b) (reading b) to sent
