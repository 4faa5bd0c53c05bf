-- The messages of SCCP management (ITU-T Q.713 section 5): what they say, and their octets.
use Rattle.std.specs.Prelude.{ℕ, ◌+◌, ◌*◌, ◌/◌, ◌%◌, ◌==◌, true, false, List, [], ◌∷◌, Option, Some, None, option_map, find}
use Rattle.sccp_base.specs.Bits.{bits}
use Rattle.sccp_address.specs.declared.address.Address.{Address}
use Rattle.sccp_address.specs.declared.address.Title.TheVariants.{Absent}
use Rattle.sccp_message.specs.declared.message.Message.{Message}
use Rattle.sccp_message.specs.declared.message.Message.TheVariants.{Udt}
use Rattle.sccp_message.specs.Written.{message_octets}
use Rattle.sccp_manage.specs.declared.status.StatusKind.{StatusKind}
use Rattle.sccp_manage.specs.declared.status.StatusKind.TheVariants.{Allowed, Prohibited, Test, OutOfServiceRequest, OutOfServiceGrant}
use Rattle.sccp_manage.specs.declared.status.StatusKind.TheVariants.{Congested}
use Rattle.sccp_manage.specs.declared.status.StatusMessage.{StatusMessage}
use Rattle.sccp_manage.specs.declared.sent.Sent.{Sent}

-- the numbers of the kinds: SSA, SSP, SST, SOR, SOG and SSC
abbrev pub code_of : StatusKind → ℕ
code_of Allowed = 1
code_of Prohibited = 2
code_of Test = 3
code_of OutOfServiceRequest = 4
code_of OutOfServiceGrant = 5
code_of Congested = 6

-- all kinds, in the order of their numbers
abbrev pub every_kind : List StatusKind
every_kind = Allowed ∷ Prohibited ∷ Test ∷ OutOfServiceRequest ∷ OutOfServiceGrant ∷ Congested ∷ []

-- the kind of a number
abbrev pub kind_of : ℕ → Option StatusKind
kind_of code = find (λ kind. code_of kind == code) every_kind

-- what a status message says: its kind, the affected subsystem number, the affected point code
abbrev pub status : StatusKind → ℕ → ℕ → StatusMessage
status kind ssn pc = record { kind = kind; ssn = ssn; pc = pc }

-- The status message that data is: its kind, the affected subsystem number, the affected point code and the multiplicity.
-- The point code has its least significant octet first and two spare bits on top. The multiplicity and further octets are
-- ignored. None for fewer than five octets, and for another kind.
abbrev pub status_of : List ℕ → Option StatusMessage
status_of [] = None
status_of (kind ∷ []) = None
status_of (kind ∷ ssn ∷ []) = None
status_of (kind ∷ ssn ∷ low ∷ []) = None
status_of (kind ∷ ssn ∷ low ∷ high ∷ []) = None
status_of (kind ∷ ssn ∷ low ∷ high ∷ multiplicity ∷ further) = option_map (λ k. status k ssn (low + 256 * bits high 1 6)) (kind_of kind)

-- the data of a status message, with the multiplicity 0
abbrev pub status_data : StatusMessage → List ℕ
status_data s = code_of s.kind ∷ s.ssn ∷ s.pc % 256 ∷ s.pc / 256 ∷ 0 ∷ []

-- the address of management at a point: its subsystem 1, by subsystem number
abbrev pub management : Address
management = record { national = false; by_ssn = true; pc = None; ssn = Some 1; title = Absent }

-- the message that carries it: unitdata of class 0 from management to management
abbrev pub status_unitdata : StatusMessage → Message
status_unitdata s = Udt 0 management management (status_data s)

-- the octets of that message
unfoldable pub status_octets : StatusMessage → List ℕ
status_octets s = message_octets (status_unitdata s)

-- a status message on its way to a point
abbrev pub sent_to : ℕ → StatusMessage → Sent
sent_to point s = record { to = point; octets = status_octets s }
