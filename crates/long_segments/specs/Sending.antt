-- A long unitdata message sent on in segments, each an extended unitdata message (ITU-T Q.714 section 4.1). Profile: the
-- class and the options of the segments.
use Rattle.std.specs.Prelude.{ℕ, ◌+◌, ◌*◌, ◌==◌, nat_lt, Bool, true, false, not, ◌&&◌, if◌then◌else◌, List, [], ◌∷◌, map, filter, Option}
use Rattle.std.specs.Prelude.{Some, None, Result, Ok, Err}
use Rattle.std.specs.Option.{option_map_or}
use Rattle.std.specs.List.{All}
use Rattle.sccp_base.specs.Answers.{Answers}
use Rattle.sccp_base.specs.Bits.{bit, bits}
use Rattle.sccp_address.specs.declared.address.Address.{Address}
use Rattle.sccp_layout.specs.Parameter.{Parameter, parameter}
use Rattle.sccp_layout.specs.Table.{segmentation}
use Rattle.sccp_message.specs.declared.message.Message.{Message}
use Rattle.sccp_message.specs.declared.message.Message.TheVariants as messages
use Rattle.sccp_message.specs.declared.fault.DecodeFault.{DecodeFault}
use Rattle.sccp_message.specs.declared.encode_fault.EncodeFault.{EncodeFault}
use Rattle.sccp_message.specs.Fields.{octet, param, reference_at}
use Rattle.sccp_message.specs.Reading.{reading}
use Rattle.sccp_message.specs.Written.{Writable, message_octets}
use Rattle.sccp_message.specs.Encoding.{encoding}
use Rattle.sccp_segment.specs.declared.segment.Segment.{Segment}
use Rattle.sccp_segment.specs.Segments.{segmentation_octets}
use Rattle.sccp_segment.specs.Cutting.{piece_count, pieces, segments}
use Rattle.long_segments.specs.declared.long_fault.LongFault.{LongFault}
use Rattle.long_segments.specs.declared.long_fault.LongFault.TheVariants as faults

-- ---- the segments

-- whether delivery in sequence was asked for (class 1)
abbrev pub is_in_sequence : ℕ → Bool
is_in_sequence class = bits class 1 4 == 1

-- the reference of the message's own segmentation parameter; without one, the given reference
abbrev pub reference_of : List Parameter → ℕ → ℕ
reference_of params reference = option_map_or (λ contents. reference_at contents 1) (param params segmentation) reference

-- class 1, so that the segments stay in order; only the first segment has the message's options
abbrev pub class_for : ℕ → Segment → ℕ
class_for class s = 1 + (if s.first then 16 * bits class 5 8 else 0)

-- the segmentation parameter, and after it the message's others
abbrev pub params_for : List Parameter → Segment → List Parameter
params_for params s = parameter segmentation (segmentation_octets s) ∷ filter (λ p. not (p.name == segmentation)) params

-- a segment as a message
abbrev pub segment_message : ℕ → ℕ → Address → Address → List Parameter → Segment → Message
segment_message class hops called calling params s = messages.Xudt (class_for class s) hops called calling s.payload (params_for params s)

-- the segments of a message's data, in pieces of `size` octets
abbrev pub cut : ℕ → List ℕ → List Parameter → ℕ → ℕ → List Segment
cut class payload params size reference = segments true (is_in_sequence class) (reference_of params reference) (pieces payload size)

-- the segments of a long message, as messages
abbrev pub sent_on : Message → ℕ → ℕ → List Message
sent_on (messages.Ludt class hops called calling payload params) size reference = map (segment_message class hops called calling params)
    (cut class payload params size reference)
sent_on _ size reference = []

-- ---- what keeps a message from being sent on

-- no segmentation parameter, or that of a first segment which no other follows
abbrev pub is_one_segment : Option (List ℕ) → Bool
is_one_segment None = true
is_one_segment (Some contents) = bit (octet contents 0) 8 && bits (octet contents 0) 1 4 == 0

-- the octets of messages, if the first of them can be written
abbrev pub written_if : Result (List ℕ) EncodeFault → List Message → Result (List (List ℕ)) LongFault
written_if (Ok octets) all = Ok (map message_octets all)
written_if (Err f) all = Err (faults.NotWritable f)

-- the octets of messages, or the fault by which the first cannot be written
abbrev pub written_all : List Message → Result (List (List ℕ)) LongFault
written_all [] = Ok []
written_all (m ∷ ms) = written_if (encoding m) (m ∷ ms)

-- the octets of the segments of a message, or the first fault
abbrev pub sending_message : Message → ℕ → ℕ → Result (List (List ℕ)) LongFault
sending_message (messages.Ludt class hops called calling payload params) size reference =
    if not (is_one_segment (param params segmentation)) then Err faults.AlreadySegment
    else if size == 0 then Err faults.ZeroSize
    else if nat_lt 16 (piece_count payload size) then Err faults.TooMany
    else written_all (sent_on (messages.Ludt class hops called calling payload params) size reference)
sending_message _ size reference = Err faults.NotLong

-- the same of what reading gives
abbrev pub sending_read : Result Message DecodeFault → ℕ → ℕ → Result (List (List ℕ)) LongFault
sending_read (Ok m) size reference = sending_message m size reference
sending_read (Err f) size reference = Err faults.NotLong

-- the same of octets
abbrev pub sending : List ℕ → ℕ → ℕ → Result (List (List ℕ)) LongFault
sending octets size reference = sending_read (reading octets) size reference

-- want of memory is the one fault that any call may give
abbrev pub is_memory : LongFault → Bool
is_memory faults.OutOfMemory = true
is_memory faults.NotLong = false
is_memory faults.AlreadySegment = false
is_memory faults.ZeroSize = false
is_memory faults.TooMany = false
is_memory (faults.NotWritable f) = false

abbrev pub Gives : {X Y : Type 0} → (X → Y) → Result X LongFault → Result Y LongFault → Type 0
Gives view result expected = Answers is_memory view result expected

-- ---- the same for the calls inside

-- if the first of these messages can be written, so can the others
abbrev pub FirstTells : List Message → Type 0
FirstTells [] = Unit {0}
FirstTells (m ∷ ms) = Writable m → All Writable ms
