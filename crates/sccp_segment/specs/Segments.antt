-- Segments, and the segmentation parameter of a message (ITU-T Q.713 section 3.17).
use Rattle.std.specs.Prelude.{ℕ, ◌+◌, ◌*◌, List, ◌∷◌, Option, None, option_map}
use Rattle.sccp_base.specs.Bits.{bit, bits}
use Rattle.sccp_address.specs.declared.address.Address.{Address}
use Rattle.sccp_address.specs.Written.{flag}
use Rattle.sccp_layout.specs.Table.{segmentation}
use Rattle.sccp_message.specs.declared.message.Message.{Message}
use Rattle.sccp_message.specs.declared.message.Message.TheVariants as messages
use Rattle.sccp_message.specs.Fields.{octet, param, reference_at, reference_octets}
use Rattle.sccp_segment.specs.declared.segment.Segment.{Segment}
use Rattle.sccp_segment.specs.declared.arrival.Arrival.{Arrival}

-- Of the first octet, bit 8 says that it is the first segment, and bit 7 that delivery in sequence was asked for (class 1).
-- Bits 5 and 6 are spare, and bits 1 to 4 are the number of the segments that follow it. Then follows the segmentation local
-- reference.
abbrev pub segment_of : List ℕ → List ℕ → Segment
segment_of contents payload =
    record {
      first = bit (octet contents 0) 8;
      in_sequence = bit (octet contents 0) 7;
      remaining = bits
          (octet contents 0) 1 4;
      reference = reference_at contents 1;
      payload = payload;
    }

-- the contents of the parameter, with the spare bits 0
abbrev pub segmentation_octets : Segment → List ℕ
segmentation_octets s = (128 * flag s.first + 64 * flag s.in_sequence + s.remaining) ∷ reference_octets s.reference

-- the segment that a message with this calling address, data and segmentation parameter is; none without that parameter
abbrev pub arrival_by : Address → List ℕ → Option (List ℕ) → Option Arrival
arrival_by calling payload contents =
    option_map (λ c. record { key = record { calling = calling; reference = reference_at c 1 }; segment = segment_of c payload }) contents

-- the segment that a message is, by its type: the types that have the parameter
abbrev pub arrival_of : Message → Option Arrival
arrival_of (messages.Xudt class hops called calling payload params) = arrival_by calling payload (param params segmentation)
arrival_of (messages.Xudts cause hops called calling payload params) = arrival_by calling payload (param params segmentation)
arrival_of (messages.Ludt class hops called calling payload params) = arrival_by calling payload (param params segmentation)
arrival_of (messages.Ludts cause hops called calling payload params) = arrival_by calling payload (param params segmentation)
arrival_of _ = None
