-- Messages from their parts (ITU-T Q.713 section 4): a line for each type.
-- Segmenting is 3.7, receive sequence number 3.8, sequencing 3.9.
use Rattle.std.specs.Prelude.{ℕ, ◌==◌, if◌then◌else◌, List, [], ◌∷◌, Option, Some, None}
use Rattle.sccp_base.specs.Bits.{bit, bits}
use Rattle.sccp_address.specs.declared.address.Address.{Address}
use Rattle.sccp_layout.specs.Parameter.{Parameter}
use Rattle.sccp_message.specs.declared.message.Message.{Message}
use Rattle.sccp_message.specs.declared.message.Message.TheVariants as messages
use Rattle.sccp_message.specs.Fields.{octet, reference_at}

-- The codes of types, each with the message of that type. The fixed part f is read from left to right, without its spare bits.

-- the types without a variable address
abbrev pub without_address : List ℕ → List ℕ → List Parameter → List (ℕ × Message)
without_address f payload params =
    (0x02, messages.Cc (reference_at f 0) (reference_at f 3) (octet f 6) params) ∷
    (0x03, messages.Cref (reference_at f 0) (octet f 3) params) ∷
    (0x04, messages.Rlsd (reference_at f 0) (reference_at f 3) (octet f 6) params) ∷
    (0x05, messages.Rlc (reference_at f 0) (reference_at f 3)) ∷
    (0x06, messages.Dt1 (reference_at f 0) (bit (octet f 3) 1) payload) ∷
    (0x07, messages.Dt2 (reference_at f 0) (bits (octet f 3) 2 8) (bits (octet f 4) 2 8) (bit (octet f 4) 1) payload) ∷
    (0x08, messages.Ak (reference_at f 0) (bits (octet f 3) 2 8) (octet f 4)) ∷
    (0x0B, messages.Ed (reference_at f 0) payload) ∷
    (0x0C, messages.Ea (reference_at f 0)) ∷
    (0x0D, messages.Rsr (reference_at f 0) (reference_at f 3) (octet f 6)) ∷
    (0x0E, messages.Rsc (reference_at f 0) (reference_at f 3)) ∷
    (0x0F, messages.Err (reference_at f 0) (octet f 3)) ∷ (
      0x10,
      messages.It (reference_at f 0) (reference_at f 3) (octet f 6) (bits (octet f 7) 2 8) (bits (octet f 8) 2 8) (bit (octet f 8) 1)
          (octet f 9),
    ) ∷
    []

-- the type with a called address
abbrev pub with_called : List ℕ → Address → List Parameter → List (ℕ × Message)
with_called f called params =
    (0x01, messages.Cr (reference_at f 0) (octet f 3) called params) ∷
    []

-- the types with a called and a calling address
abbrev pub with_both : List ℕ → Address → Address → List ℕ → List Parameter → List (ℕ × Message)
with_both f called calling payload params =
    (0x09, messages.Udt (octet f 0) called calling payload) ∷
    (0x0A, messages.Udts (octet f 0) called calling payload) ∷
    (0x11, messages.Xudt (octet f 0) (octet f 1) called calling payload params) ∷
    (0x12, messages.Xudts (octet f 0) (octet f 1) called calling payload params) ∷
    (0x13, messages.Ludt (octet f 0) (octet f 1) called calling payload params) ∷
    (0x14, messages.Ludts (octet f 0) (octet f 1) called calling payload params) ∷
    []

-- the message in the line of a code
abbrev pub of_code : ℕ → List (ℕ × Message) → Option Message
of_code code [] = None
of_code code (line ∷ lines) = if code == line.0 then Some line.1 else of_code code lines

-- The message of a code, a fixed part, addresses, data and parameters. None if no type has that code and that number of
-- addresses.
abbrev pub message_of : ℕ → List ℕ → List Address → List ℕ → List Parameter → Option Message
message_of code f [] payload params = of_code code (without_address f payload params)
message_of code f (called ∷ []) payload params = of_code code (with_called f called params)
message_of code f (called ∷ calling ∷ []) payload params = of_code code (with_both f called calling payload params)
message_of code f (called ∷ calling ∷ other ∷ others) payload params = None
