-- The one way to write a message (ITU-T Q.713 section 4; profile): a line for each type says what it is made of.
use Rattle.std.specs.Prelude.{◌≡◌, ◌≢◌, ℕ, ◌+◌, ◌*◌, ◌<◌, List, [], ◌∷◌, ◌++◌, map, Option, Some, None}
use Rattle.std.specs.List.{AllByRecursion}
use Rattle.std.specs.Option.{option_to_list, option_map_or}
use Rattle.sccp_address.specs.declared.address.Address.{Address}
use Rattle.sccp_address.specs.Written.{flag, written, IsAddress}
use Rattle.sccp_layout.specs.declared.parts.Parts.{Parts}
use Rattle.sccp_layout.specs.Parameter.{Parameter}
use Rattle.sccp_layout.specs.Table.{row}
use Rattle.sccp_layout.specs.Joining.{joined, join_fault}
use Rattle.sccp_message.specs.declared.message.Message.{Message}
use Rattle.sccp_message.specs.declared.message.Message.TheVariants as messages
use Rattle.sccp_message.specs.Reads.{Reads}
use Rattle.sccp_message.specs.Fields.{reference_octets, first_unread}

-- what a message is made of: its code, fixed part, addresses, data if it has any, and parameters
pub record Content : Type 0 where
  pub code : ℕ
  pub fixed : List ℕ
  pub addresses : List Address
  pub payload : Option (List ℕ)
  pub params : List Parameter

-- these five together
abbrev pub made_of : ℕ → List ℕ → List Address → Option (List ℕ) → List Parameter → Content
made_of code fixed addresses payload params =
    record { code = code; fixed = fixed; addresses = addresses; payload = payload; params = params }

-- what each type of message is made of
abbrev pub content : Message → Content
content (messages.Cr slr class called params) = made_of 0x01 (reference_octets slr ++ class ∷ []) (called ∷ []) None params
content (messages.Cc dlr slr class params) = made_of 0x02 (reference_octets dlr ++ reference_octets slr ++ class ∷ []) [] None params
content (messages.Cref dlr cause params) = made_of 0x03 (reference_octets dlr ++ cause ∷ []) [] None params
content (messages.Rlsd dlr slr cause params) = made_of 0x04 (reference_octets dlr ++ reference_octets slr ++ cause ∷ []) [] None params
content (messages.Rlc dlr slr) = made_of 0x05 (reference_octets dlr ++ reference_octets slr) [] None []
content (messages.Dt1 dlr more payload) = made_of 0x06 (reference_octets dlr ++ flag more ∷ []) [] (Some payload) []
content (messages.Dt2 dlr send receive more payload) = made_of 0x07 (reference_octets dlr ++ (2 * send) ∷ (2 * receive + flag more) ∷ [])
    [] (Some payload) []
content (messages.Ak dlr receive credit) = made_of 0x08 (reference_octets dlr ++ (2 * receive) ∷ credit ∷ []) [] None []
content (messages.Udt class called calling payload) = made_of 0x09 (class ∷ []) (called ∷ calling ∷ []) (Some payload) []
content (messages.Udts cause called calling payload) = made_of 0x0A (cause ∷ []) (called ∷ calling ∷ []) (Some payload) []
content (messages.Ed dlr payload) = made_of 0x0B (reference_octets dlr) [] (Some payload) []
content (messages.Ea dlr) = made_of 0x0C (reference_octets dlr) [] None []
content (messages.Rsr dlr slr cause) = made_of 0x0D (reference_octets dlr ++ reference_octets slr ++ cause ∷ []) [] None []
content (messages.Rsc dlr slr) = made_of 0x0E (reference_octets dlr ++ reference_octets slr) [] None []
content (messages.Err dlr cause) = made_of 0x0F (reference_octets dlr ++ cause ∷ []) [] None []
content (messages.It dlr slr class send receive more credit) =
    made_of 0x10 (reference_octets dlr ++ reference_octets slr ++ class ∷ (2 * send) ∷ (2 * receive + flag more) ∷ credit ∷ []) [] None []
content (messages.Xudt class hops called calling payload params) = made_of 0x11 (class ∷ hops ∷ []) (called ∷ calling ∷ [])
    (Some payload) params
content (messages.Xudts cause hops called calling payload params) = made_of 0x12 (cause ∷ hops ∷ []) (called ∷ calling ∷ [])
    (Some payload) params
content (messages.Ludt class hops called calling payload params) = made_of 0x13 (class ∷ hops ∷ []) (called ∷ calling ∷ [])
    (Some payload) params
content (messages.Ludts cause hops called calling payload params) = made_of 0x14 (cause ∷ hops ∷ []) (called ∷ calling ∷ [])
    (Some payload) params

-- the sequence numbers, which have seven bits
abbrev pub sevens : Message → List ℕ
sevens (messages.Dt2 dlr send receive more payload) = send ∷ receive ∷ []
sevens (messages.Ak dlr receive credit) = receive ∷ []
sevens (messages.It dlr slr class send receive more credit) = send ∷ receive ∷ []
sevens _ = []

-- what a message is made of, as parts: the addresses as they are written, and then the data
abbrev pub parts_with : Content → Parts
parts_with c = record { code = c.code; fixed = c.fixed; variable = map written c.addresses ++ option_to_list c.payload; params = c.params }

-- the parts of a message
abbrev pub parts_from : Message → Parts
parts_from m = parts_with (content m)

-- the octets of a message, even if a length or a pointer does not fit its field
abbrev pub message_octets : Message → List ℕ
message_octets m = option_map_or (λ r. joined r.layout (parts_from m)) (row (content m).code) []

-- of each parameter that is known to the type, the first one reads
abbrev pub Sound : Message → Type 0
Sound m = first_unread (option_map_or (λ r. r.known) (row (content m).code) []) (content m).params ≡ None

-- each number has seven bits
abbrev pub AreSevens : List ℕ → Type 0
AreSevens numbers = AllByRecursion (λ n. n < 128) numbers

-- no parameter has the name 0
abbrev pub AreNamed : List Parameter → Type 0
AreNamed params = AllByRecursion (λ p. p.name ≢ 0) params

-- each address is one that read gives, or has a title that Title::global makes
abbrev pub AreAddresses : List Address → Type 0
AreAddresses addresses = AllByRecursion IsAddress addresses

-- the fields are in the ranges of their types
pub record IsMessage (m : Message) : Type 0 where
  pub addresses : AreAddresses (content m).addresses
  pub named : AreNamed (content m).params
  pub sevens_fit : AreSevens (sevens m)

-- each length and each pointer fits its field
abbrev pub Writable : Message → Type 0
Writable m = option_map_or (λ r. join_fault r.layout (parts_from m)) (row (content m).code) None ≡ None

-- the octets are a message, and are what is written for it
pub record Canonical (b : List ℕ) : Type 0 where
  pub message : Message
  pub reads : Reads b message
  pub writable : Writable message
  pub same : b ≡ message_octets message
