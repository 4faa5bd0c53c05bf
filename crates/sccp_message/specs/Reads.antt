-- Which message octets are (ITU-T Q.713 section 4).
use Rattle.std.specs.Prelude.{◌≡◌, ℕ, ◌<◌, List, length, slice_get, Some, None}
use Rattle.sccp_address.specs.declared.address.Address.{Address}
use Rattle.sccp_address.specs.Addresses.{AddressIs}
use Rattle.sccp_layout.specs.declared.parts.Parts.{Parts}
use Rattle.sccp_layout.specs.Table.{Row, row}
use Rattle.sccp_layout.specs.Parts.{HasParts}
use Rattle.sccp_message.specs.declared.message.Message.{Message}
use Rattle.sccp_message.specs.Fields.{first_unread}
use Rattle.sccp_message.specs.Messages.{message_of}
use Rattle.sccp_message.specs.Reading.{part_of}

-- The octets have the parts of a type. The first variable parts are addresses, and the next one is the data.
-- The message has these, the fixed fields and the parameters. Of each parameter known to the type, the first one reads.
pub record Reads (b : List ℕ) (m : Message) : Type 0 where
  pub parts : Parts
  pub has_parts : HasParts b parts
  pub type : Row
  pub of_type : row parts.code ≡ Some type
  pub addresses : List Address
  pub count : length addresses ≡ type.addresses
  pub each : (i : ℕ) → i < type.addresses → (a : Address) × (slice_get addresses i ≡ Some a) × AddressIs (part_of parts.variable i) a
  pub fields : message_of parts.code parts.fixed addresses (part_of parts.variable type.addresses) parts.params ≡ Some m
  pub sound : first_unread type.known parts.params ≡ None
