-- The messages that are made from a number.
use Rattle.std.specs.Prelude.{ℕ, ◌/◌, ◌%◌, ◌^◌, false, true, List, [], ◌∷◌, Some, None}
use Rattle.sccp_address.specs.declared.address.Address.{Address}
use Rattle.sccp_address.specs.declared.address.Title.TheVariants.{Absent, Global}
use Rattle.sccp_message.specs.Written.{message_octets}
use Rattle.sccp_message.specs.declared.message.Message.TheVariants.{Udt}
use Rattle.made_load.specs.Draws.{digits}
use Rattle.made_load.specs.Relays.{selector}

-- the point of their calling address, 3-0-1, from which they arrive
abbrev pub origin : ℕ
origin = 6145

abbrev pub called : List ℕ → Address
called title = record { national = false; by_ssn = false; pc = None; ssn = Some 6; title = Global selector title }

abbrev pub calling : Address
calling = record { national = false; by_ssn = true; pc = Some origin; ssn = Some 8; title = Absent }

-- the place of a message among the others as four octets, the high one first
abbrev pub place_octets : ℕ → List ℕ
place_octets i = i / 2 ^ 24 ∷ i / 2 ^ 16 % 256 ∷ i / 256 % 256 ∷ i % 256 ∷ []

-- the octets of the message at a place, whose ten digits are drawn: a unitdata of class 0 that asks to be returned
unfoldable pub made_octets : ℕ → ℕ → List ℕ
made_octets i x = message_octets (Udt 0x80 (called (digits 10 x)) calling (place_octets i))
