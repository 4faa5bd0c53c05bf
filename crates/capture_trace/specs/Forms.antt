-- The forms of the lines of a capture.
use Rattle.std.specs.Prelude.{◌≡◌, ℕ, ◌<◌, ◌≤◌, ◌⊎◌, ◌&&◌, ◌==◌, Bool, true, not, List, length, Some}
use Rattle.std.specs.List.{list_all, position}
use Rattle.hex.specs.Hex.{IsBytes}
use Rattle.capture_file.specs.Packets.{Captured, Packet, Bad}
use Rattle.plan_model.specs.Network.{Network, has_point}
use Rattle.sccp_report.specs.Roles.{named}
use Rattle.trace_text.specs.Forms.{line_of}
use Rattle.trace_text.specs.declared.line.Line.TheVariants.{Msg, Skip}
use Rattle.m3ua_trace.specs.Imported.{name_at, message_line}

-- a message for a relay of the plan, with at most as many octets for SCCP as a line of a trace holds
pub record IsMessage (plan : Network) (line : List ℕ) : Type 0 where
  pub name : List ℕ
  pub destination : ℕ
  pub origin : ℕ
  pub octets : List ℕ
  pub relay : name_at plan destination ≡ Some name
  pub point : origin ≤ 16383
  pub some : 0 < length octets
  pub few : length octets ≤ 4072
  pub text : line ≡ message_line name origin octets

-- a line that a trace skips, or a message
abbrev pub IsLine : Network → List ℕ → Type 0
IsLine plan line = (line_of line ≡ Some Skip) ⊎ IsMessage plan line

-- neither a line feed nor a carriage return
abbrev pub is_plain : ℕ → Bool
is_plain octet = not (octet == 10) && not (octet == 13)

-- a line within the limits of a trace, which its reader takes as it is
pub record FitsTrace (line : List ℕ) : Type 0 where
  pub short : length line ≤ 8192
  pub plain : list_all is_plain line ≡ true

-- The reader of a trace reads the line as the message that it was printed for: with its name, its origin and its octets. By this
-- name a replay finds the relay that has the destination's point code.
pub record IsReadAgain (plan : Network) (line : List ℕ) : Type 0 where
  pub message : IsMessage plan line
  pub read : line_of line ≡ Some (Msg message.name message.origin message.octets)
  pub relay : named plan message.name ≡ position (has_point message.destination) plan.nodes

-- a line that a trace skips, or such a message
abbrev pub IsReadLine : Network → List ℕ → Type 0
IsReadLine plan line = (line_of line ≡ Some Skip) ⊎ IsReadAgain plan line

-- the data of a packet are octets
abbrev pub HasOctets : Captured → Type 0
HasOctets (Packet link original octets) = IsBytes octets
HasOctets (Bad why) = Unit {0}
