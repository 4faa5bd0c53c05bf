-- What a relay's coupling receives, and what it answers.
use Rattle.std.specs.Prelude.{ℕ, Bool, List, Option, Some, None}
use Rattle.sccp_message.specs.declared.message.Message.{Message}
use Rattle.sccp_message.specs.declared.message.Message.TheVariants as messages
use Rattle.sccp_couple.specs.declared.section.Section.{Section}
use Rattle.sccp_couple.specs.declared.way.Way.{Way}

-- a message from a point, and what the relay makes of it if it is a connection request
pub record Event : Type 0 where
  pub origin : ℕ
  pub message : Message
  pub way : Way

-- a message to a point
pub record Answer : Type 0 where
  pub to : ℕ
  pub message : Message

-- the sections afterwards, and what is sent, in this order
pub record Outcome : Type 0 where
  pub sections : List Section
  pub sent : List Answer

-- what a DT1 carries: the M bit and the data
pub record Piece : Type 0 where
  pub more : Bool
  pub payload : List ℕ

-- a DT1: its destination local reference, and what it carries
pub record Data : Type 0 where
  pub dlr : ℕ
  pub piece : Piece

-- the data of a message, if it is a DT1
abbrev pub data_of : Message → Option Data
data_of (messages.Dt1 dlr more payload) = Some (record { dlr = dlr; piece = record { more = more; payload = payload } })
data_of _ = None

-- the destination local reference, which every connection-oriented message but a CR has
abbrev pub dlr_of : Message → Option ℕ
dlr_of (messages.Cc dlr slr class params) = Some dlr
dlr_of (messages.Cref dlr cause params) = Some dlr
dlr_of (messages.Rlsd dlr slr cause params) = Some dlr
dlr_of (messages.Rlc dlr slr) = Some dlr
dlr_of (messages.Dt1 dlr more payload) = Some dlr
dlr_of (messages.Dt2 dlr send receive more payload) = Some dlr
dlr_of (messages.Ak dlr receive credit) = Some dlr
dlr_of (messages.Ed dlr payload) = Some dlr
dlr_of (messages.Ea dlr) = Some dlr
dlr_of (messages.Rsr dlr slr cause) = Some dlr
dlr_of (messages.Rsc dlr slr) = Some dlr
dlr_of (messages.Err dlr cause) = Some dlr
dlr_of (messages.It dlr slr class send receive more credit) = Some dlr
dlr_of _ = None
