-- Messages that a relay can handle.
use Rattle.sccp_message.specs.declared.message.Message.{Message}
use Rattle.sccp_message.specs.Written.{IsMessage, Sound}
use Rattle.sccp_couple.specs.Sending.{HasShortParts}

-- its fields keep their ranges, its known parameters read, and one octet of length is enough for data and parameters
pub record IsFit (m : Message) : Type 0 where
  pub message : IsMessage m
  pub sound : Sound m
  pub short : HasShortParts m
