-- What a relay sends, as octets, and which messages can be sent on.
use Rattle.std.specs.Prelude.{◌≡◌, ◌≤◌, true, length, IfSome}
use Rattle.sccp_layout.specs.Joining.{are_short}
use Rattle.sccp_manage.specs.declared.sent.Sent.{Sent}
use Rattle.sccp_message.specs.declared.message.Message.{Message}
use Rattle.sccp_message.specs.Written.{content, message_octets}
use Rattle.sccp_couple.specs.Events.{Answer}

-- an answer, with its message as octets
abbrev pub written_sent : Answer → Sent
written_sent answer = record { to = answer.to; octets = message_octets answer.message }

-- data and parameters are no longer than one octet of length can express
pub record HasShortParts (m : Message) : Type 0 where
  pub payload : IfSome (content m).payload (λ octets. length octets ≤ 255)
  pub params : are_short (content m).params ≡ true
