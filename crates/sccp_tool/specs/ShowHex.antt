-- The command that shows one message.
use Rattle.std.specs.Prelude.{ℕ, List, [], ◌∷◌, Option, None, option_map}
use Rattle.sccp_report.specs.MessageText.{message_text}
use Rattle.trace_text.specs.Hex.{hex_word}
use Rattle.sccp_tool.specs.Task.{Task, ShowHex}
use Rattle.sccp_work.specs.Work.{Work, answered}
use Rattle.sccp_work.specs.declared.status.Status.{Status}
use Rattle.sccp_work.specs.declared.status.Status.TheVariants.{Done}

-- HEX: the octets of the message
unfoldable pub show_hex_words : List (List ℕ) → Option Task
show_hex_words (digits ∷ []) = option_map ShowHex (hex_word digits)
show_hex_words words = None

abbrev pub show_hex_work : List ℕ → Work
show_hex_work octets = answered (Done, message_text octets)

-- the cause of each answer: it is done whatever the octets are
abbrev pub ShowHexCause : Status → Type 0
ShowHexCause Done = Unit {0}
ShowHexCause answer = ⊥
