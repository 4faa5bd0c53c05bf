-- The command that shows every cut of a message.
use Rattle.std.specs.Prelude.{ℕ, List, [], ◌∷◌, Option, None, option_map}
use Rattle.sccp_report.specs.CutsText.{cuts_text}
use Rattle.trace_text.specs.Hex.{hex_word}
use Rattle.sccp_tool.specs.Task.{Task, Cuts}
use Rattle.sccp_work.specs.Work.{Work, answered}
use Rattle.sccp_work.specs.declared.status.Status.{Status}
use Rattle.sccp_work.specs.declared.status.Status.TheVariants.{Done}

-- HEX: the octets of the message
unfoldable pub cuts_words : List (List ℕ) → Option Task
cuts_words (digits ∷ []) = option_map Cuts (hex_word digits)
cuts_words words = None

abbrev pub cuts_work : List ℕ → Work
cuts_work octets = answered (Done, cuts_text octets)

-- the cause of each answer: it is done whatever the octets are
abbrev pub CutsCause : Status → Type 0
CutsCause Done = Unit {0}
CutsCause answer = ⊥
