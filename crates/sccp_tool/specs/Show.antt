-- The command that shows the messages of a file, one a line.
use Rattle.std.specs.Prelude.{◌≡◌, ℕ, ◌+◌, List, [], ◌∷◌, ◌++◌, length, ◌==◌, Option, Some, None, option_map, Result, Ok, Err, IsOk, IsErr}
use Rattle.std.specs.Prelude.{Vec, if◌then◌else◌}
use Rattle.std.specs.declared.alloc.Global.{Global}
use Rattle.sccp_io.specs.Files.{Contents}
use Rattle.sccp_report.specs.MessageText.{message_text}
use Rattle.trace_text.specs.Forms.{file_name}
use Rattle.trace_text.specs.Hex.{hex_word}
use Rattle.trace_text.specs.Lines.{TextLine, lines_of, content_of}
use Rattle.trace_text.specs.declared.line_fault.LineFault.{LineFault}
use Rattle.trace_text.specs.declared.line_fault.LineKind.TheVariants.{NotALine}
use Rattle.sccp_work.specs.Limit.{within_limit, HasFile, HasLongFile}
use Rattle.sccp_work.specs.LineFault.{bad_line}
use Rattle.sccp_work.specs.PlanFile.{plain}
use Rattle.sccp_tool.specs.Task.{Task, Show}
use Rattle.sccp_work.specs.Work.{Work, answered}
use Rattle.sccp_tool.specs.declared.show.ShowError.{ShowError}
use Rattle.sccp_tool.specs.declared.show.ShowError.TheVariants as errors
use Rattle.sccp_work.specs.declared.status.Status.{Status}
use Rattle.sccp_work.specs.declared.status.Status.TheVariants.{Done, BadTrace, TooLong}

-- FILE
unfoldable pub show_words : List (List ℕ) → Option Task
show_words (name ∷ []) = option_map Show (file_name name)
show_words words = None

-- what is printed of a message: its text and an empty line
abbrev pub shown_octets : ℕ → Option (List ℕ) → Result (List ℕ) LineFault
shown_octets number None = Err (record { number = number; kind = NotALine })
shown_octets number (Some octets) = Ok (message_text octets ++ 10 ∷ [])

-- what is printed of a line that holds this: nothing of an empty one
abbrev pub shown_content : ℕ → List ℕ → Result (List ℕ) LineFault
shown_content number content = if length content == 0 then Ok [] else shown_octets number (hex_word content)

abbrev pub shown_if_held : ℕ → Result (List ℕ) LineFault → Result (List ℕ) LineFault
shown_if_held number (Ok content) = shown_content number content
shown_if_held number (Err fault) = Err fault

-- what is printed of a line, or its fault
abbrev pub shown_line : ℕ → TextLine → Result (List ℕ) LineFault
shown_line number line = shown_if_held number (content_of number line)

abbrev pub joined : Result (List ℕ) LineFault → Result (List ℕ) LineFault → Result (List ℕ) LineFault
joined (Ok text) (Ok more) = Ok (text ++ more)
joined (Ok text) (Err fault) = Err fault
joined (Err fault) more = Err fault

-- what is printed of the lines from that number on, or the first fault
abbrev pub shown_lines : ℕ → List TextLine → Result (List ℕ) LineFault
shown_lines number [] = Ok []
shown_lines number (line ∷ lines) = joined (shown_line number line) (shown_lines (number + 1) lines)

abbrev pub answer_for : Result (List ℕ) LineFault → Status × List ℕ
answer_for (Ok text) = (Done, text)
answer_for (Err fault) = (BadTrace, bad_line fault)

-- the answer and the text for a file of these octets
abbrev pub show_answer : List ℕ → Status × List ℕ
show_answer octets = answer_for (shown_lines 1 (lines_of octets))

-- the file is read and checked whole before anything is printed
abbrev pub show_work : List ℕ → Work
show_work name = within_limit (plain name) (λ octets. answered (show_answer octets))

-- The cause of each answer. Either the file is within the limit and has no faulty line. Or it has a line that is no word of
-- hexadecimal digits or breaks a limit of lines. Or it is too long.
abbrev pub ShowCause : Option Contents → List ℕ → Status → Type 0
ShowCause contents name Done = HasFile contents (plain name) (λ octets. IsOk (shown_lines 1 (lines_of octets)))
ShowCause contents name BadTrace = HasFile contents (plain name) (λ octets. IsErr (shown_lines 1 (lines_of octets)))
ShowCause contents name TooLong = HasLongFile contents (plain name)
ShowCause contents name answer = ⊥

-- the code gives the text or the fault, unless memory ran out
abbrev pub Gives : Result (Vec ℕ Global) ShowError → Result (List ℕ) LineFault → Type 0
Gives (Ok text) shown = shown ≡ Ok text.items
Gives (Err errors.Memory) shown = Unit {0}
Gives (Err (errors.Line fault)) shown = shown ≡ Err fault
