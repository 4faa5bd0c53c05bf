-- A file of DATA messages, one a line in hexadecimal digits, becomes a trace.
use Rattle.std.specs.Prelude.{◌≡◌, ℕ, ◌+◌, ◌==◌, if◌then◌else◌, true, List, [], ◌∷◌, ◌++◌, length, Option, Some, None, Result, Ok, Err, Vec}
use Rattle.std.specs.declared.alloc.Global.{Global}
use Rattle.plan_model.specs.Network.{Network}
use Rattle.trace_text.specs.Hex.{hex_word}
use Rattle.trace_text.specs.Lines.{TextLine, lines_of, content_of}
use Rattle.trace_text.specs.Told.{told}
use Rattle.trace_text.specs.declared.line.Line.{Line}
use Rattle.trace_text.specs.declared.line.Line.TheVariants.{Skip}
use Rattle.trace_text.specs.declared.line.Numbered.{Numbered}
use Rattle.trace_text.specs.declared.line_fault.LineFault.{LineFault}
use Rattle.trace_text.specs.declared.line_fault.LineKind.TheVariants.{NotALine}
use Rattle.m3ua_trace.specs.Imported.{imported, imported_text, trace_line}
use Rattle.m3ua_trace.specs.declared.import_error.ImportError.{ImportError}
use Rattle.m3ua_trace.specs.declared.import_error.ImportError.TheVariants as errors

-- the octets of a word of digits, or the fault of a line that is not one
abbrev pub octets_in : ℕ → Option (List ℕ) → Result (List ℕ) LineFault
octets_in number None = Err (record { number = number; kind = NotALine })
octets_in number (Some octets) = Ok octets

-- the octets of what a line holds; an empty line has none
abbrev pub held_octets : ℕ → List ℕ → Result (List ℕ) LineFault
held_octets number content = if length content == 0 then Ok [] else octets_in number (hex_word content)

abbrev pub octets_if_held : ℕ → Result (List ℕ) LineFault → Result (List ℕ) LineFault
octets_if_held number (Ok content) = held_octets number content
octets_if_held number (Err fault) = Err fault

-- the octets of a line, none if it is empty, or its fault
abbrev pub octets_of_line : ℕ → TextLine → Result (List ℕ) LineFault
octets_of_line number line = octets_if_held number (content_of number line)

-- the octets of one line and of those after it, or the first fault
abbrev pub and_octets : Result (List ℕ) LineFault → Result (List (List ℕ)) LineFault → Result (List (List ℕ)) LineFault
and_octets (Ok octets) (Ok more) = Ok (octets ∷ more)
and_octets (Ok octets) (Err fault) = Err fault
and_octets (Err fault) more = Err fault

-- the octets of each line from that number on, or the first fault
abbrev pub octets_of_lines : ℕ → List TextLine → Result (List (List ℕ)) LineFault
octets_of_lines number [] = Ok []
octets_of_lines number (line ∷ lines) = and_octets (octets_of_line number line) (octets_of_lines (number + 1) lines)

-- an empty line stays empty
abbrev pub text_of_octets : Network → List ℕ → List ℕ
text_of_octets plan octets = if length octets == 0 then [] else imported_text (imported plan octets)

-- the line of the trace for octets
abbrev pub line_of_octets : Network → List ℕ → Line
line_of_octets plan octets = if length octets == 0 then Skip else trace_line (imported plan octets)

-- the trace: a line for each
unfoldable pub trace_text : Network → List (List ℕ) → List ℕ
trace_text plan [] = []
trace_text plan (octets ∷ more) = text_of_octets plan octets ++ 10 ∷ trace_text plan more

-- the lines of the trace, from that number on
abbrev pub trace_lines : Network → ℕ → List (List ℕ) → List Numbered
trace_lines plan number [] = []
trace_lines plan number (octets ∷ more) = record { number = number; line = line_of_octets plan octets } ∷ trace_lines plan (number + 1) more

-- the trace of what was read, or the fault
abbrev pub trace_if_read : Network → Result (List (List ℕ)) LineFault → Result (List ℕ) LineFault
trace_if_read plan (Ok messages) = Ok (trace_text plan messages)
trace_if_read plan (Err fault) = Err fault

-- the trace of a file with this text, or the first faulty line of the file
abbrev pub trace_of : Network → List ℕ → Result (List ℕ) LineFault
trace_of plan text = trace_if_read plan (octets_of_lines 1 (lines_of text))

-- The text is a trace without a faulty line. For each line of the file it has the message that the line carries to a node,
-- or a line that is skipped.
pub record IsTraceOf (plan : Network) (file text : List ℕ) : Type 0 where
  pub messages : List (List ℕ)
  pub read : octets_of_lines 1 (lines_of file) ≡ Ok messages
  pub lines : told true text ≡ record { lines = trace_lines plan 1 messages; fault = None }

-- the code gives the octets or the fault, unless memory ran out
abbrev pub GivesOctets : Result (List ℕ) ImportError → Result (List ℕ) LineFault → Type 0
GivesOctets (Ok octets) expected = expected ≡ Ok octets
GivesOctets (Err errors.Memory) expected = Unit {0}
GivesOctets (Err (errors.Line fault)) expected = expected ≡ Err fault

-- the code gives the trace or the fault, unless memory ran out
abbrev pub Gives : Result (Vec ℕ Global) ImportError → Result (List ℕ) LineFault → Type 0
Gives (Ok text) trace = trace ≡ Ok text.items
Gives (Err errors.Memory) trace = Unit {0}
Gives (Err (errors.Line fault)) trace = trace ≡ Err fault
