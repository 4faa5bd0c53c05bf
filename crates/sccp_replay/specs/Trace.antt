-- The lines of a whole trace, up to the first that has a fault, and that fault.
use Rattle.std.specs.Prelude.{ℕ, true, List, [], Option}
use Rattle.std.specs.Option.{option_map_or, option_and_then}
use Rattle.sccp_io.specs.Files.{Contents}
use Rattle.trace_text.specs.Told.{told}
use Rattle.trace_text.specs.declared.fed.Fed.{Fed}
use Rattle.trace_text.specs.declared.line.Numbered.{Numbered}
use Rattle.trace_text.specs.declared.line_fault.LineFault.{LineFault}

-- what a text says as a trace
abbrev pub trace_of : List ℕ → Fed
trace_of text = told true text

-- the lines of a trace file up to the first that has a fault; none if there is no such file
abbrev pub lines_in : Contents → List ℕ → List Numbered
lines_in c name = option_map_or (λ text. (trace_of text).lines) (c name) []

-- the fault of the line after them
abbrev pub fault_in : Contents → List ℕ → Option LineFault
fault_in c name = option_and_then (λ text. (trace_of text).fault) (c name)
