use Rattle.std.proofs.Common.{◌≡◌, ◌≤◌, length}
use Rattle.trace_text.specs.Lines.{lines_of}
use Rattle.m3ua_trace.specs.Traces.{octets_of_lines, trace_if_read, trace_of}
use Rattle.m3ua_trace.proofs.Loop.{behind}
use Rattle.m3ua_trace.proofs.lines.import.Given as goal

-- the trace so far and that of the lines that are left are the trace of all
abbrev pub invariant-loop-rest : goal.invariant-loop-rest
invariant-loop-rest l =
    (behind l.text.items (trace_if_read l.fn.plan (octets_of_lines l.number (lines_of l.rest))) ≡ trace_of l.fn.plan l.fn.file)
    × (l.number ≤ 1000001)

abbrev pub decreases-loop-rest : goal.decreases-loop-rest
decreases-loop-rest l = length l.rest
