use Rattle.std.proofs.Common.{◌≡◌, ◌++◌, take}
use Rattle.std.specs.Prelude.{flat_map}
use Rattle.capture_trace.specs.Traced.{alone_line}
use Rattle.capture_trace.specs.Words.{ended}
use Rattle.capture_trace.proofs.capture.put_alone_lines.Given as goal

-- the lines of the chunks so far
abbrev pub invariant-loop-fragment : goal.invariant-loop-fragment
invariant-loop-fragment l = l.text.items ≡ l.fn.text.items ++ flat_map (λ r. ended (alone_line r.place)) (take l.fragment-index l.waiting)
