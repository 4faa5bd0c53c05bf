use Rattle.std.proofs.Common.{map, drop}
use Rattle.packet_layers.specs.Values.{found_as}
use Rattle.capture_trace.specs.Traced.{all_found, standing}
use Rattle.capture_trace.proofs.Turns.{Goes}
use Rattle.capture_trace.proofs.found.put_all.Given as goal

-- what is left to be reported follows what was reported as all follows what was there before
abbrev pub invariant-loop-one : goal.invariant-loop-one
invariant-loop-one l =
    Goes l.text.items (all_found l.plan (map found_as (drop l.one-index l.found)) (standing l.now l.gatherer)) l.fn.text.items
    (all_found l.plan (map found_as l.found) (standing l.fn.counts l.fn.gatherer))
