use Rattle.std.proofs.Common.{map, drop}
use Rattle.packet_layers.specs.Values.{found_as}
use Rattle.capture_trace.specs.Traced.{standing}
use Rattle.watch_items.specs.Captures.{all_found}
use Rattle.watch_items.proofs.TurnLemmas.{Goes}
use Rattle.watch_items.proofs.found.take_all.Given as goal

-- what is left to be listed follows what was listed as all follows what was there before
abbrev pub invariant-loop-one : goal.invariant-loop-one
invariant-loop-one l =
    Goes l.items (all_found (map found_as (drop l.one-index l.found)) (standing l.now l.gatherer)) l.fn.items
    (all_found (map found_as l.found) (standing l.fn.counts l.fn.gatherer))
