use Rattle.std.proofs.Common.{◌≡◌, ◌++◌, take}
use Rattle.std.specs.List.{flat_map}
use Rattle.watch_text.specs.Ways.{or_way}
use Rattle.watch_text.proofs.ways.put_or_ways.Given as goal

abbrev pub invariant-loop-way : goal.invariant-loop-way
invariant-loop-way l = l.text ≡ l.initial.text ++ flat_map or_way (take l.way-index l.ways)
