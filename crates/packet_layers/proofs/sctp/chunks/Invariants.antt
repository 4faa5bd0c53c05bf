use Rattle.std.proofs.Common.{◌≡◌, ◌+◌, ◌-◌, ◌++◌, map}
use Rattle.packet_layers.specs.Values.{found_as}
use Rattle.packet_layers.specs.Layers.{chunks_from}
use Rattle.packet_layers.proofs.sctp.chunks.Given as goal

-- the chunks so far and those that are left are all of them
abbrev pub invariant-loop-i : goal.invariant-loop-i
invariant-loop-i l =
    map found_as l.list ++ chunks_from (l.most - l.i) (l.i + 1) l.flow l.whole l.left ≡ chunks_from l.most 1 l.flow l.fn.whole l.octets
