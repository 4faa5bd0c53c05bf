use Rattle.std.proofs.Common.{◌≡◌, ◌-◌}
use Rattle.packet_layers.specs.Layers.{by_type}
use Rattle.packet_layers.proofs.links.by_type.Given as goal

-- what is left carries what the whole carries
abbrev pub invariant-loop-i : goal.invariant-loop-i
invariant-loop-i l = by_type (l.most - l.i) l.kind l.left ≡ by_type l.most l.fn.kind l.octets
