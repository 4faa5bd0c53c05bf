use Rattle.std.proofs.Common.{◌≡◌, ◌-◌}
use Rattle.packet_layers.specs.Layers.{after_extensions}
use Rattle.packet_layers.proofs.ipv6.after_extensions.Given as goal

-- what is left carries what the whole carries
abbrev pub invariant-loop-i : goal.invariant-loop-i
invariant-loop-i l = after_extensions (l.most - l.i) l.kind l.whole l.left ≡ after_extensions l.most l.fn.kind l.fn.whole l.octets
