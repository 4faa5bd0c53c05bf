use Rattle.std.proofs.Common.{◌≡◌, take}
use Rattle.plan_order.specs.Refusing.{held_of}
use Rattle.plan_order.proofs.refusing.held_of.Given as goal

-- the relays so far
abbrev pub invariant-loop-hop : goal.invariant-loop-hop
invariant-loop-hop l = l.refusal ≡ held_of (take l.hop-index l.hops)
