use Rattle.std.proofs.Common.{◌≡◌, ◌≤◌, ◌+◌, ◌*◌, drop, length, map, sum}
use Rattle.couple_chain.specs.Relays.{Relaying}
use Rattle.chain_world.proofs.asking.sections_in.Given as goal

-- the sections of the relays so far, and of those that are left
abbrev pub invariant-loop-relay : goal.invariant-loop-relay
invariant-loop-relay l = record {
  all : l.total + sum (map (λ (r : Relaying). length r.sections) (drop l.relay-index l.relays))
      ≡ sum (map (λ (r : Relaying). length r.sections) l.relays);
  few : l.total ≤ 4096 * l.relay-index;
}
