use Rattle.std.proofs.Common.{◌≡◌, ◌<◌, ◌++◌, drop, length}
use Rattle.plan_change.specs.Mixture.{mixed_under, tagged_under}
use Rattle.plan_change.proofs.mixing.hops_under.Given as goal

-- the hops so far and the way on are the whole way
abbrev pub invariant-loop-turn : goal.invariant-loop-turn
invariant-loop-turn l = record {
  whole : l.hops ++ tagged_under l.plans.may.now (mixed_under l.plans.may.now l.plans.old.now l.plans.new.now l.here
      (drop l.turn-index l.turns))
      (drop l.turn-index l.turns)
      ≡ tagged_under l.plans.may.now (mixed_under l.plans.may.now l.plans.old.now l.plans.new.now l.fn.spot l.fn.turns) l.fn.turns;
  stays : l.here.node < length l.plans.old.now.nodes;
}
