use Rattle.std.proofs.Common.{◌≡◌, ◌<◌, ◌++◌, ◌-◌, length}
use Rattle.std.specs.Prelude.{option_map}
use Rattle.chain_world.specs.Staged.{stages_from}
use Rattle.chain_world.proofs.stage.follow.Given as goal

-- the pairs so far, and those from this one on
abbrev pub invariant-loop-turn : goal.invariant-loop-turn
invariant-loop-turn l = record {
  inside : l.stage.node < length l.plan.nodes;
  whole : option_map (λ stages. l.path ++ stages) (stages_from l.plan l.relays (l.fn.most - l._turn) l.stage)
      ≡ stages_from l.plan l.relays l.fn.most l.first;
}
