use Rattle.std.proofs.Common.{◌≡◌, ◌++◌, drop, map}
use Rattle.chain_world.specs.declared.stage.Stage.{Stage}
use Rattle.chain_world.proofs.lines.nodes_of.Given as goal

-- the relays so far, and those that are left
abbrev pub invariant-loop-stage : goal.invariant-loop-stage
invariant-loop-stage l = l.nodes ++ map (λ (stage : Stage). stage.node) (drop l.stage-index l.path)
    ≡ map (λ (stage : Stage). stage.node) l.path
