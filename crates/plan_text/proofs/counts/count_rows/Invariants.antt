use Rattle.std.proofs.Common.{◌≡◌, take}
use Rattle.std.specs.Prelude.{min, sum_by}
use Rattle.toml.specs.View.{view}
use Rattle.plan_text.specs.Counts.{row_count}
use Rattle.plan_text.proofs.counts.count_rows.Given as goal

-- the rows of the nodes so far, up to the most that are counted
abbrev pub invariant-loop-node : goal.invariant-loop-node
invariant-loop-node l = l.count ≡ min (sum_by (λ node. row_count (view node)) (take l.node-index l.nodes)) l.most
