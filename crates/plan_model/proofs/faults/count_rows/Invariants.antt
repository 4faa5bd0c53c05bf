use Rattle.std.proofs.Common.{◌≡◌, take}
use Rattle.std.specs.Prelude.{min}
use Rattle.std.specs.List.{AllWithin}
use Rattle.plan_rules.specs.Tables.{IsTable}
use Rattle.plan_model.specs.Network.{rows_in_all}
use Rattle.plan_model.proofs.faults.count_rows.Given as goal

-- the rows of the nodes so far, up to the most that are counted
abbrev pub invariant-loop-node : goal.invariant-loop-node
invariant-loop-node l = record {
  count : l.count ≡ min (rows_in_all (take l.node-index l.nodes)) l.most;
  tables : AllWithin (λ node. IsTable node.table) l.nodes 0 l.node-index;
}
