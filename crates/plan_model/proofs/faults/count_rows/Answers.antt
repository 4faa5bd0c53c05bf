use Rattle.std.proofs.Common.{sym, ap, ◌≡◌, arith, length, get_or}
use Rattle.std.proofs.lemmas.List.Sums.{sum_by_more}
use Rattle.std.proofs.lemmas.List.Elements.{AllWithin-more}
use Rattle.plan_rules.specs.Tables.{IsTable}
use Rattle.plan_rules.proofs.Places.{holds_at}
use Rattle.plan_model.specs.declared.node.Node.{Node}
use Rattle.plan_model.proofs.faults.count_rows.Goals as goal

pub overflow_add-count : goal.overflow_add-count
overflow_add-count c = omega arith

pub loop-node-preserved : goal.loop-node-preserved
loop-node-preserved c =
    let more = sum_by_more (λ (node : Node). length node.table) c.args.nodes.now c.loop-node.node-index c.node-item.result
    c.loop-node-test.true in
    let here : length (get_or c.args.nodes.now c.loop-node.node-index c.node-item.result).table ≡ length c.node-item.result.table =
    ap (λ (node : Node). length node.table) (sym c.node-item.is) in
    record {
      count = omega (arith, more, here, c.loop-node.invariant.count, c.min-count.ensures, c.min.ensures, c.len.ensures.count);
      tables = AllWithin-more (λ node. IsTable node.table) _ 0 c.loop-node.node-index c.loop-node.invariant.tables
          (holds_at (λ node. IsTable node.table) _ c.loop-node.node-index c.node-item.result c.loop-node-test.true c.node-item.is
          c.len.ensures.sound);
    }
