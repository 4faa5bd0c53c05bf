use Rattle.std.proofs.Common.{List, sym, subst, arith}
use Rattle.plan_unused.specs.declared.survey.RowPlace.{RowPlace}
use Rattle.plan_unused.specs.Listed.{RowsSoFar}
use Rattle.plan_unused.proofs.InOrder.{rows_none, rows_all}
use Rattle.plan_unused.proofs.listing.unused_rows.Goals as goal

pub loop-node-init : goal.loop-node-init
loop-node-init c = subst (λ (xs : List RowPlace). RowsSoFar c.args.plan.now 0 0 xs) (sym c.new-found.ensures) (rows_none c.args.plan.now)

pub returns : goal.returns
returns c =
    rows_all c.args.plan.now c.loop-node.node c.loop-node.found
    (omega (arith, c.node_count-node-end.ensures.count, c.loop-node-test.false)) c.loop-node.invariant
