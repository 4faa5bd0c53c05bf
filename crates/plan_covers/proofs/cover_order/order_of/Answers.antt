use Rattle.std.proofs.Common.{length}
use Rattle.plan_covers.proofs.Groups.{has_same}
use Rattle.plan_covers.proofs.cover_order.order_of.Goals as goal

pub returns : goal.returns
returns c =
    record {
      keys = has_same c.args.covers.now (length c.args.covers.now) _ _ c.sort_unstable.ensures.permutation c.in_ok-order.ensures;
      sorted = c.sort_unstable.ensures.sorted;
    }
