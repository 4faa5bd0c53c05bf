use Rattle.std.specs.Ordering.{is_lt}
use Rattle.std.proofs.Common.{rules}
use Rattle.std.proofs.lemmas.List.Sorted.{IsPartitionPoint-from_clause}
use Rattle.plan_covers.specs.Keys.{key_cmp}
use Rattle.plan_covers.proofs.KeyOrder.{parted}
use Rattle.plan_covers.proofs.cover_order.count_below.Goals as goal

pub returns-clause-parted : goal.returns-clause-parted
returns-clause-parted c =
    IsPartitionPoint-from_clause (λ p. is_lt (key_cmp p.key c.args.key.now)) _ _ c.partition_point.ensures.partitioned
    (parted c.args.order.now c.args.key.now c.requires) (λ a r q k. search rules)
