use Rattle.plan_verify.proofs.FromStarts.{start_spot}
use Rattle.plan_verify.proofs.verifying.refute.Goals as goal

pub of_route-requires-clause-covered : goal.of_route-requires-clause-covered
of_route-requires-clause-covered c =
    (start_spot c.args.plan.now c.args.number c.args.trace c.start.result c.spot_of-spot.result c.requires.plan c.start.ensures.value
    c.spot_of-spot.ensures c.requires.trace).0

pub of_route-requires-clause-node : goal.of_route-requires-clause-node
of_route-requires-clause-node c =
    (start_spot c.args.plan.now c.args.number c.args.trace c.start.result c.spot_of-spot.result c.requires.plan c.start.ensures.value
    c.spot_of-spot.ensures c.requires.trace).1

pub of_route-requires-clause-bad : goal.of_route-requires-clause-bad
of_route-requires-clause-bad c =
    (start_spot c.args.plan.now c.args.number c.args.trace c.start.result c.spot_of-spot.result c.requires.plan c.start.ensures.value
    c.spot_of-spot.ensures c.requires.trace).2
