use Rattle.std.proofs.Common.{Option, IfSome, subst}
use Rattle.plan_model.specs.declared.spot.Spot.{Spot}
use Rattle.plan_model.specs.Covered.{Covered}
use Rattle.sccp_report.proofs.change.put_longest.Goals as goal

pub put_mixed_route-requires-clause-covered : goal.put_mixed_route-requires-clause-covered
put_mixed_route-requires-clause-covered c =
    subst (λ (o : Option Spot). IfSome o (Covered c.args.old.now)) c.in-Some.is c.requires.covered
