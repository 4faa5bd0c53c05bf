use Rattle.plan_classes.proofs.Alone.{alone_reaches_fewer}
use Rattle.plan_classes.proofs.laws.alone_reaches_fewer.Goals as goal

pub returns : goal.returns
returns c = alone_reaches_fewer
