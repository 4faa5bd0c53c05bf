use Rattle.plan_order.proofs.Turning.{turn_back}
use Rattle.plan_order.proofs.laws.orders_turn_back.Goals as goal

pub returns : goal.returns
returns c = turn_back
