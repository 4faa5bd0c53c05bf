use Rattle.live_plan.proofs.Machines.{all_later, leads_later}
use Rattle.live_plan.proofs.laws.numbers_never_fall.Goals as goal

pub returns-clause-events : goal.returns-clause-events
returns-clause-events c m events valid may = all_later m events valid may

pub returns-clause-batch : goal.returns-clause-batch
returns-clause-batch c m after valid leads = leads_later m after valid leads
