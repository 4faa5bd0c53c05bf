use Rattle.sccp_report.proofs.MixedTold.{mixed_in_range, text_tells_change, text_tells_mixed_route}
use Rattle.sccp_report.proofs.laws.text_tells_mixed_route.Goals as goal

pub returns-clause-route : goal.returns-clause-route
returns-clause-route c = text_tells_mixed_route

pub returns-clause-change : goal.returns-clause-change
returns-clause-change c = text_tells_change

pub returns-clause-range : goal.returns-clause-range
returns-clause-range c = mixed_in_range
