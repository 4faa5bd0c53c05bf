use Rattle.relay_watch.proofs.ReasonedRuns.{has_nearest, answered_again, no_arrival}
use Rattle.relay_watch.proofs.reasoning.reasoned_truly.Goals as goal

pub returns-clause-nearest : goal.returns-clause-nearest
returns-clause-nearest c = has_nearest

pub returns-clause-again : goal.returns-clause-again
returns-clause-again c = answered_again

pub returns-clause-none : goal.returns-clause-none
returns-clause-none c = no_arrival
