use Rattle.relay_watch.proofs.Waited.{left_waits, given_waits}
use Rattle.relay_watch.proofs.laws.unanswered_truly.Goals as goal

pub returns-clause-waits : goal.returns-clause-waits
returns-clause-waits c = left_waits

pub returns-clause-given : goal.returns-clause-given
returns-clause-given c = given_waits
