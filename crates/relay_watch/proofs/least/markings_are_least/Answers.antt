use Rattle.relay_watch.proofs.LeastCut.{least, reached}
use Rattle.relay_watch.proofs.least.markings_are_least.Goals as goal

pub returns-clause-least : goal.returns-clause-least
returns-clause-least c = least c.markings_are_least.ensures.least

pub returns-clause-reached : goal.returns-clause-reached
returns-clause-reached c = reached c.markings_are_least.ensures.least c.markings_are_least.ensures.enough
