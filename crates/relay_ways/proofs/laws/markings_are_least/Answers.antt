use Rattle.relay_ways.proofs.Cutting.{least_markings, enough_markings}
use Rattle.relay_ways.proofs.laws.markings_are_least.Goals as goal

pub returns-clause-least : goal.returns-clause-least
returns-clause-least c = least_markings

pub returns-clause-enough : goal.returns-clause-enough
returns-clause-enough c = enough_markings
