use Rattle.relay_ways.proofs.ExplainLemmas.{shortest_one}
use Rattle.relay_ways.proofs.laws.shortest_conditions_are_one.Goals as goal

pub returns : goal.returns
returns c = shortest_one
