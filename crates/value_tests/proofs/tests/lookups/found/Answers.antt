use Rattle.std.proofs.Common.{arith}
use Rattle.value_tests.proofs.tests.lookups.found.Goals as goal

pub returns : goal.returns
returns g c = c.find_counted.ensures.cost 13 (omega (arith, c.requires))
