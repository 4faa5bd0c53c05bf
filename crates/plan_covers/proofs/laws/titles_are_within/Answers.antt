use Rattle.plan_covers.proofs.Titles.{titles_within}
use Rattle.plan_covers.proofs.laws.titles_are_within.Goals as goal

pub returns : goal.returns
returns c = titles_within
