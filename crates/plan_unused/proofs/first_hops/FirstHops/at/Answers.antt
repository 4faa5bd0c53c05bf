use Rattle.std.specs.Prelude.{ℕ, List}
use Rattle.std.proofs.Common.{sym, ◌∙◌, ap}
use Rattle.plan_classes.specs.Titles.{Titles}
use Rattle.plan_check.specs.Ranking.{rank_in}
use Rattle.plan_check.proofs.Hashed.{rank_is}
use Rattle.plan_unused.proofs.first_hops.FirstHops.at.Goals as goal

pub returns-clause-rank : goal.returns-clause-rank
returns-clause-rank c =
    sym (ap (λ (es : List (Titles × ℕ)). rank_in es c.in-Some.class.now) c.self.view_is)
    ∙ sym (rank_is c.self.inside.hops.entries c.in-Some.class.now) ∙ c.in-Some.ensures.value
