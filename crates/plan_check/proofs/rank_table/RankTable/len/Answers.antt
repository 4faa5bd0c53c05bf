use Rattle.std.specs.Prelude.{ℕ, ◌≢◌, List}
use Rattle.std.specs.List.{AllPairs}
use Rattle.std.proofs.Common.{subst}
use Rattle.plan_classes.specs.Titles.{Titles}
use Rattle.plan_check.specs.Ranking.{classes_in}
use Rattle.plan_check.proofs.Hashed.{classes_differ}
use Rattle.plan_check.proofs.rank_table.RankTable.len.Goals as goal

pub returns-clause-distinct : goal.returns-clause-distinct
returns-clause-distinct c = subst (λ (es : List (Titles × ℕ)). AllPairs (λ c d. c ≢ d) (classes_in es)) c.self.view_is
    (classes_differ (classes_in c.self.inside.ranks.entries) c.len.ensures.unique)
