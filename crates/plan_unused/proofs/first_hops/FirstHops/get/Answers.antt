use Rattle.std.specs.Prelude.{ℕ, List}
use Rattle.std.proofs.Common.{◌∙◌, ap}
use Rattle.plan_classes.specs.Titles.{Titles}
use Rattle.plan_check.specs.Ranking.{rank_in}
use Rattle.plan_check.proofs.Hashed.{rank_is}
use Rattle.plan_unused.proofs.first_hops.FirstHops.get.Goals as goal

pub returns : goal.returns
returns c =
    c.copied.ensures ∙ c.get.ensures.value ∙ rank_is c.self.inside.hops.entries c.args.class.now
    ∙ ap (λ (es : List (Titles × ℕ)). rank_in es c.args.class.now) c.self.view_is
