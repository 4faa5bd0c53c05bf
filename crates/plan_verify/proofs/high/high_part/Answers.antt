use Rattle.std.proofs.Common.{◌∙◌, sym, subst}
use Rattle.std.proofs.lemmas.Bool.{false≢true}
use Rattle.std.proofs.lemmas.List.Elements.{All-more}
use Rattle.plan_classes.specs.Titles.{Titles}
use Rattle.plan_check.specs.Ranking.{rank_in}
use Rattle.plan_verify.specs.Attained.{RanksFrom}
use Rattle.plan_verify.proofs.Ranking.{none_high}
use Rattle.plan_verify.proofs.high.high_part.Goals as goal

pub loop-part-preserved : goal.loop-part-preserved
loop-part-preserved c =
    All-more (λ (part : Titles). RanksFrom (rank_in c.args.ranks.now) c.args.least part
    → ⊥) c.args.parts.now c.loop-part.part-index c.part-item.result c.loop-part-test.true c.loop-part.invariant
    (subst (λ (part : Titles). RanksFrom (rank_in c.args.ranks.now) c.args.least part
    → ⊥) c.part-item.is (λ high. false≢true (sym c.if-ranks_from.false ∙ c.ranks_from.ensures.1 high)))

pub unreachable-requires : goal.unreachable-requires
unreachable-requires c = none_high c.args.ranks.now c.args.least c.loop-part.part-index c.args.parts.now c.loop-part-test.false
    c.loop-part.invariant c.requires
