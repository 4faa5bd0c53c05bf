use Rattle.std.proofs.Common.{◌∙◌, ℕ, List, length, sym, subst}
use Rattle.std.proofs.lemmas.Bool.{false≢true}
use Rattle.plan_classes.specs.Titles.{Titles}
use Rattle.plan_check.specs.Ranking.{IsFullFor}
use Rattle.plan_check.proofs.Fullness.{put_few}
use Rattle.plan_check.proofs.ranks.Ranks.put.Goals as goal

pub invariant_of-self-2 : goal.invariant_of-self-2
invariant_of-self-2 c = record {
  few = put_few c.self.inside.ranks.entries c.args.class (length c.insert.new.self.entries) c.in_ok-insert.field-0 c.self.invariant
      (λ full. false≢true (sym c.if-is_full_for.false ∙ c.is_full_for.ensures.full.1
      (subst (λ (es : List (Titles × ℕ)). IsFullFor es c.args.class) c.self.view_is full)))
      c.in_ok-insert.ensures.old c.in_ok-insert.ensures.len;
  ordered = c.in_ok-insert.ensures.ordered;
}

pub returns-clause-ok : goal.returns-clause-ok
returns-clause-ok c = λ q. rw (← c.self.view_is) (c.in_ok-insert.ensures.updates.0 q)
