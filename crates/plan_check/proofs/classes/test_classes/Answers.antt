use Rattle.std.proofs.Common.{◌≡◌, ◌∙◌, ℕ, [], ◌∷◌, ◌++◌, map, sym, subst, rules}
use Rattle.std.specs.List.{All}
use Rattle.std.specs.Map.Iter.{deref_pair}
use Rattle.std.proofs.lemmas.List.{map-append}
use Rattle.std.proofs.lemmas.List.Elements.{All-push}
use Rattle.std.proofs.lemmas.Map.Iter.{iter_end}
use Rattle.std.proofs.lemmas.Result.{err_from_is_err_and}
use Rattle.plan_classes.specs.Titles.{Titles}
use Rattle.plan_check.specs.Ranking.{rank_in}
use Rattle.plan_check.specs.Ranked.{IsRankedClass}
use Rattle.plan_check.proofs.Orders.{ranked_all, has_entry, ranked_before, rest_here}
use Rattle.plan_check.proofs.classes.test_classes.Goals as goal

pub loop-class-preserved : goal.loop-class-preserved
loop-class-preserved c =
    let P : Titles × ℕ → Type 0 = λ e. IsRankedClass c.args.plan.now (rank_in c.args.ranks.now) e.0 e.1 in
    subst (All P) (sym (map-append deref_pair c.loop-class.yielded ((c.in-Some.class, c.in-Some.rank) ∷ [])))
    (All-push P (map deref_pair c.loop-class.yielded)
    (c.in-Some.class.now, c.in-Some.rank.now) c.loop-class.invariant c.in_ok-test_class.ensures.passed)

pub returns-in_err-test_class-clause-fault : goal.returns-in_err-test_class-clause-fault
returns-in_err-test_class-clause-fault c =
    let p = err_from_is_err_and c.from_residual.result c.from_residual.ensures.1 in
    let start : c.into_iter-class-iterator.result ≡ c.entries.result.now.entries = search rules in
    let whole : c.entries.result.now.entries ≡ map deref_pair c.loop-class.yielded ++ (c.in-Some.class.now, c.in-Some.rank.now)
    ∷ c.next.new.self =
    rest_here deref_pair c.entries.result.now.entries c.loop-class.yielded c.into_iter-class-iterator.result c.loop-class.class-iterator
    c.next.new.self c.next.result start c.loop-class.yielded_by (c.in-Some.class, c.in-Some.rank) c.in-Some.is c.next.ensures.steps in
    rw (p.1, p.2) (record {
      class = c.in-Some.class.now;
      rank = c.in-Some.rank.now;
      first = record {
        has = has_entry c.args.ranks.now
            (map deref_pair c.loop-class.yielded) c.next.new.self c.in-Some.class.now c.in-Some.rank.now c.entries.ensures.sound.ordered
            (sym c.entries.ensures.entries ∙ whole);
        before = ranked_before c.args.plan.now c.args.ranks.now
            (map deref_pair c.loop-class.yielded) c.next.new.self c.in-Some.class.now c.in-Some.rank.now c.entries.ensures.sound.ordered
            (sym c.entries.ensures.entries ∙ whole) c.loop-class.invariant;
      };
      fails = c.in_err-test_class.ensures.fault;
    })

pub returns-clause-passed : goal.returns-clause-passed
returns-clause-passed c =
    let all : map deref_pair c.loop-class.yielded ≡ c.entries.result.now.entries = search (rules, iter_end) in
    ranked_all c.args.plan.now c.args.ranks.now
    (subst (All (λ e. IsRankedClass c.args.plan.now (rank_in c.args.ranks.now) e.0 e.1)) (all
    ∙ c.entries.ensures.entries) c.loop-class.invariant)
