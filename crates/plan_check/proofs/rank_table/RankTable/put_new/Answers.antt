use Rattle.std.specs.Prelude.{ℕ, ◌≡◌, Bool, if◌then◌else◌, List, Some}
use Rattle.std.specs.Ordering.{is_eq}
use Rattle.std.specs.Map.{lookup, set_value}
use Rattle.std.proofs.Common.{sym, ◌∙◌, ap, subst}
use Rattle.std.proofs.lemmas.Map.Steps.{set_value_same}
use Rattle.plan_classes.specs.Titles.{Titles}
use Rattle.plan_check.specs.Ranking.{rank_in, class_cmp}
use Rattle.plan_check.proofs.Hashed.{equal_class, rank_is, put_at, replaced, set_twice}
use Rattle.plan_check.proofs.rank_table.RankTable.put_new.Goals as goal

pub returns-in-None-clause-was : goal.returns-in-None-clause-was
returns-in-None-clause-was c =
    sym c.in-None.is ∙ c.in_ok-insert.ensures.old ∙ rank_is c.self.inside.ranks.entries c.args.class.now
    ∙ ap (λ (es : List (Titles × ℕ)). rank_in es c.args.class.now) c.self.view_is

pub returns-in-None-clause-new : goal.returns-in-None-clause-new
returns-in-None-clause-new c = λ none q. subst
    (λ (es : List (Titles × ℕ)). rank_in c.insert.new.self.entries q
    ≡ (if is_eq (class_cmp c.args.class.now q) then Some c.args.rank else rank_in es q)) c.self.view_is
    (put_at c.self.inside.ranks.entries c.insert.new.self.entries c.args.class.now c.args.rank c.in_ok-insert.ensures.updates.0 q)

pub returns-in_ok-insert-in-Some-clause-was : goal.returns-in_ok-insert-in-Some-clause-was
returns-in_ok-insert-in-Some-clause-was c =
    sym c.in-Some.is ∙ c.in_ok-insert.ensures.old ∙ rank_is c.self.inside.ranks.entries c.args.class.now
    ∙ ap (λ (es : List (Titles × ℕ)). rank_in es c.args.class.now) c.self.view_is

pub returns-in_ok-insert-in-Some-clause-kept : goal.returns-in_ok-insert-in-Some-clause-kept
returns-in_ok-insert-in-Some-clause-kept c = λ some.
    let test : Titles → Bool = equal_class c.args.class.now in
    let old : List (Titles × ℕ) = c.self.inside.ranks.entries in
    let put : c.insert.new.self.entries ≡ set_value test old c.args.rank = replaced _ _ _ _ c.in-Some.is c.in_ok-insert.ensures.entries in
    let there : c.in_ok-insert-in-Some.field-0 ≡ Some c.args.rank = c.in_ok-insert-in-Some.ensures.old
    ∙ c.in_ok-insert.ensures.updates.1 in
    let back : c.insert-in-Some.new.self.entries ≡ set_value test c.insert.new.self.entries c.in-Some.was =
    replaced _ _ _ _ there c.in_ok-insert-in-Some.ensures.entries in
    let found : lookup test old ≡ Some c.in-Some.was = sym c.in_ok-insert.ensures.old ∙ c.in-Some.is in
    back ∙ ap (λ (es : List (Titles × ℕ)). set_value test es c.in-Some.was) put ∙ set_twice test old c.args.rank c.in-Some.was
    ∙ set_value_same test old c.in-Some.was found ∙ c.self.view_is
