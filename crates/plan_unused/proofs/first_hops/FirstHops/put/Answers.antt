use Rattle.std.specs.Prelude.{ℕ, ◌≡◌, ◌≢◌, List, length, OnOk, Some, if◌then◌else◌}
use Rattle.std.specs.List.{AllPairs}
use Rattle.std.specs.Ordering.{is_eq}
use Rattle.std.proofs.Common.{sym, ap, subst, arith}
use Rattle.plan_classes.specs.Titles.{Titles}
use Rattle.plan_check.specs.Ranking.{rank_in, class_cmp, classes_in}
use Rattle.plan_check.proofs.Hashed.{equal_class, put_at, classes_differ}
use Rattle.plan_unused.specs.Walks.{KeepsPlaces}
use Rattle.plan_unused.proofs.Places.{put_last}
use Rattle.plan_unused.proofs.first_hops.FirstHops.put.Goals as goal
use Rattle.plan_unused.proofs.first_hops.FirstHops.put.Goals.{in-Ok, in-Err}

pub returns-then-len-limit-clause-wide : goal.returns-then-len-limit-clause-wide
returns-then-len-limit-clause-wide c = λ _. (
  (let count : c.len.result ≡ length c.self.inside.hops.entries = c.len.ensures.len in
      omega (arith, c.if-len-limit.true, count, ap (λ (es : List (Titles × ℕ)). length es) c.self.view_is)),
  subst (λ (es : List (Titles × ℕ)). AllPairs (λ c d. c ≢ d) (classes_in es)) c.self.view_is
      (classes_differ (classes_in c.self.inside.hops.entries) c.len.ensures.unique),
)

pub returns-clause-ok : goal.returns-clause-ok
returns-clause-ok c = elim c.match-insert.branch [
  | in-Ok w ↦ subst (λ r. OnOk r ((q : Titles) → rank_in c.insert.new.self.entries q
      ≡ (if is_eq (class_cmp c.args.class q) then Some c.args.rank else rank_in c.args.self.now q))) (sym w.result-is)
      (λ q. subst (λ (es : List (Titles × ℕ)). rank_in c.insert.new.self.entries q
      ≡ (if is_eq (class_cmp c.args.class q) then Some c.args.rank else rank_in es q)) c.self.view_is
      (put_at c.self.inside.hops.entries c.insert.new.self.entries c.args.class c.args.rank w.in-Ok.ensures.updates.0 q))
  | in-Err w ↦ subst (λ r. OnOk r ((q : Titles) → rank_in c.insert.new.self.entries q
      ≡ (if is_eq (class_cmp c.args.class q) then Some c.args.rank else rank_in c.args.self.now q))) (sym w.result-is) tt
]

pub returns-clause-places : goal.returns-clause-places
returns-clause-places c = elim c.match-insert.branch [
  | in-Ok w ↦ subst (λ r. OnOk r (KeepsPlaces c.args.self.now c.insert.new.self.entries)) (sym w.result-is)
      (subst (λ (es : List (Titles × ℕ)). KeepsPlaces es c.insert.new.self.entries) c.self.view_is
      (subst (KeepsPlaces c.self.inside.hops.entries) (sym w.in-Ok.ensures.entries)
      (put_last equal_class c.self.inside.hops.entries c.args.class c.args.rank)))
  | in-Err w ↦ subst (λ r. OnOk r (KeepsPlaces c.args.self.now c.insert.new.self.entries)) (sym w.result-is) tt
]
