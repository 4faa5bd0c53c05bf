use Rattle.std.proofs.Common.{ℕ, ◌≤◌, ◌∙◌, List, Option, IsSome, length, ap, subst, sym, refl, arith}
use Rattle.plan_model.specs.declared.limits.Limits.{Limits}
use Rattle.plan_classes.specs.Titles.{Titles}
use Rattle.plan_classes.specs.Classes.{Reachable}
use Rattle.plan_check.proofs.Listed.{listed_once}
use Rattle.plan_check.proofs.Orders.{puts_own}
use Rattle.plan_verify.specs.declared.found.Found.{Found}
use Rattle.plan_verify.specs.Searching.{IsFollowed, IsBelowLimit}
use Rattle.plan_verify.proofs.Keeping.{keeps_put, sound_put}
use Rattle.plan_verify.proofs.search.settle.Goals as goal

pub returns-then-len-limit-clause-sound : goal.returns-then-len-limit-clause-sound
returns-then-len-limit-clause-sound c =
    let found = subst (λ (f : Found). IsFollowed c.args.plan.now c.args.class.now c.args.depth c.args.ranks.now f) c.in-Rank.is
    c.requires.found in
    sound_put _ _ _ _ c.in-Rank.rank c.args.depth c.requires.sound (sym c.in_ok-other-in-Rank.ensures.was ∙ c.in-None.is)
    (c.in_ok-other-in-Rank.ensures.new c.in-None.is) found.0 c.requires.reached

pub returns-then-len-limit-clause-keeps : goal.returns-then-len-limit-clause-keeps
returns-then-len-limit-clause-keeps c = keeps_put _ _ c.args.class.now c.in-Rank.rank
    (sym c.in_ok-other-in-Rank.ensures.was ∙ c.in-None.is) (c.in_ok-other-in-Rank.ensures.new c.in-None.is)

pub returns-then-len-limit-clause-found : goal.returns-then-len-limit-clause-found
returns-then-len-limit-clause-found c =
    let found = subst (λ (f : Found). IsFollowed c.args.plan.now c.args.class.now c.args.depth c.args.ranks.now f) c.in-Rank.is
    c.requires.found in (
      puts_own _ _ c.args.class.now c.in-Rank.rank (c.in_ok-other-in-Rank.ensures.new c.in-None.is),
      found.1,
      omega (arith, c.if-len-limit.true, c.len.ensures.count, ap (λ (l : Limits). l.classes) c.limits-limit.ensures),
    )

pub returns-else-len-limit-clause-sound : goal.returns-else-len-limit-clause-sound
returns-else-len-limit-clause-sound c =
    let found = subst (λ (f : Found). IsFollowed c.args.plan.now c.args.class.now c.args.depth c.args.ranks.now f) c.in-Rank.is
    c.requires.found in
    sound_put _ _ _ _ c.in-Rank.rank c.args.depth c.requires.sound (sym c.in_ok-other-in-Rank.ensures.was ∙ c.in-None.is)
    (c.in_ok-other-in-Rank.ensures.new c.in-None.is) found.0 c.requires.reached

pub returns-else-len-limit-clause-keeps : goal.returns-else-len-limit-clause-keeps
returns-else-len-limit-clause-keeps c = keeps_put _ _ c.args.class.now c.in-Rank.rank
    (sym c.in_ok-other-in-Rank.ensures.was ∙ c.in-None.is) (c.in_ok-other-in-Rank.ensures.new c.in-None.is)

pub returns-else-len-limit-clause-found : goal.returns-else-len-limit-clause-found
returns-else-len-limit-clause-found c =
    let found = subst (λ (f : Found). IsFollowed c.args.plan.now c.args.class.now c.args.depth c.args.ranks.now f) c.in-Rank.is
    c.requires.found in
    let many : c.args.plan.now.limits.classes ≤ length c.put_new.new.self =
    omega (arith, c.if-len-limit.false, c.len.ensures.count, ap (λ (l : Limits). l.classes) c.limits-limit.ensures) in
    let sound = sound_put _ _ _ _ c.in-Rank.rank c.args.depth c.requires.sound (sym c.in_ok-other-in-Rank.ensures.was ∙ c.in-None.is)
    (c.in_ok-other-in-Rank.ensures.new c.in-None.is) found.0 c.requires.reached in
    listed_once (λ t. (depth : ℕ) × Reachable c.args.plan.now depth t) c.put_new.new.self c.args.plan.now.limits.classes sound.reached
    c.len.ensures.distinct many

pub known-requires-clause-room : goal.known-requires-clause-room
known-requires-clause-room c =
    let found = subst (λ (f : Found). IsFollowed c.args.plan.now c.args.class.now c.args.depth c.args.ranks.now f) c.in-Rank.is
    c.requires.found in
    let same = c.in_ok-other-in-Rank.ensures.kept (subst (λ (o : Option ℕ). IsSome o) (sym c.in-Some.is) refl) in
    subst (λ (ranks : List (Titles × ℕ)). IsBelowLimit c.args.plan.now ranks) (sym same) found.2
