use Rattle.std.proofs.Common.{◌∙◌, ℕ, Option, IsSome, refl, sym, subst}
use Rattle.std.specs.List.{All}
use Rattle.std.proofs.lemmas.Bool.{false≢true}
use Rattle.plan_rules.specs.Rule.{Rule}
use Rattle.plan_classes.specs.Classes.{class_row}
use Rattle.plan_check.specs.Ranking.{rank_in}
use Rattle.plan_check.specs.Checks.{MayLead}
use Rattle.plan_check.proofs.Causes.{led_at, decided_ends, decided_ranks, decided_ranked, no_good_ends, no_ranks, not_lower}
use Rattle.plan_check.proofs.classes.test_row.Goals as goal

pub returns-then-not-all_may_lead-clause-fault : goal.returns-then-not-all_may_lead-clause-fault
returns-then-not-all_may_lead-clause-fault c =
    let is = led_at c.args.plan.now c.args.class.now c.as_slice-images.result.now c.in_ok-led.led c.as_slice-images.ensures
    c.in_ok-led.ensures.each c.in_ok-led.ensures.every in (
      refl,
      no_good_ends c.args.plan.now c.args.class.now c.requires.decided c.as_slice-images.result.now is
          (λ all. false≢true (sym c.if-not-all_may_lead.true
          ∙ c.all_may_lead.ensures.1 (subst (λ (n : ℕ). All (MayLead c.args.plan.now n) c.as_slice-images.result.now)
          (sym c.cover.ensures.value) all))),
    )

pub returns-then-not-all_next_have_ranks-clause-fault : goal.returns-then-not-all_next_have_ranks-clause-fault
returns-then-not-all_next_have_ranks-clause-fault c =
    let is = led_at c.args.plan.now c.args.class.now c.as_slice-images.result.now c.in_ok-led.led c.as_slice-images.ensures
    c.in_ok-led.ensures.each c.in_ok-led.ensures.every in
    let row : IsSome (class_row c.args.plan.now c.args.class.now) = subst (λ (o : Option Rule). IsSome o) (sym c.requires.row) refl in
    let may = subst (λ (n : ℕ). All (MayLead c.args.plan.now n) c.as_slice-images.result.now) c.cover.ensures.value
    (c.all_may_lead.ensures.0 c.if-not-all_may_lead.false) in (
      refl,
      decided_ends c.args.plan.now c.args.class.now c.requires.cover c.requires.node c.requires.decided row c.as_slice-images.result.now
          is may,
      no_ranks c.args.plan.now (rank_in c.args.ranks.now) c.args.class.now c.requires.decided c.as_slice-images.result.now is
          (λ all. false≢true (sym c.if-not-all_next_have_ranks.true ∙ c.all_next_have_ranks.ensures.1 all)),
    )

pub returns-clause-fault : goal.returns-clause-fault
returns-clause-fault c =
    let is = led_at c.args.plan.now c.args.class.now c.as_slice-images.result.now c.in_ok-led.led c.as_slice-images.ensures
    c.in_ok-led.ensures.each c.in_ok-led.ensures.every in
    let row : IsSome (class_row c.args.plan.now c.args.class.now) = subst (λ (o : Option Rule). IsSome o) (sym c.requires.row) refl in
    let may = subst (λ (n : ℕ). All (MayLead c.args.plan.now n) c.as_slice-images.result.now) c.cover.ensures.value
    (c.all_may_lead.ensures.0 c.if-not-all_may_lead.false) in (
      refl,
      decided_ends c.args.plan.now c.args.class.now c.requires.cover c.requires.node c.requires.decided row c.as_slice-images.result.now
          is may,
      decided_ranks c.args.plan.now (rank_in c.args.ranks.now) c.args.class.now c.requires.decided c.as_slice-images.result.now is
          (c.all_next_have_ranks.ensures.0 c.if-not-all_next_have_ranks.false),
      not_lower c.args.plan.now (rank_in c.args.ranks.now) c.args.class.now c.args.rank c.requires.decided c.as_slice-images.result.now is
          (λ lower. false≢true (sym c.if-is_higher.false ∙ c.is_higher.ensures.1 lower)),
    )

pub returns-then-is_higher-clause-passed : goal.returns-then-is_higher-clause-passed
returns-then-is_higher-clause-passed c =
    let is = led_at c.args.plan.now c.args.class.now c.as_slice-images.result.now c.in_ok-led.led c.as_slice-images.ensures
    c.in_ok-led.ensures.each c.in_ok-led.ensures.every in
    let row : IsSome (class_row c.args.plan.now c.args.class.now) = subst (λ (o : Option Rule). IsSome o) (sym c.requires.row) refl in
    let may = subst (λ (n : ℕ). All (MayLead c.args.plan.now n) c.as_slice-images.result.now) c.cover.ensures.value
    (c.all_may_lead.ensures.0 c.if-not-all_may_lead.false) in
    decided_ranked c.args.plan.now
    (rank_in c.args.ranks.now) c.args.class.now c.args.rank c.cover.ensures.class c.requires.cover c.requires.node c.requires.decided
    row c.as_slice-images.result.now is may (c.is_higher.ensures.0 c.if-is_higher.true)
