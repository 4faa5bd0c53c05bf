use Rattle.std.proofs.Common.{◌≡◌, ◌+◌, ◌++◌, ◌∷◌, [], length, ap, sym, ◌∙◌, subst}
use Rattle.std.specs.Arc.{arc_value}
use Rattle.plan_check.specs.Verified.{Verified}
use Rattle.live_plan.specs.declared.known.Known.{Known}
use Rattle.live_plan.specs.declared.published.Published.{Published}
use Rattle.live_plan.specs.declared.published.Shown.{Shown}
use Rattle.live_plan.specs.Plans.{HasPlan}
use Rattle.live_plan.specs.Published.{seen_of}
use Rattle.live_plan.specs.Tellers.{told_by, shown_by, plans_of, due_of}
use Rattle.live_plan.proofs.Telling.{seen_length, seen_next}
use Rattle.live_plan.proofs.teller.Teller.advance.Goals as goal

pub replace_with-requires : goal.replace_with-requires
replace_with-requires g c =
    let old = c.args.self.now in
    let y : Shown = arc_value c.in_ok-shown.shown in
    let shown : c.deref-shown.result.now ≡ shown_by old = c.deref-shown.ensures
    ∙ ap (λ (p : Published). arc_value p.shown) c.published.ensures in
    let made = c.in_ok-shown.ensures.ok in
    let batch : (shown_by old).batch ≡ y.batch = sym (ap (λ (s : Shown). s.batch) made ∙ ap (λ (s : Shown). s.batch) shown) in
    let number : y.number ≡ (shown_by old).number + 1 = ap (λ (s : Shown). s.number) made ∙ ap (λ (s : Shown). s.number + 1) shown in
    let plan : arc_value y.plan ≡ c.args.next = ap (λ (s : Shown). arc_value s.plan) made ∙ c.in_ok-plan.ensures.ok in
    let long : length (plans_of old) + 1 ≡ y.number = ap (λ n. n + 1) (seen_length old.nodes (shown_by old) (told_by old) y old.telling)
    ∙ sym number in (
      batch,
      (
        number,
        subst (λ n. HasPlan (due_of old) n (arc_value y.plan)) long
            (subst (HasPlan (due_of old) (length (plans_of old) + 1)) (sym plan) c.requires),
      ),
    )

pub returns-clause-ok : goal.returns-clause-ok
returns-clause-ok g c =
    let old = c.args.self.now in
    let y : Shown = arc_value c.in_ok-shown.shown in
    let shown : c.deref-shown.result.now ≡ shown_by old = c.deref-shown.ensures
    ∙ ap (λ (p : Published). arc_value p.shown) c.published.ensures in
    let made = c.in_ok-shown.ensures.ok in
    let batch : (shown_by old).batch ≡ y.batch = sym (ap (λ (s : Shown). s.batch) made ∙ ap (λ (s : Shown). s.batch) shown) in
    let number : y.number ≡ (shown_by old).number + 1 = ap (λ (s : Shown). s.number) made ∙ ap (λ (s : Shown). s.number + 1) shown in
    let plan : arc_value y.plan ≡ c.args.next = ap (λ (s : Shown). arc_value s.plan) made ∙ c.in_ok-plan.ensures.ok in
    let long : length (plans_of old) + 1 ≡ y.number = ap (λ n. n + 1) (seen_length old.nodes (shown_by old) (told_by old) y old.telling)
    ∙ sym number in
    let here : HasPlan (due_of old) y.number (arc_value y.plan) = subst (λ n. HasPlan (due_of old) n (arc_value y.plan)) long
    (subst (HasPlan (due_of old) (length (plans_of old) + 1)) (sym plan) c.requires) in
    ap seen_of c.in_ok-replace_with.ensures.0 ∙ (seen_next old.nodes (shown_by old) (told_by old) y old.telling batch number here
    ∙ ap (λ (p : Verified). plans_of old ++ p ∷ []) plan)

pub returns-clause-due : goal.returns-clause-due
returns-clause-due g c = ap (λ (k : Known). k.plans) c.in_ok-replace_with.ensures.0

pub returns-clause-nodes : goal.returns-clause-nodes
returns-clause-nodes g c = c.in_ok-replace_with.ensures.1.1

pub returns-in_err-replace_with-clause-due : goal.returns-in_err-replace_with-clause-due
returns-in_err-replace_with-clause-due g c = ap (λ (k : Known). k.plans) c.in_err-replace_with.ensures.1.0

pub returns-in_err-replace_with-clause-nodes : goal.returns-in_err-replace_with-clause-nodes
returns-in_err-replace_with-clause-nodes g c = c.in_err-replace_with.ensures.1.1
