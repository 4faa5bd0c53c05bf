use Rattle.std.proofs.Common.{◌≡◌, length, ap, sym, ◌∙◌, subst}
use Rattle.std.specs.Arc.{arc_value}
use Rattle.plan_check.specs.Verified.{Verified}
use Rattle.live_plan.specs.declared.published.Published.{Published}
use Rattle.live_plan.specs.declared.published.Shown.{Shown}
use Rattle.live_plan.specs.Entries.{entry_plan}
use Rattle.live_plan.specs.Plans.{HasPlan, nodes_of}
use Rattle.live_plan.specs.Tellers.{told_by, shown_by, plans_of, due_of}
use Rattle.live_plan.proofs.Passed.{has_nodes}
use Rattle.live_plan.proofs.Telling.{seen_length, last_seen}
use Rattle.live_plan.proofs.Batched.{if_ok, both_ok}
use Rattle.live_plan.proofs.teller.Teller.last_entry.Goals as goal

pub returns-clause-number : goal.returns-clause-number
returns-clause-number c =
    let old = c.args.self.now in
    let shown : c.deref-shown.result.now ≡ shown_by old = c.deref-shown.ensures
    ∙ ap (λ (p : Published). arc_value p.shown) c.published.ensures in
    let long : length (plans_of old) ≡ (shown_by old).number = seen_length old.nodes (shown_by old) (told_by old)
    (shown_by old) old.telling in
    if_ok _ _ c.of.result (λ e at. at ∙ (ap (λ (s : Shown). s.number) shown ∙ sym long)) c.of.ensures.number

pub returns-clause-plan : goal.returns-clause-plan
returns-clause-plan c =
    let old = c.args.self.now in
    let shown : c.deref-shown.result.now ≡ shown_by old = c.deref-shown.ensures
    ∙ ap (λ (p : Published). arc_value p.shown) c.published.ensures in
    let long : length (plans_of old) ≡ (shown_by old).number = seen_length old.nodes (shown_by old) (told_by old)
    (shown_by old) old.telling in
    let last : HasPlan (plans_of old) (length (plans_of old)) (arc_value (shown_by old).plan) =
    last_seen old.nodes (shown_by old) (told_by old) (shown_by old) old.telling in
    if_ok _ _ c.of.result (λ e both.
    let at : e.number ≡ length (plans_of old) = both.0 ∙ (ap (λ (s : Shown). s.number) shown ∙ sym long) in
    let is : entry_plan e ≡ arc_value (shown_by old).plan = both.1 ∙ ap (λ (s : Shown). arc_value s.plan) shown in
    subst (λ n. HasPlan (plans_of old) n (entry_plan e)) (sym at) (subst (HasPlan (plans_of old) (length (plans_of old))) (sym is) last))
    (both_ok _ _ c.of.result c.of.ensures.number c.of.ensures.plan)

pub returns-clause-due : goal.returns-clause-due
returns-clause-due c =
    let old = c.args.self.now in
    let shown : c.deref-shown.result.now ≡ shown_by old = c.deref-shown.ensures
    ∙ ap (λ (p : Published). arc_value p.shown) c.published.ensures in
    if_ok _ _ c.of.result (λ e both.
    let at : e.number ≡ (shown_by old).number = both.0 ∙ ap (λ (s : Shown). s.number) shown in
    let is : entry_plan e ≡ arc_value (shown_by old).plan = both.1 ∙ ap (λ (s : Shown). arc_value s.plan) shown in
    subst (λ n. HasPlan (due_of old) n (entry_plan e)) (sym at)
    (subst (HasPlan (due_of old) (shown_by old).number) (sym is) old.telling.plan_is))
    (both_ok _ _ c.of.result c.of.ensures.number c.of.ensures.plan)

pub returns-clause-nodes : goal.returns-clause-nodes
returns-clause-nodes c =
    let old = c.args.self.now in
    let shown : c.deref-shown.result.now ≡ shown_by old = c.deref-shown.ensures
    ∙ ap (λ (p : Published). arc_value p.shown) c.published.ensures in
    let last : nodes_of (arc_value (shown_by old).plan) ≡ old.nodes = has_nodes old.nodes (due_of old) (shown_by old).number
    (arc_value (shown_by old).plan) old.telling.alike old.telling.plan_is in
    if_ok _ _ c.of.result (λ e at. ap (λ (p : Verified). nodes_of p) (at ∙ ap (λ (s : Shown). arc_value s.plan) shown)
    ∙ last) c.of.ensures.plan
