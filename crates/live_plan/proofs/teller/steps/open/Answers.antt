use Rattle.std.proofs.Common.{rules, arith, ◌≡◌, ◌++◌, [], ◌∷◌, ap, ◌∙◌, sym, subst}
use Rattle.std.specs.Arc.{arc_value}
use Rattle.live_plan.specs.declared.known.Known.{Known}
use Rattle.live_plan.specs.declared.published.Published.{Published}
use Rattle.live_plan.specs.declared.published.Shown.{Shown}
use Rattle.live_plan.specs.Plans.{HasPlan}
use Rattle.live_plan.specs.Published.{newcomer, seen_of, begun}
use Rattle.live_plan.specs.Seats.{IsTelling, known_by}
use Rattle.live_plan.proofs.Turning.{begins}
use Rattle.live_plan.proofs.Telling.{last_shown, first_here, first_telling, ok_match}
use Rattle.live_plan.proofs.teller.steps.open.Goals as goal

pub publish_as-writer-requires : goal.publish_as-writer-requires
publish_as-writer-requires g c next is =
    let y : Shown = arc_value c.in_ok-begun.begun in
    let x : Published = c.append.new.self.desk.shown.value in
    let v : Known = known_by c.append.new.self.desk.place in
    let e : arc_value next.shown ≡ y = last_shown _ _ _ _ _ is c.in-Ok.ensures.pending in
    let told : v ≡ newcomer = ap (λ d. known_by d.place) c.in-Ok.ensures.desk ∙ c.in_ok-writer.ensures.2 in
    let now : x ≡ c.in_ok-writer.writer.desk.shown.value = ap (λ d. d.shown.value) c.in-Ok.ensures.desk in
    let before : (arc_value x.shown).batch ≡ 1 = ap (λ (p : Published). (arc_value p.shown).batch) (now ∙ c.in_ok-writer.ensures.0)
    ∙ ap (λ (s : Shown). s.batch) c.in_ok-first.ensures.ok in
    let after : y.batch ≡ 2 = ap (λ (s : Shown). s.batch) c.in_ok-begun.ensures.ok in
    let number : y.number ≡ 1 = ap (λ (s : Shown). s.number) c.in_ok-begun.ensures.ok in
    let coming : y.coming.value ≡ c.args.first ∷ [] = search rules in
    let plan : arc_value y.plan ≡ c.args.first = search rules in
    let later : (arc_value next.shown).batch ≡ y.batch = ap (λ (s : Shown). s.batch) e in
    let here = first_here y c.args.first number coming plan in
    let there = subst (λ (k : Known). HasPlan (seen_of k ++ y.coming.value) y.number (arc_value y.plan)) (sym told) here in
    begins (λ (p : Published). arc_value p.shown) _ v x next (omega (arith, before, after, later))
    (subst (λ (s : Shown). HasPlan (seen_of v ++ s.coming.value) s.number (arc_value s.plan)) (sym e) there)

pub invariant_of-result : goal.invariant_of-result
invariant_of-result g c =
    let y : Shown = arc_value c.in_ok-begun.begun in
    let now = c.publish_as-writer.result.0 in
    let nodes = c.count_nodes-nodes.result in
    let v : Known = known_by c.append.new.self.desk.place in
    let told : v ≡ newcomer = ap (λ d. known_by d.place) c.in-Ok.ensures.desk ∙ c.in_ok-writer.ensures.2 in
    let number : y.number ≡ 1 = ap (λ (s : Shown). s.number) c.in_ok-begun.ensures.ok in
    let coming : y.coming.value ≡ c.args.first ∷ [] = search rules in
    let plan : arc_value y.plan ≡ c.args.first = search rules in
    let values = ok_match c.publish_as-writer.result.1 _ _ _ c.in-Ok-published.is c.publish_as-writer.ensures.values in
    let knows = ok_match c.publish_as-writer.result.1 _ _ _ c.in-Ok-published.is c.publish_as-writer.ensures.rule in
    let e : arc_value now.desk.shown.value.shown ≡ y = last_shown _ _ _ _ _ values.0 c.in-Ok.ensures.pending in
    let k : known_by now.desk.place ≡ begun newcomer y = knows ∙ (ap (λ s. begun v s) e ∙ ap (λ (u : Known). begun u y) told) in
    let first : IsTelling nodes y (begun newcomer y) = first_telling nodes y c.args.first number coming plan
    (sym c.count_nodes-nodes.ensures) in
    record {
      telling = subst (λ (u : Known). IsTelling nodes (arc_value now.desk.shown.value.shown) u) (sym k)
          (subst (λ (s : Shown). IsTelling nodes s (begun newcomer y)) (sym e) first);
    }
