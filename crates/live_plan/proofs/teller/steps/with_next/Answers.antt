use Rattle.std.proofs.Common.{arith, ◌≡◌, ◌≤◌, ◌+◌, ap, ◌∙◌, sym, subst}
use Rattle.std.specs.Arc.{arc_value}
use Rattle.live_plan.specs.declared.known.Known.{Known}
use Rattle.live_plan.specs.declared.published.Published.{Published}
use Rattle.live_plan.specs.declared.published.Shown.{Shown}
use Rattle.live_plan.specs.Plans.{HasPlan}
use Rattle.live_plan.specs.Published.{advanced}
use Rattle.live_plan.specs.Seats.{IsTelling, known_by}
use Rattle.live_plan.specs.Tellers.{told_by, shown_by}
use Rattle.live_plan.proofs.Turning.{advances}
use Rattle.live_plan.proofs.Telling.{last_shown, both_match, both_ok, next_telling}
use Rattle.live_plan.proofs.teller.steps.with_next.Goals as goal

pub publish_as-writer-requires : goal.publish_as-writer-requires
publish_as-writer-requires g c next is =
    let y : Shown = arc_value c.args.given.1.shown in
    let teller = c.args.teller in
    let x : Published = c.append.new.self.desk.shown.value in
    let v : Known = known_by c.append.new.self.desk.place in
    let e : arc_value next.shown ≡ y = last_shown _ _ _ _ c.args.given.1 is c.in-Ok.ensures.pending in
    let told : v ≡ told_by teller = ap (λ d. known_by d.place) c.in-Ok.ensures.desk in
    let old : arc_value x.shown ≡ shown_by teller = ap (λ d. arc_value d.shown.value.shown) c.in-Ok.ensures.desk in
    let mine : v.batch ≡ (arc_value x.shown).batch = ap (λ (k : Known). k.batch) told
    ∙ (teller.telling.batch_is ∙ ap (λ (s : Shown). s.batch) (sym old)) in
    let same : (arc_value x.shown).batch ≡ (arc_value next.shown).batch = ap (λ (s : Shown). s.batch) old
    ∙ (c.requires.batch ∙ ap (λ (s : Shown). s.batch) (sym e)) in
    let before : (arc_value x.shown).number ≡ (shown_by teller).number = ap (λ (s : Shown). s.number) old in
    let after : (arc_value next.shown).number ≡ y.number = ap (λ (s : Shown). s.number) e in
    let one : y.number ≡ (shown_by teller).number + 1 = c.requires.number in
    let le : (arc_value x.shown).number ≤ (arc_value next.shown).number = omega (arith, before, after, one) in
    let there = subst (λ (k : Known). HasPlan k.plans y.number (arc_value y.plan)) (sym told) c.requires.plan in
    advances (λ (p : Published). arc_value p.shown) _ v x next mine same le
    (subst (λ (s : Shown). HasPlan v.plans s.number (arc_value s.plan)) (sym e) there)

pub invariant_of-teller-2 : goal.invariant_of-teller-2
invariant_of-teller-2 g c =
    let y : Shown = arc_value c.args.given.1.shown in
    let teller = c.args.teller in
    let now = c.publish_as-writer.result.0 in
    let told : known_by c.append.new.self.desk.place ≡ told_by teller = ap (λ d. known_by d.place) c.in-Ok.ensures.desk in
    let old : arc_value c.append.new.self.desk.shown.value.shown ≡ shown_by teller =
    ap (λ d. arc_value d.shown.value.shown) c.in-Ok.ensures.desk in
    record {
      telling = both_match c.publish_as-writer.result.1 _ _ _ _ c.publish_as-writer.ensures.values c.publish_as-writer.ensures.rule
          (λ x p q.
          let e : arc_value now.desk.shown.value.shown ≡ y = last_shown _ _ _ _ c.args.given.1 p.0 c.in-Ok.ensures.pending in
          let k : known_by now.desk.place ≡ advanced (told_by teller) y = q
          ∙ (ap (λ s. advanced (known_by c.append.new.self.desk.place) s) e ∙ ap (λ v. advanced v y) told) in
          subst (λ (v : Known). IsTelling teller.nodes (arc_value now.desk.shown.value.shown) v) (sym k)
          (subst (λ (s : Shown). IsTelling teller.nodes s (advanced (told_by teller) y)) (sym e)
          (next_telling teller.nodes (shown_by teller)
          (told_by teller) y teller.telling c.requires.batch c.requires.number c.requires.plan)))
          (λ x p q.
          let s : arc_value now.desk.shown.value.shown ≡ shown_by teller = ap (λ (p : Published). arc_value p.shown) p.0 ∙ old in
          let k : known_by now.desk.place ≡ told_by teller = q ∙ told in
          subst (λ (v : Known). IsTelling teller.nodes (arc_value now.desk.shown.value.shown) v) (sym k)
          (subst (λ (s : Shown). IsTelling teller.nodes s (told_by teller)) (sym s) teller.telling));
    }

pub returns-clause-ok : goal.returns-clause-ok
returns-clause-ok g c =
    let y : Shown = arc_value c.args.given.1.shown in
    let teller = c.args.teller in
    let now = c.publish_as-writer.result.0 in
    let told : known_by c.append.new.self.desk.place ≡ told_by teller = ap (λ d. known_by d.place) c.in-Ok.ensures.desk in
    let r = c.publish_as-writer.result.1 in
    both_ok r _ _ _ _ c.publish_as-writer.ensures.values c.publish_as-writer.ensures.rule
    (λ x p q.
    let e : arc_value now.desk.shown.value.shown ≡ y = last_shown _ _ _ _ c.args.given.1 p.0 c.in-Ok.ensures.pending in
    q ∙ (ap (λ s. advanced (known_by c.append.new.self.desk.place) s) e ∙ ap (λ v. advanced v y) told))
