use Rattle.std.proofs.Common.{◌≡◌, ◌++◌, ◌<◌, ap, ◌∙◌, sym, subst}
use Rattle.std.specs.Arc.{arc_value}
use Rattle.live_plan.specs.declared.known.Known.{Known}
use Rattle.live_plan.specs.declared.published.Published.{Published}
use Rattle.live_plan.specs.declared.published.Shown.{Shown}
use Rattle.live_plan.specs.Plans.{HasPlan}
use Rattle.live_plan.specs.Published.{begun, seen_of}
use Rattle.live_plan.specs.Seats.{IsTelling, known_by}
use Rattle.live_plan.specs.Tellers.{told_by, shown_by}
use Rattle.live_plan.proofs.Turning.{begins}
use Rattle.live_plan.proofs.Telling.{last_shown, both_match, both_ok, begun_here, begun_telling}
use Rattle.live_plan.proofs.teller.steps.with_begun.Goals as goal

pub publish_as-writer-requires : goal.publish_as-writer-requires
publish_as-writer-requires g c next is =
    let y : Shown = arc_value c.args.given.1.shown in
    let teller = c.args.teller in
    let e : arc_value next.shown ≡ y = last_shown _ _ _ _ c.args.given.1 is c.in-Ok.ensures.pending in
    let told : known_by c.append.new.self.desk.place ≡ told_by teller = ap (λ d. known_by d.place) c.in-Ok.ensures.desk in
    let old : arc_value c.append.new.self.desk.shown.value.shown ≡ shown_by teller =
    ap (λ d. arc_value d.shown.value.shown) c.in-Ok.ensures.desk in
    let lt : (shown_by teller).batch < (arc_value next.shown).batch = subst (λ (s : Shown). (shown_by teller).batch < s.batch)
    (sym e) c.requires.batch in
    let here = begun_here teller.nodes (shown_by teller) (told_by teller) y teller.telling c.requires.number c.requires.plan in
    let there = subst (λ (k : Known). HasPlan (seen_of k ++ y.coming.value) y.number (arc_value y.plan)) (sym told) here in
    begins (λ (p : Published). arc_value p.shown) _ _ c.append.new.self.desk.shown.value next
    (subst (λ (s : Shown). s.batch < (arc_value next.shown).batch) (sym old) lt)
    (subst (λ (s : Shown). HasPlan (seen_of (known_by c.append.new.self.desk.place) ++ s.coming.value) s.number (arc_value s.plan))
    (sym e) there)

pub invariant_of-teller-2 : goal.invariant_of-teller-2
invariant_of-teller-2 g c =
    let y : Shown = arc_value c.args.given.1.shown in
    let teller = c.args.teller in
    let now = c.publish_as-writer.result.0 in
    let told : known_by c.append.new.self.desk.place ≡ told_by teller = ap (λ d. known_by d.place) c.in-Ok.ensures.desk in
    let old : arc_value c.append.new.self.desk.shown.value.shown ≡ shown_by teller =
    ap (λ d. arc_value d.shown.value.shown) c.in-Ok.ensures.desk in
    record {
      telling = both_match c.publish_as-writer.result.1 _ _ _ _ c.publish_as-writer.ensures.values c.publish_as-writer.ensures.rule
          (λ x p q.
          let e : arc_value now.desk.shown.value.shown ≡ y = last_shown _ _ _ _ c.args.given.1 p.0 c.in-Ok.ensures.pending in
          let k : known_by now.desk.place ≡ begun (told_by teller) y = q
          ∙ (ap (λ s. begun (known_by c.append.new.self.desk.place) s) e ∙ ap (λ v. begun v y) told) in
          subst (λ (v : Known). IsTelling teller.nodes (arc_value now.desk.shown.value.shown) v) (sym k)
          (subst (λ (s : Shown). IsTelling teller.nodes s (begun (told_by teller) y)) (sym e)
          (begun_telling teller.nodes (shown_by teller)
          (told_by teller) y teller.telling c.requires.number c.requires.plan c.requires.nodes c.requires.room)))
          (λ x p q.
          let s : arc_value now.desk.shown.value.shown ≡ shown_by teller = ap (λ (p : Published). arc_value p.shown) p.0 ∙ old in
          let k : known_by now.desk.place ≡ told_by teller = q ∙ told in
          subst (λ (v : Known). IsTelling teller.nodes (arc_value now.desk.shown.value.shown) v) (sym k)
          (subst (λ (s : Shown). IsTelling teller.nodes s (told_by teller)) (sym s) teller.telling));
    }

pub returns-clause-ok : goal.returns-clause-ok
returns-clause-ok g c =
    let y : Shown = arc_value c.args.given.1.shown in
    let teller = c.args.teller in
    let now = c.publish_as-writer.result.0 in
    let told : known_by c.append.new.self.desk.place ≡ told_by teller = ap (λ d. known_by d.place) c.in-Ok.ensures.desk in
    let r = c.publish_as-writer.result.1 in
    both_ok r _ _ _ _ c.publish_as-writer.ensures.values c.publish_as-writer.ensures.rule
    (λ x p q.
    let e : arc_value now.desk.shown.value.shown ≡ y = last_shown _ _ _ _ c.args.given.1 p.0 c.in-Ok.ensures.pending in
    q ∙ (ap (λ s. begun (known_by c.append.new.self.desk.place) s) e ∙ ap (λ v. begun v y) told))
