use Rattle.std.proofs.Common.{ℕ, ◌≡◌, ◌+◌, ◌<◌, ◌∙◌, Bor, List, Option, length, refl, sym, ap, subst, inl, arith, rules, true, false}
use Rattle.std.proofs.lemmas.Bool.{false≢true}
use Rattle.std.specs.Option.{option_copied}
use Rattle.std.proofs.lemmas.Result.{IfOk-weaker}
use Rattle.plan_rules.specs.Rule.{Rule}
use Rattle.plan_model.specs.Steps.{marks as closing_marks}
use Rattle.plan_model.specs.declared.hop.Step.TheVariants.{NoRow, Overgrown}
use Rattle.plan_classes.specs.Titles.{Splits, parts_of}
use Rattle.plan_classes.specs.Classes.{class_targets}
use Rattle.plan_classes.proofs.Taking.{row_targets}
use Rattle.plan_margin.specs.declared.found.Found.{Found}
use Rattle.plan_margin.specs.declared.found.Found.TheVariants.{Stopped}
use Rattle.plan_margin.specs.declared.turn.Turn.{Turn}
use Rattle.plan_margin.specs.declared.turn.Turn.TheVariants.{Lost, Taken, Either}
use Rattle.plan_margin.specs.Searching.{IsFound, IsFoundIf, IsIn, IsInWith, IsTurn, IsTurnBy, StopsOne}
use Rattle.plan_margin.specs.Searching.{IsWithUp, IsWithLost}
use Rattle.plan_margin.specs.Ways.{AtClass, AtTargets, AtTarget}
use Rattle.plan_margin.proofs.Passing.{opens_here}
use Rattle.plan_margin.proofs.Sets.{may_at, lost_is_closed, taken_is_open, either_is_free, either_closes}
use Rattle.plan_margin.proofs.Sets.{passes_more, passes_same, of_target_within, lost_set, up_set, lost_inner, up_inner, too_many}
use Rattle.plan_margin.proofs.Measures.{few_free, less_free}
use Rattle.plan_margin.proofs.Following.{ok_is, no_row_stop, past_stop, target_stop, parts_more, parts_whole}
use Rattle.plan_margin.proofs.Following.{lost_found, up_found}
use Rattle.plan_margin.proofs.Counted.{counts_none, counts_one, counts_parts, counts_row, counts_before, before_first, before_next}
use Rattle.plan_margin.proofs.Counted.{counts_closed, counts_taken, counts_if_up, counts_if_lost, counts_up, counts_both, counts_onward}
use Rattle.plan_margin.proofs.search.+search.Goals as goal

pub explore_parts-loop-part-preserved : goal.explore_parts-loop-part-preserved
explore_parts-loop-part-preserved t c =
    let found = subst (λ (f : Found). IsFound c.args.plan.now c.part-item.result c.args.left c.args.set.now f) c.in-Through.is
    c.in_ok-found.ensures.found in
    record {
      few = search rules;
      counts = before_next c.args.plan.now c.args.set.now c.args.left c.as_slice-part-items.result.now c.loop-part.part-index
          c.args.count.now c.loop-part.count c.explore.new.count c.part-item.result c.loop-part-test.true c.part-item.is
          c.loop-part.invariant.counts c.in_ok-found.ensures.ways;
      arrive = parts_more c.args.plan.now c.args.left c.args.set.now.most
          (IsIn c.args.plan.now c.args.set.now) c.as_slice-part-items.result.now
          c.loop-part.part-index c.part-item.result c.loop-part.cut c.in-Through.other c.loop-part-test.true c.part-item.is
          c.loop-part.invariant.arrive found;
    }

pub explore_parts-returns-clause-found : goal.explore_parts-returns-clause-found
explore_parts-returns-clause-found t c =
    parts_whole c.args.plan.now c.args.class.now c.args.left c.args.set.now.most
    (IsIn c.args.plan.now c.args.set.now) c.as_slice-part-items.result.now
    c.loop-part.part-index c.loop-part.cut
    (subst (Splits c.args.class.now) (sym c.as_slice-part-items.ensures) c.in_ok-parts.ensures.splits) c.loop-part-test.false
    c.loop-part.invariant.arrive

pub explore_targets-follow_row-requires : goal.explore_targets-follow_row-requires
explore_targets-follow_row-requires t c = (
  omega (arith, few_free c.args.plan.now c.args.class.now 0 c.args.set.now),
  (
    record {
      some = c.requires.some;
      few = c.requires.left;
      may = c.requires.may;
      class = c.requires.class;
      decided = c.requires.decided;
      row = search rules;
    },
    (
      record {
        closed = λ marks inside k near. absurd (omega (arith, near));
        within = omega arith;
      },
      (c.requires.set, c.requires.few),
    ),
  ),
)

pub explore_targets-returns-in-None-clause-found : goal.explore_targets-returns-in-None-clause-found
explore_targets-returns-in-None-clause-found t c =
    ok_is c.stopped.result (Stopped c.sample.result c.args.set.now.lost)
    (λ f. IsFound c.args.plan.now c.args.class.now c.args.left c.args.set.now f) c.stopped.ensures
    (subst (λ (ds : List ℕ). StopsOne c.args.plan.now c.args.class.now c.args.left c.args.set.now.most
    (IsIn c.args.plan.now c.args.set.now) ds
    c.args.set.now.lost) (sym c.sample.ensures.value)
    (no_row_stop c.args.plan.now c.args.class.now c.args.left c.args.set.now c.requires.class c.requires.set c.requires.some
    (sym c.class_row.ensures.value ∙ ap (λ (o : Option (Bor Rule)). option_copied o) c.in-None.is)))

pub follow_lost-returns-then-marks-from-clause-found : goal.follow_lost-returns-then-marks-from-clause-found
follow_lost-returns-then-marks-from-clause-found t c =
    let choice = c.args.choice.now in
    record {
      arrive = λ digits marks member inside few. absurd (too_many c.args.plan.now c.args.set.now c.args.mark.now marks
          c.marks.ensures.ascending
          (let full : length c.args.set.now.lost ≡ c.args.set.now.most =
          omega (arith, c.if-marks-from.true, ap length c.marks.ensures.marks, c.from.ensures) in full)
          (either_is_free c.args.plan.now choice.class.now choice.place c.args.mark.now c.args.set.now c.requires.turn) inside (few refl));
    }

pub follow_lost-follow_row-found-requires : goal.follow_lost-follow_row-found-requires
follow_lost-follow_row-found-requires t c =
    let choice = c.args.choice.now in
    let more = c.in_ok-with_lost.with_lost in
    let made : IsWithLost c.args.set.now c.args.mark.now more = c.in_ok-with_lost.ensures in
    let inside : choice.place < length (class_targets c.args.plan.now choice.class.now) =
    of_target_within c.args.plan.now choice.class.now choice.place
    (λ node t. IsTurnBy c.args.plan.now (closing_marks node choice.class.now.ssn t) c.args.set.now
    (Either c.args.mark.now)) c.requires.turn in (
      omega (
        arith,
        few_free c.args.plan.now choice.class.now (choice.place + 1) more,
        inside,
        ap length (row_targets c.args.plan.now choice.class.now choice.row.now c.requires.may.row),
        c.requires.short,
      ),
      (
        may_at c.args.plan.now choice (choice.place + 1) c.requires.may,
        (
          passes_more c.args.plan.now choice.class.now choice.place c.args.set.now more c.requires.passes
              (λ marks i. (lost_inner c.args.plan.now c.args.set.now more c.args.mark.now marks made i).inside)
              (λ marks i. either_closes c.args.plan.now choice.class.now choice.place c.args.mark.now c.args.set.now marks
              c.requires.turn (lost_inner c.args.plan.now c.args.set.now more c.args.mark.now marks made i).held) inside,
          (
            lost_set c.args.plan.now c.args.set.now more c.args.mark.now c.requires.set
                (either_is_free c.args.plan.now choice.class.now choice.place c.args.mark.now c.args.set.now c.requires.turn)
                (λ e. c.if-marks-from.false (omega (arith, e, ap length c.marks.ensures.marks, c.from.ensures))) made,
            c.requires.few,
          ),
        ),
      ),
    )

pub follow_lost-returns-clause-found : goal.follow_lost-returns-clause-found
follow_lost-returns-clause-found t c =
    let choice = c.args.choice.now in
    let more = c.in_ok-with_lost.with_lost in
    let made : IsWithLost c.args.set.now c.args.mark.now more = c.in_ok-with_lost.ensures in
    IfOk-weaker c.follow_row-found.result (λ f. IsFound c.args.plan.now choice.class.now choice.left more f)
    (λ f. IsFoundIf c.args.plan.now choice.class.now choice.left c.args.set.now.most
    (IsInWith c.args.plan.now c.args.set.now c.args.mark.now true) f)
    (λ f h. lost_found c.args.plan.now choice.class.now choice.left c.args.mark.now c.args.set.now more f made h)
    c.follow_row-found.ensures.found

pub follow_row-follow_row-requires : goal.follow_row-follow_row-requires
follow_row-follow_row-requires t c =
    let choice = c.args.choice.now in
    let turn = subst (λ (x : Turn). IsTurn c.args.plan.now choice.class.now choice.place c.args.set.now x) c.in-Lost.is
    c.turn_at.ensures.turn in
    let inside : choice.place < length (class_targets c.args.plan.now choice.class.now) =
    of_target_within c.args.plan.now choice.class.now choice.place
    (λ node t. IsTurnBy c.args.plan.now (closing_marks node choice.class.now.ssn t) c.args.set.now Lost) turn in (
      omega (
        arith,
        few_free c.args.plan.now choice.class.now (choice.place + 1) c.args.set.now,
        inside,
        ap length (row_targets c.args.plan.now choice.class.now choice.row.now c.requires.may.row),
        c.turn_at.ensures.few,
      ),
      (
        may_at c.args.plan.now choice (choice.place + 1) c.requires.may,
        (
          passes_more c.args.plan.now choice.class.now choice.place c.args.set.now c.args.set.now c.requires.passes
              (λ marks i. i)
              (λ marks i. lost_is_closed c.args.plan.now choice.class.now choice.place c.args.set.now marks turn i) inside,
          (c.requires.set, c.requires.few),
        ),
      ),
    )

pub follow_row-follow_target-requires : goal.follow_row-follow_target-requires
follow_row-follow_target-requires t c =
    let choice = c.args.choice.now in
    let turn = subst (λ (x : Turn). IsTurn c.args.plan.now choice.class.now choice.place c.args.set.now x) c.in-Taken.is
    c.turn_at.ensures.turn in
    let inside : choice.place < length (class_targets c.args.plan.now choice.class.now) =
    of_target_within c.args.plan.now choice.class.now choice.place
    (λ node t. IsTurnBy c.args.plan.now (closing_marks node choice.class.now.ssn t) c.args.set.now Taken) turn in (
      search rules,
      (
        c.requires.may,
        (
          omega (arith, inside, ap length (row_targets c.args.plan.now choice.class.now choice.row.now c.requires.may.row)),
          (
            λ marks i. opens_here c.args.plan.now choice.class.now marks choice.place (c.requires.passes.closed marks i)
                (taken_is_open c.args.plan.now choice.class.now choice.place c.args.set.now marks turn i),
            (c.requires.set, c.requires.few),
          ),
        ),
      ),
    )

pub follow_row-returns-in-Past-clause-found : goal.follow_row-returns-in-Past-clause-found
follow_row-returns-in-Past-clause-found t c =
    let choice = c.args.choice.now in
    let turn = subst (λ (x : Turn). IsTurn c.args.plan.now choice.class.now choice.place c.args.set.now x) c.in-Past.is
    c.turn_at.ensures.turn in
    ok_is c.stopped.result (Stopped c.sample.result c.args.set.now.lost)
    (λ f. IsFound c.args.plan.now choice.class.now choice.left c.args.set.now f) c.stopped.ensures
    (subst (λ (ds : List ℕ). StopsOne c.args.plan.now choice.class.now choice.left c.args.set.now.most
    (IsIn c.args.plan.now c.args.set.now) ds
    c.args.set.now.lost) (sym c.sample.ensures.value)
    (past_stop c.args.plan.now choice.class.now choice.left choice.place c.args.set.now choice.row.now c.requires.may.class c.requires.set
    c.requires.may.some c.requires.may.may.node c.requires.may.row c.requires.passes turn))

pub follow_target-returns-in-NotEquipped-clause-found : goal.follow_target-returns-in-NotEquipped-clause-found
follow_target-returns-in-NotEquipped-clause-found t c =
    let choice = c.args.choice.now in
    ok_is c.stopped.result (Stopped c.sample.result c.args.set.now.lost)
    (λ f. IsFound c.args.plan.now choice.class.now choice.left c.args.set.now f) c.stopped.ensures
    (target_stop c.args.plan.now choice.class.now choice.place choice.left c.args.set.now c.sample.result (NoRow 4) c.requires.may.some
    c.requires.may.class c.requires.may.decided c.requires.takes c.requires.set c.sample.ensures.member
    (c.in-NotEquipped.ensures.exact c.sample.result c.sample.ensures.member) refl (λ h. h))

pub follow_target-returns-in-TooLong-clause-found : goal.follow_target-returns-in-TooLong-clause-found
follow_target-returns-in-TooLong-clause-found t c =
    let choice = c.args.choice.now in
    ok_is c.stopped-in-TooLong.result (Stopped c.longest.result c.args.set.now.lost)
    (λ f. IsFound c.args.plan.now choice.class.now choice.left c.args.set.now f) c.stopped-in-TooLong.ensures
    (target_stop c.args.plan.now choice.class.now choice.place choice.left c.args.set.now c.longest.result Overgrown c.requires.may.some
    c.requires.may.class c.requires.may.decided c.requires.takes c.requires.set c.longest.ensures.0
    (c.in-TooLong.ensures.exact c.longest.result c.longest.ensures) refl (λ h. h))

pub follow_up-follow_row-found-requires : goal.follow_up-follow_row-found-requires
follow_up-follow_row-found-requires t c =
    let choice = c.args.choice.now in
    let more = c.in_ok-with_up.with_up in
    let made : IsWithUp c.args.set.now c.args.mark.now more = c.in_ok-with_up.ensures in (
      omega (arith, less_free c.args.plan.now choice.class.now choice.place c.args.mark.now c.args.set.now more c.requires.turn made),
      (
        c.requires.may,
        (
          passes_same c.args.plan.now choice.class.now choice.place c.args.set.now more c.requires.passes
              (λ marks i. (up_inner c.args.plan.now c.args.set.now more c.args.mark.now marks made i).inside),
          (
            up_set c.args.plan.now c.args.set.now more c.args.mark.now c.requires.set
                (either_is_free c.args.plan.now choice.class.now choice.place c.args.mark.now c.args.set.now c.requires.turn)
                made,
            c.requires.few,
          ),
        ),
      ),
    )

pub follow_up-returns-clause-found : goal.follow_up-returns-clause-found
follow_up-returns-clause-found t c =
    let choice = c.args.choice.now in
    let more = c.in_ok-with_up.with_up in
    let made : IsWithUp c.args.set.now c.args.mark.now more = c.in_ok-with_up.ensures in
    IfOk-weaker c.follow_row-found.result (λ f. IsFound c.args.plan.now choice.class.now choice.left more f)
    (λ f. IsFoundIf c.args.plan.now choice.class.now choice.left c.args.set.now.most
    (IsInWith c.args.plan.now c.args.set.now c.args.mark.now false) f)
    (λ f h. up_found c.args.plan.now choice.class.now choice.left c.args.mark.now c.args.set.now more f made h)
    c.follow_row-found.ensures.found

-- ---- what is counted

pub explore-returns-then-left-eq0-clause-ways : goal.explore-returns-then-left-eq0-clause-ways
explore-returns-then-left-eq0-clause-ways t c =
    counts_none c.stopped.result c.args.plan.now c.args.set.now c.args.left (AtClass c.args.class.now) c.args.count.now

pub explore-returns-then-count-eq-LIMIT-clause-ways : goal.explore-returns-then-count-eq-LIMIT-clause-ways
explore-returns-then-count-eq-LIMIT-clause-ways t c =
    counts_one c.args.plan.now c.args.set.now c.args.left c.args.class.now c.args.count.now (omega (arith, c.if-left-eq0.false))

pub explore-returns-then-decided-clause-ways : goal.explore-returns-then-decided-clause-ways
explore-returns-then-decided-clause-ways t c =
    counts_row c.explore_targets.result c.args.plan.now c.args.set.now c.args.left c.args.class.now c.args.count.now
    c.explore_targets.new.count
    (omega (arith, c.if-left-eq0.false)) (c.decided.ensures.decided.0 c.if-decided.true) c.explore_targets.ensures.ways

pub explore-returns-else-decided-clause-ways : goal.explore-returns-else-decided-clause-ways
explore-returns-else-decided-clause-ways t c =
    counts_parts c.explore_parts.result c.args.plan.now c.args.set.now c.args.left c.args.class.now c.args.count.now
    c.explore_parts.new.count
    (omega (arith, c.if-left-eq0.false)) (λ h. false≢true (sym c.if-decided.false ∙ c.decided.ensures.decided.1 h))
    c.explore_parts.ensures.ways

pub explore_parts-loop-part-init : goal.explore_parts-loop-part-init
explore_parts-loop-part-init t c =
    record {
      few = search rules;
      arrive = search rules;
      counts = before_first c.args.plan.now c.args.set.now c.args.left c.as_slice-part-items.result.now c.args.count.now;
    }

pub explore_parts-returns-in_default-clause-ways : goal.explore_parts-returns-in_default-clause-ways
explore_parts-returns-in_default-clause-ways t c =
    counts_before c.args.plan.now c.args.set.now c.args.left c.as_slice-part-items.result.now (parts_of c.args.class.now)
    (c.loop-part.part-index + 1) c.args.count.now c.explore.new.count (c.as_slice-part-items.ensures ∙ c.in_ok-parts.ensures.value)
    (before_next c.args.plan.now c.args.set.now c.args.left c.as_slice-part-items.result.now c.loop-part.part-index
    c.args.count.now c.loop-part.count c.explore.new.count c.part-item.result c.loop-part-test.true c.part-item.is
    c.loop-part.invariant.counts c.in_ok-found.ensures.ways)

pub explore_parts-returns-clause-ways : goal.explore_parts-returns-clause-ways
explore_parts-returns-clause-ways t c =
    counts_before c.args.plan.now c.args.set.now c.args.left c.as_slice-part-items.result.now (parts_of c.args.class.now)
    c.loop-part.part-index c.args.count.now c.loop-part.count (c.as_slice-part-items.ensures ∙ c.in_ok-parts.ensures.value)
    c.loop-part.invariant.counts

pub explore_targets-returns-in-None-clause-ways : goal.explore_targets-returns-in-None-clause-ways
explore_targets-returns-in-None-clause-ways t c =
    counts_none c.stopped.result c.args.plan.now c.args.set.now c.args.left (AtTargets c.args.class.now 0) c.args.count.now

pub follow_row-returns-in-Past-clause-ways : goal.follow_row-returns-in-Past-clause-ways
follow_row-returns-in-Past-clause-ways t c =
    let choice = c.args.choice.now in
    counts_none c.stopped.result c.args.plan.now c.args.set.now choice.left (AtTargets choice.class.now choice.place) c.args.count.now

pub follow_row-returns-in-Lost-clause-ways : goal.follow_row-returns-in-Lost-clause-ways
follow_row-returns-in-Lost-clause-ways t c =
    let choice = c.args.choice.now in
    counts_closed c.follow_row.result c.args.plan.now c.args.set.now choice.left choice.class.now choice.place c.args.count.now
    c.follow_row.new.count
    (subst (λ (x : Turn). IsTurn c.args.plan.now choice.class.now choice.place c.args.set.now x) c.in-Lost.is c.turn_at.ensures.turn)
    c.follow_row.ensures.ways

pub follow_row-returns-in-Taken-clause-ways : goal.follow_row-returns-in-Taken-clause-ways
follow_row-returns-in-Taken-clause-ways t c =
    let choice = c.args.choice.now in
    counts_taken c.follow_target.result c.args.plan.now c.args.set.now choice.left choice.class.now choice.place c.args.count.now
    c.follow_target.new.count
    (subst (λ (x : Turn). IsTurn c.args.plan.now choice.class.now choice.place c.args.set.now x) c.in-Taken.is c.turn_at.ensures.turn)
    c.follow_target.ensures.ways

pub follow_either-returns-in_ok-found-in-Through-clause-ways : goal.follow_either-returns-in_ok-found-in-Through-clause-ways
follow_either-returns-in_ok-found-in-Through-clause-ways t c =
    let choice = c.args.choice.now in
    counts_both c.args.plan.now c.args.set.now choice.left choice.class.now choice.place c.args.mark.now c.args.count.now
    c.follow_up.new.count
    c.follow_lost.new.count c.requires.turn c.in_ok-found.ensures.ways c.in_ok-found-in-Through.ensures.ways

pub follow_either-returns-in_default-clause-ways : goal.follow_either-returns-in_default-clause-ways
follow_either-returns-in_default-clause-ways t c =
    let choice = c.args.choice.now in
    counts_up c.args.plan.now c.args.set.now choice.left choice.class.now choice.place c.args.mark.now c.args.count.now
    c.follow_up.new.count
    c.requires.turn c.in_ok-found.ensures.ways

pub follow_up-returns-clause-ways : goal.follow_up-returns-clause-ways
follow_up-returns-clause-ways t c =
    let choice = c.args.choice.now in
    let more = c.in_ok-with_up.with_up in
    let made : IsWithUp c.args.set.now c.args.mark.now more = c.in_ok-with_up.ensures in
    counts_if_up c.follow_row-found.result c.args.plan.now c.args.set.now more choice.left choice.class.now choice.place c.args.mark.now
    c.args.count.now c.follow_row-found.new.count made c.follow_row-found.ensures.ways

pub follow_lost-returns-then-marks-from-clause-ways : goal.follow_lost-returns-then-marks-from-clause-ways
follow_lost-returns-then-marks-from-clause-ways t c =
    inl refl

pub follow_lost-returns-clause-ways : goal.follow_lost-returns-clause-ways
follow_lost-returns-clause-ways t c =
    let choice = c.args.choice.now in
    let more = c.in_ok-with_lost.with_lost in
    let made : IsWithLost c.args.set.now c.args.mark.now more = c.in_ok-with_lost.ensures in
    counts_if_lost c.follow_row-found.result c.args.plan.now c.args.set.now more choice.left choice.class.now choice.place c.args.mark.now
    c.args.count.now c.follow_row-found.new.count c.requires.set
    (λ e. c.if-marks-from.false (omega (arith, e, ap length c.marks.ensures.marks, c.from.ensures))) made c.follow_row-found.ensures.ways

pub follow_target-returns-in_ok-found-in-Next-clause-ways : goal.follow_target-returns-in_ok-found-in-Next-clause-ways
follow_target-returns-in_ok-found-in-Next-clause-ways t c =
    let choice = c.args.choice.now in
    counts_onward c.args.plan.now c.args.set.now choice.left choice.class.now c.in-Next.next choice.place c.args.count.now
    c.explore.new.count
    c.in-Next.ensures.image c.in_ok-found-in-Next.ensures.ways

pub follow_target-returns-in-Ends-clause-ways : goal.follow_target-returns-in-Ends-clause-ways
follow_target-returns-in-Ends-clause-ways t c =
    let choice = c.args.choice.now in
    counts_none c.end_at.result c.args.plan.now c.args.set.now choice.left (AtTarget choice.class.now choice.place) c.args.count.now

pub follow_target-returns-in-NotEquipped-clause-ways : goal.follow_target-returns-in-NotEquipped-clause-ways
follow_target-returns-in-NotEquipped-clause-ways t c =
    let choice = c.args.choice.now in
    counts_none c.stopped.result c.args.plan.now c.args.set.now choice.left (AtTarget choice.class.now choice.place) c.args.count.now

pub follow_target-returns-in-TooLong-clause-ways : goal.follow_target-returns-in-TooLong-clause-ways
follow_target-returns-in-TooLong-clause-ways t c =
    let choice = c.args.choice.now in
    counts_none c.stopped-in-TooLong.result c.args.plan.now c.args.set.now choice.left
    (AtTarget choice.class.now choice.place) c.args.count.now
