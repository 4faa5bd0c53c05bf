use Rattle.std.proofs.Common.{◌≡◌, ◌+◌, ◌<◌, ◌∙◌, Bor, Option, IsSome, refl, sym, ap, subst, arith, rules, length}
use Rattle.std.specs.Option.{option_copied}
use Rattle.std.proofs.lemmas.Bool.{false≢true}
use Rattle.plan_rules.specs.Rule.{Rule}
use Rattle.plan_classes.proofs.Taking.{row_targets}
use Rattle.plan_classes.specs.Titles.{IsPart}
use Rattle.plan_verify.specs.declared.found.Found.{Found}
use Rattle.plan_verify.specs.Searching.{IsFound, IsLed}
use Rattle.plan_verify.specs.Traces.{IsTrace}
use Rattle.plan_verify.proofs.Keeping.{keeps_more}
use Rattle.plan_classes.proofs.Parting.{part_of}
use Rattle.plan_verify.proofs.Ranking.{parts_ranked, parts_attained, open_borne, part_reached, targets_led, targets_high, image_reached}
use Rattle.plan_verify.proofs.Ranking.{decided_borne, led_never, led_next_rank}
use Rattle.plan_verify.proofs.Tracing.{fifteenth, without_row, trace_of_part, trace_before}
use Rattle.plan_verify.proofs.search.+search.Goals as goal

pub explore-returns-then-depth-eq14-clause-found : goal.explore-returns-then-depth-eq14-clause-found
explore-returns-then-depth-eq14-clause-found t c =
    fifteenth c.args.plan.now c.args.class.now c.args.depth c.in_ok-least_title.field-0 c.in_ok-least_title.ensures.member
    c.in_ok-least_title.ensures.markings (omega (arith, c.if-depth-eq14.true))

pub explore-returns-in_err-found-clause-keeps : goal.explore-returns-in_err-found-clause-keeps
explore-returns-in_err-found-clause-keeps t c = c.follow.ensures.keeps

pub explore-returns-clause-keeps : goal.explore-returns-clause-keeps
explore-returns-clause-keeps t c = keeps_more _ _ _ c.follow.ensures.keeps c.settle.ensures.keeps

pub explore_parts-explore-requires : goal.explore_parts-explore-requires
explore_parts-explore-requires t c =
    let part : IsPart c.args.class.now c.part-item.result =
    part_of c.args.class.now _ _ c.loop-part.part-index _ c.in_ok-parts.ensures.splits c.as_slice-part-items.ensures
    c.loop-part-test.true c.part-item.is in (
      search rules,
      (
        omega (arith, c.requires.depth),
        (
          record {
            node = omega (arith, part.node, c.requires.may.node);
            cover = omega (arith, part.cover, c.requires.may.cover);
            reached = part_reached _ _ c.args.class.now _ _ c.loop-part.part-index _ c.in_ok-parts.ensures.value
                c.as_slice-part-items.ensures c.loop-part-test.true c.part-item.is c.requires.may.reached c.requires.undecided;
          },
          (c.loop-part.invariant.sound, c.loop-part.invariant.room),
        ),
      ),
    )

pub explore_parts-loop-part-preserved : goal.explore_parts-loop-part-preserved
explore_parts-loop-part-preserved t c =
    let found = subst (λ (f : Found). IsFound c.args.plan.now c.part-item.result c.args.depth c.explore.new.ranks f) c.in-Rank.is
    c.in_ok-other.ensures.found in
    record {
      keeps = keeps_more _ _ _ c.loop-part.invariant.keeps c.explore.ensures.keeps;
      sound = c.explore.ensures.sound;
      room = found.2;
      low = omega (arith, c.max-rank.ensures, c.loop-part.invariant.low);
      few = omega (arith, c.max-rank.ensures, c.loop-part.invariant.few, found.1);
      below = rw c.max-rank.ensures
          (parts_ranked _ _ _ c.loop-part.part-index c.loop-part.rank c.in-Rank.other _ c.loop-part-test.true c.part-item.is
          c.explore.ensures.keeps found.0 c.loop-part.invariant.below);
      some = rw c.max-rank.ensures
          (parts_attained _ _ _ c.loop-part.part-index c.loop-part.rank c.in-Rank.other _ c.loop-part-test.true c.part-item.is
          c.explore.ensures.keeps found.0 c.loop-part.invariant.some);
    }

pub explore_parts-returns-in_err-other-clause-keeps : goal.explore_parts-returns-in_err-other-clause-keeps
explore_parts-returns-in_err-other-clause-keeps t c = keeps_more _ _ _ c.loop-part.invariant.keeps c.explore.ensures.keeps

pub explore_parts-returns-in-Bad-clause-keeps : goal.explore_parts-returns-in-Bad-clause-keeps
explore_parts-returns-in-Bad-clause-keeps t c = keeps_more _ _ _ c.loop-part.invariant.keeps c.explore.ensures.keeps

pub explore_parts-returns-in-Wide-clause-keeps : goal.explore_parts-returns-in-Wide-clause-keeps
explore_parts-returns-in-Wide-clause-keeps t c = keeps_more _ _ _ c.loop-part.invariant.keeps c.explore.ensures.keeps

pub explore_parts-returns-in-Bad-clause-found : goal.explore_parts-returns-in-Bad-clause-found
explore_parts-returns-in-Bad-clause-found t c =
    let part : IsPart c.args.class.now c.part-item.result =
    part_of c.args.class.now _ _ c.loop-part.part-index _ c.in_ok-parts.ensures.splits c.as_slice-part-items.ensures
    c.loop-part-test.true c.part-item.is in
    trace_of_part c.args.plan.now c.args.class.now c.part-item.result c.args.depth c.in-Bad.trace part
    (subst (λ (f : Found). IsFound c.args.plan.now c.part-item.result c.args.depth c.explore.new.ranks f) c.in-Bad.is
    c.in_ok-other.ensures.found)

pub explore_parts-returns-in-Wide-clause-found : goal.explore_parts-returns-in-Wide-clause-found
explore_parts-returns-in-Wide-clause-found t c =
    subst (λ (f : Found). IsFound c.args.plan.now c.part-item.result c.args.depth c.explore.new.ranks f) c.in-Wide.is
    c.in_ok-other.ensures.found

pub explore_parts-returns-clause-found : goal.explore_parts-returns-clause-found
explore_parts-returns-clause-found t c = (
  open_borne _ _ _ c.as_slice-part-items.result.now c.loop-part.rank c.loop-part.part-index (c.as_slice-part-items.ensures
      ∙ c.in_ok-parts.ensures.value) c.loop-part-test.false c.parts.ensures.class c.requires.may.node c.requires.may.cover
      c.requires.undecided c.requires.more c.loop-part.invariant.low
      (omega (arith, c.loop-part.invariant.few)) c.loop-part.invariant.below c.loop-part.invariant.some,
  c.loop-part.invariant.few,
  c.loop-part.invariant.room,
)

pub explore_target-explore-requires : goal.explore_target-explore-requires
explore_target-explore-requires t c =
    let stays : (c.in-Next.next.node < length c.args.plan.now.nodes) × (c.in-Next.next.cover ≡ c.args.stop.now.class.now.cover)
    × (c.in-Next.next.most ≡ c.args.stop.now.class.now.most) = c.in-Next.ensures.stays in
    let nearer : c.args.stop.now.depth < 14 = c.requires.depth in (
      search rules,
      (
        omega arith,
        (
          record {
            node = stays.0;
            cover = omega (arith, stays.1, c.requires.may.cover);
            reached = image_reached _ c.args.stop.now.depth c.args.place c.args.stop.now.class.now _ c.in-Next.ensures.image
                (c.reaches_by.ensures.0 c.if-not-reaches_by.false) c.requires.decided c.requires.depth c.requires.may.reached;
          },
          (c.requires.sound, c.requires.room),
        ),
      ),
    )

pub explore_target-returns-then-not-reaches_by-clause-found : goal.explore_target-returns-then-not-reaches_by-clause-found
explore_target-returns-then-not-reaches_by-clause-found t c = (
  led_never c.args.plan.now c.args.ranks.now c.args.stop.now.class.now c.args.place
      (λ r. false≢true (sym c.if-not-reaches_by.true ∙ c.reaches_by.ensures.1 r)),
  omega (arith, c.requires.depth),
  c.requires.room,
)

pub explore_target-carry-requires-clause-next : goal.explore_target-carry-requires-clause-next
explore_target-carry-requires-clause-next t c =
    let trace : IsTrace c.args.plan.now c.in-Next.next (c.args.stop.now.depth + 1) c.in-Bad.trace =
    subst (λ (f : Found). IsFound c.args.plan.now c.in-Next.next
    (c.args.stop.now.depth + 1) c.explore.new.ranks f) c.in-Bad.is c.in_ok-other-in-Next.ensures.found in
    (c.in-Next.next, c.in-Next.ensures.image, trace.member)

pub explore_target-returns-in-Rank-clause-found : goal.explore_target-returns-in-Rank-clause-found
explore_target-returns-in-Rank-clause-found t c =
    let stop = c.args.stop.now in
    let found = subst (λ (f : Found). IsFound c.args.plan.now c.in-Next.next
    (stop.depth + 1) c.explore.new.ranks f) c.in-Rank.is c.in_ok-other-in-Next.ensures.found in (
      led_next_rank c.args.plan.now c.explore.new.ranks stop.class.now c.in-Next.next c.args.place c.in-Rank.other c.in-Next.ensures.image
          (c.reaches_by.ensures.0 c.if-not-reaches_by.false) found.0,
      omega (arith, found.1),
      found.2,
    )

pub explore_target-returns-in_ok-carry-in-Bad-clause-found : goal.explore_target-returns-in_ok-carry-in-Bad-clause-found
explore_target-returns-in_ok-carry-in-Bad-clause-found t c =
    let stop = c.args.stop.now in
    let trace : IsTrace c.args.plan.now c.in-Next.next (stop.depth + 1) c.in-Bad.trace =
    subst (λ (f : Found). IsFound c.args.plan.now c.in-Next.next
    (stop.depth + 1) c.explore.new.ranks f) c.in-Bad.is c.in_ok-other-in-Next.ensures.found in
    let cover : c.in-Next.next.cover ≡ stop.class.now.cover = c.in-Next.ensures.stays.1 in
    trace_before c.args.plan.now stop.class.now c.in-Next.next c.args.place stop.depth c.in-Bad.trace c.in_ok-carry-in-Bad.field-0
    c.in-Next.ensures.image cover trace c.in_ok-carry-in-Bad.ensures

pub explore_target-returns-in-Wide-clause-found : goal.explore_target-returns-in-Wide-clause-found
explore_target-returns-in-Wide-clause-found t c = subst (λ (f : Found). IsFound c.args.plan.now c.in-Next.next
    (c.args.stop.now.depth + 1) c.explore.new.ranks f) c.in-Wide.is c.in_ok-other-in-Next.ensures.found

pub explore_target-returns-in-Ends-clause-found : goal.explore_target-returns-in-Ends-clause-found
explore_target-returns-in-Ends-clause-found t c =
    c.end_at.ensures c.args.stop.now.depth c.args.ranks.now c.requires.depth c.requires.room

pub explore_target-returns-in_ok-bad_title-in-NotEquipped-clause-found
    : goal.explore_target-returns-in_ok-bad_title-in-NotEquipped-clause-found
explore_target-returns-in_ok-bad_title-in-NotEquipped-clause-found t c =
    c.in_ok-bad_title-in-NotEquipped.ensures c.args.stop.now.depth c.requires.depth

pub explore_target-returns-in_ok-bad_title-in-TooLong-clause-found : goal.explore_target-returns-in_ok-bad_title-in-TooLong-clause-found
explore_target-returns-in_ok-bad_title-in-TooLong-clause-found t c =
    let stop = c.args.stop.now in
    c.in_ok-bad_title-in-TooLong.ensures stop.depth c.requires.depth

pub explore_targets-returns-in_ok-least_title-in-None-clause-found : goal.explore_targets-returns-in_ok-least_title-in-None-clause-found
explore_targets-returns-in_ok-least_title-in-None-clause-found t c =
    without_row c.args.plan.now c.args.class.now c.args.depth c.in_ok-least_title-in-None.field-0 c.in_ok-least_title-in-None.ensures.member
    c.in_ok-least_title-in-None.ensures.digits c.in_ok-least_title-in-None.ensures.markings c.requires.depth
    (sym c.class_row.ensures.value ∙ ap (λ (o : Option (Bor Rule)). option_copied o) c.in-None.is)

pub explore_row-loop-place-preserved : goal.explore_row-loop-place-preserved
explore_row-loop-place-preserved t c =
    let stop = c.args.stop.now in
    let found = subst (λ (f : Found). IsLed c.args.plan.now stop.class.now stop.depth c.loop-place.place c.explore_target.new.ranks f)
    c.in-Rank.is c.in_ok-other.ensures.found in
    record {
      keeps = keeps_more _ _ _ c.loop-place.invariant.keeps c.explore_target.ensures.keeps;
      sound = c.explore_target.ensures.sound;
      room = found.2;
      low = omega (arith, c.max-rank.ensures, c.loop-place.invariant.low);
      few = omega (arith, c.max-rank.ensures, c.loop-place.invariant.few, found.1);
      leads = rw c.max-rank.ensures
          (targets_led c.args.plan.now _ _ stop.class.now c.loop-place.place c.loop-place.rank c.in-Rank.other
          c.explore_target.ensures.keeps found.0.well c.loop-place.invariant.leads);
      some = rw c.max-rank.ensures
          (targets_high c.args.plan.now _ _ stop.class.now c.loop-place.rank c.in-Rank.other c.explore_target.ensures.keeps found.0.high
          c.loop-place.invariant.some);
    }

pub explore_row-returns-in_err-other-clause-keeps : goal.explore_row-returns-in_err-other-clause-keeps
explore_row-returns-in_err-other-clause-keeps t c = keeps_more _ _ _ c.loop-place.invariant.keeps c.explore_target.ensures.keeps

pub explore_row-returns-in-Bad-clause-keeps : goal.explore_row-returns-in-Bad-clause-keeps
explore_row-returns-in-Bad-clause-keeps t c = keeps_more _ _ _ c.loop-place.invariant.keeps c.explore_target.ensures.keeps

pub explore_row-returns-in-Wide-clause-keeps : goal.explore_row-returns-in-Wide-clause-keeps
explore_row-returns-in-Wide-clause-keeps t c = keeps_more _ _ _ c.loop-place.invariant.keeps c.explore_target.ensures.keeps

pub explore_row-returns-in-Bad-clause-found : goal.explore_row-returns-in-Bad-clause-found
explore_row-returns-in-Bad-clause-found t c =
    let stop = c.args.stop.now in
    subst (λ (f : Found). IsLed c.args.plan.now stop.class.now stop.depth c.loop-place.place c.explore_target.new.ranks f) c.in-Bad.is
    c.in_ok-other.ensures.found

pub explore_row-returns-in-Wide-clause-found : goal.explore_row-returns-in-Wide-clause-found
explore_row-returns-in-Wide-clause-found t c =
    let stop = c.args.stop.now in
    subst (λ (f : Found). IsLed c.args.plan.now stop.class.now stop.depth c.loop-place.place c.explore_target.new.ranks f) c.in-Wide.is
    c.in_ok-other.ensures.found

pub explore_row-returns-clause-found : goal.explore_row-returns-clause-found
explore_row-returns-clause-found t c = (
  decided_borne _ _ c.args.stop.now.class.now c.loop-place.rank c.loop-place.place c.requires.class c.requires.may.node c.requires.may.cover
      c.requires.decided
      (subst (λ (o : Option Rule). IsSome o) (sym c.requires.row) refl)
      (omega (
        arith,
        ap length (row_targets c.args.plan.now c.args.stop.now.class.now c.args.stop.now.row.now c.requires.row),
        c.target_count-place-end.ensures,
        c.loop-place-test.false,
      ))
      c.loop-place.invariant.low (omega (arith, c.loop-place.invariant.few)) c.loop-place.invariant.leads c.loop-place.invariant.some,
  c.loop-place.invariant.few,
  c.loop-place.invariant.room,
)
