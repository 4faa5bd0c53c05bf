use Rattle.std.proofs.Common.{◌∙◌, subst, arith, rules, take_all}
use Rattle.std.specs.List.{All}
use Rattle.std.proofs.lemmas.Result.{on_ok_weaker}
use Rattle.plan_classes.specs.Titles.{IsPart}
use Rattle.plan_classes.proofs.Parting.{part_of}
use Rattle.plan_unused.specs.Walks.{IsRankedBy, KeepsPlaces, Grows}
use Rattle.plan_unused.specs.Meets.Meets.{Part}
use Rattle.plan_check.proofs.Orders.{Puts}
use Rattle.plan_unused.proofs.Growing.{grows_none, grows_on, ranks_grown, was_ranked, parts_grow, put_ranked, parts_ranked}
use Rattle.plan_unused.proofs.Meeting.{part_at}
use Rattle.plan_unused.proofs.Noting.{ok_both}
use Rattle.plan_unused.proofs.entering.+enter.Goals as goal

pub enter-returns-then-is_some-clause-grows : goal.enter-returns-then-is_some-clause-grows
enter-returns-then-is_some-clause-grows t c = grows_none c.args.plan.now c.args.depth c.args.met.now

pub enter-returns-then-is_some-clause-ranked : goal.enter-returns-then-is_some-clause-ranked
enter-returns-then-is_some-clause-ranked t c =
    was_ranked c.args.plan.now c.args.depth c.args.met.now c.args.class.now c.get.result c.requires.ranks c.get.ensures
    c.if-is_some.ensures

pub enter_parts-enter-requires : goal.enter_parts-enter-requires
enter_parts-enter-requires t c =
    let part : IsPart c.args.class.now c.part-item.result =
    part_of c.args.class.now _ _ c.loop-part.part-index _ c.in_ok-parts.ensures.splits c.as_slice-part-items.ensures
    c.loop-part-test.true c.part-item.is in (
      search rules,
      (
        record {
          node = omega (arith, part.node, c.requires.may.node);
          meets = Part c.args.depth c.args.class.now c.part-item.result c.requires.may.meets c.requires.undecided
              (part_at c.args.class.now _ _ c.loop-part.part-index _ c.in_ok-parts.ensures.value c.as_slice-part-items.ensures
              c.loop-part-test.true c.part-item.is);
        },
        ranks_grown c.args.plan.now c.args.depth c.args.met.now c.loop-part.met
            c.loop-part.invariant.grows c.requires.ranks,
      ),
    )

pub enter_parts-loop-part-init : goal.enter_parts-loop-part-init
enter_parts-loop-part-init t c = record {
  grows = grows_none c.args.plan.now c.args.depth c.args.met.now;
  ranked = λ k d lt. absurd (omega (arith, lt));
}

pub enter_parts-loop-part-preserved : goal.enter_parts-loop-part-preserved
enter_parts-loop-part-preserved t c =
    record {
      grows = grows_on c.args.plan.now c.args.depth c.args.met.now c.loop-part.met c.enter.new.met c.loop-part.invariant.grows
          c.in_ok-enter.ensures.grows;
      ranked = parts_ranked c.loop-part.met c.enter.new.met c.as_slice-part-items.result.now c.loop-part.part-index _ c.args.depth
          c.loop-part-test.true c.part-item.is c.in_ok-enter.ensures.grows.kept c.in_ok-enter.ensures.ranked c.loop-part.invariant.ranked;
    }

pub enter_parts-rank-requires : goal.enter_parts-rank-requires
enter_parts-rank-requires t c = record {
  ranks = ranks_grown c.args.plan.now c.args.depth c.args.met.now c.loop-part.met
      c.loop-part.invariant.grows c.requires.ranks;
}

pub enter_parts-returns-clause-grows : goal.enter_parts-returns-clause-grows
enter_parts-returns-clause-grows t c =
    ok_both c.rank.result (Puts c.loop-part.met c.rank.new.met c.args.class.now c.args.depth)
    (KeepsPlaces c.loop-part.met c.rank.new.met) (Grows c.args.plan.now c.args.depth c.args.met.now c.rank.new.met)
    (λ puts places. parts_grow c.args.plan.now c.args.depth c.args.met.now c.loop-part.met c.rank.new.met c.args.class.now c.requires.fresh
    c.requires.undecided c.requires.may.meets c.loop-part.invariant.grows
    (subst (All (λ part. IsRankedBy c.loop-part.met part c.args.depth)) (take_all c.loop-part.part-index
    c.as_slice-part-items.result.now c.loop-part-test.false ∙ (c.as_slice-part-items.ensures ∙ c.in_ok-parts.ensures.value))
    c.loop-part.invariant.ranked) puts places)
    c.rank.ensures.puts c.rank.ensures.places

pub enter_parts-returns-clause-ranked : goal.enter_parts-returns-clause-ranked
enter_parts-returns-clause-ranked t c =
    on_ok_weaker {P = Puts c.loop-part.met c.rank.new.met c.args.class.now c.args.depth}
    {Q = IsRankedBy c.rank.new.met c.args.class.now c.args.depth} c.rank.result
    (put_ranked c.loop-part.met c.rank.new.met c.args.class.now c.args.depth) c.rank.ensures.puts
