use Rattle.std.proofs.Common.{◌≤◌, ◌∙◌, ap, arith, length, subst}
use Rattle.plan_verify.specs.declared.found.Found.{Found}
use Rattle.plan_verify.specs.Searching.{IsFound}
use Rattle.plan_verify.proofs.FromStarts.{may_start, starts_next, some_next, starts_end}
use Rattle.plan_verify.proofs.starts.explore_starts.Goals as goal

pub explore-requires-clause-may : goal.explore-requires-clause-may
explore-requires-clause-may c = may_start c.args.plan.now c.loop-number.number c.start.result c.covers.ensures.sound c.start.ensures.value

pub loop-number-preserved : goal.loop-number-preserved
loop-number-preserved c =
    let found = subst (λ (f : Found). IsFound c.args.plan.now c.start.result 0 c.explore.new.ranks f) c.in-Rank.is
    c.in_ok-rank.ensures.found in
    record {
      sound = c.explore.ensures.sound;
      room = found.2;
      below = starts_next c.args.plan.now c.loop-number.ranks c.explore.new.ranks c.loop-number.number c.loop-number.greatest.rank
          c.greater-greatest.result.rank c.in-Rank.rank c.start.result c.explore.ensures.keeps c.start.ensures.value found.0
          c.greater-greatest.ensures.least c.greater-greatest.ensures.above c.loop-number.invariant.below;
      some = some_next c.args.plan.now c.loop-number.ranks c.explore.new.ranks c.loop-number.number c.in-Rank.rank c.start.result
          c.loop-number.greatest c.greater-greatest.result c.explore.ensures.keeps c.start.ensures.value found.0
          c.greater-greatest.ensures.one c.loop-number.invariant.some;
    }

pub returns-clause-outcome : goal.returns-clause-outcome
returns-clause-outcome c =
    let all : length c.args.plan.now.covers ≤ c.loop-number.number =
    omega (arith, c.loop-number-test.false, ap length (c.as_slice.ensures ∙ c.covers.ensures.value)) in
    let whole = starts_end c.args.plan.now c.loop-number.ranks c.loop-number.number c.loop-number.greatest.rank c.covers.ensures.sound
    c.loop-number.invariant.sound all c.loop-number.invariant.below in
    (whole.0, c.loop-number.invariant.some whole.1, c.loop-number.invariant.room)
