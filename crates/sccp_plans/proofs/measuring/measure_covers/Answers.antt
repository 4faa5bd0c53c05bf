use Rattle.std.proofs.Common.{◌<◌, ◌≤◌, ◌∙◌, List, length, subst, arith}
use Rattle.std.proofs.lemmas.Result.{err_from_is_err_and}
use Rattle.plan_model.specs.declared.cover.Cover.{Cover}
use Rattle.sccp_work.specs.Moment.{Moment, with_sink}
use Rattle.sccp_plans.proofs.MarginLemmas.{all_left, next_left, stopped_left, none_left}
use Rattle.sccp_plans.proofs.measuring.measure_covers.Goals as goal

pub loop-number-init : goal.loop-number-init
loop-number-init g c = record {
  left = λ any. all_left c.args.plan.now c.args.limit.now (with_sink any g.K.Sink.taken g.K.Sink.faults c.args.out.now);
  count = omega arith;
}

pub returns-in_err-tally : goal.returns-in_err-tally
returns-in_err-tally g c =
    let p = err_from_is_err_and c.from_residual.result c.from_residual.ensures.1 in
    let lt : c.loop-number.number < length c.args.plan.now.covers =
    subst (λ (xs : List Cover). c.loop-number.number < length xs) (c.as_slice.ensures ∙ c.covers.ensures.value) c.loop-number-test.true in
    rw (p.1, p.2) (λ any.
    let first : Moment = with_sink any g.K.Sink.taken g.K.Sink.faults c.args.out.now in
    let now : Moment = with_sink any g.K.Sink.taken g.K.Sink.faults c.loop-number.out in
    let after : Moment = with_sink any g.K.Sink.taken g.K.Sink.faults c.measure_cover.new.out in
    stopped_left c.args.plan.now c.args.limit.now c.loop-number.number c.loop-number.tally c.in_err-tally.field-0.0 first now after lt
    (c.loop-number.invariant.left any) (c.in_err-tally.ensures.gives any))

pub loop-number-preserved : goal.loop-number-preserved
loop-number-preserved g c =
    let lt : c.loop-number.number < length c.args.plan.now.covers =
    subst (λ (xs : List Cover). c.loop-number.number < length xs) (c.as_slice.ensures ∙ c.covers.ensures.value) c.loop-number-test.true in
    record {
      left = λ any.
          let first : Moment = with_sink any g.K.Sink.taken g.K.Sink.faults c.args.out.now in
          let now : Moment = with_sink any g.K.Sink.taken g.K.Sink.faults c.loop-number.out in
          let after : Moment = with_sink any g.K.Sink.taken g.K.Sink.faults c.measure_cover.new.out in
          next_left c.args.plan.now c.args.limit.now c.loop-number.number c.loop-number.tally c.in_ok-tally.tally first now after lt
          (c.loop-number.invariant.left any) (c.in_ok-tally.ensures.gives any);
      count = c.in_ok-tally.ensures.one_more;
    }

pub returns : goal.returns
returns g c =
    let few : length c.args.plan.now.covers ≤ c.loop-number.number =
    subst (λ (xs : List Cover). length xs ≤ c.loop-number.number) (c.as_slice.ensures ∙ c.covers.ensures.value) c.loop-number-test.false in
    λ any.
    let first : Moment = with_sink any g.K.Sink.taken g.K.Sink.faults c.args.out.now in
    let now : Moment = with_sink any g.K.Sink.taken g.K.Sink.faults c.loop-number.out in
    none_left c.args.plan.now c.args.limit.now c.loop-number.number c.loop-number.tally first now few (c.loop-number.invariant.left any)
