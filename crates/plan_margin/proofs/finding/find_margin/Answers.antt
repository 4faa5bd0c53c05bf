use Rattle.std.proofs.Common.{subst, arith}
use Rattle.sccp_base.specs.Marks.{IsAscending}
use Rattle.plan_margin.specs.declared.found.Found.{Found}
use Rattle.plan_margin.specs.Searching.{IsFoundIf, AllArrive, Spares}
use Rattle.plan_margin.specs.Ways.{HasWays, IfWide}
use Rattle.plan_margin.proofs.Counted.{many_ways}
use Rattle.plan_margin.proofs.Starting.{is_stop, survives_more, survives_all}
use Rattle.plan_margin.proofs.finding.find_margin.Goals as goal

pub returns-in-Stopped : goal.returns-in-Stopped
returns-in-Stopped c =
    let stop = c.in_ok-stop-in-Stopped.field-0 in (
      c.loop-most.most,
      omega (arith, c.loop-most-test.true),
      c.loop-most.invariant,
      is_stop c.args.plan.now c.args.kinds c.args.cover c.loop-most.most c.start_in-class.result c.in-Stopped.digits c.in-Stopped.lost stop
          c.start_in-class.ensures.plan c.start_in-class.ensures.value
          (subst IsAscending c.lost.view_is c.lost.invariant.ascending)
          (subst (λ (f : Found). IsFoundIf c.args.plan.now c.start_in-class.result 14 c.loop-most.most
          (Spares c.args.plan.now c.args.kinds c.start_in-class.result.node) f) c.in-Stopped.is c.in_ok-digits.ensures.found)
          c.loop-most.invariant
          c.in_ok-stop-in-Stopped.ensures.spot c.in_ok-stop-in-Stopped.ensures.markings c.in_ok-stop-in-Stopped.ensures.hops,
    )

pub returns-then-not-cut : goal.returns-then-not-cut
returns-then-not-cut c =
    let all = subst (λ (f : Found). IsFoundIf c.args.plan.now c.start_in-class.result 14 c.loop-most.most
    (Spares c.args.plan.now c.args.kinds c.start_in-class.result.node) f) c.in-Through.is c.in_ok-digits.ensures.found in
    survives_all c.args.plan.now c.args.kinds c.args.cover c.loop-most.most c.start_in-class.result c.start_in-class.ensures.value
    (subst (AllArrive c.args.plan.now c.start_in-class.result 14 c.loop-most.most
    (Spares c.args.plan.now c.args.kinds c.start_in-class.result.node)) c.if-not-cut.true all)

pub loop-most-preserved : goal.loop-most-preserved
loop-most-preserved c =
    let all = subst (λ (f : Found). IsFoundIf c.args.plan.now c.start_in-class.result 14 c.loop-most.most
    (Spares c.args.plan.now c.args.kinds c.start_in-class.result.node) f) c.in-Through.is c.in_ok-digits.ensures.found in
    survives_more c.args.plan.now c.args.kinds c.args.cover c.loop-most.most c.start_in-class.result c.in-Through.cut
    c.start_in-class.ensures.value all

pub returns-in-Wide : goal.returns-in-Wide
returns-in-Wide c = (
  omega (arith, c.loop-most-test.true),
  c.loop-most.invariant,
  many_ways c.args.plan.now c.args.kinds c.args.cover c.loop-most.most c.start_in-class.result c.start_in-class.ensures.value
      (subst (IfWide (HasWays c.args.plan.now c.args.kinds c.loop-most.most c.start_in-class.result)) c.in-Wide.is
      c.in_ok-digits.ensures.ways),
)
