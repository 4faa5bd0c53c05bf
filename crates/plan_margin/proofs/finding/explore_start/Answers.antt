use Rattle.std.proofs.Common.{refl}
use Rattle.std.proofs.lemmas.Result.{IfOk-weaker}
use Rattle.plan_margin.specs.declared.outage_set.OutageSet.{OutageSet}
use Rattle.plan_margin.specs.Searching.{IsFound, IsFoundIf, Spares}
use Rattle.plan_margin.proofs.Counted.{wide_ways}
use Rattle.plan_margin.proofs.Starting.{spared_found}
use Rattle.plan_margin.proofs.finding.explore_start.Goals as goal

pub returns-clause-found : goal.returns-clause-found
returns-clause-found c =
    let set : OutageSet = record { kinds = c.args.kinds; lost = c.new.result; up = c.in_ok-up.up; most = c.args.most } in
    IfOk-weaker c.explore-found.result (λ f. IsFound c.args.plan.now c.args.class.now 14 set f)
    (λ f. IsFoundIf c.args.plan.now c.args.class.now 14 c.args.most (Spares c.args.plan.now c.args.kinds c.args.class.now.node) f)
    (λ f h. spared_found c.args.plan.now c.args.class.now 14 c.args.class.now.node set f c.new.ensures c.in_ok-up.ensures h)
    c.explore-found.ensures.found

pub returns-clause-ways : goal.returns-clause-ways
returns-clause-ways c =
    let set : OutageSet = record { kinds = c.args.kinds; lost = c.new.result; up = c.in_ok-up.up; most = c.args.most } in
    wide_ways c.explore-found.result c.args.plan.now c.args.kinds c.args.most c.args.class.now set c.explore-found.new.count
    (record { counted = refl; none = c.new.ensures; spared = c.in_ok-up.ensures; few = refl }) c.explore-found.ensures.limit
    c.explore-found.ensures.ways
