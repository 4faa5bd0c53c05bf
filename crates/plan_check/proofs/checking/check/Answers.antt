use Rattle.plan_check.proofs.Verdict.{passed_safe, faultless}
use Rattle.plan_check.proofs.checking.check.Goals as goal

pub accept-requires-clause-some : goal.accept-requires-clause-some
accept-requires-clause-some c =
    (passed_safe c.args.plan c.args.ranks.now c.args.longest c.in-Ok.bound c.bound_of.ensures.plan c.in-Ok.ensures.passed).0

pub accept-requires-clause-few : goal.accept-requires-clause-few
accept-requires-clause-few c =
    (passed_safe c.args.plan c.args.ranks.now c.args.longest c.in-Ok.bound c.bound_of.ensures.plan c.in-Ok.ensures.passed).1

pub accept-requires-clause-safe : goal.accept-requires-clause-safe
accept-requires-clause-safe c =
    (passed_safe c.args.plan c.args.ranks.now c.args.longest c.in-Ok.bound c.bound_of.ensures.plan c.in-Ok.ensures.passed).2

pub returns-in-Ok-clause-safe : goal.returns-in-Ok-clause-safe
returns-in-Ok-clause-safe c =
    rw c.accept.ensures.value
    (passed_safe c.args.plan c.args.ranks.now c.args.longest c.in-Ok.bound c.bound_of.ensures.plan c.in-Ok.ensures.passed).2

pub returns-in-Err-clause-complete : goal.returns-in-Err-clause-complete
returns-in-Err-clause-complete c =
    λ bound passes. faultless c.args.plan c.args.ranks.now c.args.longest c.in-Err.fault c.in-Err.ensures.fault bound passes
