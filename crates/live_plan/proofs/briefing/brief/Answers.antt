use Rattle.std.proofs.Common.{rules}
use Rattle.live_plan.specs.Tellers.{plans_of, due_of}
use Rattle.live_plan.proofs.Passed.{take_begins}
use Rattle.live_plan.proofs.Passes.{sees_same, sees_start}
use Rattle.live_plan.proofs.briefing.brief.Goals as goal

pub returns-in_err-entry-clause-sees : goal.returns-in_err-entry-clause-sees
returns-in_err-entry-clause-sees c = sees_same (plans_of c.args.teller.now) c.args.worker.now

pub returns-clause-sees : goal.returns-clause-sees
returns-clause-sees c =
    sees_start (plans_of c.args.teller.now) (due_of c.args.teller.now) c.args.worker.now _ (take_begins _ _)
    (record { told = search rules; has = search rules }) (search rules) (search rules)
