-- What is to be proved of the commands on plans, as of any task.
use Rattle.std.proofs.Common.{ℕ, List, Option, Some}
use Rattle.sccp_io.specs.Files.{Contents}
use Rattle.sccp_plans.proofs.ChangeLemmas.{change_causes}
use Rattle.sccp_plans.proofs.CoversLemmas.{covers_causes}
use Rattle.sccp_plans.proofs.MarginLemmas.{margin_causes}
use Rattle.sccp_plans.proofs.OrderLemmas.{order_causes}
use Rattle.sccp_plans.proofs.RouteLemmas.{route_causes}
use Rattle.sccp_plans.proofs.UnusedLemmas.{unused_causes}
use Rattle.sccp_plans.proofs.VerifyLemmas.{verify_causes}
use Rattle.sccp_plans.proofs.WorkCauses.{WorkCauses}
use Rattle.sccp_plans.specs.declared.loss_limit.LossLimit.{LossLimit}
use Rattle.sccp_plans.specs.declared.start.Start.{Start}
use Rattle.sccp_tool.proofs.Causes.{Causes}
use Rattle.sccp_tool.specs.Run.{work_of, Cause, SureCause, TellsAnswer, TellsJourneys, HasNamedFiles}
use Rattle.sccp_tool.specs.Task.{Task, Verify, Route, Change, Covers, Unused, Margin, Order}
use Rattle.sccp_work.specs.PlanFile.{PlanFile}
use Rattle.sccp_work.specs.declared.status.Status.{Status}

-- what was proved of the work of a command in a crate of its own, and what is told of journeys
right : (task : Task)
    → WorkCauses (work_of (Some task)) (λ c. Cause c (Some task)) (λ c. SureCause c (Some task)) (λ c. TellsAnswer c (Some task))
    (λ c. HasNamedFiles c (Some task))
    → ((c : Contents) (s : Status) (taken taken' : Option (List ℕ)) → TellsJourneys c (Some task) s taken taken') → Causes (Some task)
right task causes journeys = record {
  only = causes.only;
  usage = λ contents text h. absurd (causes.usage contents text h);
  always = causes.always;
  refused = causes.refused;
  tells = causes.tells;
  journeys = λ c s b a is o. journeys c s b.taken a.taken;
  files = causes.files;
}

pub verify_right : (file : PlanFile) → Causes (Some (Verify file))
verify_right file = right (Verify file) (verify_causes file) (λ c s taken taken'. tt)

pub route_right : (file : PlanFile) (start : Start) → Causes (Some (Route file start))
route_right file start = right (Route file start) (route_causes file start) (λ c s taken taken'. tt)

pub covers_right : (file : PlanFile) → Causes (Some (Covers file))
covers_right file = right (Covers file) (covers_causes file) (λ c s taken taken'. tt)

pub unused_right : (file : PlanFile) → Causes (Some (Unused file))
unused_right file = right (Unused file) (unused_causes file) (λ c s taken taken'. tt)

pub margin_right : (file : PlanFile) (losses : LossLimit) → Causes (Some (Margin file losses))
margin_right file losses = right (Margin file losses) (margin_causes file losses) (λ c s taken taken'. tt)

pub change_right : (old new : PlanFile) → Causes (Some (Change old new))
change_right old new = right (Change old new) (change_causes old new) (λ c s taken taken'. tt)

pub order_right : (old new : PlanFile) → Causes (Some (Order old new))
order_right old new = right (Order old new) (order_causes old new) (λ c s taken taken'. tt)
