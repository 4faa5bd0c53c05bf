-- What following a title ends with.
use Rattle.std.proofs.Common.{Some}
use Rattle.sccp_plans.specs.Route.{route_text, route_work}
use Rattle.sccp_work.specs.PlanFile.{PlanFile}
use Rattle.sccp_work.specs.Work.{answered}
use Rattle.sccp_plans.specs.declared.start.Start.{Start}
use Rattle.sccp_work.specs.declared.status.Status.TheVariants.{Done, Usage}
use Rattle.sccp_plans.proofs.WorkCauses.{WorkCauses}
use Rattle.sccp_work.proofs.PlanLemmas.{plan_files, text_always, text_only}
use Rattle.sccp_work.specs.Plans.{TextCause}
use Rattle.sccp_work.specs.Limit.{IsThere}

pub route_causes : (file : PlanFile) (start : Start) → WorkCauses (route_work file start)
    (λ c. TextCause (Some c) file) (λ c. TextCause (Some c) file)
    (λ c s taken taken'. Unit {0}) (λ c. IsThere c file.name)
route_causes file start = record {
  only = λ c s text h. text_only (Some c) file (λ plan. route_text plan start) s text h;
  usage = λ contents text h. absurd (text_only contents file (λ plan. route_text plan start) Usage text h);
  always = λ c t s text cause h. text_always c file (λ plan. route_text plan start) t s text cause h;
  refused = λ c s text cause h. absurd cause;
  tells = λ c s text taken taken' is ends. tt;
  files = λ c there. plan_files c file (λ plan. answered (Done, route_text plan start)) (λ plan. tt) there;
}
