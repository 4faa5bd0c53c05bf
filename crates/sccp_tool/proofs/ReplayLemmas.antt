-- What a replay ends with, and what it prints.
use Rattle.std.proofs.Common.{◌≡◌, ℕ, List, Some, refl}
use Rattle.relay_net.proofs.Going.{goes_well}
use Rattle.sccp_io.specs.Files.{Contents}
use Rattle.sccp_replay.specs.Replay.{replay_work}
use Rattle.sccp_replay.specs.ReplayEnds.{ReplayCause, ReplaySure}
use Rattle.sccp_tool.specs.Task.{Replay}
use Rattle.sccp_work.specs.PlanFile.{PlanFile}
use Rattle.sccp_work.specs.declared.status.Status.{Status}
use Rattle.sccp_work.specs.declared.status.Status.TheVariants.{Done, Usage, BadPlan, BadTrace, TooLong}
use Rattle.sccp_tool.proofs.Causes.{Causes}
use Rattle.sccp_work.proofs.Finishing.{answer_holds}
use Rattle.sccp_replay.proofs.ReplayAnswers.{replay_other}
use Rattle.sccp_replay.proofs.ReplayCauses.{done_must, bad_trace_must, too_long_must, bad_plan_must, refused_must}
use Rattle.sccp_replay.proofs.ReplayFiles.{replay_files}
use Rattle.sccp_replay.proofs.ReplayTold.{replay_told, replay_ends, verdict_ends}
use Rattle.sccp_work.proofs.VerdictLemmas.{on_verdict}

always : (c : Contents) (plan : PlanFile) (trace : List ℕ) (t s : Status) → ReplaySure c plan trace t → ReplayCause c plan trace s → s ≡ t
always c plan trace Done s sure cause = done_must c plan trace s sure cause
always c plan trace BadTrace s sure cause = bad_trace_must c plan trace s sure cause
always c plan trace TooLong s sure cause = too_long_must c plan trace s sure cause
always c plan trace BadPlan s sure cause = bad_plan_must c plan trace s sure cause
always c plan trace t s sure cause = absurd sure

pub replay_causes : (plan : PlanFile) (trace : List ℕ) (workers : ℕ) → Causes (Some (Replay plan trace workers))
replay_causes plan trace workers = record {
  only = λ c s text h. replay_ends goes_well c plan trace workers s text h;
  usage = λ contents text h. absurd (answer_holds _ contents (replay_work plan trace workers) Usage text
      (replay_other plan trace workers) h refl);
  always = λ c t s text sure h. always c plan trace t s sure (replay_ends goes_well c plan trace workers s text h);
  refused = λ c s text cause h. refused_must c plan trace s cause (replay_ends goes_well c plan trace workers s text h);
  tells = λ c s text taken taken' is ends. verdict_ends goes_well c plan trace workers s text taken taken' is
      (λ on. ends (on_verdict s on));
  journeys = λ c s b a is o. (o.text, o.goes.taken, replay_told goes_well c plan trace workers s b a is o);
  files = λ c has. replay_files c plan trace workers has.0 has.1 has.2;
}
