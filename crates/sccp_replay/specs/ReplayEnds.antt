-- Why a replay ends as it does.
use Rattle.std.specs.Prelude.{◌≡◌, ◌⊎◌, ℕ, List, Option, Some, None, IsSome}
use Rattle.std.specs.List.{Contains}
use Rattle.sccp_io.specs.Files.{Contents}
use Rattle.trace_text.specs.declared.line.Line.TheVariants.{Plan}
use Rattle.trace_text.specs.declared.line.Numbered.{Numbered}
use Rattle.plan_model.specs.Network.{Network}
use Rattle.plan_model.specs.declared.limits.Limits.{Limits}
use Rattle.sccp_work.specs.Limit.{IsThere, HasFile, HasLongFile}
use Rattle.sccp_work.specs.PlanFile.{PlanFile, plan_file}
use Rattle.sccp_work.specs.Plans.{HasPlan, HasBadPlan}
use Rattle.sccp_replay.specs.Trace.{lines_in, fault_in}
use Rattle.sccp_work.specs.Verdict.{IsSafe, IsBad, IsWide, IsOnRefusal, Tells}
use Rattle.sccp_work.specs.declared.status.Status.{Status}
use Rattle.sccp_work.specs.declared.status.Status.TheVariants.{Done, Refused, BadPlan, BadTrace, TooWide, TooLong}

-- the line of that number names a later plan in the file of that name
abbrev pub NamesPlan : List Numbered → ℕ → List ℕ → Type 0
NamesPlan lines number name = Contains lines (record { number = number; line = Plan name })

-- the file of each later plan that a line names is there and has no more octets than limits allow
abbrev pub LaterPlansFit : Contents → Limits → List Numbered → Type 0
LaterPlansFit c limits lines =
    (number : ℕ) (name : List ℕ) → NamesPlan lines number name → HasFile (Some c) (plan_file name limits) (λ octets. Unit {0})

-- it is there
abbrev pub LaterPlansThere : Contents → List Numbered → Type 0
LaterPlansThere c lines = (number : ℕ) (name : List ℕ) → NamesPlan lines number name → IsThere c name

-- that of some later plan has more octets
abbrev pub SomeLaterPlanIsLong : Contents → Limits → List Numbered → Type 0
SomeLaterPlanIsLong c limits lines =
    (number : ℕ) × (name : List ℕ) × NamesPlan lines number name × HasLongFile (Some c) (plan_file name limits)

-- An accepted first plan, of which this holds; a trace that is there and has no faulty line, or one that has one; later
-- plans whose files fit under the first plan's limits. Too long is the file of the first plan or, after an accepted first plan,
-- that of a later one.
abbrev pub EndsWhere : (Network → Type 0) → Contents → PlanFile → List ℕ → Status → Type 0
EndsWhere accepted c plan trace Done = HasPlan (Some c) plan accepted × IsSome (c trace) × (fault_in c trace ≡ None)
    × LaterPlansFit c plan.limits (lines_in c trace)
EndsWhere accepted c plan trace BadTrace = HasPlan (Some c) plan accepted × IsSome (fault_in c trace)
    × LaterPlansFit c plan.limits (lines_in c trace)
EndsWhere accepted c plan trace TooLong = HasLongFile (Some c) plan
    ⊎ (HasPlan (Some c) plan accepted × SomeLaterPlanIsLong c plan.limits (lines_in c trace))
EndsWhere accepted c plan trace BadPlan = HasBadPlan (Some c) plan
EndsWhere accepted c plan trace answer = ⊥

-- the cause of each answer
abbrev pub ReplayCause : Contents → PlanFile → List ℕ → Status → Type 0
ReplayCause c plan trace Refused = HasPlan (Some c) plan IsBad
ReplayCause c plan trace TooWide = HasPlan (Some c) plan IsWide
ReplayCause c plan trace answer = EndsWhere IsSafe c plan trace answer

-- What gives an answer for sure: a first plan that is both safe and wide may be reported as too wide as well.
abbrev pub ReplaySure : Contents → PlanFile → List ℕ → Status → Type 0
ReplaySure c plan trace answer = EndsWhere (λ p. IsSafe p × (IsWide p → ⊥)) c plan trace answer

-- such an answer gives a lawful verdict on the first plan
abbrev pub ReplayTells : Contents → PlanFile → Status → Option (List ℕ) → Option (List ℕ) → Type 0
ReplayTells c plan given taken taken' = IsOnRefusal given → HasPlan (Some c) plan (λ p. Tells p given taken taken')
