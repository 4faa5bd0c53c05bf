-- The verdict on a plan: the answer that it is, and its text.
use Rattle.std.specs.Prelude.{◌≡◌, ℕ, List, Option}
use Rattle.std.specs.Io.KnownBytes.{append_known}
use Rattle.plan_classes.specs.Classes.{ReachesAtLeast}
use Rattle.plan_model.specs.Network.{Network}
use Rattle.plan_verify.specs.Lawful.{IsLawful, IsSafeFor}
use Rattle.plan_verify.specs.Witnesses.{IsWitness}
use Rattle.plan_verify.specs.declared.verdict.Verdict.{Verdict}
use Rattle.plan_verify.specs.declared.verdict.Verdict.TheVariants as verdicts
use Rattle.plan_verify.specs.declared.witness.Witness.{Witness}
use Rattle.sccp_report.specs.Verdicts.{verdict_text}
use Rattle.sccp_work.specs.declared.status.Status.{Status}
use Rattle.sccp_work.specs.declared.status.Status.TheVariants.{Done, Refused, TooWide}

abbrev pub status_of : Verdict → Status
status_of (verdicts.Accepted accepted) = Done
status_of (verdicts.Refused plan witness) = Refused
status_of (verdicts.TooWide plan) = TooWide

-- the plan is safe for some bound from 1 to 14
abbrev pub IsSafe : Network → Type 0
IsSafe plan = (bound : ℕ) × IsSafeFor plan bound

-- it has a bad route
abbrev pub IsBad : Network → Type 0
IsBad plan = (witness : Witness) × IsWitness plan witness

-- it reaches the most classes that its limits allow, or more
abbrev pub IsWide : Network → Type 0
IsWide plan = ReachesAtLeast plan plan.limits.classes

-- an answer that a verdict gives
abbrev pub IsOnVerdict : Status → Type 0
IsOnVerdict Done = Unit {0}
IsOnVerdict Refused = Unit {0}
IsOnVerdict TooWide = Unit {0}
IsOnVerdict answer = ⊥

-- an answer that the plan is not accepted
abbrev pub IsOnRefusal : Status → Type 0
IsOnRefusal Refused = Unit {0}
IsOnRefusal TooWide = Unit {0}
IsOnRefusal answer = ⊥

-- the answer is that of a lawful verdict on the plan, and the sink took the whole text of that verdict
pub record Tells (plan : Network) (given : Status) (taken taken' : Option (List ℕ)) : Type 0 where
  pub verdict : Verdict
  pub lawful : IsLawful plan verdict
  pub status : given ≡ status_of verdict
  pub text : taken' ≡ append_known taken (verdict_text plan verdict)
