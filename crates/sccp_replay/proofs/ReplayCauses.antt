-- A replay that has a cause for an answer ends with it.
use Rattle.std.proofs.Common.{◌≡◌, ◌⊎◌, ℕ, List, Option, Some, None, Ok, refl, ap, subst, inl, inr}
use Rattle.std.specs.Prelude.{IsErr, IsSome, is_ok}
use Rattle.plan_model.specs.Network.{Network}
use Rattle.plan_model.specs.declared.limits.Limits.{Limits}
use Rattle.plan_text.specs.PlanText.{plan_within}
use Rattle.sccp_io.specs.Files.{Contents}
use Rattle.sccp_work.specs.Limit.{HasLongFile}
use Rattle.sccp_work.specs.PlanFile.{PlanFile, plan_file}
use Rattle.sccp_work.specs.Plans.{HasPlan, HasBadPlan}
use Rattle.sccp_replay.specs.ReplayEnds.{ReplayCause, ReplaySure, LaterPlansFit, SomeLaterPlanIsLong}
use Rattle.sccp_replay.specs.Trace.{lines_in, fault_in}
use Rattle.sccp_work.specs.Verdict.{IsSafe, IsBad, IsWide}
use Rattle.sccp_work.specs.declared.status.Status.{Status}
use Rattle.sccp_work.specs.declared.status.Status.TheVariants.{Done, Refused, Usage, BadPlan, BadTrace, TooWide, TooLong, OtherNodes}
use Rattle.sccp_work.specs.declared.status.Status.TheVariants.{BadCapture, Differs, NoMemory, ReadFault, WriteFault}
use Rattle.sccp_work.proofs.LimitLemmas.{not_long}
use Rattle.sccp_work.proofs.PlanLemmas.{not_both, same_plan}
use Rattle.sccp_work.proofs.VerdictLemmas.{safe_or_bad}
use Rattle.sccp_work.proofs.WorkLemmas.{same_octets}

-- ---- causes that exclude each other

-- what holds of a plan's text
abbrev Reading : Limits → (Network → Type 0) → List ℕ → Type 0
Reading limits holds octets = (plan : Network) × (plan_within limits octets ≡ Ok plan) × holds plan

abbrev IsNone : Limits → List ℕ → Type 0
IsNone limits octets = IsErr (plan_within limits octets)

long_or : (c : Contents) (file : PlanFile) (holds : Network → Type 0) → HasPlan (Some c) file holds → HasLongFile (Some c) file → ⊥
long_or c file holds h l = not_long c file (Reading file.limits holds) h l

bad_or : (c : Contents) (file : PlanFile) (holds : Network → Type 0) → HasPlan (Some c) file holds → HasBadPlan (Some c) file → ⊥
bad_or c file holds h b = not_both (plan_within file.limits h.0) (ap is_ok h.3.1)
    (subst (IsNone file.limits) (same_octets (c file.name) b.0 h.0 b.1 h.1) b.3)

-- two things hold of one plan
both : (c : Contents) (file : PlanFile) (P Q : Network → Type 0) → ((plan : Network) → P plan → Q plan → ⊥) → HasPlan (Some c) file P
    → HasPlan (Some c) file Q → ⊥
both c file P Q never h g =
    let e : plan_within file.limits h.0 ≡ Ok g.3.0 =
    subst (λ k. plan_within file.limits k ≡ Ok g.3.0) (same_octets (c file.name) g.0 h.0 g.1 h.1) g.3.1 in
    never h.3.0 h.3.2 (subst Q (same_plan (plan_within file.limits h.0) g.3.0 h.3.0 e h.3.1) g.3.2)

-- safe, and not wide
abbrev IsSurelySafe : Network → Type 0
IsSurelySafe plan = IsSafe plan × (IsWide plan → ⊥)

unsafe : (plan : Network) → IsSafe plan → IsBad plan → ⊥
unsafe plan safe bad = safe_or_bad plan safe bad.0 bad.1

surely_or_bad : (plan : Network) → IsSurelySafe plan → IsBad plan → ⊥
surely_or_bad plan safe bad = unsafe plan safe.0 bad

surely_or_wide : (plan : Network) → IsSurelySafe plan → IsWide plan → ⊥
surely_or_wide plan safe wide = safe.1 wide

none_or_some : {A : Type 0} (o : Option A) → o ≡ None → IsSome o → ⊥
none_or_some o e h = cc

abbrev Anything : List ℕ → Type 0
Anything octets = Unit {0}

fit_or_long : (c : Contents) (limits : Limits) (trace : List ℕ) → LaterPlansFit c limits (lines_in c trace)
    → SomeLaterPlanIsLong c limits (lines_in c trace) → ⊥
fit_or_long c limits trace fit long = not_long c (plan_file long.1 limits) Anything (fit long.0 long.1 long.2) long.3

-- ---- each cause

pub done_must : (c : Contents) (plan : PlanFile) (trace : List ℕ) (s : Status) → ReplaySure c plan trace Done → ReplayCause c plan trace s
    → s ≡ Done
done_must c plan trace Done h e = refl
done_must c plan trace BadTrace h e = absurd (none_or_some (fault_in c trace) h.2 e.1)
done_must c plan trace TooLong h (inl e) = absurd (long_or c plan IsSurelySafe h.0 e)
done_must c plan trace TooLong h (inr e) = absurd (fit_or_long c plan.limits trace h.3 e.1)
done_must c plan trace BadPlan h e = absurd (bad_or c plan IsSurelySafe h.0 e)
done_must c plan trace Refused h e = absurd (both c plan IsSurelySafe IsBad surely_or_bad h.0 e)
done_must c plan trace TooWide h e = absurd (both c plan IsSurelySafe IsWide surely_or_wide h.0 e)
done_must c plan trace Usage h e = absurd e
done_must c plan trace OtherNodes h e = absurd e
done_must c plan trace BadCapture h e = absurd e
done_must c plan trace Differs h e = absurd e
done_must c plan trace NoMemory h e = absurd e
done_must c plan trace ReadFault h e = absurd e
done_must c plan trace WriteFault h e = absurd e

pub bad_trace_must : (c : Contents) (plan : PlanFile) (trace : List ℕ) (s : Status) → ReplaySure c plan trace BadTrace
    → ReplayCause c plan trace s
    → s ≡ BadTrace
bad_trace_must c plan trace BadTrace h e = refl
bad_trace_must c plan trace Done h e = absurd (none_or_some (fault_in c trace) e.2 h.1)
bad_trace_must c plan trace TooLong h (inl e) = absurd (long_or c plan IsSurelySafe h.0 e)
bad_trace_must c plan trace TooLong h (inr e) = absurd (fit_or_long c plan.limits trace h.2 e.1)
bad_trace_must c plan trace BadPlan h e = absurd (bad_or c plan IsSurelySafe h.0 e)
bad_trace_must c plan trace Refused h e = absurd (both c plan IsSurelySafe IsBad surely_or_bad h.0 e)
bad_trace_must c plan trace TooWide h e = absurd (both c plan IsSurelySafe IsWide surely_or_wide h.0 e)
bad_trace_must c plan trace Usage h e = absurd e
bad_trace_must c plan trace OtherNodes h e = absurd e
bad_trace_must c plan trace BadCapture h e = absurd e
bad_trace_must c plan trace Differs h e = absurd e
bad_trace_must c plan trace NoMemory h e = absurd e
bad_trace_must c plan trace ReadFault h e = absurd e
bad_trace_must c plan trace WriteFault h e = absurd e

pub too_long_must : (c : Contents) (plan : PlanFile) (trace : List ℕ) (s : Status) → ReplaySure c plan trace TooLong
    → ReplayCause c plan trace s
    → s ≡ TooLong
too_long_must c plan trace TooLong h e = refl
too_long_must c plan trace Done (inl h) e = absurd (long_or c plan IsSafe e.0 h)
too_long_must c plan trace Done (inr h) e = absurd (fit_or_long c plan.limits trace e.3 h.1)
too_long_must c plan trace BadTrace (inl h) e = absurd (long_or c plan IsSafe e.0 h)
too_long_must c plan trace BadTrace (inr h) e = absurd (fit_or_long c plan.limits trace e.2 h.1)
too_long_must c plan trace BadPlan (inl h) e = absurd (not_long c plan (IsNone plan.limits) e h)
too_long_must c plan trace BadPlan (inr h) e = absurd (bad_or c plan IsSurelySafe h.0 e)
too_long_must c plan trace Refused (inl h) e = absurd (long_or c plan IsBad e h)
too_long_must c plan trace Refused (inr h) e = absurd (both c plan IsSurelySafe IsBad surely_or_bad h.0 e)
too_long_must c plan trace TooWide (inl h) e = absurd (long_or c plan IsWide e h)
too_long_must c plan trace TooWide (inr h) e = absurd (both c plan IsSurelySafe IsWide surely_or_wide h.0 e)
too_long_must c plan trace Usage h e = absurd e
too_long_must c plan trace OtherNodes h e = absurd e
too_long_must c plan trace BadCapture h e = absurd e
too_long_must c plan trace Differs h e = absurd e
too_long_must c plan trace NoMemory h e = absurd e
too_long_must c plan trace ReadFault h e = absurd e
too_long_must c plan trace WriteFault h e = absurd e

pub bad_plan_must : (c : Contents) (plan : PlanFile) (trace : List ℕ) (s : Status) → ReplaySure c plan trace BadPlan
    → ReplayCause c plan trace s
    → s ≡ BadPlan
bad_plan_must c plan trace BadPlan h e = refl
bad_plan_must c plan trace Done h e = absurd (bad_or c plan IsSafe e.0 h)
bad_plan_must c plan trace BadTrace h e = absurd (bad_or c plan IsSafe e.0 h)
bad_plan_must c plan trace TooLong h (inl e) = absurd (not_long c plan (IsNone plan.limits) h e)
bad_plan_must c plan trace TooLong h (inr e) = absurd (bad_or c plan IsSafe e.0 h)
bad_plan_must c plan trace Refused h e = absurd (bad_or c plan IsBad e h)
bad_plan_must c plan trace TooWide h e = absurd (bad_or c plan IsWide e h)
bad_plan_must c plan trace Usage h e = absurd e
bad_plan_must c plan trace OtherNodes h e = absurd e
bad_plan_must c plan trace BadCapture h e = absurd e
bad_plan_must c plan trace Differs h e = absurd e
bad_plan_must c plan trace NoMemory h e = absurd e
bad_plan_must c plan trace ReadFault h e = absurd e
bad_plan_must c plan trace WriteFault h e = absurd e

pub refused_must : (c : Contents) (plan : PlanFile) (trace : List ℕ) (s : Status) → ReplayCause c plan trace Refused
    → ReplayCause c plan trace s
    → (s ≡ Refused) ⊎ (s ≡ TooWide)
refused_must c plan trace Refused h e = inl refl
refused_must c plan trace TooWide h e = inr refl
refused_must c plan trace Done h e = absurd (both c plan IsSafe IsBad unsafe e.0 h)
refused_must c plan trace BadTrace h e = absurd (both c plan IsSafe IsBad unsafe e.0 h)
refused_must c plan trace TooLong h (inl e) = absurd (long_or c plan IsBad h e)
refused_must c plan trace TooLong h (inr e) = absurd (both c plan IsSafe IsBad unsafe e.0 h)
refused_must c plan trace BadPlan h e = absurd (bad_or c plan IsBad h e)
refused_must c plan trace Usage h e = absurd e
refused_must c plan trace OtherNodes h e = absurd e
refused_must c plan trace BadCapture h e = absurd e
refused_must c plan trace Differs h e = absurd e
refused_must c plan trace NoMemory h e = absurd e
refused_must c plan trace ReadFault h e = absurd e
refused_must c plan trace WriteFault h e = absurd e
