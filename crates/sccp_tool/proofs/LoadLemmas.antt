-- What making a load from a number ends with: the plan of each number is accepted, and the counts add up.
use Rattle.std.proofs.Common.{◌≡◌, ◌≤◌, ℕ, List, [], Option, Some, sym, ◌∙◌, ap, subst, arith}
use Rattle.std.specs.Io.KnownBytes.{append_known}
use Rattle.made_load.specs.Loads.{load_counts}
use Rattle.made_load.specs.Relays.{load_plan}
use Rattle.made_load.proofs.Counting.{add_up}
use Rattle.made_load.proofs.Narrow.{narrow}
use Rattle.made_load.proofs.Safe.{safe}
use Rattle.plan_model.specs.Limits.{most_classes}
use Rattle.plan_verify.specs.Lawful.{IsLawful}
use Rattle.plan_verify.specs.declared.verdict.Verdict.{Verdict}
use Rattle.plan_verify.specs.declared.verdict.Verdict.TheVariants as verdicts
use Rattle.sccp_io.specs.Files.{Contents}
use Rattle.sccp_tool.specs.Load.{counts_text, load_work, LoadCause}
use Rattle.sccp_tool.specs.Task.{Load}
use Rattle.sccp_work.specs.Accepting.{accepted_on}
use Rattle.sccp_work.specs.Verdict.{IsOnVerdict}
use Rattle.sccp_work.specs.Work.{answered, Ends}
use Rattle.sccp_work.specs.declared.status.Status.{Status}
use Rattle.sccp_work.specs.declared.status.Status.TheVariants.{Done, Usage}
use Rattle.sccp_tool.proofs.Causes.{Causes}
use Rattle.sccp_tool.proofs.TracedLoads.{counts_are_replayed}
use Rattle.sccp_work.proofs.AcceptingLemmas.{Ends-answered, accepted_files}
use Rattle.sccp_work.proofs.VerdictLemmas.{safe_or_bad}

-- the work ends with Done and the counts
record Counted (number size : ℕ) (s : Status) (text : List ℕ) : Type 0 where
  pub status : s ≡ Done
  pub told : text ≡ counts_text (load_counts number size)

-- since a lawful verdict on the plan of a number is that it is accepted
counted : (contents : Option Contents) (number size : ℕ) (s : Status) (text : List ℕ) → Ends contents (load_work number size) s text
    → Counted number size s text
unfolding load_plan
counted contents number size s text h = by h.0 h.1.1 h.2 where
  by : (verdict : Verdict) → IsLawful (load_plan number) verdict
      → Ends contents (accepted_on [] (λ accepted. answered (Done, counts_text (load_counts number size)))
      (load_plan number) verdict) s text
      → Counted number size s text
  by (verdicts.Accepted accepted) lawful e =
      let told = Ends-answered contents Done (counts_text (load_counts number size)) s text e in
      record { status = told.0; told = told.1 }
  by (verdicts.Refused same witness) lawful e =
      absurd (safe_or_bad (load_plan number) (6, record { some = omega arith; few = omega arith; safe = safe number }) witness lawful)
  by (verdicts.TooWide same) lawful e = absurd (narrow number most_classes (omega arith) lawful)

always : (t s : Status) → LoadCause t → s ≡ Done → s ≡ t
always Done s cause is = is
always t s cause is = absurd cause

never_usage : Usage ≡ Done → ⊥
never_usage e = cc

pub load_causes : (number size workers : ℕ) → size ≤ 100000 → Causes (Some (Load number size workers))
load_causes number size workers few = record {
  only = λ c s text h. subst LoadCause (sym (counted (Some c) number size s text h).status) tt;
  usage = λ contents text h. absurd (never_usage (counted contents number size Usage text h).status);
  always = λ c t s text cause h. always t s cause (counted (Some c) number size s text h).status;
  refused = λ c s text cause h. absurd cause;
  tells = λ c s text taken taken' is ends done.
      let told : text ≡ counts_text (load_counts number size) =
      (counted (Some c) number size s text (ends (subst IsOnVerdict (sym done) tt))).told in
      (is ∙ ap (λ t. append_known taken t) told, add_up number size (omega (arith, few)), counts_are_replayed number size);
  journeys = λ c s b a is o. tt;
  files = λ c has. accepted_files c [] (load_plan number) (λ accepted. answered (Done, counts_text (load_counts number size)))
      (λ accepted. tt);
}
