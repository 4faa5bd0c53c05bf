-- The tally of the verdicts on the covers of a plan: numbers of verdicts, the answer and the last line.
use Rattle.std.specs.Prelude.{ℕ, ◌+◌, max, nat_lt, if◌then◌else◌, List, [], ◌∷◌, ◌++◌, codes}
use Rattle.plan_verify.specs.declared.verdict.Verdict.{Verdict}
use Rattle.plan_verify.specs.declared.verdict.Verdict.TheVariants as verdicts
use Rattle.sccp_report.specs.Values.{numbered}
use Rattle.sccp_plans.specs.declared.tally.Tally.{Tally}
use Rattle.sccp_work.specs.declared.status.Status.{Status}
use Rattle.sccp_work.specs.declared.status.Status.TheVariants.{Done, Refused, TooWide}

-- of no verdict
abbrev pub none_yet : Tally
none_yet = record { accepted = 0; refused = 0; wide = 0; bound = 0 }

-- with one more verdict
abbrev pub counted : Tally → Verdict → Tally
counted tally (verdicts.Accepted a) = record tally { accepted = tally.accepted + 1; bound = max tally.bound a.bound }
counted tally (verdicts.Refused plan witness) = record tally { refused = tally.refused + 1 }
counted tally (verdicts.TooWide plan) = record tally { wide = tally.wide + 1 }

-- with these further ones
abbrev pub tallied : Tally → List Verdict → Tally
tallied tally [] = tally
tallied tally (verdict ∷ verdicts) = tallied (counted tally verdict) verdicts

-- how many they are
abbrev pub total : Tally → ℕ
total tally = tally.accepted + tally.refused + tally.wide

-- a refusal is the answer, next a cover that is too wide
abbrev pub tally_status : Tally → Status
tally_status tally = if nat_lt 0 tally.refused then Refused else if nat_lt 0 tally.wide then TooWide else Done

-- all covers are accepted, so the plan is safe for this bound
unfoldable pub all_accepted_line : ℕ → List ℕ
all_accepted_line bound = numbered (codes "all accepted bound ") bound ++ codes "\n"

-- how many covers are accepted, refused and too wide
unfoldable pub counts_line : ℕ → ℕ → ℕ → List ℕ
counts_line accepted refused wide =
    numbered (codes "accepted ") accepted ++ numbered (codes " refused ") refused ++ numbered (codes " too wide ") wide ++ codes "\n"

abbrev pub tally_line : Tally → List ℕ
tally_line tally = if nat_lt 0 (tally.refused + tally.wide) then counts_line tally.accepted tally.refused tally.wide
    else all_accepted_line tally.bound
