-- The printed text of the verdict on one cover of a plan by itself.
use Rattle.std.specs.Prelude.{ℕ, Bool, List, ◌++◌, codes}
use Rattle.plan_model.specs.declared.kind.Kind.{Kind}
use Rattle.plan_model.specs.Network.{Network}
use Rattle.plan_verify.specs.declared.verdict.Verdict.{Verdict}
use Rattle.plan_verify.specs.declared.verdict.Verdict.TheVariants.{Accepted, Refused, TooWide}
use Rattle.sccp_report.specs.Hops.{hops_text}
use Rattle.sccp_report.specs.Limits.{too_wide_line}
use Rattle.sccp_report.specs.Values.{numbered}
use Rattle.sccp_report.specs.Verdicts.{kind_words, steady_words, accepted_line}

-- the cover of this number
unfoldable pub cover_words : ℕ → List ℕ
cover_words number = numbered (codes "cover ") number ++ codes " "

-- a refusal whose line begins with the number of its cover
unfoldable pub refused_alone_line : Kind → Bool → List ℕ
refused_alone_line kind steady = codes "refused " ++ kind_words kind ++ steady_words steady

-- the verdict on the plan with this cover alone, and the bad route of one that is refused
abbrev pub cover_text : ℕ → Network → Verdict → List ℕ
cover_text number plan (Accepted a) = cover_words number ++ accepted_line a.bound
cover_text number plan (Refused same w) = cover_words number ++ refused_alone_line w.kind w.steady ++ hops_text plan w.hops w.markings
cover_text number plan (TooWide same) = cover_words number ++ too_wide_line plan.limits
