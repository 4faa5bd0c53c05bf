-- The printed text of a verdict on a plan.
use Rattle.std.specs.Prelude.{ℕ, ◌≤◌, Bool, if◌then◌else◌, List, ◌++◌, length, codes}
use Rattle.std.specs.List.{All}
use Rattle.sccp_base.specs.declared.mark.Mark.{Mark}
use Rattle.plan_model.specs.declared.hop.Hop.{Hop}
use Rattle.plan_model.specs.declared.kind.Kind.{Kind}
use Rattle.plan_model.specs.declared.kind.Kind.TheVariants.{Loop, Long, Forbidden, NoRow, Overgrown}
use Rattle.plan_model.specs.Network.{Network}
use Rattle.plan_model.specs.Routes.{route}
use Rattle.plan_verify.specs.declared.verdict.Verdict.{Verdict}
use Rattle.plan_verify.specs.declared.verdict.Verdict.TheVariants.{Accepted, Refused, TooWide}
use Rattle.sccp_report.specs.Hops.{destination_text, hops_text, IsHopIn}
use Rattle.sccp_report.specs.Limits.{too_wide_line}
use Rattle.sccp_report.specs.Values.{numbered}

-- why a route is bad
unfoldable pub kind_words : Kind → List ℕ
kind_words (Loop from) = numbered (codes "loop ") from
kind_words Long = codes "long"
kind_words (Forbidden pc ssn) = codes "forbidden " ++ destination_text pc ssn
kind_words (NoRow cause) = numbered (codes "no row ") cause
kind_words Overgrown = codes "overgrown"

-- whether the hops are the same if each relay holds all the marks of the route
unfoldable pub steady_words : Bool → List ℕ
steady_words steady = if steady then codes " steady yes\n" else codes " steady no\n"

unfoldable pub refused_line : ℕ → Kind → Bool → List ℕ
refused_line cover kind steady = codes "refused " ++ kind_words kind ++ numbered (codes " cover ") cover ++ steady_words steady

unfoldable pub accepted_line : ℕ → List ℕ
accepted_line bound = numbered (codes "accepted bound ") bound ++ codes "\n"

-- a plan is refused by a bad route, which is shown
abbrev pub refused_lines : Network → ℕ → Kind → Bool → List Hop → List (List Mark) → List ℕ
refused_lines plan cover kind steady hops markings = refused_line cover kind steady ++ hops_text plan hops markings

-- a plan is accepted with a bound, and a route of as many hops is shown
abbrev pub accepted_lines : Network → ℕ → List Hop → List (List Mark) → List ℕ
accepted_lines plan bound hops markings = accepted_line bound ++ hops_text plan hops markings

-- the verdict, and the route that shows it: the longest one of an accepted plan, the bad one of a refused plan
abbrev pub verdict_text : Network → Verdict → List ℕ
verdict_text plan (Accepted a) = accepted_lines plan a.bound (route plan a.longest.spot a.longest.markings) a.longest.markings
verdict_text plan (Refused same w) = refused_lines plan w.cover w.kind w.steady w.hops w.markings
verdict_text plan (TooWide same) = too_wide_line plan.limits

-- the hops that a verdict shows are in the plan, and each has a marking
abbrev pub HasHopsIn : Network → Verdict → Type 0
HasHopsIn plan (Accepted a) = Unit {0}
HasHopsIn plan (Refused same w) = All (IsHopIn plan) w.hops × (length w.hops ≤ length w.markings)
HasHopsIn plan (TooWide same) = Unit {0}
