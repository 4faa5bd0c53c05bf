-- The printed text of how many points can be lost before a title of one cover of a plan is stopped.
use Rattle.std.specs.Prelude.{ℕ, ◌≤◌, List, [], ◌∷◌, ◌++◌, length, codes}
use Rattle.std.specs.List.{All}
use Rattle.sccp_base.specs.declared.mark.Mark.{Mark}
use Rattle.plan_margin.specs.declared.margin.Margin.{Margin}
use Rattle.plan_margin.specs.declared.margin.Margin.TheVariants.{Stopped, Survives, SurvivesAny, TooWide}
use Rattle.plan_model.specs.Network.{Network}
use Rattle.sccp_report.specs.Covers.{cover_words}
use Rattle.sccp_report.specs.Hops.{hops_text, IsHopIn}
use Rattle.sccp_report.specs.Values.{numbered}

-- the number of lost points, if all relays of a route hold the same marks
abbrev pub points_lost : List (List Mark) → ℕ
points_lost [] = 0
points_lost (marks ∷ markings) = length marks

-- the loss of this number of points stops a title
unfoldable pub stopped_line : ℕ → List ℕ
stopped_line count = numbered (codes "stopped by ") count ++ codes "\n"

-- up to this number of points stop no title
unfoldable pub survives_line : ℕ → List ℕ
survives_line losses = numbered (codes "survives ") losses ++ codes "\n"

-- no number of points stops a title
unfoldable pub survives_any_line : List ℕ
survives_any_line = codes "survives any\n"

-- the search for a title that this number of points stops was given up
unfoldable pub too_wide_at_line : ℕ → List ℕ
too_wide_at_line count = numbered (codes "too wide at ") count ++ codes "\n"

-- the margin of the cover of this number if up to `losses` points may be lost, and the route of a title that is stopped
abbrev pub margin_text : ℕ → Network → ℕ → Margin → List ℕ
margin_text number plan losses (Stopped stop) =
    cover_words number ++ stopped_line (points_lost stop.markings) ++ hops_text plan stop.hops stop.markings
margin_text number plan losses Survives = cover_words number ++ survives_line losses
margin_text number plan losses SurvivesAny = cover_words number ++ survives_any_line
margin_text number plan losses (TooWide count) = cover_words number ++ too_wide_at_line count

-- the hops of a stopped title that is shown are in the plan, and each has a marking
abbrev pub HasStopIn : Network → Margin → Type 0
HasStopIn plan (Stopped stop) = All (IsHopIn plan) stop.hops × (length stop.hops ≤ length stop.markings)
HasStopIn plan Survives = Unit {0}
HasStopIn plan SurvivesAny = Unit {0}
HasStopIn plan (TooWide count) = Unit {0}
