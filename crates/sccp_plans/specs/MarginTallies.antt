-- The tally of the margins of the covers of a plan: the least number of points, numbers of covers, the answer and the last line.
use Rattle.std.specs.Prelude.{ℕ, ◌+◌, min, nat_lt, if◌then◌else◌, List, [], ◌∷◌, ◌++◌, Option, Some, None, codes}
use Rattle.plan_margin.specs.declared.margin.Margin.{Margin}
use Rattle.plan_margin.specs.declared.margin.Margin.TheVariants.{Stopped, Survives, SurvivesAny, TooWide}
use Rattle.sccp_report.specs.Margins.{points_lost}
use Rattle.sccp_report.specs.Values.{numbered}
use Rattle.sccp_plans.specs.declared.margin_tally.MarginTally.{MarginTally}
use Rattle.sccp_work.specs.declared.status.Status.{Status}
use Rattle.sccp_work.specs.declared.status.Status.TheVariants as answers

-- of no margin
abbrev pub none_yet : MarginTally
none_yet = record { least = None; stopped = 0; wide = 0 }

-- the lesser one of a number and of those so far
abbrev pub least_with : Option ℕ → ℕ → ℕ
least_with None count = count
least_with (Some least) count = min least count

-- with one more margin
abbrev pub counted : MarginTally → Margin → MarginTally
counted tally (Stopped stop) =
    record tally { least = Some (least_with tally.least (points_lost stop.markings)); stopped = tally.stopped + 1 }
counted tally Survives = tally
counted tally SurvivesAny = tally
counted tally (TooWide count) = record tally { least = Some (least_with tally.least count); wide = tally.wide + 1 }

-- with these further ones
abbrev pub tallied : MarginTally → List Margin → MarginTally
tallied tally [] = tally
tallied tally (margin ∷ margins) = tallied (counted tally margin) margins

-- the covers that are stopped, or for which the search was given up
abbrev pub total : MarginTally → ℕ
total tally = tally.stopped + tally.wide

-- a stopped cover is the answer, next one for which the search was given up
abbrev pub margin_status : MarginTally → Status
margin_status tally = if nat_lt 0 tally.stopped then answers.Refused else if nat_lt 0 tally.wide then answers.TooWide else answers.Done

-- up to this number of points stop no title of any cover
unfoldable pub all_survive_line : ℕ → List ℕ
all_survive_line losses = numbered (codes "all survive ") losses ++ codes "\n"

-- fewer points than the least number stop no title; how many covers are stopped, and for how many the search was given up
unfoldable pub least_line : ℕ → ℕ → ℕ → List ℕ
least_line least stopped wide =
    numbered (codes "least ") least ++ numbered (codes " stopped ") stopped ++ numbered (codes " too wide ") wide ++ codes "\n"

-- the last line
abbrev pub line_by : ℕ → ℕ → ℕ → Option ℕ → List ℕ
line_by losses stopped wide None = all_survive_line losses
line_by losses stopped wide (Some least) = least_line least stopped wide

abbrev pub margin_line : ℕ → MarginTally → List ℕ
margin_line losses tally = line_by losses tally.stopped tally.wide tally.least
