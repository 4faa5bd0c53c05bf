-- The command that says how many losses there can be before a title of a cover is stopped.
use Rattle.std.specs.Prelude.{◌≡◌, ◌⊎◌, ℕ, zero, suc, ◌+◌, ◌<◌, ◌≤◌, List, [], ◌∷◌, ◌++◌, length, Option, Some, IfSome}
use Rattle.std.specs.Prelude.{option_map, Result, Ok, Err, slice_get}
use Rattle.std.specs.Io.KnownBytes.{append_known}
use Rattle.plan_margin.specs.Margins.{IsMargin, IsStop}
use Rattle.plan_margin.specs.Outages.{SurvivesBelow}
use Rattle.plan_margin.specs.declared.loss_kinds.LossKinds.{LossKinds}
use Rattle.plan_margin.specs.declared.margin.Margin.{Margin as Measure}
use Rattle.plan_margin.specs.declared.margin.Margin.TheVariants.{Stopped as StoppedBy, TooWide as WideMargin}
use Rattle.plan_margin.specs.declared.stop.Stop.{Stop as StoppedTitle}
use Rattle.plan_model.specs.Network.{Network}
use Rattle.sccp_base.specs.Text.{below, decimal_of}
use Rattle.sccp_io.specs.Files.{Contents}
use Rattle.sccp_report.specs.Margins.{margin_text, points_lost}
use Rattle.sccp_plans.specs.MarginTallies.{none_yet, counted, tallied, margin_status, margin_line}
use Rattle.sccp_plans.specs.declared.loss_limit.LossLimit.{LossLimit}
use Rattle.sccp_plans.specs.declared.margin_tally.MarginTally.{MarginTally}
use Rattle.sccp_work.specs.AcceptedPlan.{with_accepted, IsSurelySafe, TellsPlan}
use Rattle.sccp_work.specs.Ending.{Works}
use Rattle.sccp_work.specs.Limit.{HasLongFile}
use Rattle.sccp_work.specs.Moment.{Moment}
use Rattle.sccp_work.specs.PlanFile.{PlanFile}
use Rattle.sccp_work.specs.Plans.{HasPlan, HasBadPlan}
use Rattle.sccp_work.specs.Questions.{margin_of}
use Rattle.sccp_work.specs.Verdict.{IsSafe, IsBad, IsWide, IsOnVerdict}
use Rattle.sccp_work.specs.Work.{Work, ask, print, answered}
use Rattle.sccp_work.specs.declared.status.Status.{Status}
use Rattle.sccp_work.specs.declared.status.Status.TheVariants.{Done, Refused, BadPlan, TooWide, TooLong}
use Rattle.sccp_work.specs.declared.stop.Stop.{Stop}

-- a number below 100 of one or two decimal digits
abbrev pub losses_in : List ℕ → Option ℕ
losses_in word = below 100 (decimal_of 2 word)

-- that number of losses of these kinds
abbrev pub limit_in : LossKinds → List ℕ → Option LossLimit
limit_in kinds word = option_map (λ most. record { kinds = kinds; most = most }) (losses_in word)

-- Margins of this many covers, from this number on: each is asked for, and printed under the number of its cover. The last line and
-- the answer are those of all margins.
abbrev pub margins_on : Network → LossLimit → ℕ → ℕ → MarginTally → Work
margins_on plan losses number zero tally = answered (margin_status tally, margin_line losses.most tally)
margins_on plan losses number (suc more) tally =
    ask (margin_of plan losses.kinds number losses.most) (λ margin. print (margin_text number plan losses.most margin)
    (margins_on plan losses (number + 1) more (counted tally margin)))

abbrev pub each_margin : LossLimit → Network → Work
each_margin losses plan = margins_on plan losses 0 (length plan.covers) none_yet

abbrev pub margin_work : PlanFile → LossLimit → Work
margin_work file losses = with_accepted [] file (each_margin losses)

-- ---- what the text says

-- margins of the covers from this number on
abbrev pub AreMargins : Network → LossLimit → ℕ → List Measure → Type 0
AreMargins plan losses number [] = Unit {0}
AreMargins plan losses number (margin ∷ margins) = IsMargin plan losses.kinds number losses.most margin
    × AreMargins plan losses (number + 1) margins

-- their texts
abbrev pub margins_text : Network → LossLimit → ℕ → List Measure → List ℕ
margins_text plan losses number [] = []
margins_text plan losses number (margin ∷ margins) =
    margin_text number plan losses.most margin ++ margins_text plan losses (number + 1) margins

-- fewer losses than the number stop no title of any cover
abbrev pub AllSurviveBelow : Network → LossKinds → ℕ → Type 0
AllSurviveBelow plan kinds count = (number : ℕ) → number < length plan.covers → SurvivesBelow plan kinds number count

-- Of an accepted plan the text is that of a lawful margin of each cover, with the last line, and the answer is that of all margins.
-- A title that is shown is stopped by the losses that its hops hold, and fewer than the number before it stop no title of its cover.
-- Fewer losses than the number in the last line stop no title of any cover.
pub record TellsMargins (plan : Network) (losses : LossLimit) (given : Status) (text : List ℕ) : Type 0 where
  pub margins : List Measure
  pub each : length margins ≡ length plan.covers
  pub lawful : AreMargins plan losses 0 margins
  pub status : given ≡ margin_status (tallied none_yet margins)
  pub whole : text ≡ margins_text plan losses 0 margins ++ margin_line losses.most (tallied none_yet margins)
  pub shown : (number : ℕ) (stop : StoppedTitle) → slice_get margins number ≡ Some (StoppedBy stop)
      → SurvivesBelow plan losses.kinds number (points_lost stop.markings)
      × IsStop plan losses.kinds number (points_lost stop.markings) stop
  pub least : IfSome (tallied none_yet margins).least (AllSurviveBelow plan losses.kinds)
  pub survive : given ≡ Done → AllSurviveBelow plan losses.kinds (losses.most + 1)

-- the sink took such a text after the verdict if the answer is one that a verdict or a margin gives
abbrev pub MarginTells : Option Contents → PlanFile → LossLimit → Status → Option (List ℕ) → Option (List ℕ) → Type 0
MarginTells contents file losses given taken taken' =
    IsOnVerdict given → (text : List ℕ) × (taken' ≡ append_known taken text)
    × HasPlan contents file (λ plan. TellsPlan [] plan (TellsMargins plan losses) given text)

-- ---- the causes

-- as many losses as were asked for, or fewer, stop a title of a cover
abbrev pub HasStop : LossLimit → Network → Type 0
HasStop losses plan =
    (number : ℕ) × (count : ℕ) × (stop : StoppedTitle) × (count ≤ losses.most) × IsStop plan losses.kinds number count stop

-- for a cover it may be given up to search for a title that is stopped
abbrev pub HasWideMargin : LossLimit → Network → Type 0
HasWideMargin losses plan =
    (number : ℕ) × (count : ℕ) × (number < length plan.covers) × IsMargin plan losses.kinds number losses.most (WideMargin count)

-- the cause of each answer
abbrev pub MarginCause : Option Contents → PlanFile → LossLimit → Status → Type 0
MarginCause contents file losses Done = HasPlan contents file (λ plan. IsSafe plan × AllSurviveBelow plan losses.kinds (losses.most + 1))
MarginCause contents file losses Refused = HasPlan contents file IsBad ⊎ HasPlan contents file (λ plan. IsSafe plan × HasStop losses plan)
MarginCause contents file losses TooWide = HasPlan contents file IsWide
    ⊎ HasPlan contents file (λ plan. IsSafe plan × HasWideMargin losses plan)
MarginCause contents file losses BadPlan = HasBadPlan contents file
MarginCause contents file losses TooLong = HasLongFile contents file
MarginCause contents file losses answer = ⊥

-- what gives an answer for sure: what is wide may be reported as too wide
abbrev pub MarginSure : Option Contents → PlanFile → LossLimit → Status → Type 0
MarginSure contents file losses Done =
    HasPlan contents file (λ plan. IsSurelySafe plan × AllSurviveBelow plan losses.kinds (losses.most + 1)
    × (HasWideMargin losses plan → ⊥))
MarginSure contents file losses Refused = ⊥
MarginSure contents file losses TooWide = ⊥
MarginSure contents file losses answer = MarginCause contents file losses answer

-- ---- what the code gives while the work is done

-- However many covers are left: from the next cover the work goes on, and otherwise it has stopped.
abbrev pub GivesNext : Network → LossLimit → ℕ → MarginTally → Result MarginTally Stop → Moment → Moment → Type 0
GivesNext plan losses number tally (Ok next) first now =
    (more : ℕ) (result : Result Status Stop) (after : Moment) → Works (margins_on plan losses (number + 1) more next) result now after
    → Works (margins_on plan losses number (suc more) tally) result first after
GivesNext plan losses number tally (Err stop) first now =
    (more : ℕ) → Works (margins_on plan losses number (suc more) tally) (Err stop) first now

-- Once all margins are printed, the work goes on with their tally.
abbrev pub GivesTally : Network → LossLimit → Result MarginTally Stop → Moment → Moment → Type 0
GivesTally plan losses (Ok tally) first now =
    (result : Result Status Stop) (after : Moment) → Works (answered (margin_status tally, margin_line losses.most tally)) result now after
    → Works (each_margin losses plan) result first after
GivesTally plan losses (Err stop) first now = Works (each_margin losses plan) (Err stop) first now
