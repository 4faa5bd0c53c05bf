-- The command that gives a verdict on each cover of a plan by itself.
use Rattle.std.specs.Prelude.{◌≡◌, ℕ, ◌+◌, ◌<◌, List, [], ◌∷◌, ◌++◌, length, Option, Some, Result, Ok, Err, slice_get}
use Rattle.std.specs.List.{Any}
use Rattle.std.specs.Io.KnownBytes.{append_known}
use Rattle.plan_model.specs.Alone.{alone}
use Rattle.plan_model.specs.Network.{Network, network_within}
use Rattle.plan_model.specs.Verdicts.{Tight, Bad}
use Rattle.plan_model.specs.declared.cover.Cover.{Cover}
use Rattle.plan_model.specs.declared.node.Node.{Node}
use Rattle.plan_model.specs.declared.spot.Spot.{Spot}
use Rattle.plan_verify.specs.Covers.{AreVerdictsOn, greatest_bound}
use Rattle.plan_verify.specs.Lawful.{IsSafeFor}
use Rattle.plan_verify.specs.declared.verdict.Verdict.{Verdict}
use Rattle.plan_verify.specs.declared.verdict.Verdict.TheVariants.{Refused as RefusedPlan}
use Rattle.plan_verify.specs.declared.witness.Witness.{Witness}
use Rattle.sccp_base.specs.declared.mark.Mark.{Mark}
use Rattle.plan_model.specs.declared.limits.Limits.{Limits}
use Rattle.sccp_io.specs.Files.{Contents}
use Rattle.sccp_report.specs.Covers.{cover_text}
use Rattle.sccp_plans.specs.Tallies.{none_yet, counted, tallied, tally_status, tally_line}
use Rattle.sccp_plans.specs.declared.each_cover.Judging.{Judging}
use Rattle.sccp_plans.specs.declared.tally.Tally.{Tally}
use Rattle.sccp_work.specs.Ending.{Works}
use Rattle.sccp_work.specs.Limit.{HasLongFile}
use Rattle.sccp_work.specs.Moment.{Moment}
use Rattle.sccp_work.specs.PlanFile.{PlanFile}
use Rattle.sccp_work.specs.Plans.{with_plan, HasPlan, HasBadPlan}
use Rattle.sccp_work.specs.Verdict.{IsSafe, IsBad, IsWide, IsOnVerdict}
use Rattle.sccp_work.specs.Work.{Work, judge, print, answered}
use Rattle.sccp_work.specs.declared.status.Status.{Status}
use Rattle.sccp_work.specs.declared.status.Status.TheVariants.{Done, Refused, BadPlan, TooWide, TooLong}
use Rattle.sccp_work.specs.declared.stop.Stop.{Stop}

-- The relays with each of the covers alone are judged, and the verdict is printed under the cover's number. The last line and the
-- answer are those of all verdicts.
abbrev pub covers_on : Limits → List Node → ℕ → List Cover → Tally → Work
covers_on limits nodes number [] tally = answered (tally_status tally, tally_line tally)
covers_on limits nodes number (cover ∷ covers) tally =
    judge (network_within limits nodes (cover ∷ [])) (λ verdict. print
    (cover_text number (network_within limits nodes (cover ∷ [])) verdict)
    (covers_on limits nodes (number + 1) covers (counted tally verdict)))

abbrev pub each_cover : Network → Work
each_cover plan = covers_on plan.limits plan.nodes 0 plan.covers none_yet

abbrev pub covers_work : PlanFile → Work
covers_work file = with_plan file each_cover

-- some cover alone reaches the most classes that the plan's limits allow, or more
abbrev pub HasWideCover : Network → Type 0
HasWideCover plan = Any (λ cover. IsWide (alone plan cover)) plan.covers

-- the cause of each answer
abbrev pub CoversCause : Option Contents → PlanFile → Status → Type 0
CoversCause contents file Done = HasPlan contents file IsSafe
CoversCause contents file Refused = HasPlan contents file IsBad
CoversCause contents file TooWide = HasPlan contents file HasWideCover
CoversCause contents file BadPlan = HasBadPlan contents file
CoversCause contents file TooLong = HasLongFile contents file
CoversCause contents file answer = ⊥

-- what gives an answer for sure: a cover that is wide may be reported as too wide, whether or not the plan is safe
abbrev pub CoversSure : Option Contents → PlanFile → Status → Type 0
CoversSure contents file Done = HasPlan contents file (λ plan. IsSafe plan × (HasWideCover plan → ⊥))
CoversSure contents file Refused = ⊥
CoversSure contents file TooWide = ⊥
CoversSure contents file answer = CoversCause contents file answer

-- the text of the verdicts on these covers, from this number on
abbrev pub blocks_text : Network → ℕ → List Cover → List Verdict → List ℕ
blocks_text plan number [] verdicts = []
blocks_text plan number (cover ∷ covers) [] = []
blocks_text plan number (cover ∷ covers) (verdict ∷ verdicts) =
    cover_text number (alone plan cover) verdict ++ blocks_text plan (number + 1) covers verdicts

-- The sink took the text of lawful verdicts on all covers, each by itself, and the line and the answer of all of them. A route
-- that is shown is a bad route of the plan itself, under the number of its cover. If all covers are accepted, the plan is safe
-- for the greatest bound, which the last line gives and one of its routes reaches.
pub record TellsCovers (plan : Network) (given : Status) (taken taken' : Option (List ℕ)) : Type 0 where
  pub verdicts : List Verdict
  pub lawful : AreVerdictsOn plan plan.covers verdicts
  pub status : given ≡ tally_status (tallied none_yet verdicts)
  pub text : taken' ≡ append_known taken (blocks_text plan 0 plan.covers verdicts ++ tally_line (tallied none_yet verdicts))
  pub bound : (tallied none_yet verdicts).bound ≡ greatest_bound verdicts
  pub shown : (number : ℕ) (same : Network) (w : Witness) → slice_get verdicts number ≡ Some (RefusedPlan same w)
      → Bad plan number w.spot w.markings w.hops w.kind
  pub safe : given ≡ Done → 0 < length plan.covers → IsSafeFor plan (greatest_bound verdicts)
      × ((spot : Spot) × (markings : List (List Mark)) × Tight plan (greatest_bound verdicts) spot markings)

abbrev pub CoversTells : Option Contents → PlanFile → Status → Option (List ℕ) → Option (List ℕ) → Type 0
CoversTells contents file given taken taken' = IsOnVerdict given → HasPlan contents file (λ plan. TellsCovers plan given taken taken')

-- ---- what the code gives while the work is done

-- Whatever covers are left: from the next cover the work goes on, and otherwise it has stopped.
abbrev pub GivesNext : Limits → List Node → ℕ → Cover → Tally → Result Judging Stop → Moment → Moment → Type 0
GivesNext limits nodes number cover tally (Ok judging) first now =
    (covers : List Cover) (result : Result Status Stop) (after : Moment)
    → Works (covers_on limits nodes (number + 1) covers judging.tally) result now after
    → Works (covers_on limits nodes number (cover ∷ covers) tally) result first after
GivesNext limits nodes number cover tally (Err stop) first now =
    (covers : List Cover) → Works (covers_on limits nodes number (cover ∷ covers) tally) (Err stop) first now

-- Once all covers are judged, the work goes on with their tally.
abbrev pub GivesTally : Network → Result Tally Stop → Moment → Moment → Type 0
GivesTally plan (Ok tally) first now =
    (result : Result Status Stop) (after : Moment) → Works (answered (tally_status tally, tally_line tally)) result now after
    → Works (each_cover plan) result first after
GivesTally plan (Err stop) first now = Works (each_cover plan) (Err stop) first now
