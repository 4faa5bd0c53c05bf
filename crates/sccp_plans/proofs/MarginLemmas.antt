-- How the margins of the covers of a plan are printed, and what that ends with.
use Rattle.std.proofs.Common.{◌≡◌, ◌<◌, ◌≤◌, ◌+◌, ◌-◌, ◌⊎◌, ℕ, zero, suc, List, [], ◌∷◌, ◌++◌, length, Option, Some, None, Result, Ok, Err}
use Rattle.std.proofs.Common.{IfOk, IfSome, refl, sym, ◌∙◌, ap, subst, inl, inr, ⊎_elim, arith, append_assoc, append-nil}
use Rattle.std.specs.Prelude.{min, slice_get}
use Rattle.std.proofs.lemmas.Bool.{cases_lt}
use Rattle.std.proofs.lemmas.Option.{slice_get_within}
use Rattle.plan_check.proofs.Soundness.{some_of}
use Rattle.plan_margin.specs.Margins.{IsMargin, IsStop}
use Rattle.plan_margin.specs.Outages.{SurvivesBelow}
use Rattle.plan_margin.specs.declared.margin.Margin.{Margin as Measure}
use Rattle.plan_margin.specs.declared.margin.Margin.TheVariants as measures
use Rattle.plan_margin.specs.declared.stop.Stop.{Stop as StoppedTitle}
use Rattle.plan_model.specs.Covered.{Covers}
use Rattle.plan_model.specs.Network.{Network}
use Rattle.sccp_io.specs.Files.{Contents}
use Rattle.sccp_report.proofs.InMargin.{lost_points}
use Rattle.sccp_report.specs.Margins.{margin_text, points_lost}
use Rattle.sccp_plans.specs.Margin.{margins_on, each_margin, margin_work, AreMargins, margins_text, AllSurviveBelow, TellsMargins}
use Rattle.sccp_plans.specs.Margin.{MarginCause, MarginSure, MarginTells, HasStop, HasWideMargin, GivesNext}
use Rattle.sccp_plans.specs.MarginTallies.{none_yet, least_with, counted, tallied, total, margin_status, margin_line}
use Rattle.sccp_plans.specs.declared.loss_limit.LossLimit.{LossLimit}
use Rattle.sccp_plans.specs.declared.margin_tally.MarginTally.{MarginTally}
use Rattle.sccp_plans.proofs.WorkCauses.{WorkCauses}
use Rattle.sccp_plans.proofs.CoversLemmas.{by_status}
use Rattle.sccp_work.proofs.AcceptedPlanLemmas.{VerdictEnds, refused, wide, accepted, FileTells, Ends-with_accepted, file_of, goes_on}
use Rattle.sccp_work.proofs.AcceptedPlanLemmas.{goes_on_or_wide, refused_or_wide, with_accepted_files, on_file}
use Rattle.sccp_work.proofs.PlanLemmas.{PlanEnds, long, bad, good, if_long, if_bad, at_plan}
use Rattle.sccp_work.proofs.WorkLemmas.{Kept, Printed, Works-answered, Works-ask, printed}
use Rattle.sccp_work.specs.AcceptedPlan.{IsSurelySafe, TellsPlan}
use Rattle.sccp_work.specs.Ending.{IsCut, Works}
use Rattle.sccp_work.specs.Moment.{Moment}
use Rattle.sccp_work.specs.PlanFile.{PlanFile}
use Rattle.sccp_work.specs.Plans.{HasPlan}
use Rattle.sccp_work.specs.Questions.{IsMeasured, margin_of}
use Rattle.sccp_work.specs.Verdict.{IsSafe, IsBad, IsWide}
use Rattle.sccp_work.specs.Work.{Work, print, answered, Ends, HasFiles}
use Rattle.sccp_work.specs.Writing.{Writes}
use Rattle.sccp_work.specs.declared.status.Status.{Status}
use Rattle.sccp_work.specs.declared.status.Status.TheVariants.{Done, Refused, Usage, BadPlan, TooWide, TooLong}
use Rattle.sccp_work.specs.declared.stop.Stop.{Stop}
use Rattle.sccp_work.specs.Limit.{IsThere}

-- ---- the margin of one cover is printed

-- the work that follows a margin
abbrev told_on : Network → LossLimit → ℕ → ℕ → MarginTally → Measure → Work
told_on plan losses number more tally margin =
    print (margin_text number plan losses.most margin) (margins_on plan losses (number + 1) more (counted tally margin))

-- Once the text of a margin is written, the work goes on with the covers that are left. If it could not be written whole, the work
-- has stopped.
abbrev pub AfterMargin : Network → LossLimit → ℕ → ℕ → MarginTally → Measure → Result (Unit {0}) Stop → Moment → Moment → Type 0
AfterMargin plan losses number more tally margin (Ok done) b m =
    (result : Result Status Stop) (after : Moment) → Works (margins_on plan losses (number + 1) more (counted tally margin)) result m after
    → Works (margins_on plan losses number (suc more) tally) result b after
AfterMargin plan losses number more tally margin (Err stop) b m = Works (margins_on plan losses number (suc more) tally) (Err stop) b m

after_margin : (plan : Network) (losses : LossLimit) (number more : ℕ) (tally : MarginTally) (margin : Measure)
    (put : Result (Unit {0}) Stop)
    (b m : Moment) → IsMeasured plan losses.kinds number losses.most margin
    → Printed (margin_text number plan losses.most margin) (margins_on plan losses (number + 1) more (counted tally margin)) put b m
    → AfterMargin plan losses number more tally margin put b m
after_margin plan losses number more tally margin (Ok done) b m measured goes = λ result after w.
    Works-ask (margin_of plan losses.kinds number losses.most) (told_on plan losses number more tally) margin result b after measured
    (goes result after w)
after_margin plan losses number more tally margin (Err stop) b m measured stops =
    Works-ask (margin_of plan losses.kinds number losses.most) (told_on plan losses number more tally) margin (Err stop) b m measured stops

pub margin_told : (plan : Network) (losses : LossLimit) (number more : ℕ) (tally : MarginTally) (margin : Measure)
    (put : Result (Unit {0}) Stop)
    (b m : Moment) → IsMeasured plan losses.kinds number losses.most margin
    → Writes (margin_text number plan losses.most margin) put b.taken m.taken b.write_faults m.write_faults → Kept b m
    → AfterMargin plan losses number more tally margin put b m
margin_told plan losses number more tally margin put b m measured writes kept =
    after_margin plan losses number more tally margin put b m measured
    (printed (margin_text number plan losses.most margin)
    (margins_on plan losses (number + 1) more (counted tally margin)) put b m writes kept)

-- one more cover is counted at most
pub counted_more : (tally : MarginTally) (margin : Measure) → total (counted tally margin) ≤ total tally + 1
counted_more tally (measures.Stopped stop) = omega arith
counted_more tally measures.Survives = omega arith
counted_more tally measures.SurvivesAny = omega arith
counted_more tally (measures.TooWide count) = omega arith

-- ---- cover by cover

-- whatever ends the work on the covers from this number on ends the whole work
abbrev pub MarginsLeft : Network → LossLimit → ℕ → MarginTally → Moment → Moment → Type 0
MarginsLeft plan losses number tally first now =
    (result : Result Status Stop) (after : Moment)
    → Works (margins_on plan losses number (length plan.covers - number) tally) result now after
    → Works (each_margin losses plan) result first after

pub all_left : (plan : Network) (losses : LossLimit) (first : Moment) → MarginsLeft plan losses 0 none_yet first first
all_left plan losses first =
    let all : length plan.covers - 0 ≡ length plan.covers = omega arith in
    λ result after w. subst (λ more. Works (margins_on plan losses 0 more none_yet) result first after) all w

one_less : (n k : ℕ) → k < n → suc (n - (k + 1)) ≡ n - k
one_less n k lt = omega (arith, lt)

pub next_left : (plan : Network) (losses : LossLimit) (number : ℕ) (tally next : MarginTally) (first now after : Moment)
    → number < length plan.covers
    → MarginsLeft plan losses number tally first now → GivesNext plan losses number tally (Ok next) now after
    → MarginsLeft plan losses (number + 1) next first after
next_left plan losses number tally next first now after lt left gives = λ result end w.
    left result end (subst (λ more. Works (margins_on plan losses number more tally) result now end)
    (one_less (length plan.covers) number lt) (gives (length plan.covers - (number + 1)) result end w))

pub stopped_left : (plan : Network) (losses : LossLimit) (number : ℕ) (tally : MarginTally) (stop : Stop) (first now after : Moment)
    → number < length plan.covers → MarginsLeft plan losses number tally first now
    → GivesNext plan losses number tally (Err stop) now after → Works (each_margin losses plan) (Err stop) first after
stopped_left plan losses number tally stop first now after lt left gives =
    left (Err stop) after (subst (λ more. Works (margins_on plan losses number more tally) (Err stop) now after)
    (one_less (length plan.covers) number lt) (gives (length plan.covers - (number + 1))))

pub none_left : (plan : Network) (losses : LossLimit) (number : ℕ) (tally : MarginTally) (first now : Moment) → length plan.covers ≤ number
    → MarginsLeft plan losses number tally first now → (result : Result Status Stop) (after : Moment)
    → Works (answered (margin_status tally, margin_line losses.most tally)) result now after
    → Works (each_margin losses plan) result first after
none_left plan losses number tally first now few left =
    let none : 0 ≡ length plan.covers - number = omega (arith, few) in
    λ result after w. left result after (subst (λ more. Works (margins_on plan losses number more tally) result now after) none w)

-- ---- the last line

not_cut : (tally : MarginTally) → IsCut (margin_status tally) → ⊥
not_cut tally = by_status (λ s. IsCut s → ⊥) tally.stopped tally.wide (λ lt cut. cut) (λ e lt cut. cut) (λ e f cut. cut)

pub Works-margins : (losses : LossLimit) (tally : MarginTally) (status : Status) (line : List ℕ) (result : Result Status Stop)
    (b a : Moment)
    → status ≡ margin_status tally → line ≡ margin_line losses.most tally
    → Writes line result b.taken a.taken b.write_faults a.write_faults → IfOk result (λ s. s ≡ status)
    → a.contents ≡ b.contents → a.sound ≡ b.sound → a.read_faults ≡ b.read_faults
    → Works (answered (margin_status tally, margin_line losses.most tally)) result b a
Works-margins losses tally status line result b a of spelt writes is contents sound read_faults =
    Works-answered (margin_status tally, margin_line losses.most tally) result b a (not_cut tally)
    (subst (λ t. Writes t result b.taken a.taken b.write_faults a.write_faults) spelt writes)
    (subst (λ t. IfOk result (λ s. s ≡ t)) of is) contents sound read_faults

-- ---- the margins that the work asked for

-- lawful margins of these covers give the answer and the text
record Measured (plan : Network) (losses : LossLimit) (number more : ℕ) (tally : MarginTally) (s : Status) (text : List ℕ) : Type 0 where
  pub margins : List Measure
  pub each : length margins ≡ more
  pub lawful : AreMargins plan losses number margins
  pub status : s ≡ margin_status (tallied tally margins)
  pub whole : text ≡ margins_text plan losses number margins ++ margin_line losses.most (tallied tally margins)

Ends-margins : (contents : Option Contents) (plan : Network) (losses : LossLimit) (number more : ℕ) (tally : MarginTally) (s : Status)
    (text : List ℕ)
    → Ends contents (margins_on plan losses number more tally) s text → Measured plan losses number more tally s text
Ends-margins contents plan losses number zero tally s text h =
    record {
      margins = [];
      each = refl;
      lawful = tt;
      status = h.2.0;
      whole = h.1 ∙ ap (λ rest. margin_line losses.most tally ++ rest) h.2.1 ∙ append-nil (margin_line losses.most tally);
    }
Ends-margins contents plan losses number (suc more) tally s text h =
    let block : List ℕ = margin_text number plan losses.most h.0 in
    let r = Ends-margins contents plan losses (number + 1) more (counted tally h.0) s h.2.0 h.2.2 in
    record {
      margins = h.0 ∷ r.margins;
      each = ap suc r.each;
      lawful = (h.1.1, r.lawful);
      status = r.status;
      whole = h.2.1 ∙ ap (λ rest. block ++ rest) r.whole
          ∙ sym (append_assoc block (margins_text plan losses (number + 1) r.margins)
          (margin_line losses.most (tallied (counted tally h.0) r.margins)));
    }

-- ---- the least number of points

-- fewer losses stop no title of the cover either
lower : (plan : Network) (losses : LossLimit) (number a b : ℕ) → a ≤ b → SurvivesBelow plan losses.kinds number b
    → SurvivesBelow plan losses.kinds number a
lower plan losses number a b le survives = λ spot marks covered outage less. survives spot marks covered outage (omega (arith, le, less))

-- one more cover survives
more_survive : (plan : Network) (losses : LossLimit) (number n : ℕ) → ((k : ℕ) → k < number → SurvivesBelow plan losses.kinds k n)
    → SurvivesBelow plan losses.kinds number n
    → (k : ℕ) → k < number + 1 → SurvivesBelow plan losses.kinds k n
more_survive plan losses number n before last k lt =
    ⊎_elim (λ less. before k less)
    (λ far. let same : number ≡ k = omega (arith, lt, far) in subst (λ i. SurvivesBelow plan losses.kinds i n) same last)
    (cases_lt k number)

-- what the least number of the covers before this one says of them
abbrev LeastSoFar : Network → LossLimit → ℕ → Option ℕ → Type 0
LeastSoFar plan losses number None = (k : ℕ) → k < number → SurvivesBelow plan losses.kinds k (losses.most + 1)
LeastSoFar plan losses number (Some n) = (n ≤ losses.most) × ((k : ℕ) → k < number → SurvivesBelow plan losses.kinds k n)

least_lower : (plan : Network) (losses : LossLimit) (number n : ℕ) (least : Option ℕ) → n ≤ losses.most
    → SurvivesBelow plan losses.kinds number n
    → LeastSoFar plan losses number least → LeastSoFar plan losses (number + 1) (Some (least_with least n))
least_lower plan losses number n None few survives before = (
  few,
  more_survive plan losses number n (λ k lt. lower plan losses k n (losses.most + 1) (omega (arith, few)) (before k lt)) survives,
)
least_lower plan losses number n (Some m) few survives before = (
  omega (arith, few),
  more_survive plan losses number (min m n) (λ k lt. lower plan losses k (min m n) m (omega arith) (before.1 k lt))
      (lower plan losses number (min m n) n (omega arith) survives),
)

least_same : (plan : Network) (losses : LossLimit) (number : ℕ) (least : Option ℕ)
    → SurvivesBelow plan losses.kinds number (losses.most + 1)
    → LeastSoFar plan losses number least → LeastSoFar plan losses (number + 1) least
least_same plan losses number None survives before = more_survive plan losses number (losses.most + 1) before survives
least_same plan losses number (Some m) survives before = (
  before.0,
  more_survive plan losses number m before.1 (lower plan losses number m (losses.most + 1) (omega (arith, before.0)) survives),
)

least_next : (plan : Network) (losses : LossLimit) (number : ℕ) (tally : MarginTally) (margin : Measure)
    → IsMargin plan losses.kinds number losses.most margin
    → LeastSoFar plan losses number tally.least → LeastSoFar plan losses (number + 1) (counted tally margin).least
least_next plan losses number tally (measures.Stopped stop) is before =
    let same : is.0 ≡ points_lost stop.markings = sym (lost_points plan losses.kinds number is.0 stop is.3) in
    least_lower plan losses number (points_lost stop.markings) tally.least (subst (λ n. n ≤ losses.most) same is.1)
    (subst (λ n. SurvivesBelow plan losses.kinds number n) same is.2) before
least_next plan losses number tally measures.Survives is before = least_same plan losses number tally.least is before
least_next plan losses number tally measures.SurvivesAny is before =
    least_same plan losses number tally.least (λ spot marks covered outage less. is spot marks covered outage) before
least_next plan losses number tally (measures.TooWide count) is before =
    least_lower plan losses number count tally.least is.0 is.1 before

least_of : (plan : Network) (losses : LossLimit) (number : ℕ) (tally : MarginTally) (ms : List Measure) → AreMargins plan losses number ms
    → LeastSoFar plan losses number tally.least → LeastSoFar plan losses (number + length ms) (tallied tally ms).least
least_of plan losses number tally [] are before =
    let same : number ≡ number + 0 = omega arith in subst (λ n. LeastSoFar plan losses n tally.least) same before
least_of plan losses number tally (m ∷ ms) are before =
    let same : (number + 1) + length ms ≡ number + suc (length ms) = omega arith in
    subst (λ n. LeastSoFar plan losses n (tallied (counted tally m) ms).least) same
    (least_of plan losses (number + 1) (counted tally m) ms are.1 (least_next plan losses number tally m are.0 before))

-- of all covers
least_of_all : (plan : Network) (losses : LossLimit) (ms : List Measure) → length ms ≡ length plan.covers → AreMargins plan losses 0 ms
    → LeastSoFar plan losses (length plan.covers) (tallied none_yet ms).least
least_of_all plan losses ms each are =
    let all : 0 + length ms ≡ length plan.covers = omega (arith, each) in
    subst (λ n. LeastSoFar plan losses n (tallied none_yet ms).least) all
    (least_of plan losses 0 none_yet ms are (λ k lt. absurd (omega (arith, lt))))

least_told : (plan : Network) (losses : LossLimit) (least : Option ℕ) → LeastSoFar plan losses (length plan.covers) least
    → IfSome least (AllSurviveBelow plan losses.kinds)
least_told plan losses None all = tt
least_told plan losses (Some n) all = all.1

-- a least number is there only if a cover was counted
abbrev IsLeastCounted : MarginTally → Type 0
IsLeastCounted tally = (tally.least ≡ None) ⊎ (0 < total tally)

least_counted : (tally : MarginTally) (margin : Measure) → IsLeastCounted tally → IsLeastCounted (counted tally margin)
least_counted tally (measures.Stopped stop) is = inr (omega arith)
least_counted tally measures.Survives is = is
least_counted tally measures.SurvivesAny is = is
least_counted tally (measures.TooWide count) is = inr (omega arith)

all_counted : (tally : MarginTally) (ms : List Measure) → IsLeastCounted tally → IsLeastCounted (tallied tally ms)
all_counted tally [] is = is
all_counted tally (m ∷ ms) is = all_counted (counted tally m) ms (least_counted tally m is)

no_least : (tally : MarginTally) → IsLeastCounted tally → tally.stopped ≡ 0 → tally.wide ≡ 0 → tally.least ≡ None
no_least tally is e f = ⊎_elim (λ none. none) (λ some. absurd (omega (arith, some, e, f))) is

-- ---- what the numbers of covers say

some_stopped : (plan : Network) (losses : LossLimit) (number : ℕ) (tally : MarginTally) (ms : List Measure)
    → AreMargins plan losses number ms
    → tally.stopped < (tallied tally ms).stopped → HasStop losses plan
some_stopped plan losses number tally [] are lt = absurd (omega (arith, lt))
some_stopped plan losses number tally (measures.Stopped stop ∷ ms) are lt = (number, are.0.0, stop, are.0.1, are.0.3)
some_stopped plan losses number tally (measures.Survives ∷ ms) are lt = some_stopped plan losses (number + 1) tally ms are.1 lt
some_stopped plan losses number tally (measures.SurvivesAny ∷ ms) are lt = some_stopped plan losses (number + 1) tally ms are.1 lt
some_stopped plan losses number tally (measures.TooWide count ∷ ms) are lt =
    some_stopped plan losses (number + 1) (counted tally (measures.TooWide count)) ms are.1 lt

some_wide : (plan : Network) (losses : LossLimit) (number : ℕ) (tally : MarginTally) (ms : List Measure) → AreMargins plan losses number ms
    → number + length ms ≤ length plan.covers → tally.wide < (tallied tally ms).wide → HasWideMargin losses plan
some_wide plan losses number tally [] are few lt = absurd (omega (arith, lt))
some_wide plan losses number tally (measures.Stopped stop ∷ ms) are few lt =
    some_wide plan losses (number + 1) (counted tally (measures.Stopped stop)) ms are.1 (omega (arith, few)) lt
some_wide plan losses number tally (measures.Survives ∷ ms) are few lt =
    some_wide plan losses (number + 1) tally ms are.1 (omega (arith, few)) lt
some_wide plan losses number tally (measures.SurvivesAny ∷ ms) are few lt =
    some_wide plan losses (number + 1) tally ms are.1 (omega (arith, few)) lt
some_wide plan losses number tally (measures.TooWide count ∷ ms) are few lt = (number, count, omega (arith, few), are.0)

-- a margin is of the cover of its place
margin_at : (plan : Network) (losses : LossLimit) (number : ℕ) (ms : List Measure) (k : ℕ) (margin : Measure)
    → AreMargins plan losses number ms
    → slice_get ms k ≡ Some margin → IsMargin plan losses.kinds (number + k) losses.most margin
margin_at plan losses number [] k margin are at = absurd (cc)
margin_at plan losses number (m ∷ ms) zero margin are at =
    let same : m ≡ margin = cc in
    let here : number ≡ number + 0 = omega arith in
    subst (λ n. IsMargin plan losses.kinds n losses.most margin) here (subst (IsMargin plan losses.kinds number losses.most) same are.0)
margin_at plan losses number (m ∷ ms) (suc k) margin are at =
    let there : (number + 1) + k ≡ number + suc k = omega arith in
    subst (λ n. IsMargin plan losses.kinds n losses.most margin) there (margin_at plan losses (number + 1) ms k margin are.1 at)

shown_at : (plan : Network) (losses : LossLimit) (ms : List Measure) (number : ℕ) (stop : StoppedTitle) → AreMargins plan losses 0 ms
    → slice_get ms number ≡ Some (measures.Stopped stop)
    → SurvivesBelow plan losses.kinds number (points_lost stop.markings) × IsStop plan losses.kinds number (points_lost stop.markings) stop
shown_at plan losses ms number stop are at =
    let first : 0 + number ≡ number = omega arith in
    let is : IsMargin plan losses.kinds number losses.most (measures.Stopped stop) =
    subst (λ n. IsMargin plan losses.kinds n losses.most (measures.Stopped stop)) first
    (margin_at plan losses 0 ms number (measures.Stopped stop) are at) in
    let same : is.0 ≡ points_lost stop.markings = sym (lost_points plan losses.kinds number is.0 stop is.3) in
    (subst (λ n. SurvivesBelow plan losses.kinds number n) same is.2, subst (λ n. IsStop plan losses.kinds number n stop) same is.3)

-- what each answer says of the covers
abbrev CauseOn : LossLimit → Network → Status → Type 0
CauseOn losses plan Done = AllSurviveBelow plan losses.kinds (losses.most + 1)
CauseOn losses plan Refused = HasStop losses plan
CauseOn losses plan TooWide = HasWideMargin losses plan
CauseOn losses plan answer = ⊥

status_cause : (plan : Network) (losses : LossLimit) (ms : List Measure) → length ms ≡ length plan.covers → AreMargins plan losses 0 ms
    → CauseOn losses plan (margin_status (tallied none_yet ms))
status_cause plan losses ms each are =
    by_status (CauseOn losses plan) (tallied none_yet ms).stopped (tallied none_yet ms).wide
    (λ lt. some_stopped plan losses 0 none_yet ms are lt) (λ e lt. some_wide plan losses 0 none_yet ms are (omega (arith, each)) lt)
    (λ e f. subst (LeastSoFar plan losses (length plan.covers))
    (no_least (tallied none_yet ms) (all_counted none_yet ms (inl refl)) e f) (least_of_all plan losses ms each are))

-- no points stop a title of a cover if all covers survive as many
stop_or_survives : (plan : Network) (losses : LossLimit) → AllSurviveBelow plan losses.kinds (losses.most + 1) → HasStop losses plan → ⊥
stop_or_survives plan losses all (number, count, stop, few, is) =
    let at = some_of (slice_get plan.covers number) (λ cover. Covers cover stop.spot) is.covered in
    is.stopped (all number (slice_get_within plan.covers number at.0 at.1) stop.spot is.marks is.covered is.outage
    (omega (arith, few, is.size)))

-- ---- how the command ends

tells_of : (plan : Network) (losses : LossLimit) (s : Status) (text : List ℕ) → Measured plan losses 0 (length plan.covers) none_yet s text
    → TellsMargins plan losses s text
tells_of plan losses s text m = record {
  margins = m.margins;
  each = m.each;
  lawful = m.lawful;
  status = m.status;
  whole = m.whole;
  shown = λ number stop at. shown_at plan losses m.margins number stop m.lawful at;
  least = least_told plan losses (tallied none_yet m.margins).least (least_of_all plan losses m.margins m.each m.lawful);
  survive = λ done. subst (CauseOn losses plan) (sym m.status ∙ done) (status_cause plan losses m.margins m.each m.lawful);
}

margin_text_of : (contents : Option Contents) (file : PlanFile) (losses : LossLimit) (s : Status) (text : List ℕ)
    → Ends contents (margin_work file losses) s text → FileTells contents file [] (λ plan. TellsMargins plan losses) text s
margin_text_of contents file losses s text h =
    Ends-with_accepted contents file [] (each_margin losses) (λ plan. TellsMargins plan losses) s text
    (λ plan rest e. tells_of plan losses s rest (Ends-margins contents plan losses 0 (length plan.covers) none_yet s rest e)) h

-- such a text was written of an accepted plan
abbrev MarginEnds : LossLimit → Network → Status → Type 0
MarginEnds losses plan s = (rest : List ℕ) × TellsMargins plan losses s rest

abbrev AnswersOn : LossLimit → Network → Status → Type 0
AnswersOn losses plan s = VerdictEnds plan (MarginEnds losses plan) s

margin_ends : (contents : Option Contents) (file : PlanFile) (losses : LossLimit) (s : Status) (text : List ℕ)
    → Ends contents (margin_work file losses) s text → PlanEnds contents file (AnswersOn losses) s
margin_ends contents file losses s text h =
    file_of contents file [] (λ plan. TellsMargins plan losses) (MarginEnds losses) text s (λ plan rest more. (rest, more))
    (margin_text_of contents file losses s text h)

-- ---- the cause of each answer

cause_at : (contents : Option Contents) (file : PlanFile) (losses : LossLimit) (plan : Network) (s : Status)
    → ((P : Network → Type 0) → P plan → HasPlan contents file P) → IsSafe plan → CauseOn losses plan s
    → MarginCause contents file losses s
cause_at contents file losses plan Done here safe h = here (λ plan. IsSafe plan × AllSurviveBelow plan losses.kinds (losses.most + 1))
    (safe, h)
cause_at contents file losses plan Refused here safe h = inr (here (λ plan. IsSafe plan × HasStop losses plan) (safe, h))
cause_at contents file losses plan TooWide here safe h = inr (here (λ plan. IsSafe plan × HasWideMargin losses plan) (safe, h))
cause_at contents file losses plan s here safe h = absurd h

only : (contents : Option Contents) (file : PlanFile) (losses : LossLimit) (s : Status) → PlanEnds contents file (AnswersOn losses) s
    → MarginCause contents file losses s
only contents file losses TooLong (long h) = h
only contents file losses BadPlan (bad h) = h
only contents file losses s (good h) = by s h.3.2
  where
    here : (P : Network → Type 0) → P h.3.0 → HasPlan contents file P
    here P k = (h.0, h.1, h.2, (h.3.0, h.3.1, k))

    by : (t : Status) → AnswersOn losses h.3.0 t → MarginCause contents file losses t
    by Refused (refused k) = inl (here IsBad k)
    by TooWide (wide k) = inl (here IsWide k)
    by t (accepted safe k) = cause_at contents file losses h.3.0 t here safe
        (subst (CauseOn losses h.3.0) (sym k.1.status) (status_cause h.3.0 losses k.1.margins k.1.each k.1.lawful))

-- ---- what each answer follows from

done_if : (plan : Network) (losses : LossLimit) (ms : List Measure) → length ms ≡ length plan.covers → AreMargins plan losses 0 ms
    → AllSurviveBelow plan losses.kinds (losses.most + 1) → (HasWideMargin losses plan → ⊥) → margin_status (tallied none_yet ms) ≡ Done
done_if plan losses ms each are all narrow =
    by_status (λ s. s ≡ Done) (tallied none_yet ms).stopped (tallied none_yet ms).wide
    (λ lt. absurd (stop_or_survives plan losses all (some_stopped plan losses 0 none_yet ms are lt)))
    (λ e lt. absurd (narrow (some_wide plan losses 0 none_yet ms are (omega (arith, each)) lt))) (λ e f. refl)

refused_if : (plan : Network) (losses : LossLimit) (s : Status) → CauseOn losses plan s → HasStop losses plan
    → (s ≡ Refused) ⊎ (s ≡ TooWide)
refused_if plan losses Done h stops = absurd (stop_or_survives plan losses h stops)
refused_if plan losses Refused h stops = inl refl
refused_if plan losses TooWide h stops = inr refl
refused_if plan losses s h stops = absurd h

always : (c : Contents) (file : PlanFile) (losses : LossLimit) (t s : Status) → MarginSure (Some c) file losses t
    → PlanEnds (Some c) file (AnswersOn losses) s → s ≡ t
always c file losses Done s has ends =
    let k = goes_on has.3.0 (MarginEnds losses has.3.0) s has.3.2.0 (at_plan c file (AnswersOn losses) (λ plan. IsSurelySafe plan
    × AllSurviveBelow plan losses.kinds (losses.most + 1) × (HasWideMargin losses plan → ⊥)) s ends has) in
    k.1.status ∙ done_if has.3.0 losses k.1.margins k.1.each k.1.lawful has.3.2.1 has.3.2.2
always c file losses BadPlan s has ends = if_bad c file (AnswersOn losses) s ends has
always c file losses TooLong s has ends = if_long c file (AnswersOn losses) s ends has
always c file losses t s has ends = absurd has

refused_for : (c : Contents) (file : PlanFile) (losses : LossLimit) (s : Status) → MarginCause (Some c) file losses Refused
    → PlanEnds (Some c) file (AnswersOn losses) s → (s ≡ Refused) ⊎ (s ≡ TooWide)
refused_for c file losses s (inl has) ends = refused_or_wide has.3.0 (MarginEnds losses has.3.0) s has.3.2
    (at_plan c file (AnswersOn losses) IsBad s ends has)
refused_for c file losses s (inr has) ends = by (goes_on_or_wide has.3.0 (MarginEnds losses has.3.0) s has.3.2.0
    (at_plan c file (AnswersOn losses) (λ plan. IsSafe plan × HasStop losses plan) s ends has))
  where
    by : MarginEnds losses has.3.0 s ⊎ (s ≡ TooWide) → (s ≡ Refused) ⊎ (s ≡ TooWide)
    by (inl k) = refused_if has.3.0 losses s
        (subst (CauseOn losses has.3.0) (sym k.1.status) (status_cause has.3.0 losses k.1.margins k.1.each k.1.lawful)) has.3.2.1
    by (inr is) = inr is

-- ---- the files

margins_files : (c : Contents) (plan : Network) (losses : LossLimit) (number more : ℕ) (tally : MarginTally)
    → HasFiles c (margins_on plan losses number more tally)
margins_files c plan losses number zero tally = tt
margins_files c plan losses number (suc more) tally =
    λ margin measured. margins_files c plan losses (number + 1) more (counted tally margin)

pub margin_causes : (file : PlanFile) (losses : LossLimit) → WorkCauses (margin_work file losses)
    (λ c. MarginCause (Some c) file losses) (λ c. MarginSure (Some c) file losses)
    (λ c. MarginTells (Some c) file losses) (λ c. IsThere c file.name)
margin_causes file losses = record {
  only = λ c s text h. only (Some c) file losses s (margin_ends (Some c) file losses s text h);
  usage = λ contents text h. absurd (only contents file losses Usage (margin_ends contents file losses Usage text h));
  always = λ c t s text cause h. always c file losses t s cause (margin_ends (Some c) file losses s text h);
  refused = λ c s text cause h. refused_for c file losses s cause (margin_ends (Some c) file losses s text h);
  tells = λ c s text taken taken' is ends. λ given. (
    text,
    is,
    on_file (Some c) file (λ plan t. TellsPlan [] plan (TellsMargins plan losses) t text) s given
        (margin_text_of (Some c) file losses s text (ends given)),
  );
  files = λ c there. with_accepted_files c [] file (each_margin losses)
      (λ plan. margins_files c plan losses 0 (length plan.covers) none_yet) there;
}
