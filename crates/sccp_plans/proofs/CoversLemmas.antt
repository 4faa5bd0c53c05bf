-- How each cover is verified by itself, and what that ends with.
use Rattle.std.proofs.Common.{◌≡◌, ◌<◌, ◌≤◌, ◌+◌, ◌⊎◌, ℕ, true, false, zero, suc, List, [], ◌∷◌, ◌++◌, length, Option, Some, Result, Ok}
use Rattle.std.proofs.Common.{Err}
use Rattle.std.proofs.Common.{IfOk, refl, sym, ◌∙◌, ap, subst, inl, inr, ⊎_elim, arith, append_assoc, append-nil}
use Rattle.std.specs.Prelude.{max, nat_lt, if◌then◌else◌, slice_get, get_or}
use Rattle.std.specs.Io.KnownBytes.{append_known}
use Rattle.std.specs.List.{All, Any}
use Rattle.std.proofs.lemmas.Bool.{cases_lt, ltb-true, ltb-false}
use Rattle.std.proofs.lemmas.List.Elements.{All-nil, All-cons, All-head, All-tail}
use Rattle.std.proofs.lemmas.Option.{slice_get-get_or, slice_get_read, slice_get_within, get_or_from_slice_get}
use Rattle.plan_model.proofs.Alone.{bad_by_covers}
use Rattle.plan_model.proofs.SafeWays.{safe_not_bad}
use Rattle.plan_model.specs.Alone.{alone}
use Rattle.plan_model.specs.Network.{Network, network_within}
use Rattle.plan_model.specs.declared.limits.Limits.{Limits}
use Rattle.plan_model.specs.Spots.{IsInRange}
use Rattle.plan_model.specs.Verdicts.{HasSpot, Bad}
use Rattle.plan_model.specs.declared.cover.Cover.{Cover}
use Rattle.plan_model.specs.declared.node.Node.{Node}
use Rattle.plan_model.specs.declared.spot.Spot.{Spot}
use Rattle.plan_verify.proofs.ByCover.{on_cover, accepted_by_covers}
use Rattle.plan_verify.specs.Covers.{AreVerdictsOn, IsRefused, greatest_bound}
use Rattle.plan_verify.specs.Lawful.{IsLawful, IsAccepted}
use Rattle.plan_verify.specs.Witnesses.{IsWitness}
use Rattle.plan_verify.specs.declared.verdict.Verdict.{Verdict}
use Rattle.plan_verify.specs.declared.verdict.Verdict.TheVariants as verdicts
use Rattle.plan_verify.specs.declared.witness.Witness.{Witness}
use Rattle.sccp_base.specs.declared.mark.Mark.{Mark}
use Rattle.sccp_io.specs.Files.{Contents}
use Rattle.sccp_report.specs.Covers.{cover_text}
use Rattle.sccp_plans.specs.Covers.{covers_on, each_cover, covers_work, HasWideCover, CoversCause, CoversSure, CoversTells}
use Rattle.sccp_plans.specs.Covers.{blocks_text, GivesNext}
use Rattle.sccp_plans.specs.Tallies.{none_yet, counted, tallied, tally_status, tally_line}
use Rattle.sccp_plans.specs.declared.each_cover.Judging.{Judging}
use Rattle.sccp_plans.specs.declared.tally.Tally.{Tally}
use Rattle.sccp_plans.proofs.WorkCauses.{WorkCauses}
use Rattle.sccp_work.proofs.PlanLemmas.{PlanEnds, long, bad, good, Ends-with_plan, if_long, if_bad, at_plan, plan_files}
use Rattle.sccp_work.proofs.WorkLemmas.{Kept, Printed, Works-answered, Works-ask, printed}
use Rattle.sccp_work.specs.Ending.{IsCut, Works}
use Rattle.sccp_work.specs.Moment.{Moment}
use Rattle.sccp_work.specs.PlanFile.{PlanFile}
use Rattle.sccp_work.specs.Plans.{HasPlan}
use Rattle.sccp_work.specs.Verdict.{IsSafe, IsBad}
use Rattle.sccp_work.specs.Questions.{IsJudged, verdict_on}
use Rattle.sccp_work.specs.Work.{Work, print, answered, Ends, HasFiles}
use Rattle.sccp_work.specs.Writing.{Writes}
use Rattle.sccp_work.specs.declared.status.Status.{Status}
use Rattle.sccp_work.specs.declared.status.Status.TheVariants.{Done, Refused, Usage, BadPlan, TooWide, TooLong}
use Rattle.sccp_work.specs.declared.stop.Stop.{Stop}
use Rattle.sccp_work.specs.Limit.{IsThere}

-- ---- the verdict on one cover is printed

-- the work that follows a verdict
abbrev told_on : Limits → List Node → ℕ → Cover → List Cover → Tally → Verdict → Work
told_on limits nodes number cover covers tally verdict =
    print (cover_text number (network_within limits nodes (cover ∷ [])) verdict)
    (covers_on limits nodes (number + 1) covers (counted tally verdict))

-- Once the text of a verdict is written, the work goes on with the covers that are left. If it could not be written whole, the work
-- has stopped.
abbrev pub AfterVerdict : Limits → List Node → ℕ → Cover → List Cover → Tally → Verdict → Result (Unit {0}) Stop → Moment → Moment → Type 0
AfterVerdict limits nodes number cover covers tally verdict (Ok done) b m =
    (result : Result Status Stop) (after : Moment)
    → Works (covers_on limits nodes (number + 1) covers (counted tally verdict)) result m after
    → Works (covers_on limits nodes number (cover ∷ covers) tally) result b after
AfterVerdict limits nodes number cover covers tally verdict (Err stop) b m = Works (covers_on limits nodes number (cover ∷ covers) tally)
    (Err stop) b m

after_verdict : (limits : Limits) (nodes : List Node) (number : ℕ) (cover : Cover) (covers : List Cover) (tally : Tally) (verdict : Verdict)
    (put : Result (Unit {0}) Stop) (b m : Moment) → IsJudged (network_within limits nodes (cover ∷ [])) verdict
    → Printed (cover_text number (network_within limits nodes (cover ∷ [])) verdict)
    (covers_on limits nodes (number + 1) covers (counted tally verdict)) put b m
    → AfterVerdict limits nodes number cover covers tally verdict put b m
after_verdict limits nodes number cover covers tally verdict (Ok done) b m judged goes = λ result after w.
    Works-ask (verdict_on (network_within limits nodes (cover ∷ [])))
    (told_on limits nodes number cover covers tally) verdict result b after judged
    (goes result after w)
after_verdict limits nodes number cover covers tally verdict (Err stop) b m judged stops =
    Works-ask (verdict_on (network_within limits nodes (cover ∷ []))) (told_on limits nodes number cover covers tally) verdict
    (Err stop) b m judged stops

pub verdict_told : (limits : Limits) (nodes : List Node) (number : ℕ) (cover : Cover) (covers : List Cover) (tally : Tally)
    (verdict : Verdict)
    (line : List ℕ) (put : Result (Unit {0}) Stop) (b m : Moment) → IsJudged (network_within limits nodes (cover ∷ [])) verdict
    → line ≡ cover_text number (network_within limits nodes (cover ∷ [])) verdict
    → Writes line put b.taken m.taken b.write_faults m.write_faults → Kept b m
    → AfterVerdict limits nodes number cover covers tally verdict put b m
verdict_told limits nodes number cover covers tally verdict line put b m judged spelt writes kept =
    after_verdict limits nodes number cover covers tally verdict put b m judged
    (printed (cover_text number (network_within limits nodes (cover ∷ [])) verdict)
    (covers_on limits nodes (number + 1) covers (counted tally verdict)) put b m
    (subst (λ t. Writes t put b.taken m.taken b.write_faults m.write_faults) spelt writes) kept)

-- ---- cover by cover

-- whatever ends the work on the covers that are left ends the whole work
abbrev pub CoversLeft : Network → ℕ → List Cover → Tally → Moment → Moment → Type 0
CoversLeft plan number covers tally first now =
    (result : Result Status Stop) (after : Moment) → Works (covers_on plan.limits plan.nodes number covers tally) result now after
    → Works (each_cover plan) result first after

pub next_left : (plan : Network) (number : ℕ) (cover : Cover) (covers : List Cover) (tally : Tally) (judging : Judging)
    (first now after : Moment) → CoversLeft plan number (cover ∷ covers) tally first now
    → GivesNext plan.limits plan.nodes number cover tally (Ok judging) now after
    → CoversLeft plan (number + 1) covers judging.tally first after
next_left plan number cover covers tally judging first now after left gives =
    λ result end work. left result end (gives covers result end work)

pub stopped_left : (plan : Network) (number : ℕ) (cover : Cover) (covers : List Cover) (tally : Tally) (stop : Stop)
    (first now after : Moment) → CoversLeft plan number (cover ∷ covers) tally first now
    → GivesNext plan.limits plan.nodes number cover tally (Err stop) now after → Works (each_cover plan) (Err stop) first after
stopped_left plan number cover covers tally stop first now after left gives = left (Err stop) after (gives covers)

-- ---- the last line

-- the answer of two numbers
pub by_status : (P : Status → Type 0) (r w : ℕ) → (0 < r → P Refused) → (r ≡ 0 → 0 < w → P TooWide) → (r ≡ 0 → w ≡ 0 → P Done)
    → P (if nat_lt 0 r then Refused else (if nat_lt 0 w then TooWide else Done))
by_status P r w refuses wide done =
    elim (nat_lt 0 r) as (λ x. nat_lt 0 r ≡ x → P (if x then Refused else (if nat_lt 0 w then TooWide else Done))) [
      | true ↦ λ e. refuses (ltb-true 0 r e)
      | false ↦ λ e. elim (nat_lt 0 w) as (λ y. nat_lt 0 w ≡ y → P (if y then TooWide else Done)) [
        | true ↦ λ f. wide (omega (arith, ltb-false 0 r e)) (ltb-true 0 w f)
        | false ↦ λ f. done (omega (arith, ltb-false 0 r e)) (omega (arith, ltb-false 0 w f))
      ] refl
    ] refl

not_cut : (tally : Tally) → IsCut (tally_status tally) → ⊥
not_cut tally = by_status (λ s. IsCut s → ⊥) tally.refused tally.wide (λ lt cut. cut) (λ e lt cut. cut) (λ e f cut. cut)

pub Works-tally : (tally : Tally) (status : Status) (line : List ℕ) (result : Result Status Stop) (b a : Moment)
    → status ≡ tally_status tally → line ≡ tally_line tally → Writes line result b.taken a.taken b.write_faults a.write_faults
    → IfOk result (λ s. s ≡ status) → a.contents ≡ b.contents → a.sound ≡ b.sound → a.read_faults ≡ b.read_faults
    → Works (answered (tally_status tally, tally_line tally)) result b a
Works-tally tally status line result b a of spelt writes is contents sound read_faults =
    Works-answered (tally_status tally, tally_line tally) result b a (not_cut tally)
    (subst (λ t. Writes t result b.taken a.taken b.write_faults a.write_faults) spelt writes)
    (subst (λ t. IfOk result (λ s. s ≡ t)) of is) contents sound read_faults

-- ---- how the command ends

-- lawful verdicts give the answer and the text
record Judged (plan : Network) (number : ℕ) (covers : List Cover) (tally : Tally) (s : Status) (text : List ℕ) : Type 0 where
  pub verdicts : List Verdict
  pub lawful : AreVerdictsOn plan covers verdicts
  pub status : s ≡ tally_status (tallied tally verdicts)
  pub whole : text ≡ blocks_text plan number covers verdicts ++ tally_line (tallied tally verdicts)

Ends-covers : (contents : Option Contents) (plan : Network) (number : ℕ) (covers : List Cover) (tally : Tally) (s : Status) (text : List ℕ)
    → Ends contents (covers_on plan.limits plan.nodes number covers tally) s text → Judged plan number covers tally s text
Ends-covers contents plan number [] tally s text h =
    record {
      verdicts = [];
      lawful = tt;
      status = h.2.0;
      whole = h.1 ∙ ap (λ rest. tally_line tally ++ rest) h.2.1 ∙ append-nil (tally_line tally);
    }
Ends-covers contents plan number (cover ∷ covers) tally s text h =
    let block : List ℕ = cover_text number (alone plan cover) h.0 in
    let r = Ends-covers contents plan (number + 1) covers (counted tally h.0) s h.2.0 h.2.2 in
    record {
      verdicts = h.0 ∷ r.verdicts;
      lawful = (h.1.1, r.lawful);
      status = r.status;
      whole = h.2.1 ∙ ap (λ rest. block ++ rest) r.whole
          ∙ sym (append_assoc block (blocks_text plan (number + 1) covers r.verdicts)
          (tally_line (tallied (counted tally h.0) r.verdicts)));
    }

abbrev AllJudged : List ℕ → Network → Status → Type 0
AllJudged text plan s = Judged plan 0 plan.covers none_yet s text

plan_ends : (contents : Option Contents) (file : PlanFile) (s : Status) (text : List ℕ) → Ends contents (covers_work file) s text
    → PlanEnds contents file (AllJudged text) s
plan_ends contents file s text h = Ends-with_plan (AllJudged text) contents file each_cover s text
    (λ plan e. Ends-covers contents plan 0 plan.covers none_yet s text e) h

-- ---- what the numbers of verdicts say

grows : (tally : Tally) (vs : List Verdict) → (tally.refused ≤ (tallied tally vs).refused) × (tally.wide ≤ (tallied tally vs).wide)
grows tally [] = (omega arith, omega arith)
grows tally (verdicts.Accepted a ∷ vs) = grows (counted tally (verdicts.Accepted a)) vs
grows tally (verdicts.Refused plan w ∷ vs) =
    let r = grows (counted tally (verdicts.Refused plan w)) vs in (omega (arith, r.0), r.1)
grows tally (verdicts.TooWide plan ∷ vs) = let r = grows (counted tally (verdicts.TooWide plan)) vs in (r.0, omega (arith, r.1))

greatest_of : (tally : Tally) (vs : List Verdict) → (tallied tally vs).bound ≡ max tally.bound (greatest_bound vs)
greatest_of tally [] = omega arith
greatest_of tally (verdicts.Accepted a ∷ vs) = omega (arith, greatest_of (counted tally (verdicts.Accepted a)) vs)
greatest_of tally (verdicts.Refused plan w ∷ vs) = omega (arith, greatest_of (counted tally (verdicts.Refused plan w)) vs)
greatest_of tally (verdicts.TooWide plan ∷ vs) = omega (arith, greatest_of (counted tally (verdicts.TooWide plan)) vs)

all_accepted : (tally : Tally) (vs : List Verdict) → (tallied tally vs).refused ≡ tally.refused → (tallied tally vs).wide ≡ tally.wide
    → All IsAccepted vs
all_accepted tally [] e f = All-nil IsAccepted
all_accepted tally (verdicts.Accepted a ∷ vs) e f =
    All-cons IsAccepted (verdicts.Accepted a) vs tt (all_accepted (counted tally (verdicts.Accepted a)) vs e f)
all_accepted tally (verdicts.Refused plan w ∷ vs) e f =
    let r = grows (counted tally (verdicts.Refused plan w)) vs in absurd (omega (arith, e, r.0))
all_accepted tally (verdicts.TooWide plan ∷ vs) e f =
    let r = grows (counted tally (verdicts.TooWide plan)) vs in absurd (omega (arith, f, r.1))

none_counted : (tally : Tally) (vs : List Verdict) → All IsAccepted vs
    → ((tallied tally vs).refused ≡ tally.refused) × ((tallied tally vs).wide ≡ tally.wide)
none_counted tally [] all = (refl, refl)
none_counted tally (verdicts.Accepted a ∷ vs) all =
    none_counted (counted tally (verdicts.Accepted a)) vs (All-tail IsAccepted (verdicts.Accepted a) vs all)
none_counted tally (verdicts.Refused plan w ∷ vs) all = absurd (All-head IsAccepted (verdicts.Refused plan w) vs all)
none_counted tally (verdicts.TooWide plan ∷ vs) all = absurd (All-head IsAccepted (verdicts.TooWide plan) vs all)

abbrev IsTooWide : Verdict → Type 0
IsTooWide (verdicts.Accepted a) = ⊥
IsTooWide (verdicts.Refused plan w) = ⊥
IsTooWide (verdicts.TooWide plan) = Unit {0}

later : (P : Verdict → Type 0) (v : Verdict) (vs : List Verdict) → Any P vs → Any P (v ∷ vs)
later P v vs r = (suc r.0, r.1, omega (arith, r.2), r.3, r.4)

some_refused : (tally : Tally) (vs : List Verdict) → tally.refused < (tallied tally vs).refused → Any IsRefused vs
some_refused tally [] lt = absurd (omega (arith, lt))
some_refused tally (verdicts.Accepted a ∷ vs) lt =
    later IsRefused (verdicts.Accepted a) vs (some_refused (counted tally (verdicts.Accepted a)) vs lt)
some_refused tally (verdicts.Refused plan w ∷ vs) lt = (0, verdicts.Refused plan w, omega arith, refl, tt)
some_refused tally (verdicts.TooWide plan ∷ vs) lt =
    later IsRefused (verdicts.TooWide plan) vs (some_refused (counted tally (verdicts.TooWide plan)) vs lt)

some_wide : (tally : Tally) (vs : List Verdict) → tally.wide < (tallied tally vs).wide → Any IsTooWide vs
some_wide tally [] lt = absurd (omega (arith, lt))
some_wide tally (verdicts.Accepted a ∷ vs) lt =
    later IsTooWide (verdicts.Accepted a) vs (some_wide (counted tally (verdicts.Accepted a)) vs lt)
some_wide tally (verdicts.Refused plan w ∷ vs) lt =
    later IsTooWide (verdicts.Refused plan w) vs (some_wide (counted tally (verdicts.Refused plan w)) vs lt)
some_wide tally (verdicts.TooWide plan ∷ vs) lt = (0, verdicts.TooWide plan, omega arith, refl, tt)

-- ---- what each verdict says of the plan

only_cover : (plan : Network) (cover : Cover) (number : ℕ) (s : Spot) → HasSpot (alone plan cover) number s → number ≡ 0
only_cover plan cover zero s h = refl
only_cover plan cover (suc number) s h = absurd h

bad_in : (plan : Network) (number : ℕ) (cover : Cover) (w : Witness) → slice_get plan.covers number ≡ Some cover
    → IsWitness (alone plan cover) w → Bad plan number w.spot w.markings w.hops w.kind
bad_in plan number cover w at shows =
    (bad_by_covers plan number cover w.spot w.markings w.hops w.kind at).1
    (subst (λ k. Bad (alone plan cover) k w.spot w.markings w.hops w.kind) (only_cover plan cover w.cover w.spot shows.bad.covered)
    shows.bad)

in_range : (plan : Network) (cover : Cover) (s : Spot) (ms : List (List Mark)) → IsInRange (alone plan cover) s ms → IsInRange plan s ms
in_range plan cover s ms h = record {
  markings = h.markings;
  spots = λ k d lt.
      let one = h.spots k d lt in
      record { node = one.node; selector = one.selector; ssn = one.ssn; few = one.few; halves = one.halves; even = one.even };
}

is_bad : (plan : Network) (number : ℕ) (cover : Cover) (w : Witness) → slice_get plan.covers number ≡ Some cover
    → IsWitness (alone plan cover) w → IsBad plan
is_bad plan number cover w at shows = (
  record w { cover = number },
  record {
    bad = bad_in plan number cover w at shows;
    steady = shows.steady;
    range = in_range plan cover w.spot w.markings shows.range;
  },
)

place_of : (P : Verdict → Type 0) (vs : List Verdict) → (any : Any P vs) → slice_get vs any.0 ≡ Some any.1
place_of P vs any = slice_get_read vs (length vs) any.0 any.1 refl any.2 (sym any.3)

bad_from : (plan : Network) (number : ℕ) (cover : Cover) (v : Verdict) → slice_get plan.covers number ≡ Some cover
    → IsLawful (alone plan cover) v → IsRefused v → IsBad plan
bad_from plan number cover (verdicts.Accepted a) at lawful is = absurd is
bad_from plan number cover (verdicts.Refused same w) at lawful is = is_bad plan number cover w at lawful
bad_from plan number cover (verdicts.TooWide same) at lawful is = absurd is

wide_from : (plan : Network) (number : ℕ) (cover : Cover) (v : Verdict) → slice_get plan.covers number ≡ Some cover
    → IsLawful (alone plan cover) v → IsTooWide v → HasWideCover plan
wide_from plan number cover (verdicts.Accepted a) at lawful is = absurd is
wide_from plan number cover (verdicts.Refused same w) at lawful is = absurd is
wide_from plan number cover (verdicts.TooWide same) at lawful is = (
  number,
  cover,
  slice_get_within plan.covers number cover at,
  get_or_from_slice_get plan.covers number cover cover at,
  lawful,
)

-- ---- the cause of each answer

abbrev CauseOn : Network → Status → Type 0
CauseOn plan Done = IsSafe plan
CauseOn plan Refused = IsBad plan
CauseOn plan TooWide = HasWideCover plan
CauseOn plan answer = ⊥

-- a plan without a cover is safe for any bound
safe_from : (plan : Network) (vs : List Verdict) → AreVerdictsOn plan plan.covers vs → All IsAccepted vs → IsSafe plan
safe_from plan vs are all =
    ⊎_elim
    (λ (some : 0 < length plan.covers). (greatest_bound vs, (accepted_by_covers plan vs are some all).0))
    (λ (none : length plan.covers ≤ 0). (
      1,
      record { some = omega arith; few = omega arith; safe = λ spot ms covered count. absurd (omega (arith, none, covered.2)) },
    ))
    (cases_lt 0 (length plan.covers))

status_cause : (plan : Network) (vs : List Verdict) → AreVerdictsOn plan plan.covers vs
    → CauseOn plan (tally_status (tallied none_yet vs))
status_cause plan vs are =
    by_status (CauseOn plan) (tallied none_yet vs).refused (tallied none_yet vs).wide
    (λ lt.
    let any = some_refused none_yet vs lt in
    let on = on_cover plan plan.covers vs any.0 any.1 are (place_of IsRefused vs any) in
    bad_from plan any.0 on.0 any.1 on.1 on.2 any.4)
    (λ zero lt.
    let any = some_wide none_yet vs lt in
    let on = on_cover plan plan.covers vs any.0 any.1 are (place_of IsTooWide vs any) in
    wide_from plan any.0 on.0 any.1 on.1 on.2 any.4)
    (λ e f. safe_from plan vs are (all_accepted none_yet vs e f))

cause_at : (contents : Option Contents) (file : PlanFile) (plan : Network) (s : Status)
    → ((P : Network → Type 0) → P plan → HasPlan contents file P) → CauseOn plan s → CoversCause contents file s
cause_at contents file plan Done here h = here IsSafe h
cause_at contents file plan Refused here h = here IsBad h
cause_at contents file plan TooWide here h = here HasWideCover h
cause_at contents file plan s here h = absurd h

only : (contents : Option Contents) (file : PlanFile) (s : Status) (text : List ℕ) → PlanEnds contents file (AllJudged text) s
    → CoversCause contents file s
only contents file TooLong text (long h) = h
only contents file BadPlan text (bad h) = h
only contents file s text (good h) =
    cause_at contents file h.3.0 s (λ P p. (h.0, h.1, h.2, (h.3.0, h.3.1, p)))
    (subst (CauseOn h.3.0) (sym h.3.2.status) (status_cause h.3.0 h.3.2.verdicts h.3.2.lawful))

-- ---- what each answer follows from

accepted_if : (plan : Network) (number : ℕ) (cover : Cover) (v : Verdict) → slice_get plan.covers number ≡ Some cover
    → IsLawful (alone plan cover) v → IsSafe plan → (HasWideCover plan → ⊥) → IsAccepted v
accepted_if plan number cover (verdicts.Accepted a) at lawful safe narrow = tt
accepted_if plan number cover (verdicts.Refused same w) at lawful safe narrow =
    safe_not_bad plan safe.0 number w.spot w.markings w.hops w.kind safe.1.few safe.1.safe (bad_in plan number cover w at lawful)
accepted_if plan number cover (verdicts.TooWide same) at lawful safe narrow =
    narrow (wide_from plan number cover (verdicts.TooWide same) at lawful tt)

done_if_safe : (plan : Network) (vs : List Verdict) → AreVerdictsOn plan plan.covers vs → IsSafe plan → (HasWideCover plan → ⊥)
    → tally_status (tallied none_yet vs) ≡ Done
done_if_safe plan vs are safe narrow =
    let all : All IsAccepted vs = λ k d lt.
    let on = on_cover plan plan.covers vs k (get_or vs k d) are (slice_get-get_or vs k d lt) in
    accepted_if plan k on.0 (get_or vs k d) on.1 on.2 safe narrow in
    let none = none_counted none_yet vs all in
    by_status (λ s. s ≡ Done) (tallied none_yet vs).refused (tallied none_yet vs).wide (λ lt. absurd (omega (arith, lt, none.0)))
    (λ e lt. absurd (omega (arith, lt, none.1))) (λ e f. refl)

refused_if_bad : (plan : Network) (vs : List Verdict) → AreVerdictsOn plan plan.covers vs → IsBad plan
    → (tally_status (tallied none_yet vs) ≡ Refused) ⊎ (tally_status (tallied none_yet vs) ≡ TooWide)
refused_if_bad plan vs are is =
    by_status (λ s. (s ≡ Refused) ⊎ (s ≡ TooWide)) (tallied none_yet vs).refused (tallied none_yet vs).wide (λ lt. inl refl)
    (λ e lt. inr refl)
    (λ e f.
    let safe = safe_from plan vs are (all_accepted none_yet vs e f) in
    absurd (safe_not_bad plan safe.0 is.0.cover is.0.spot is.0.markings is.0.hops is.0.kind safe.1.few safe.1.safe is.1.bad))

always : (c : Contents) (file : PlanFile) (t s : Status) (text : List ℕ) → CoversSure (Some c) file t
    → PlanEnds (Some c) file (AllJudged text) s → s ≡ t
always c file Done s text has ends =
    let j = at_plan c file (AllJudged text) (λ plan. IsSafe plan × (HasWideCover plan → ⊥)) s ends has in
    j.status ∙ done_if_safe has.3.0 j.verdicts j.lawful has.3.2.0 has.3.2.1
always c file BadPlan s text has ends = if_bad c file (AllJudged text) s ends has
always c file TooLong s text has ends = if_long c file (AllJudged text) s ends has
always c file t s text has ends = absurd has

refused : (c : Contents) (file : PlanFile) (s : Status) (text : List ℕ) → HasPlan (Some c) file IsBad
    → PlanEnds (Some c) file (AllJudged text) s → (s ≡ Refused) ⊎ (s ≡ TooWide)
refused c file s text has ends =
    let j = at_plan c file (AllJudged text) IsBad s ends has in
    subst (λ t. (t ≡ Refused) ⊎ (t ≡ TooWide)) (sym j.status) (refused_if_bad has.3.0 j.verdicts j.lawful has.3.2)

-- ---- what the text says

done_accepts : (vs : List Verdict) → tally_status (tallied none_yet vs) ≡ Done → All IsAccepted vs
done_accepts vs =
    by_status (λ s. s ≡ Done → All IsAccepted vs) (tallied none_yet vs).refused (tallied none_yet vs).wide (λ lt e. absurd (cc))
    (λ z lt e. absurd (cc)) (λ e f same. all_accepted none_yet vs e f)

shown_in : (plan : Network) (number : ℕ) (same : Network) (w : Witness) (vs : List Verdict) → AreVerdictsOn plan plan.covers vs
    → slice_get vs number ≡ Some (verdicts.Refused same w) → Bad plan number w.spot w.markings w.hops w.kind
shown_in plan number same w vs are at =
    let on = on_cover plan plan.covers vs number (verdicts.Refused same w) are at in bad_in plan number on.0 w on.1 on.2

tells : (contents : Option Contents) (file : PlanFile) (s : Status) (text : List ℕ) (taken taken' : Option (List ℕ))
    → taken' ≡ append_known taken text → PlanEnds contents file (AllJudged text) s → CoversTells contents file s taken taken'
tells contents file TooLong text taken taken' is (long h) = λ given. absurd given
tells contents file BadPlan text taken taken' is (bad h) = λ given. absurd given
tells contents file s text taken taken' is (good h) = λ given. (
  h.0,
  h.1,
  h.2,
  (
    h.3.0,
    h.3.1,
    record {
      verdicts = h.3.2.verdicts;
      lawful = h.3.2.lawful;
      status = h.3.2.status;
      text = is ∙ ap (λ t. append_known taken t) h.3.2.whole;
      bound = omega (arith, greatest_of none_yet h.3.2.verdicts);
      shown = λ number same w at. shown_in h.3.0 number same w h.3.2.verdicts h.3.2.lawful at;
      safe = λ done some. accepted_by_covers h.3.0 h.3.2.verdicts h.3.2.lawful some
          (done_accepts h.3.2.verdicts (sym h.3.2.status ∙ done));
    },
  ),
)

-- ---- the files

covers_files : (c : Contents) (limits : Limits) (nodes : List Node) (number : ℕ) (covers : List Cover) (tally : Tally)
    → HasFiles c (covers_on limits nodes number covers tally)
covers_files c limits nodes number [] tally = tt
covers_files c limits nodes number (cover ∷ covers) tally = λ verdict judged. covers_files c limits nodes (number + 1) covers
    (counted tally verdict)

pub covers_causes : (file : PlanFile) → WorkCauses (covers_work file)
    (λ c. CoversCause (Some c) file) (λ c. CoversSure (Some c) file)
    (λ c. CoversTells (Some c) file) (λ c. IsThere c file.name)
covers_causes file = record {
  only = λ c s text h. only (Some c) file s text (plan_ends (Some c) file s text h);
  usage = λ contents text h. absurd (only contents file Usage text (plan_ends contents file Usage text h));
  always = λ c t s text cause h. always c file t s text cause (plan_ends (Some c) file s text h);
  refused = λ c s text cause h. refused c file s text cause (plan_ends (Some c) file s text h);
  tells = λ c s text taken taken' is ends. λ given. tells (Some c) file s text taken taken' is
      (plan_ends (Some c) file s text (ends given)) given;
  files = λ c there. plan_files c file each_cover (λ plan. covers_files c plan.limits plan.nodes 0 plan.covers none_yet) there;
}
