-- What the text of a connection says.
use Rattle.std.specs.Prelude.{◌≡◌, ◌==◌, ◌<◌, ◌≤◌, ◌^◌, ℕ, true, false, cond, List, [], ◌∷◌, ◌++◌, length, Option, Some, None, is_some}
use Rattle.std.specs.Prelude.{slice_get}
use Rattle.std.specs.Prelude.{IfSome, refl}
use Rattle.std.specs.List.{position}
use Rattle.std.specs.Io.KnownBytes.{append_known}
use Rattle.std.proofs.Common.{sym, ◌∙◌, ap, subst, get_or}
use Rattle.std.proofs.lemmas.Option.{slice_get-get_or}
use Rattle.std.proofs.lemmas.List.Quantifiers.{position-Some}
use Rattle.chain_call.specs.Answered.{IsCall, IsAnswered, ReachesPlace, spot_called}
use Rattle.chain_call.specs.Course.{beginning}
use Rattle.chain_call.specs.Steps.{outcome}
use Rattle.chain_call.specs.declared.call.Call.{Call}
use Rattle.chain_call.specs.declared.outcome.Outcome.{Outcome}
use Rattle.chain_call.specs.declared.outcome.Outcome.TheVariants.{Unsettled, Unanswered, Refused as refused, Opened}
use Rattle.chain_call.specs.declared.outcome.Through.{Through}
use Rattle.chain_call.proofs.Carrying.{is_answered}
use Rattle.chain_call.proofs.Reaching.{inner_at, is_reached}
use Rattle.chain_world.specs.Kept.{kept}
use Rattle.chain_world.proofs.Nodes.{node_not_there}
use Rattle.plan_check.specs.Verified.{Verified}
use Rattle.plan_model.specs.Network.{Network, IsPlan, has_name, has_point}
use Rattle.plan_model.specs.declared.node.Node.{Node}
use Rattle.plan_model.specs.declared.spot.Spot.{Spot}
use Rattle.plan_verify.specs.Lawful.{IsLawful, IsSafeFor}
use Rattle.plan_verify.specs.declared.verdict.Verdict.{Verdict}
use Rattle.plan_verify.specs.declared.verdict.Verdict.TheVariants as verdicts
use Rattle.sccp_io.specs.Files.{Contents}
use Rattle.sccp_report.specs.Verdicts.{verdict_text}
use Rattle.sccp_tool.proofs.TaskWords.{IsCalled}
use Rattle.sccp_tool.specs.Connect.{TellsAnswered, is_refused, is_open, TellsReached, TellsCall, ConnectTells, opened_line}
use Rattle.sccp_tool.specs.Connect.{through_lines, outcome_text, ssn_in, call_of, text_by, connect_text, connect_judged, connect_work}
use Rattle.sccp_tool.specs.declared.connect.Calling.{Calling}
use Rattle.sccp_work.specs.Accepting.{if_accepted, accepted_on}
use Rattle.sccp_work.specs.PlanFile.{PlanFile}
use Rattle.sccp_work.specs.Work.{answered, Ends}
use Rattle.sccp_work.specs.declared.status.Status.{Status}
use Rattle.sccp_work.specs.declared.status.Status.TheVariants.{Done, Refused, TooWide, BadPlan, TooLong}
use Rattle.sccp_work.proofs.AcceptingLemmas.{Ends-answered}
use Rattle.sccp_work.proofs.PlanLemmas.{PlanEnds, long, bad, good, Ends-with_plan}

-- ---- the outcome as text

outcome_told : (octets : List ℕ) (o : Outcome) → IsAnswered octets o → TellsAnswered octets (outcome_text o)
unfolding outcome_text
outcome_told octets Unsettled h = absurd h
outcome_told octets Unanswered h = absurd h
outcome_told octets (refused cause) h = is_refused cause refl
outcome_told octets (Opened names far through) h = is_open names far
    (ap (λ (t : Option Through). opened_line names far ++ through_lines t) h)

reached_told : (plan : Network) (spot : Spot) (most : ℕ) (octets : List ℕ) (o : Outcome) → IsAnswered octets o
    → ReachesPlace plan spot most o
    → TellsReached plan spot most octets (outcome_text o)
unfolding outcome_text
reached_told plan spot most octets Unsettled h r = absurd h
reached_told plan spot most octets Unanswered h r = absurd h
reached_told plan spot most octets (refused cause) h r = absurd r
reached_told plan spot most octets (Opened names far through) h r =
    (names, far, r.1, r.0, r.2, ap (λ (t : Option Through). opened_line names far ++ through_lines t) h)

-- ---- the call of the words

node_at : (name : List ℕ) (nodes : List Node) (i : ℕ) → position (has_name name) nodes ≡ Some i → (n : Node) × (slice_get nodes i ≡ Some n)
node_at name [] i h = absurd (cc)
node_at name (n ∷ nodes) i h =
    let p = position-Some (has_name name) (n ∷ nodes) i n h in
    (get_or (n ∷ nodes) i n, slice_get-get_or (n ∷ nodes) i n p.0)

is_call : (plan : Network) (node : ℕ) (calling : Calling) → IsCalled calling → position (has_name calling.start.node) plan.nodes ≡ Some node
    → position (has_point calling.from) plan.nodes ≡ None → IsCall plan (call_of plan node calling)
is_call plan node calling called named outer =
    let at = node_at calling.start.node plan.nodes node named in
    record {
      from = node_not_there plan calling.from outer;
      entry = inner_at plan node at.0 at.1;
      called = record { pc = tt; ssn = ssn_small calling.start.ssn called.ssn; title = called.title };
    }
  where
    ssn_small : (ssn : ℕ) → ssn < 256 → IfSome (ssn_in ssn) (λ n. n < 256)
    ssn_small ssn lt = elim (ssn == 0) as (λ b. IfSome (cond b None (Some ssn)) (λ n. n < 256)) [ true ↦ tt | false ↦ lt ]

call_told : (plan : Network) (bound node : ℕ) (calling : Calling) → IsPlan plan → IsSafeFor plan bound → IsCalled calling
    → length calling.octets ≤ 2 ^ 56 → position (has_name calling.start.node) plan.nodes ≡ Some node
    → position (has_point calling.from) plan.nodes ≡ None
    → TellsCall plan bound node calling (connect_text plan calling)
call_told plan bound node calling plan_is safe called few named outer =
    let call : Call = call_of plan node calling in
    let is = is_call plan node calling called named outer in
    let o : Outcome = outcome call (beginning (kept plan [])) in
    let answer = is_answered plan call is few in
    let text : connect_text plan calling ≡ outcome_text o =
    ap (λ (x : Option ℕ). text_by plan calling x (is_some (position (has_point calling.from) plan.nodes))) named
    ∙ ap (λ (x : Option ℕ). text_by plan calling (Some node) (is_some x)) outer in
    subst (TellsCall plan bound node calling) (sym text) (
      outcome_told calling.octets o answer,
      λ covered ends. reached_told plan (spot_called plan call) bound calling.octets o answer
          (is_reached plan call bound plan_is safe.safe safe.few is covered ends),
    )

-- ---- the text of the work

-- a plan that a verdict accepts, and the text of the command
abbrev IsDone : Network → List ℕ → List ℕ → Type 0
IsDone plan line text = IsPlan plan × ((accepted : Verified) × IsLawful plan (verdicts.Accepted accepted) × (text ≡ line))

done_text : (contents : Option Contents) (plan : Network) (line : List ℕ) (s : Status) (text : List ℕ)
    → Ends contents (if_accepted [] plan (λ accepted. answered (Done, line))) s text → s ≡ Done → IsDone plan line text
done_text contents plan line s text h done = by h.0 h.1.1 h.2 where
  by : (verdict : Verdict) → IsLawful plan verdict
      → Ends contents (accepted_on [] (λ accepted. answered (Done, line)) plan verdict) s text → IsDone plan line text
  by (verdicts.Accepted accepted) lawful e = (h.1.0, (accepted, lawful, (Ends-answered contents Done line s text e).1))
  by (verdicts.Refused same witness) lawful e =
      let t = Ends-answered contents Refused (verdict_text plan (verdicts.Refused same witness)) s text e in
      absurd (let z : Refused ≡ Done = sym t.0 ∙ done in cc)
  by (verdicts.TooWide same) lawful e =
      let t = Ends-answered contents TooWide (verdict_text plan (verdicts.TooWide same)) s text e in
      absurd (let z : TooWide ≡ Done = sym t.0 ∙ done in cc)

plan_told : (contents : Option Contents) (file : PlanFile) (calling : Calling) (s : Status) (text : List ℕ) (taken taken' : Option (List ℕ))
    → IsCalled calling → taken' ≡ append_known taken text
    → PlanEnds contents file (λ plan end. end ≡ Done → IsDone plan (connect_text plan calling) text) s
    → ConnectTells contents file calling s taken taken'
plan_told contents file calling TooLong text taken taken' called is (long h) = λ done. absurd (let z : TooLong ≡ Done = done in cc)
plan_told contents file calling BadPlan text taken taken' called is (bad h) = λ done. absurd (let z : BadPlan ≡ Done = done in cc)
plan_told contents file calling s text taken taken' called is (good h) = λ done.
    let d = h.3.2 done in
    let accepted : Verified = d.1.0 in (
      h.0,
      h.1,
      h.2,
      (
        h.3.0,
        h.3.1,
        (
          accepted,
          d.1.1,
          text,
          is,
          (λ few node named outer.
              subst (TellsCall h.3.0 accepted.bound node calling) (sym d.1.2)
              (call_told h.3.0 accepted.bound node calling d.0 d.1.1.0 called few named outer)),
        ),
      ),
    )

pub connect_told : (contents : Option Contents) (file : PlanFile) (calling : Calling) (s : Status) (text : List ℕ)
    (taken taken' : Option (List ℕ))
    → IsCalled calling → taken' ≡ append_known taken text → Ends contents (connect_work file calling) s text
    → ConnectTells contents file calling s taken taken'
connect_told contents file calling s text taken taken' called is h =
    plan_told contents file calling s text taken taken' called is
    (Ends-with_plan (λ plan end. end ≡ Done → IsDone plan (connect_text plan calling) text) contents file (connect_judged calling) s text
    (λ plan e done. done_text contents plan (connect_text plan calling) s text e done) h)
