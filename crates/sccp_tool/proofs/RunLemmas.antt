-- The clauses of the call, from how the work ended.
use Rattle.std.proofs.Common.{◌≡◌, ◌≢◌, ◌<◌, ◌⊎◌, ◌^◌, ◌-◌, IsTrue, ℕ, List, Option, Some, None, IfSome, refl, sym, subst, arith, inl, inr}
use Rattle.sccp_io.specs.Faults.{Rose}
use Rattle.sccp_io.specs.Files.{Contents}
use Rattle.sccp_work.specs.Ending.{IsCut, Answers, Outcome}
use Rattle.sccp_work.specs.Moment.{Moment}
use Rattle.sccp_tool.specs.Run.{work_of, Cause, SureCause, TellsAnswer, TellsJourneys, HasNamedFiles, UsageCause, ExactlyWhere, ComesWhere}
use Rattle.sccp_tool.specs.Run.{RefusedWhere, IsFaultless, IsResult}
use Rattle.sccp_tool.specs.Task.{Task, ShowHex, Show, Verify, Route, Replay, Load, Cuts, Import, Change, Connect, SendOn, Covers, Unused}
use Rattle.sccp_tool.specs.Task.{Margin, Capture, Order, Conform}
use Rattle.sccp_work.specs.Verdict.{IsOnVerdict}
use Rattle.sccp_work.specs.Work.{Work, Ends, HasFiles}
use Rattle.sccp_work.specs.declared.status.Status.{Status}
use Rattle.sccp_work.specs.declared.status.Status.TheVariants.{Done, Refused, Usage, BadPlan, BadTrace, TooWide, TooLong, OtherNodes}
use Rattle.sccp_work.specs.declared.status.Status.TheVariants.{BadCapture, Differs, NoMemory, ReadFault, WriteFault}
use Rattle.sccp_tool.proofs.Causes.{Causes}
use Rattle.sccp_tool.proofs.CaptureLemmas.{capture_causes}
use Rattle.sccp_tool.proofs.CutsLemmas.{cuts_causes}
use Rattle.sccp_tool.proofs.ImportLemmas.{import_causes}
use Rattle.sccp_tool.proofs.ConformLemmas.{conform_causes}
use Rattle.sccp_tool.proofs.ConnectLemmas.{connect_causes}
use Rattle.sccp_tool.proofs.LoadLemmas.{load_causes}
use Rattle.sccp_tool.proofs.PlanCauses.{change_right, covers_right, margin_right, order_right, route_right, unused_right, verify_right}
use Rattle.sccp_tool.proofs.ReplayLemmas.{replay_causes}
use Rattle.sccp_tool.proofs.SendOnLemmas.{send_on_causes}
use Rattle.sccp_tool.proofs.ShowHexLemmas.{show_hex_causes}
use Rattle.sccp_tool.proofs.ShowLemmas.{show_causes}
use Rattle.sccp_tool.proofs.TaskWords.{IsOfWords}

-- ---- the causes of the answers, task by task

is_usage : (t s : Status) → UsageCause t → s ≡ Usage → s ≡ t
is_usage Usage s cause e = e
is_usage t s cause e = absurd cause

usage_causes : Causes None
usage_causes = record {
  only = λ c s text h. subst UsageCause (sym h.2.0) tt;
  usage = λ contents text h. refl;
  always = λ c t s text cause h. is_usage t s cause h.2.0;
  refused = λ c s text cause h. absurd cause;
  tells = λ c s text taken taken' is ends. tt;
  journeys = λ c s b a is o. tt;
  files = λ c has. tt;
}

causes : (task : Option Task) → IsOfWords task → Causes task
causes None words = usage_causes
causes (Some (ShowHex octets)) words = show_hex_causes octets
causes (Some (Show name)) words = show_causes name
causes (Some (Verify file)) words = verify_right file
causes (Some (Route file start)) words = route_right file start
causes (Some (Replay plan trace workers)) words = replay_causes plan trace workers
causes (Some (Load number size workers)) words = load_causes number size workers words
causes (Some (Cuts octets)) words = cuts_causes octets
causes (Some (Import plan file)) words = import_causes plan file
causes (Some (Change old new)) words = change_right old new
causes (Some (Connect file calling)) words = connect_causes file calling words
causes (Some (SendOn file incoming)) words = send_on_causes file incoming words
causes (Some (Covers file)) words = covers_right file
causes (Some (Unused file)) words = unused_right file
causes (Some (Margin file losses)) words = margin_right file losses
causes (Some (Capture plan file)) words = capture_causes plan file
causes (Some (Order old new)) words = order_right old new
causes (Some (Conform plan file)) words = conform_causes plan file

if_some : {C : Type 0} (o : Option C) (P : C → Type 0) → ((c : C) → o ≡ Some c → P c) → IfSome o P
if_some None P f = tt
if_some (Some c) P f = f c refl

-- a call that was not cut short did all its work
cut_or_ends : (s : Status) (work : Work) (text : List ℕ) (b a : Moment) → Answers work s text b a → IsCut s ⊎ Ends b.contents work s text
cut_or_ends WriteFault work text b a h = inl tt
cut_or_ends NoMemory work text b a h = inl tt
cut_or_ends ReadFault work text b a h = inl tt
cut_or_ends s work text b a h = inr h

unless_cut : {P : Type 0} (s : Status) (work : Work) (text : List ℕ) (b a : Moment) → Answers work s text b a
    → (Ends b.contents work s text → P) → P ⊎ IsCut s
unless_cut {P} s work text b a h f = by (cut_or_ends s work text b a h) where
  by : IsCut s ⊎ Ends b.contents work s text → P ⊎ IsCut s
  by (inl cut) = inr cut
  by (inr e) = inl (f e)

-- an answer of a verdict is the work's own
own_verdict : (s : Status) (work : Work) (text : List ℕ) (b a : Moment) → Answers work s text b a → IsOnVerdict s
    → Ends b.contents work s text
own_verdict Done work text b a h given = h
own_verdict Refused work text b a h given = h
own_verdict TooWide work text b a h given = h
own_verdict s work text b a h given = absurd given

without_task : (contents : Option Contents) (task : Option Task) (s : Status) (text : List ℕ) → task ≡ None
    → Ends contents (work_of task) s text → s ≡ Usage
without_task contents None s text e h = h.2.0
without_task contents (Some t) s text e h = cc

-- ---- the clauses of the call

module _ (task : Option Task) (words : IsOfWords task) (s : Status) (b a : Moment) (o : Outcome (work_of task) s b a) where
  answers : (t : Status) → s ≡ t → Answers (work_of task) t o.text b a
  answers t e = subst (λ t. Answers (work_of task) t o.text b a) e o.answers

  -- an answer of the work's own is given only if its cause holds
  only_where : (t : Status) (c : Contents) → b.contents ≡ Some c
      → (Answers (work_of task) t o.text b a → Ends b.contents (work_of task) t o.text) → s ≡ t → Cause c task t
  only_where t c told own e = (causes task words).only c t o.text (subst (λ k. Ends k (work_of task) t o.text) told (own (answers t e)))

  -- an answer is given unless the call was cut short
  always_where : (c : Contents) (Q : Type 0) → b.contents ≡ Some c → (Ends (Some c) (work_of task) s o.text → Q) → Q ⊎ IsCut s
  always_where c Q told always = unless_cut s (work_of task) o.text b a o.answers
      (λ e. always (subst (λ k. Ends k (work_of task) s o.text) told e))

  -- an answer of the work's own is given only if its cause can give it; if one gives it for sure, it is given or the call is cut
  comes : (t : Status) (c : Contents) → b.contents ≡ Some c
      → (Answers (work_of task) t o.text b a → Ends b.contents (work_of task) t o.text)
      → ComesWhere t s (Cause c task t) (SureCause c task t)
  comes t c told own = record {
    only = only_where t c told own;
    always = λ cause. always_where c (s ≡ t) told ((causes task words).always c t s o.text cause);
  }

  pub answer_told : IfSome b.contents (λ c. TellsAnswer c task s b.taken a.taken)
  answer_told = if_some b.contents _ (λ c told. (causes task words).tells c s o.text b.taken a.taken o.goes.taken
      (λ given. subst (λ k. Ends k (work_of task) s o.text) told (own_verdict s (work_of task) o.text b a o.answers given)))

  pub journeys_told : IfSome b.contents (λ c. TellsJourneys c task s b.taken a.taken)
  journeys_told = if_some b.contents _ (λ c told. (causes task words).journeys c s b a told o)

  pub done_cause : IfSome b.contents (λ c. ComesWhere Done s (Cause c task Done) (SureCause c task Done))
  done_cause = if_some b.contents _ (λ c told. comes Done c told (λ e. e))

  pub refused_cause : IfSome b.contents (λ c. RefusedWhere s (Cause c task Refused))
  refused_cause = if_some b.contents _ (λ c told. record {
    only = only_where Refused c told (λ e. e);
    always = λ cause. always_where c ((s ≡ Refused) ⊎ (s ≡ TooWide)) told ((causes task words).refused c s o.text cause);
  })

  pub wide_cause : IfSome b.contents (λ c. s ≡ TooWide → Cause c task TooWide)
  wide_cause = if_some b.contents _ (λ c told. only_where TooWide c told (λ e. e))

  pub usage_cause : ExactlyWhere Usage s (task ≡ None)
  usage_cause = record {
    only = λ e. (causes task words).usage b.contents o.text (answers Usage e);
    always = λ none. unless_cut s (work_of task) o.text b a o.answers (λ e. without_task b.contents task s o.text none e);
  }

  pub bad_plan_cause : IfSome b.contents (λ c. ComesWhere BadPlan s (Cause c task BadPlan) (SureCause c task BadPlan))
  bad_plan_cause = if_some b.contents _ (λ c told. comes BadPlan c told (λ e. e))

  pub bad_line_cause : IfSome b.contents (λ c. ComesWhere BadTrace s (Cause c task BadTrace) (SureCause c task BadTrace))
  bad_line_cause = if_some b.contents _ (λ c told. comes BadTrace c told (λ e. e))

  pub long_cause : IfSome b.contents (λ c. ComesWhere TooLong s (Cause c task TooLong) (SureCause c task TooLong))
  long_cause = if_some b.contents _ (λ c told. comes TooLong c told (λ e. e))

  pub other_nodes_cause : IfSome b.contents (λ c. ComesWhere OtherNodes s (Cause c task OtherNodes) (SureCause c task OtherNodes))
  other_nodes_cause = if_some b.contents _ (λ c told. comes OtherNodes c told (λ e. e))

  pub bad_capture_cause : IfSome b.contents (λ c. ComesWhere BadCapture s (Cause c task BadCapture) (SureCause c task BadCapture))
  bad_capture_cause = if_some b.contents _ (λ c told. comes BadCapture c told (λ e. e))

  pub differs_cause : IfSome b.contents (λ c. ComesWhere Differs s (Cause c task Differs) (SureCause c task Differs))
  differs_cause = if_some b.contents _ (λ c told. comes Differs c told (λ e. e))

  complete_by : (c : Contents) → b.contents ≡ Some c → IsFaultless c task → (t : Status) → s ≡ t → IsResult t ⊎ IsCut t
  complete_by c told f Done e = inl tt
  complete_by c told f Refused e = inl tt
  complete_by c told f TooWide e = inl tt
  complete_by c told f Differs e = inl tt
  complete_by c told f Usage e = absurd (f.words ((causes task words).usage b.contents o.text (answers Usage e)))
  complete_by c told f BadPlan e = absurd (f.plan (only_where BadPlan c told (λ a. a) e))
  complete_by c told f BadTrace e = absurd (f.trace (only_where BadTrace c told (λ a. a) e))
  complete_by c told f BadCapture e = absurd (f.capture (only_where BadCapture c told (λ a. a) e))
  complete_by c told f TooLong e = absurd (f.long (only_where TooLong c told (λ a. a) e))
  complete_by c told f OtherNodes e = absurd (f.relays (only_where OtherNodes c told (λ a. a) e))
  complete_by c told f NoMemory e = inr tt
  complete_by c told f ReadFault e = inr tt
  complete_by c told f WriteFault e = inr tt

  pub complete_told : IfSome b.contents (λ c. IsFaultless c task → IsResult s ⊎ IsCut s)
  complete_told = if_some b.contents _ (λ c told f. complete_by c told f s refl)

  pub read_cause : s ≡ ReadFault → Rose b.read_faults a.read_faults
  read_cause e = (answers ReadFault e).0

  pub write_cause : s ≡ WriteFault → Rose b.write_faults a.write_faults
  write_cause e = (answers WriteFault e).0

  -- sound files that have each file which the work may read do not fail
  spared : IsTrue b.sound → (c : Contents) → b.contents ≡ Some c → HasFiles c (work_of task)
      → (a.read_faults ≡ b.read_faults) × (b.read_faults < 2 ^ 64 - 1 → s ≢ ReadFault)
  spared h c told has =
      let same : a.read_faults ≡ b.read_faults = subst (λ k. IfSome k (λ d. HasFiles d (work_of task) → a.read_faults ≡ b.read_faults)) told
      (o.spared h) has in
      (same, λ few e. stays same few (read_cause e)) where
        stays : a.read_faults ≡ b.read_faults → b.read_faults < 2 ^ 64 - 1 → Rose b.read_faults a.read_faults → ⊥
        stays same few (inl rose) = absurd (omega arith)
        stays same few (inr end) = absurd (omega arith)

  pub sound_cause : IsTrue b.sound → IfSome b.contents (λ c. HasFiles c (work_of task)
      → (a.read_faults ≡ b.read_faults) × (b.read_faults < 2 ^ 64 - 1 → s ≢ ReadFault))
  sound_cause h = if_some b.contents _ (λ c told has. spared h c told has)

  pub named_cause : IsTrue b.sound → IfSome b.contents (λ c. HasNamedFiles c task
      → (a.read_faults ≡ b.read_faults) × (b.read_faults < 2 ^ 64 - 1 → s ≢ ReadFault))
  named_cause h = if_some b.contents _ (λ c told has. spared h c told ((causes task words).files c has))
