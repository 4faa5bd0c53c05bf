-- The messages of a batch that several workers routed, or one.
use Rattle.std.proofs.Common.{◌≡◌, ◌<◌, ◌≤◌, ◌+◌, ◌%◌, ℕ, zero, suc, List, [], ◌∷◌, ◌++◌, length, map, drop, Some, Result, Ok, Err, refl}
use Rattle.std.proofs.Common.{sym, ◌∙◌, ap, subst, arith, inr, length-append, append_assoc, append-nil}
use Rattle.std.proofs.lemmas.List.{length-map, map-append}
use Rattle.std.proofs.lemmas.List.Elements.{All-nil, All-cons, All-head, All-tail, All-from_get_or, All-get_or}
use Rattle.std.proofs.lemmas.Option.{slice_get_within}
use Rattle.std.specs.List.{All, AllByRecursion}
use Rattle.std.specs.Prelude.{IfOk, OnOk, slice_get, slice_index, slice_index_or}
use mathlib.Core.List.{IsPrefix}
use Rattle.plan_check.specs.Verified.{Verified}
use Rattle.plan_model.specs.Network.{Network}
use Rattle.relay_net.specs.Batches.{Incoming}
use Rattle.relay_net.specs.Journeys.{journey}
use Rattle.relay_net.specs.States.{State, markings_of}
use Rattle.relay_net.specs.declared.job.Job.{Job}
use Rattle.relay_net.specs.declared.served.Served.{Served}
use Rattle.sccp_base.specs.declared.mark.Mark.{Mark}
use Rattle.live_plan.specs.Batches.{AreServed}
use Rattle.live_plan.specs.Plans.{HaveNodes}
use Rattle.live_plan.proofs.Passed.{has_within}
use Rattle.sccp_work.specs.Numbers.{NeverFall}
use Rattle.sccp_replay.specs.Incoming.{incoming_in}
use Rattle.sccp_replay.specs.Replay.{Standing, Settled, prints, routes, accepted, plan_at}
use Rattle.sccp_replay.specs.Replayers.{AreRouted, ComesToNode, IsRouted, RoutesBatch, RoutesLine, job_of, jobs_from, number_in, numbers_of}
use Rattle.sccp_replay.specs.Replayers.{settled_in}
use Rattle.sccp_replay.specs.Routings.{Routing, ArePlans, IsCrew, IsPlanOf, ahead, plan_in, routing, standing}
use Rattle.sccp_replay.specs.declared.settled as code
use Rattle.sccp_replay.specs.declared.settled.Settled.TheVariants.{Prints, Routes}
use Rattle.sccp_replay.proofs.ReplayerLemmas.{all_ahead, has_plan, is_routed}

-- ---- one worker

-- so far these answers, whatever follows them
pub record RoutedSoFar (at : Standing) (markings : List (List Mark)) (all left : List Settled) (served : List Served) : Type 0 where
  pub routed : (more : List Served) → AreRouted at markings left more → AreRouted at markings all (served ++ more)
  pub numbers : map number_in served ++ numbers_of left ≡ numbers_of all

pub none_routed : (at : Standing) (markings : List (List Mark)) (all : List Settled) → RoutedSoFar at markings all all []
none_routed at markings all = record { routed = λ more h. h; numbers = refl }

pub more_routed : (at : Standing) (markings : List (List Mark)) (all left : List Settled) (s : Settled) (served after : List Served)
    → RoutedSoFar at markings all (s ∷ left) served → RoutesLine at markings s served after → RoutedSoFar at markings all left after
more_routed at markings all left (prints text) served after far line = subst (RoutedSoFar at markings all left) (sym line)
    (record { routed = far.routed; numbers = far.numbers })
more_routed at markings all left (routes l x number) served after far line = subst (RoutedSoFar at markings all left) (sym line.1) (record {
  routed = λ more h. subst (AreRouted at markings all) (sym (append_assoc served (line.0 ∷ []) more))
      (far.routed (line.0 ∷ more) (line.3, h));
  numbers = ap (λ ns. ns ++ numbers_of left) (map-append number_in served (line.0 ∷ []))
      ∙ append_assoc (map number_in served) (line.0.number ∷ []) (numbers_of left)
      ∙ ap (λ n. map number_in served ++ n ∷ numbers_of left) line.2 ∙ far.numbers;
})

pub all_routed : (at : Standing) (markings : List (List Mark)) (all : List Settled) (served : List Served)
    → RoutedSoFar at markings all [] served → AreRouted at markings all served × (map number_in served ≡ numbers_of all)
all_routed at markings all served far = (
  subst (AreRouted at markings all) (append-nil served) (far.routed [] tt),
  sym
      (append-nil (map number_in served)) ∙ far.numbers,
)

-- ---- the jobs of several

pub entries_fit : (plan : Network) (i : ℕ) (settled : List code.Settled.Settled) → All (ComesToNode plan) settled
    → All (λ (job : Job). job.entry < length plan.nodes) (jobs_from i (map settled_in settled))
entries_fit plan i [] fits = All-nil (λ (job : Job). job.entry < length plan.nodes)
entries_fit plan i (Prints text ∷ settled) fits = entries_fit plan i settled (All-tail (ComesToNode plan) (Prints text) settled fits)
entries_fit plan i (Routes line x before ∷ settled) fits =
    let one = Routes line x before in
    All-cons (λ (job : Job). job.entry < length plan.nodes) _ (jobs_from (i + 1) (map settled_in settled))
    (All-head (ComesToNode plan) one settled fits)
    (entries_fit plan (i + 1) settled (All-tail (ComesToNode plan) one settled fits))

-- a line gives one job at most
pub one_job : (jobs after : List Job) (s : Settled) → after ≡ jobs ++ jobs_from (length jobs) (s ∷ []) → length after ≤ length jobs + 1
one_job jobs after s is = let e : length after ≡ length (jobs ++ jobs_from (length jobs) (s ∷ [])) =
    ap length is in omega (arith, e, length-append jobs (jobs_from (length jobs) (s ∷ [])), at_most s) where
      at_most : (t : Settled) → length (jobs_from (length jobs) (t ∷ [])) ≤ 1
      at_most (prints text) = omega arith
      at_most (routes line x before) = omega arith

pub job_added : (jobs after : List Job) (s : Settled) (left : List Settled) → after ≡ jobs ++ jobs_from (length jobs) (s ∷ [])
    → after ++ jobs_from (length after) left ≡ jobs ++ jobs_from (length jobs) (s ∷ left)
job_added jobs after (prints text) left is = ap (λ js. js ++ jobs_from (length js) left) (is ∙ append-nil jobs)
job_added jobs after (routes line x before) left is =
    ap (λ js. js ++ jobs_from (length js) left) is
    ∙ ap (λ n. (jobs ++ job_of (length jobs) x ∷ []) ++ jobs_from n left) (length-append jobs (job_of (length jobs) x ∷ []))
    ∙ append_assoc jobs (job_of (length jobs) x ∷ []) (jobs_from (length jobs + 1) left)

both_nodes : (nodes : ℕ) (a : Verified) (coming : List Verified) → length a.plan.nodes ≡ nodes → HaveNodes nodes coming
    → HaveNodes nodes (a ∷ coming)
both_nodes nodes a coming one rest zero plan at = let same : a ≡ plan = cc in subst (λ (p : Verified). length p.plan.nodes ≡ nodes) same one
both_nodes nodes a coming one rest (suc i) plan at = rest i plan at

-- each plan that is added has this number of nodes
pub coming_nodes : (nodes : ℕ) (later coming : List Verified) → All (IsPlanOf nodes) (map plan_in later ++ map plan_in coming)
    → HaveNodes nodes coming
coming_nodes nodes (a ∷ later) coming all = coming_nodes nodes later coming
    (All-tail (IsPlanOf nodes) a.plan (map plan_in later ++ map plan_in coming) all)
coming_nodes nodes [] [] all = λ i plan at. absurd cc
coming_nodes nodes [] (a ∷ coming) all = both_nodes nodes a coming (All-head (IsPlanOf nodes) a.plan (map plan_in coming) all).1
    (coming_nodes nodes [] coming (All-tail (IsPlanOf nodes) a.plan (map plan_in coming) all))

pub crew_entries : (first : Network) (nodes : ℕ) (settled : List code.Settled.Settled) (jobs : List Job) → nodes ≡ length first.nodes
    → jobs ≡ jobs_from 0 (map settled_in settled) → All (ComesToNode first) settled → All (λ (job : Job). job.entry < nodes) jobs
crew_entries first nodes settled jobs same is fits =
    subst (λ js. All (λ (job : Job). job.entry < nodes) js) (sym is)
    (subst (λ n. All (λ (job : Job). job.entry < n) (jobs_from 0 (map settled_in settled))) (sym same)
    (entries_fit first 0 settled fits))

-- ---- what stays of several workers

pub all_last : {W : Type 0} (ws ws' : List W) (f : W → ℕ) (n n' : ℕ) → n' ≡ n → length ws' ≡ length ws
    → ((i : ℕ) (d : W) → i < length ws → f (slice_index_or ws' i d) ≡ f (slice_index_or ws i d)) → All (λ w. f w ≡ n) ws
    → All (λ w. f w ≡ n') ws'
all_last ws [] f n n' same long each all = All-nil (λ w. f w ≡ n')
all_last ws (w ∷ ws') f n n' same long each all =
    All-from_get_or (λ v. f v ≡ n') (w ∷ ws') w (λ i lt. let within : i < length ws = omega (arith, lt, long) in each i w within
    ∙ All-get_or (λ v. f v ≡ n) ws i w within all ∙ sym same)

all_front : {X : Type 0} (P : X → Type 0) (xs ys : List X) → All P (xs ++ ys) → All P xs
all_front P [] ys all = All-nil P
all_front P (x ∷ xs) ys all = All-cons P x xs (All-head P x (xs ++ ys) all) (all_front P xs ys (All-tail P x (xs ++ ys) all))

fewer_plans : (first : Network) (xs ys : List Network) → ArePlans first (xs ++ ys) → ArePlans first xs
fewer_plans first xs ys are = record {
  few = let few = are.few in omega
      (arith, few, length-append xs ys);
  sound = are.sound;
  alike = all_front (IsPlanOf (length first.nodes)) xs ys are.alike;
}

-- some of the plans were published, up to a number
pub crew_stays : (plans plans' coming : List Verified) (nodes nodes' workers workers' : ℕ) (first : Verified)
    → IsCrew plans nodes workers first (drop 1 plans) → ArePlans first.plan (map plan_in (drop 1 plans) ++ map plan_in coming)
    → IsPrefix plans plans' → IsPrefix plans' (plans ++ coming) → nodes' ≡ nodes → workers' ≡ workers
    → IsCrew plans' nodes' workers' first (drop 1 plans')
crew_stays plans plans' coming nodes nodes' workers workers' first is are p q same_nodes same_workers =
    let later : List Verified = drop 1 plans in
    let later' : List Verified = drop 1 plans' in
    let long : plans' ≡ first ∷ (later ++ p.0) = sym p.1 ∙ ap (λ ps. ps ++ p.0) is.begins in
    let begins : plans' ≡ first ∷ later' = long ∙ ap (λ l. first ∷ l) (sym (ap (drop 1) long)) in
    let tails : later' ++ q.0 ≡ later ++ coming = sym (ap (λ ps. drop 1 (ps ++ q.0)) begins) ∙ ap (drop 1) q.1
    ∙ ap (λ ps. drop 1 (ps ++ coming)) is.begins in
    let nets : map plan_in later' ++ map plan_in q.0 ≡ map plan_in later ++ map plan_in coming = sym (map-append plan_in later' q.0)
    ∙ ap (map plan_in) tails ∙ map-append plan_in later coming in
    record {
      several = subst (λ n. 1 < n) (sym same_workers) is.several;
      few = subst (λ n. n ≤ 16) (sym same_workers) is.few;
      begins = begins;
      nodes_are = same_nodes ∙ is.nodes_are;
      plans_are = fewer_plans first.plan (map plan_in later') (map plan_in q.0) (subst (ArePlans first.plan) (sym nets) are);
    }

pub crew_at : {A E : Type 0} (r : Result A E) (plans plans' coming : List Verified) (workers workers' : ℕ) (first : Verified)
    (states : List State) (now : Routing) → plans ≡ first ∷ drop 1 plans → routing workers first (drop 1 plans) ≡ now → workers' ≡ workers
    → OnOk r (plans' ≡ plans ++ coming)
    → OnOk r (standing (routing workers' first (drop 1 plans')) states ≡ ahead (standing now states) coming)
crew_at (Ok x) plans plans' coming workers workers' first states now begins view same e =
    let tails : drop 1 plans' ≡ drop 1 plans ++ coming = ap (drop 1) e ∙ ap (λ ps. drop 1 (ps ++ coming)) begins in
    ap (λ n. standing (routing n first (drop 1 plans')) states) same ∙ ap (λ l. standing (routing workers first l) states) tails
    ∙ all_ahead workers first (drop 1 plans) coming states ∙ ap (λ r. ahead (standing r states) coming) view
crew_at (Err fault) plans plans' coming workers workers' first states now begins view same e = tt

-- ---- the answers of several

each_routed : (at : Standing) (markings : List (List Mark)) (i : ℕ) (settled : List code.Settled.Settled) (served : List Served)
    → length served ≡ length (jobs_from i (map settled_in settled)) → All (ComesToNode at.first) settled
    → ((k index : ℕ) (x : Incoming) (s : Served) → x.entry < length at.first.nodes
    → slice_get (jobs_from i (map settled_in settled)) k ≡ Some (job_of index x) → slice_get served k ≡ Some s
    → IsRouted at markings x s)
    → AreRouted at markings (map settled_in settled) served
each_routed at markings i [] [] long fits each = tt
each_routed at markings i [] (s ∷ served) long fits each = absurd (omega (arith, long))
each_routed at markings i (Prints text ∷ settled) served long fits each = each_routed at markings i settled served long
    (All-tail (ComesToNode at.first) (Prints text) settled fits) each
each_routed at markings i (Routes line x before ∷ settled) [] long fits each = absurd (omega (arith, long))
each_routed at markings i (Routes line x before ∷ settled) (s ∷ served) long fits each =
    let one = Routes line x before in (
      each 0 i (incoming_in x) s (All-head (ComesToNode at.first) one settled fits) refl refl,
      each_routed at markings (i + 1) settled served (omega (arith, long)) (All-tail (ComesToNode at.first) one settled fits)
          (λ k index y t lt job answer. each (suc k) index y t lt job answer),
    )

as_many : (i : ℕ) (settled : List Settled) → length (jobs_from i settled) ≡ length (numbers_of settled)
as_many i [] = refl
as_many i (prints text ∷ settled) = as_many i settled
as_many i (routes line x before ∷ settled) = ap suc (as_many (i + 1) settled)

each_number : (P : ℕ → Type 0) (served : List Served) → ((k : ℕ) (s : Served) → slice_get served k ≡ Some s → P s.number)
    → AllByRecursion P (map number_in served)
each_number P [] each = tt
each_number P (s ∷ served) each = (each 0 s refl, each_number P served (λ k t at. each (suc k) t at))

number_read : (served : List Served) (i : ℕ) → i < length (map number_in served) → (s : Served) × (slice_get served i ≡ Some s)
    × (slice_index (map number_in served) i ≡ s.number)
number_read [] i lt = absurd (omega (arith, lt))
number_read (s ∷ served) zero lt = (s, refl, refl)
number_read (s ∷ served) (suc i) lt = number_read served i (omega (arith, lt))

abbrev Rising : ℕ → List Served → Type 0
Rising count served = (i j : ℕ) (s t : Served) → i ≤ j → i % count ≡ j % count → slice_get served i ≡ Some s → slice_get served j ≡ Some t
    → s.number ≤ t.number

never_fall : (count : ℕ) (served : List Served) → Rising count served → NeverFall count (map number_in served)
never_fall count served rising i j lt within same =
    let a = number_read served i (omega (arith, lt, within)) in
    let b = number_read served j within in
    subst (λ n. n ≤ slice_index (map number_in served) j) (sym a.2)
    (subst (λ n. a.0.number ≤ n) (sym b.2) (rising i j a.0 b.0 (omega (arith, lt)) same a.1 b.1))

some_at : {X : Type 0} (xs : List X) (k : ℕ) → k < length xs → (x : X) × (slice_get xs k ≡ Some x)
some_at [] k lt = absurd (omega (arith, lt))
some_at (x ∷ xs) zero lt = (x, refl)
some_at (x ∷ xs) (suc k) lt = some_at xs k (omega (arith, lt))

module _ (r : Routing) (states : List State) (settled : List code.Settled.Settled) (coming plans : List Verified) (served : List Served)
    (several : 1 < r.workers)
    (begins : plans ≡ r.first ∷ r.later)
    (are : ArePlans r.first.plan (ahead (standing r states) coming).later)
    (fits : All (ComesToNode r.first.plan) settled)
    (h : AreServed (plans ++ coming) states (jobs_from 0 (map settled_in settled)) r.workers (length plans) served) where
  abbrev after : Standing
  after = standing (routing r.workers r.first (r.later ++ coming)) states

  is_ahead : after ≡ ahead (standing r states) coming
  is_ahead = all_ahead r.workers r.first r.later coming states

  all_plans : plans ++ coming ≡ r.first ∷ (r.later ++ coming)
  all_plans = ap (λ ps. ps ++ coming) begins

  one_routed : (k index : ℕ) (x : Incoming) (s : Served) → x.entry < length r.first.plan.nodes
      → slice_get (jobs_from 0 (map settled_in settled)) k ≡ Some (job_of index x) → slice_get served k ≡ Some s
      → IsRouted (ahead (standing r states) coming) (markings_of states) x s
  one_routed k index x s lt job answer =
      let given = (h.each k (job_of index x) s job answer).0 in
      let same = has_plan (routing r.workers r.first (r.later ++ coming)) states
      (plans ++ coming) s.number given.plan all_plans given.has in
      let there : plan_at after s.number ≡ plan_at (ahead (standing r states) coming) s.number =
      ap (λ (a : Standing). plan_at a s.number) is_ahead in
      is_routed (ahead (standing r states) coming) (markings_of states) x s are lt (given.journey
      ∙ ap (λ p. journey p (markings_of states) x.entry x.origin x.octets) (same ∙ there))

  one_number : (k : ℕ) (s : Served) → slice_get served k ≡ Some s → (accepted (standing r states) ≤ s.number)
      × (s.number ≤ accepted (ahead (standing r states) coming))
  one_number k s answer =
      let job = some_at (jobs_from 0 (map settled_in settled)) k (omega (arith, slice_get_within served k s answer, h.long)) in
      let given = h.each k job.0 s job.1 answer in
      let few = has_within (plans ++ coming) s.number given.0.plan given.0.has in (
        omega (arith, given.1, ap length begins, length-map r.later plan_in),
        omega (
          arith,
          few,
          ap length all_plans,
          length-append r.later coming,
          length-append (map plan_in r.later)
              (map plan_in coming),
          length-map r.later plan_in,
          length-map coming plan_in,
        ),
      )

  pub served_batch : RoutesBatch (standing r states) (ahead (standing r states) coming) (map settled_in settled) served
  served_batch = record {
    routed = each_routed (ahead (standing r states) coming) (markings_of states) 0 settled served h.long fits one_routed;
    numbers = inr (
      λ one. omega (arith, one, several),
      record {
        each = length-map served number_in ∙ h.long ∙ as_many 0 (map settled_in settled);
        range = each_number (λ n. (accepted (standing r states) ≤ n) × (n ≤ accepted (ahead (standing r states) coming))) served one_number;
        shares = never_fall r.workers served h.rising;
      },
    );
  }

pub crew_served : {E : Type 0} (result : Result (List Served) E) (plans plans' coming : List Verified) (workers : ℕ) (first : Verified)
    (states : List State) (now : Routing) (settled : List code.Settled.Settled) (jobs : List Job) → 1 < workers
    → plans ≡ first ∷ drop 1 plans → routing workers first (drop 1 plans) ≡ now → OnOk result (plans' ≡ plans ++ coming)
    → jobs ≡ jobs_from 0 (map settled_in settled) → ArePlans now.first.plan (ahead (standing now states) coming).later
    → All (ComesToNode now.first.plan) settled → IfOk result (AreServed plans' states jobs workers (length plans))
    → IfOk result (RoutesBatch (standing now states) (ahead (standing now states) coming) (map settled_in settled))
crew_served (Ok served) plans plans' coming workers first states now settled jobs several begins view e is are fits h =
    subst (λ r. RoutesBatch (standing r states) (ahead (standing r states) coming) (map settled_in settled) served) view
    (served_batch (routing workers first (drop 1 plans)) states settled coming plans served several begins
    (subst (λ r. ArePlans r.first.plan (ahead (standing r states) coming).later) (sym view) are)
    (subst (λ r. All (ComesToNode r.first.plan) settled) (sym view) fits)
    (subst (λ js. AreServed (plans ++ coming) states js workers (length plans) served) is
    (subst (λ ps. AreServed ps states jobs workers (length plans) served) e h)))
crew_served (Err fault) plans plans' coming workers first states now settled jobs several begins view e is are fits h = tt
