-- Why messages are unexplained, over every list of events.
use Rattle.std.proofs.Common.{◌≡◌, ℕ, zero, suc, ◌<◌, Bool, true, false, List, [], ◌∷◌, length, take, Option, Some, None, refl, sym, ◌∙◌}
use Rattle.std.proofs.Common.{ap}
use Rattle.std.proofs.Common.{subst, get_or, ⊎_elim, arith}
use Rattle.std.specs.Prelude.{if◌then◌else◌, IsSomeAnd, slice_get, Result, Ok, Err}
use Rattle.std.specs.List.{All}
use Rattle.sccp_base.proofs.Among.{Among, Among-slice_get}
use Rattle.sccp_address.specs.declared.address.Address.{Address}
use Rattle.sccp_message.specs.declared.fault.DecodeFault.{DecodeFault}
use Rattle.sccp_message.specs.declared.message.Message.{Message}
use Rattle.sccp_message.specs.Reading.{reading}
use Rattle.sccp_message.specs.Unitdata.{called_of}
use Rattle.plan_model.specs.Network.{Network}
use Rattle.relay_ways.specs.declared.reason.Reason.{Reason}
use Rattle.relay_watch.specs.Arrivals.{source, is_management}
use Rattle.relay_watch.specs.Kept.{Kept, nothing_kept, is_unexplained}
use Rattle.relay_watch.specs.Reasons.{SendsUnder}
use Rattle.relay_watch.specs.Runs.{AreJudged, HasVerdict, NumbersDiffer}
use Rattle.relay_watch.specs.Verdicts.{of_unsent, by_source, by_called, verdict_of, said_by}
use Rattle.relay_watch.specs.Watching.{IsWatched, AreWatched}
use Rattle.relay_watch.specs.WhyRuns.{Shares, waiting_before, IsNearest, HasNearest, HasNone, WasAnswered}
use Rattle.relay_watch.specs.Whys.{nearest, IsAgain, SaysWhy, IsWhy, IsWhyBy, IsWhyFrom, IsWhyOf}
use Rattle.relay_watch.specs.declared.event.Event.{Event}
use Rattle.relay_watch.specs.declared.found.Found.{Found}
use Rattle.relay_watch.specs.declared.line.Line.{Line}
use Rattle.relay_watch.specs.declared.near.Near.{Near}
use Rattle.relay_watch.specs.declared.verdict.Verdict.{Verdict}
use Rattle.relay_watch.specs.declared.verdict.Verdict.TheVariants as verdicts
use Rattle.relay_watch.specs.declared.waiting.Waiting.{Waiting}
use Rattle.relay_watch.specs.declared.why.Why.{Why}
use Rattle.relay_watch.specs.declared.why.Why.TheVariants.{By, Again, NoArrival}
use Rattle.relay_watch.proofs.Agree.{in_front}
use Rattle.relay_watch.proofs.AnsweredBefore.{HasBegun, IsAnswer, answers_from}
use Rattle.relay_watch.proofs.NearestOf.{is_nearest, none_near}
use Rattle.relay_watch.proofs.Once.{from_nothing}
use Rattle.relay_watch.proofs.WaitingBefore.{waiting_are}
use Rattle.relay_watch.proofs.Watched.{judged_by}

-- ---- what is kept before an event

record AtStep (plan : Network) (old : Kept) (events : List Event) (lines : List Line) (i : ℕ) (e : Event) (line : Line) : Type 0 where
  now : Kept
  next : Kept
  before : AreWatched plan old (take i events) (take i lines) now
  step : IsWatched plan now e line next

at_step : (plan : Network) (events : List Event) (lines : List Line) (old left : Kept) (i : ℕ) (e : Event) (line : Line)
    → AreWatched plan old events lines left
    → slice_get events i ≡ Some e → slice_get lines i ≡ Some line → AtStep plan old events lines i e line
at_step plan [] lines old left zero e line run at there = absurd cc
at_step plan [] lines old left (suc i) e line run at there = absurd cc
at_step plan (d ∷ events) [] old left i e line run at there = absurd run
at_step plan (d ∷ events) (l ∷ lines) old left zero e line run at there =
    let same : d ≡ e = cc in
    let also : l ≡ line = cc in
    record {
      now = old;
      next = run.0;
      before = refl;
      step = subst (λ (x : Event). IsWatched plan old x line run.0) same
          (subst (λ (x : Line). IsWatched plan old d x run.0) also run.1);
    }
at_step plan (d ∷ events) (l ∷ lines) old left (suc i) e line run at there =
    let s = at_step plan events lines run.0 left i e line run.2 at there in
    record { now = s.now; next = s.next; before = (run.0, run.1, s.before); step = s.step }

judged_all : (plan : Network) (events : List Event) (lines : List Line) (old now : Kept) → AreWatched plan old events lines now
    → AreJudged plan old.waiting events lines now.waiting
judged_all plan [] [] old now run = ap (λ (k : Kept). k.waiting) run
judged_all plan [] (line ∷ lines) old now run = absurd run
judged_all plan (d ∷ events) [] old now run = absurd run
judged_all plan (d ∷ events) (line ∷ lines) old now run =
    (run.0.waiting, judged_by plan old d line run.0 run.1, judged_all plan events lines run.0 now run.2)

-- ---- the line of an unexplained message

the_line : (lines : List Line) (i : ℕ) (v : Verdict) → HasVerdict lines i v → (line : Line) × (slice_get lines i ≡ Some line)
    × (line.verdict ≡ v)
the_line lines i v has = by (slice_get lines i) has where
  by : (o : Option Line) → IsSomeAnd o (λ (l : Line). l.verdict ≡ v) → (line : Line) × (o ≡ Some line) × (line.verdict ≡ v)
  by None h = absurd h
  by (Some l) h = (l, refl, h)

-- a relay sent the message
record ByRelay (plan : Network) (e : Event) : Type 0 where
  node : ℕ
  sent : source plan e ≡ Some node
  message : Message
  reads : reading e.octets ≡ Ok message

not_unsent : (m : Message) (a : Address) (o : Option ℕ) → is_unexplained (of_unsent m a o) ≡ false
not_unsent m a None = refl
not_unsent m a (Some node) = by (is_management a) where
  by : (b : Bool) → is_unexplained (if b then verdicts.Management (said_by m) else verdicts.Arrived) ≡ false
  by true = refl
  by false = refl

both : {b : Bool} → b ≡ true → b ≡ false → ⊥
both e f = cc

by_relay : (plan : Network) (e : Event) (found : Option Found) (why : Why) (r : Result Message DecodeFault) → reading e.octets ≡ r
    → is_unexplained (verdict_of plan e found why r) ≡ true → ByRelay plan e
by_relay plan e found why (Err fault) reads u = absurd (both u refl)
by_relay plan e found why (Ok m) reads u = by_address (called_of m) u where
  by_node : (a : Address) (o : Option ℕ) → source plan e ≡ o → is_unexplained (by_source plan e m a found why o) ≡ true → ByRelay plan e
  by_node a None there k = absurd (both k (not_unsent m a _))
  by_node a (Some node) there k = record { node = node; sent = there; message = m; reads = reads }

  by_address : (o : Option Address) → is_unexplained (by_called plan e m found why o) ≡ true → ByRelay plan e
  by_address None k = absurd (both k refl)
  by_address (Some a) k = by_node a (source plan e) refl k

-- what an unexplained message says of those that wait and were answered before it
record Reasoned (plan : Network) (events : List Event) (lines : List Line) (i : ℕ) (e : Event) (why : Why) : Type 0 where
  relay : ByRelay plan e
  now : Kept
  before : AreWatched plan (nothing_kept plan) (take i events) (take i lines) now
  says : IsWhy plan now.waiting now.answered relay.node e.destination relay.message why

reasoned : (plan : Network) (events : List Event) (lines : List Line) (left : Kept) (i : ℕ) (e : Event) (why : Why)
    → AreWatched plan (nothing_kept plan) events lines left → slice_get events i ≡ Some e → HasVerdict lines i (verdicts.Unexplained why)
    → Reasoned plan events lines i e why
reasoned plan events lines left i e why run at has =
    let l = the_line lines i (verdicts.Unexplained why) has in
    let s = at_step plan events lines (nothing_kept plan) left i e l.0 run at l.1 in
    let r : ByRelay plan e = by_relay plan e s.step.found s.step.why (reading e.octets) refl
    (ap is_unexplained (sym s.step.verdict_is ∙ l.2)) in
    record {
      relay = r;
      now = s.now;
      before = s.before;
      says = subst (SaysWhy plan s.now.waiting s.now.answered r.node e.destination r.message) l.2
          (subst (IsWhyFrom plan s.now.waiting s.now.answered e.destination r.message l.0.verdict) r.sent
          (subst (λ (x : Result Message DecodeFault). IsWhyOf plan s.now.waiting s.now.answered e x l.0.verdict) r.reads s.step.says_why));
    }

front_at : (xs : List Event) (i k : ℕ) (d : Event) → k < length (take i xs) → get_or (take i xs) k d ≡ get_or xs k d
front_at xs zero k d lt = absurd (omega (arith, lt))
front_at [] (suc i) k d lt = absurd (omega (arith, lt))
front_at (x ∷ xs) (suc i) zero d lt = refl
front_at (x ∷ xs) (suc i) (suc k) d lt = front_at xs i k d (omega (arith, lt))

front_within : (xs : List Event) (i k : ℕ) → k < length (take i xs) → k < length xs
front_within xs zero k lt = absurd (omega (arith, lt))
front_within [] (suc i) k lt = absurd (omega (arith, lt))
front_within (x ∷ xs) (suc i) zero lt = omega arith
front_within (x ∷ xs) (suc i) (suc k) lt = let r = front_within xs i k (omega (arith, lt)) in omega (arith, r)

differ_front : (events : List Event) (i : ℕ) → NumbersDiffer events → NumbersDiffer (take i events)
differ_front events i differ j k d lt within same =
    differ j k d lt (front_within events i k within)
    (ap (λ (x : Event). x.number) (sym (front_at events i j d (omega (arith, lt, within)))) ∙ same
    ∙ ap (λ (x : Event). x.number) (front_at events i k d within))

-- those that wait before it
waiting_is : (plan : Network) (events : List Event) (lines : List Line) (i : ℕ) (now : Kept) → NumbersDiffer events
    → AreWatched plan (nothing_kept plan) (take i events) (take i lines) now → waiting_before plan events lines i ≡ now.waiting
waiting_is plan events lines i now differ run =
    waiting_are plan (take i events) (take i lines) [] now.waiting
    (judged_all plan (take i events) (take i lines) (nothing_kept plan) now run)
    (from_nothing (take i events) (differ_front events i differ))

-- ---- by the nearest

abbrev number_by : Why → ℕ
number_by (By number reason) = number
number_by (Again number) = number
number_by NoArrival = 0

abbrev reason_by : Reason → Why → Reason
reason_by r (By number reason) = reason
reason_by r (Again number) = r
reason_by r NoArrival = r

pub has_nearest : (plan : Network) (events : List Event) (lines : List Line) (left : Kept) (i number : ℕ) (reason : Reason) (e : Event)
    → AreWatched plan (nothing_kept plan) events lines left → NumbersDiffer events → slice_get events i ≡ Some e
    → HasVerdict lines i (verdicts.Unexplained (By number reason)) → HasNearest plan events lines i e number reason
has_nearest plan events lines left i number reason e run differ at has =
    let r = reasoned plan events lines left i e (By number reason) run at has in
    record {
      node = r.relay.node;
      sent = r.relay.sent;
      message = r.relay.message;
      reads = r.relay.reads;
      nearest = subst (λ (ws : List Waiting). IsNearest plan ws r.relay.node e.destination r.relay.message number reason)
          (sym (waiting_is plan events lines i r.now differ r.before))
          (by r.now r.relay (nearest plan r.now.waiting r.relay.node e.destination r.relay.message) refl r.says);
    }
  where
    by : (now : Kept) (k : ByRelay plan e) (o : Option Near) → nearest plan now.waiting k.node e.destination k.message ≡ o
        → IsWhyBy plan now.answered k.node e.destination k.message (By number reason) o
        → IsNearest plan now.waiting k.node e.destination k.message number reason
    by now k None is says = absurd says
    by now k (Some n) is says =
        subst (λ m. IsNearest plan now.waiting k.node e.destination k.message m reason) (sym (ap number_by says))
        (subst (λ x. IsNearest plan now.waiting k.node e.destination k.message n.number x) (sym (ap (reason_by reason) says))
        (is_nearest plan now.waiting k.node e.destination k.message n is))

-- ---- no arrival with the data

abbrev is_by : Why → Bool
is_by (By number reason) = true
is_by (Again number) = false
is_by NoArrival = false

nothing_near : (plan : Network) (events : List Event) (lines : List Line) (left : Kept) (i : ℕ) (why : Why) (e : Event)
    → AreWatched plan (nothing_kept plan) events lines left → NumbersDiffer events → slice_get events i ≡ Some e
    → HasVerdict lines i (verdicts.Unexplained why) → is_by why ≡ false → HasNone plan events lines i e
nothing_near plan events lines left i why e run differ at has other =
    let r = reasoned plan events lines left i e why run at has in
    record {
      node = r.relay.node;
      sent = r.relay.sent;
      message = r.relay.message;
      reads = r.relay.reads;
      none = subst (λ (ws : List Waiting). All (λ w. Shares r.relay.node r.relay.message w → ⊥) ws)
          (sym (waiting_is plan events lines i r.now differ r.before))
          (by r.now r.relay (nearest plan r.now.waiting r.relay.node e.destination r.relay.message) refl r.says);
    }
  where
    by : (now : Kept) (k : ByRelay plan e) (o : Option Near) → nearest plan now.waiting k.node e.destination k.message ≡ o
        → IsWhyBy plan now.answered k.node e.destination k.message why o
        → All (λ w. Shares k.node k.message w → ⊥) now.waiting
    by now k None is says = none_near plan now.waiting k.node e.destination k.message is
    by now k (Some n) is says = absurd (both (ap is_by says) other)

pub no_arrival : (plan : Network) (events : List Event) (lines : List Line) (left : Kept) (i : ℕ) (e : Event)
    → AreWatched plan (nothing_kept plan) events lines left → NumbersDiffer events → slice_get events i ≡ Some e
    → HasVerdict lines i (verdicts.Unexplained NoArrival) → HasNone plan events lines i e
no_arrival plan events lines left i e run differ at has = nothing_near plan events lines left i NoArrival e run differ at has refl

-- ---- answered before

-- an item of the front of a list
taken_at : {X : Type 0} (xs : List X) (i k : ℕ) (x : X) → slice_get (take i xs) k ≡ Some x → (k < i) × (slice_get xs k ≡ Some x)
taken_at xs zero zero x at = absurd cc
taken_at xs zero (suc k) x at = absurd cc
taken_at [] (suc i) zero x at = absurd cc
taken_at [] (suc i) (suc k) x at = absurd cc
taken_at (y ∷ ys) (suc i) zero x at = (omega arith, at)
taken_at (y ∷ ys) (suc i) (suc k) x at = let r = taken_at ys i k x at in let lt = r.0 in (omega (arith, lt), r.1)

was_answered : (plan : Network) (events : List Event) (lines : List Line) (i number : ℕ) (e : Event)
    → (r : Reasoned plan events lines i e (Again number)) → IsAgain plan r.now.answered r.relay.node e.destination r.relay.message number
    → WasAnswered plan events lines i e number
was_answered plan events lines i number e r again =
    ⊎_elim (λ (k : Among again.one []). absurd k)
    (λ (a : IsAnswer plan [] (take i events) (take i lines) again.one).
    ⊎_elim (λ (k : Among again.one.arrival []). absurd k)
    (λ (b : HasBegun plan (take i events) again.one.arrival).
    let place = taken_at events i a.place a.answer a.at in
    let from = taken_at events i b.place b.event b.at in
    record {
      place = a.place;
      earlier = place.0;
      answer = a.answer;
      at = place.1;
      numbered = a.numbered ∙ again.numbered;
      by = again.one.arrival.number;
      told = a.told;
      explains = subst (λ (o : Option Line). IsSomeAnd o (λ line. line.verdict ≡ verdicts.Explained again.one.arrival.number a.told))
          (in_front lines a.place i place.0) a.explains;
      ways = again.ways;
      reason = record {
        place = b.place;
        earlier = from.0;
        arrival = b.event;
        at = from.1;
        numbered = sym b.begun.numbered;
        node = r.relay.node;
        arrives = b.begun.arrives ∙ ap Some again.reason.here;
        sent = r.relay.sent;
        message = r.relay.message;
        reads = r.relay.reads;
        under = subst (λ o. SendsUnder plan r.relay.node o b.event.octets e.destination r.relay.message again.ways) b.begun.origin_is
            (subst (λ x. SendsUnder plan r.relay.node again.one.arrival.origin x e.destination r.relay.message again.ways)
            b.begun.octets_are again.reason.under);
      };
    }) a.came)
    (answers_from plan (take i events) (take i lines) (nothing_kept plan) r.now again.one r.before
    (Among-slice_get r.now.answered again.place again.one again.at))

pub answered_again : (plan : Network) (events : List Event) (lines : List Line) (left : Kept) (i number : ℕ) (e : Event)
    → AreWatched plan (nothing_kept plan) events lines left → NumbersDiffer events → slice_get events i ≡ Some e
    → HasVerdict lines i (verdicts.Unexplained (Again number))
    → HasNone plan events lines i e × WasAnswered plan events lines i e number
answered_again plan events lines left i number e run differ at has =
    let r = reasoned plan events lines left i e (Again number) run at has in (
      nothing_near plan events lines left i (Again number) e run differ at has refl,
      was_answered plan events lines i number e r
          (by r.now r.relay (nearest plan r.now.waiting r.relay.node e.destination r.relay.message) r.says),
    )
  where
    by : (now : Kept) (k : ByRelay plan e) (o : Option Near) → IsWhyBy plan now.answered k.node e.destination k.message (Again number) o
        → IsAgain plan now.answered k.node e.destination k.message number
    by now k None says = says
    by now k (Some n) says = absurd (both refl (sym (ap is_by says)))
