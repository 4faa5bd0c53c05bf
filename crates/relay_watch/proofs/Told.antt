-- What lines say, over every list of events.
use Rattle.std.proofs.Common.{◌≡◌, ℕ, zero, suc, ◌<◌, true, false, List, [], ◌∷◌, take, Option, Some, None, refl, sym, ◌∙◌, ap, subst}
use Rattle.std.proofs.Common.{◌⊎◌, inl, inr, ⊎_elim, arith}
use Rattle.std.specs.Prelude.{slice_get, Ok}
use Rattle.std.specs.List.{list_any}
use Rattle.std.proofs.lemmas.Bool.{or_parts}
use Rattle.sccp_base.proofs.Among.{Among, All-among, Among-slice_get}
use Rattle.sccp_message.specs.declared.message.Message.{Message}
use Rattle.sccp_message.specs.Reading.{reading}
use Rattle.plan_model.specs.Network.{Network}
use Rattle.relay_ways.specs.declared.explanation.Explanation.{Explanation}
use Rattle.relay_watch.specs.Arrivals.{source, target, begins}
use Rattle.relay_watch.specs.Judging.{IsJudged}
use Rattle.relay_watch.specs.Reasons.{NeverSends, SendsUnder, IsNoReason}
use Rattle.relay_watch.specs.Runs.{AreJudged, HasVerdict, HasReason, IsUnnamed, lacks_reason, names}
use Rattle.relay_watch.specs.declared.event.Event.{Event}
use Rattle.relay_watch.specs.declared.line.Line.{Line}
use Rattle.relay_watch.specs.declared.verdict.Verdict.{Verdict}
use Rattle.relay_watch.specs.declared.verdict.Verdict.TheVariants.{Explained}
use Rattle.relay_watch.specs.declared.waiting.Waiting.{Waiting}
use Rattle.relay_watch.proofs.Steps.{line_names, nothing_found, Begun, begun, among_before, among_after, new_after}
use Rattle.relay_watch.proofs.DueLemmas.{never}

-- one that waited before the first event explains the message of this one
pub record FromWaiting (plan : Network) (old : List Waiting) (e : Event) (by : ℕ) (ways : List Explanation) : Type 0 where
  pub arrival : Waiting
  pub among : Among arrival old
  pub numbered : arrival.number ≡ by
  pub message : Message
  pub sent : source plan e ≡ Some arrival.node
  pub reads : reading e.octets ≡ Ok message
  pub under : SendsUnder plan arrival.node arrival.origin arrival.octets e.destination message ways

first_from : (plan : Network) (old : List Waiting) (e : Event) (line : Line) (next : List Waiting) (by : ℕ) (ways : List Explanation)
    → IsJudged plan old e line next → line.verdict ≡ Explained by ways → FromWaiting plan old e by ways
first_from plan old e line next by ways h v =
    let n = line_names plan old e line next by ways h v in
    let x = n.explaining in
    let r = x.first.reason in
    record {
      arrival = x.first.arrival;
      among = Among-slice_get old n.found.place x.first.arrival x.first.at;
      numbered = x.first.numbered ∙ n.numbered;
      message = x.message;
      sent = x.sent ∙ ap Some (sym r.here);
      reads = x.reads;
      under = subst (λ (k : ℕ). SendsUnder plan k x.first.arrival.origin x.first.arrival.octets e.destination x.message ways) (sym r.here)
          (subst (SendsUnder plan x.node x.first.arrival.origin x.first.arrival.octets e.destination x.message) n.ways_are r.under);
    }

-- the reason is an arrival that waited, or an event
later_reason : (plan : Network) (events : List Event) (i : ℕ) (d e : Event) (by : ℕ) (ways : List Explanation)
    → HasReason plan events i e by ways
    → HasReason plan (d ∷ events) (suc i) e by ways
later_reason plan events i d e by ways h = record {
  place = suc h.place;
  earlier = omega (arith, h.earlier);
  arrival = h.arrival;
  at = h.at;
  numbered = h.numbered;
  node = h.node;
  arrives = h.arrives;
  sent = h.sent;
  message = h.message;
  reads = h.reads;
  under = h.under;
}

begun_reason : (plan : Network) (events : List Event) (i : ℕ) (d e : Event) (by : ℕ) (ways : List Explanation) (w : Waiting)
    → Begun plan d w
    → w.number ≡ by → (m : Message) → source plan e ≡ Some w.node → reading e.octets ≡ Ok m
    → SendsUnder plan w.node w.origin w.octets e.destination m ways → HasReason plan (d ∷ events) (suc i) e by ways
begun_reason plan events i d e by ways w b numbered m sent reads under = record {
  place = 0;
  earlier = omega arith;
  arrival = d;
  at = refl;
  numbered = sym b.numbered ∙ numbered;
  node = w.node;
  arrives = b.arrives;
  sent = sent;
  message = m;
  reads = reads;
  under = subst (λ (o : ℕ). SendsUnder plan w.node o d.octets e.destination m ways) b.origin_is
      (subst (λ (x : List ℕ). SendsUnder plan w.node w.origin x e.destination m ways) b.octets_are under);
}

pub explained_from : (plan : Network) (events : List Event) (lines : List Line) (old left : List Waiting) (i by : ℕ) (e : Event)
    (ways : List Explanation) → AreJudged plan old events lines left → slice_get events i ≡ Some e → HasVerdict lines i (Explained by ways)
    → FromWaiting plan old e by ways ⊎ HasReason plan events i e by ways
explained_from plan [] lines old left zero by e ways run at has = absurd cc
explained_from plan [] lines old left (suc i) by e ways run at has = absurd cc
explained_from plan (d ∷ events) [] old left i by e ways run at has = absurd run
explained_from plan (d ∷ events) (line ∷ lines) old left zero by e ways run at has =
    let same : d ≡ e = cc in
    inl (subst (λ (x : Event). FromWaiting plan old x by ways) same (first_from plan old d line run.0 by ways run.1 has))
explained_from plan (d ∷ events) (line ∷ lines) old left (suc i) by e ways run at has =
    ⊎_elim
    (λ (f : FromWaiting plan run.0 e by ways).
    ⊎_elim
    (λ (waited : Among f.arrival old).
    inl (record {
      arrival = f.arrival;
      among = waited;
      numbered = f.numbered;
      message = f.message;
      sent = f.sent;
      reads = f.reads;
      under = f.under;
    }))
    (λ (new : begins plan d (reading d.octets) ≡ Some f.arrival).
    inr (begun_reason plan events i d e by ways f.arrival (begun plan d (reading d.octets) f.arrival new) f.numbered f.message f.sent
    f.reads f.under))
    (among_before plan old d line run.0 f.arrival run.1 f.among))
    (λ (r : HasReason plan events i e by ways). inr (later_reason plan events i d e by ways r))
    (explained_from plan events lines run.0 left i by e ways run.2 at has)

pub explained : (plan : Network) (events : List Event) (lines : List Line) (left : List Waiting) (i by : ℕ) (e : Event)
    (ways : List Explanation)
    → AreJudged plan [] events lines left → slice_get events i ≡ Some e → HasVerdict lines i (Explained by ways)
    → HasReason plan events i e by ways
explained plan events lines left i by e ways run at has =
    ⊎_elim (λ (f : FromWaiting plan [] e by ways). absurd f.among) (λ (r : HasReason plan events i e by ways). r)
    (explained_from plan events lines [] left i by e ways run at has)

-- ---- no reason

-- because of an arrival that waits and is not named, the message is not sent
waiting_never : (plan : Network) (events : List Event) (lines : List Line) (old left : List Waiting) (i node : ℕ) (e : Event) (v : Verdict)
    (sent : Message) (w : Waiting) → AreJudged plan old events lines left → HasVerdict lines i v → lacks_reason v ≡ true
    → slice_get events i ≡ Some e → source plan e ≡ Some node → reading e.octets ≡ Ok sent → Among w old → w.node ≡ node
    → IsUnnamed w.number lines i → NeverSends plan node w.origin w.octets e.destination sent
waiting_never plan [] lines old left zero node e v sent w run has lacks at there reads among here free = absurd cc
waiting_never plan [] lines old left (suc i) node e v sent w run has lacks at there reads among here free = absurd cc
waiting_never plan (d ∷ events) [] old left i node e v sent w run has lacks at there reads among here free = absurd run
waiting_never plan (d ∷ events) (line ∷ lines) old left zero node e v sent w run has lacks at there reads among here free =
    let same : d ≡ e = cc in
    All-among (IsNoReason plan node e.destination sent) w old
    (nothing_found plan old e line run.0 node sent (subst (λ (x : Event). IsJudged plan old x line run.0) same run.1)
    (ap lacks_reason has ∙ lacks) there reads)
    among here
waiting_never plan (d ∷ events) (line ∷ lines) old left (suc i) node e v sent w run has lacks at there reads among here free =
    let k = or_parts (names w.number line) (list_any (names w.number) (take i lines)) free in
    waiting_never plan events lines run.0 left i node e v sent w run.2 has lacks at there reads
    (among_after plan old d line run.0 w run.1 k.0 among) here k.1

some_same : (a b : ℕ) (o : Option ℕ) → o ≡ Some a → o ≡ Some b → a ≡ b
some_same a b o e f = cc

-- nor because of the first event
event_never : (plan : Network) (events : List Event) (lines : List Line) (old next left : List Waiting) (d : Event) (line : Line)
    (i node : ℕ) (e : Event) (v : Verdict) (sent : Message) (o : Option Waiting) → IsJudged plan old d line next
    → AreJudged plan next events lines left → HasVerdict lines i v → lacks_reason v ≡ true → slice_get events i ≡ Some e
    → source plan e ≡ Some node → reading e.octets ≡ Ok sent → target plan d ≡ Some node → names d.number line ≡ false
    → IsUnnamed d.number lines i → begins plan d (reading d.octets) ≡ o → NeverSends plan node d.origin d.octets e.destination sent
event_never plan events lines old next left d line i node e v sent None h run has lacks at there reads arrives first later is =
    never plan node d e.destination sent arrives is
event_never plan events lines old next left d line i node e v sent (Some w) h run has lacks at there reads arrives first later is =
    let b = begun plan d (reading d.octets) w is in
    let here : w.node ≡ node = some_same w.node node (target plan d) b.arrives arrives in
    subst (λ (x : ℕ). NeverSends plan node x d.octets e.destination sent) b.origin_is
    (subst (λ (x : List ℕ). NeverSends plan node w.origin x e.destination sent) b.octets_are
    (waiting_never plan events lines next left i node e v sent w run has lacks at there reads
    (new_after plan old d line next w h (subst (λ (n : ℕ). names n line ≡ false) (sym b.numbered) first) is) here
    (subst (λ (n : ℕ). IsUnnamed n lines i) (sym b.numbered) later)))

pub unexplained_from : (plan : Network) (events : List Event) (lines : List Line) (old left : List Waiting) (i j node : ℕ) (e a : Event)
    (v : Verdict) (sent : Message) → AreJudged plan old events lines left → HasVerdict lines i v → lacks_reason v ≡ true
    → slice_get events i ≡ Some e → source plan e ≡ Some node → reading e.octets ≡ Ok sent → j < i → slice_get events j ≡ Some a
    → target plan a ≡ Some node → IsUnnamed a.number lines i → NeverSends plan node a.origin a.octets e.destination sent
unexplained_from plan events lines old left zero j node e a v sent run has lacks at there reads below before arrives free =
    absurd (omega (arith, below))
unexplained_from plan [] lines old left (suc i) j node e a v sent run has lacks at there reads below before arrives free = absurd cc
unexplained_from plan (d ∷ events) [] old left (suc i) j node e a v sent run has lacks at there reads below before arrives free = absurd run
unexplained_from plan (d ∷ events) (line ∷ lines) old left
    (suc i) zero node e a v sent run has lacks at there reads below before arrives free =
    let same : d ≡ a = cc in
    let k = or_parts (names a.number line) (list_any (names a.number) (take i lines)) free in
    subst (λ (x : Event). target plan x ≡ Some node → names x.number line ≡ false → IsUnnamed x.number lines i
    → NeverSends plan node x.origin x.octets e.destination sent) same
    (λ there_d first later.
    event_never plan events lines old run.0 left d line i node e v sent (begins plan d (reading d.octets)) run.1 run.2 has lacks at there
    reads there_d first later refl)
    arrives k.0 k.1
unexplained_from plan (d ∷ events) (line ∷ lines) old left (suc i)
    (suc j) node e a v sent run has lacks at there reads below before arrives free =
    let k = or_parts (names a.number line) (list_any (names a.number) (take i lines)) free in
    unexplained_from plan events lines run.0 left i j node e a v sent run.2 has lacks at there reads
    (omega (arith, below)) before arrives k.1
