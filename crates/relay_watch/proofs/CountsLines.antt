-- The counts are those of the lines.
use Rattle.std.proofs.Common.{◌≡◌, ℕ, suc, ◌+◌, ◌-◌, ◌^◌, ◌<◌, ◌≤◌, min, Bool, true, false, cond, not, ◌&&◌, List, [], ◌∷◌, length}
use Rattle.std.proofs.Common.{filter, zip, Option, Some, None, refl, sym, ◌∙◌, ap, ap₂, subst, arith, ⊎_elim}
use Rattle.std.specs.Prelude.{slice_get, ◌==◌}
use Rattle.std.proofs.lemmas.Bool.{cases_lt}
use Rattle.std.proofs.lemmas.List.{length-map}
use Rattle.std.proofs.Math.Nat.{min-eq_left, min-eq_right}
use Rattle.sccp_message.specs.Reading.{reading}
use Rattle.plan_model.specs.Network.{Network}
use Rattle.plan_model.specs.declared.node.Node.{Node}
use Rattle.relay_watch.specs.Arrivals.{source, target, is_other}
use Rattle.relay_watch.specs.Kept.{Kept, nothing_kept, first_tally, changed, counted, one_unanswered, one_more, one_more_if, sent}
use Rattle.relay_watch.specs.Kept.{arrived}
use Rattle.relay_watch.specs.Kept.{counted_unanswered, left_relays, all_counted, all_unanswered, summary_of, is_plain}
use Rattle.relay_watch.specs.Kept.{is_unexplained}
use Rattle.relay_watch.specs.Totals.{how_many, stopped, is_from, is_for, is_unanswered, says_plain, says_failing, says_sent}
use Rattle.relay_watch.specs.Totals.{says_other}
use Rattle.relay_watch.specs.Totals.{AreCounts, AreTaken}
use Rattle.relay_watch.specs.Watching.{AreWatched}
use Rattle.relay_watch.specs.declared.counts.Counts.{Counts}
use Rattle.relay_watch.specs.declared.event.Event.{Event}
use Rattle.relay_watch.specs.declared.line.Line.{Line}
use Rattle.relay_watch.specs.declared.tally.Tally.{Tally}
use Rattle.relay_watch.specs.declared.unanswered.Unanswered.{Unanswered}
use Rattle.relay_watch.specs.declared.verdict.Verdict.{Verdict}
use Rattle.relay_watch.specs.declared.verdict.Verdict.TheVariants.{Undecodable, Connection, Other, Arrived, Explained, Management}
use Rattle.relay_watch.specs.declared.verdict.Verdict.TheVariants.{Own}
use Rattle.relay_watch.specs.declared.verdict.Verdict.TheVariants.{Unexplained}
use Rattle.relay_watch.proofs.CountsChanged.{length_changed, stopped_more}
use Rattle.relay_watch.proofs.CountsTally.{all_tell, moved_all, moved_counts, more_counts, unanswered_if, unanswered_counts, ended}
use Rattle.relay_watch.proofs.CountsTally.{IsLeft, left_at_end, run_count, run_count_two}
use Rattle.relay_watch.proofs.CountsTaken.{are_taken, ended_taken}

-- ---- the arrivals that are unanswered at the end

-- they change no other count
pub ended_rest : (count : Counts → ℕ) → ((c : Counts) (k : ℕ) → count (record c { unanswered = k }) ≡ count c) → (node : ℕ)
    (us : List Unanswered) (t : Tally) → count (ended node us t).counts ≡ count t.counts
ended_rest count keeps node [] t = refl
ended_rest count keeps node (u ∷ us) t =
    ended_rest count keeps node us (unanswered_if (u.node == node) t)
    ∙ ap count (unanswered_counts (u.node == node) t)
    ∙ keeps t.counts (one_more_if (u.node == node) t.counts.unanswered)

ended_count : (node : ℕ) (us : List Unanswered) (t : Tally) (n : ℕ) → t.counts.unanswered ≡ stopped n
    → (ended node us t).counts.unanswered ≡ stopped (n + length (filter (λ u. u.node == node) us))
ended_count node [] t n is = is ∙ ap stopped (omega arith)
ended_count node (u ∷ us) t n is =
    by (u.node == node) (λ k at. ended_count node us (unanswered_if (u.node == node) t) k at)
    (ap (λ (c : Counts). c.unanswered) (unanswered_counts (u.node == node) t))
  where
    rest : List Unanswered
    rest = filter (λ u. u.node == node) us

    next : Tally
    next = unanswered_if (u.node == node) t

    by : (b : Bool) → ((k : ℕ) → next.counts.unanswered ≡ stopped k
        → (ended node us next).counts.unanswered ≡ stopped (k + length rest))
        → next.counts.unanswered ≡ one_more_if b t.counts.unanswered
        → (ended node us next).counts.unanswered ≡ stopped (n + length (cond b (u ∷ rest) rest))
    by true later h = later (suc n) (h ∙ ap (one_more_if true) is ∙ stopped_more n) ∙ ap stopped (omega arith)
    by false later h = later n (h ∙ is)

-- ---- the counts of a relay

-- one that ends as it was after the last message
plain_count : (plan : Network) (events : List Event) (lines : List Line) (left : Kept) (node : ℕ) (t : Tally) (count : Counts → ℕ)
    (kind : Event → Line → Bool) → AreWatched plan (nothing_kept plan) events lines left
    → IsLeft plan node events lines (all_unanswered left) t
    → ((c : Counts) (k : ℕ) → count (record c { unanswered = k }) ≡ count c)
    → ((e : Event) (line : Line) (t : Tally) → count (more_counts plan node e line t.so_far t.counts)
    ≡ one_more_if (kind e line) (count t.counts))
    → ((relay : Node) → count (first_tally relay).counts ≡ stopped 0) → count t.counts ≡ stopped (how_many kind events lines)
plain_count plan events lines left node t count kind run l keeps step first =
    ap (λ (x : Tally). count x.counts) l.is
    ∙ ended_rest count keeps node (all_unanswered left) (moved_all plan node events lines (first_tally l.relay))
    ∙ run_count plan node (λ x. count x.counts) kind
    (λ e line x told. ap count (moved_counts plan node e line x told) ∙ step e line x)
    events lines (first_tally l.relay) 0 (all_tell plan (nothing_kept plan) events lines left run) (first l.relay)
    ∙ ap stopped (omega arith)

unanswered_count : (plan : Network) (events : List Event) (lines : List Line) (left : Kept) (node : ℕ) (t : Tally)
    → AreWatched plan (nothing_kept plan) events lines left → IsLeft plan node events lines (all_unanswered left) t
    → t.counts.unanswered ≡ stopped (how_many (λ e line. is_unanswered node line.unanswered) events lines
    + length (filter (λ u. u.node == node) (all_unanswered left)))
unanswered_count plan events lines left node t run l =
    ap (λ (x : Tally). x.counts.unanswered) l.is
    ∙ ended_count node (all_unanswered left) (moved_all plan node events lines (first_tally l.relay))
    (how_many (λ e line. is_unanswered node line.unanswered) events lines)
    (run_count plan node (λ x. x.counts.unanswered) (λ e line. is_unanswered node line.unanswered)
    (λ e line x told. ap (λ (c : Counts). c.unanswered) (moved_counts plan node e line x told))
    events lines (first_tally l.relay) 0 (all_tell plan (nothing_kept plan) events lines left run) refl
    ∙ ap stopped (omega arith))

others_count : (plan : Network) (events : List Event) (lines : List Line) (left : Kept) (node : ℕ) (t : Tally)
    → AreWatched plan (nothing_kept plan) events lines left → IsLeft plan node events lines (all_unanswered left) t
    → t.counts.others ≡ stopped (how_many (λ e line. is_from plan node e && says_other line.verdict) events lines
    + how_many (λ e line. is_for plan node e && is_other (reading e.octets)) events lines)
others_count plan events lines left node t run l =
    ap (λ (x : Tally). x.counts.others) l.is
    ∙ ended_rest (λ c. c.others) (λ c k. refl) node (all_unanswered left) (moved_all plan node events lines (first_tally l.relay))
    ∙ run_count_two plan node (λ x. x.counts.others) (λ e line. is_from plan node e && says_other line.verdict)
    (λ e line. is_for plan node e && is_other (reading e.octets))
    (λ e line x told. ap (λ (c : Counts). c.others) (moved_counts plan node e line x told))
    events lines (first_tally l.relay) 0 (all_tell plan (nothing_kept plan) events lines left run) refl
    ∙ ap stopped (omega arith)

pub are_counts : (plan : Network) (events : List Event) (lines : List Line) (left : Kept) (node : ℕ) (t : Tally)
    → AreWatched plan (nothing_kept plan) events lines left → slice_get (summary_of left).relays node ≡ Some t
    → AreCounts plan node events lines (all_unanswered left) t.counts
are_counts plan events lines left node t run at =
    let l = left_at_end plan events lines left node t run at in
    record {
      arrived_is = plain_count plan events lines left node t (λ c. c.arrived)
          (λ e line. is_for plan node e && not (is_other (reading e.octets))) run l (λ c k. refl) (λ e line x. refl)
          (λ relay. refl);
      sent_is = plain_count plan events lines left node t (λ c. c.sent) (λ e line. is_from plan node e
          && says_sent line.verdict) run l
          (λ c k. refl) (λ e line x. refl) (λ relay. refl);
      plain_is = plain_count plan events lines left node t (λ c. c.plain) (λ e line. is_from plan node e
          && says_plain line.verdict) run l
          (λ c k. refl) (λ e line x. refl) (λ relay. refl);
      failing_is = plain_count plan events lines left node t (λ c. c.failing) (λ e line. is_from plan node e
          && says_failing line.verdict)
          run l (λ c k. refl) (λ e line x. refl) (λ relay. refl);
      unexplained_is = plain_count plan events lines left node t (λ c. c.unexplained)
          (λ e line. is_from plan node e && is_unexplained line.verdict) run l (λ c k. refl) (λ e line x. refl) (λ relay. refl);
      unanswered_is = unanswered_count plan events lines left node t run l;
      others_is = others_count plan events lines left node t run l;
    }

-- ---- the targets

same_relay : (x y : Node) (o : Option Node) → o ≡ Some x → o ≡ Some y → x ≡ y
same_relay x y o e f = cc

pub are_targets : (plan : Network) (events : List Event) (lines : List Line) (left : Kept) (node : ℕ) (relay : Node) (t : Tally)
    → AreWatched plan (nothing_kept plan) events lines left → slice_get plan.nodes node ≡ Some relay
    → slice_get (summary_of left).relays node ≡ Some t → AreTaken plan node relay.table events lines t.taken
are_targets plan events lines left node relay t run there at =
    let l = left_at_end plan events lines left node t run at in
    let same : l.relay ≡ relay = same_relay l.relay relay (slice_get plan.nodes node) l.at there in
    subst (λ (n : Node). AreTaken plan node n.table events lines t.taken) same
    (subst (AreTaken plan node l.relay.table events lines)
    (sym (ap (λ (x : Tally). x.taken) l.is
    ∙ ended_taken node (all_unanswered left) (moved_all plan node events lines (first_tally l.relay))))
    (are_taken plan node l.relay.table events lines (first_tally l.relay) refl))

-- ---- what is sent

-- a message that is sent is plain, or failing, or unexplained
three : (b : Bool) (v : Verdict) → cond (b && says_sent v) 1 0
    ≡ cond (b && says_plain v) 1 0 + cond (b && says_failing v) 1 0 + cond (b && is_unexplained v) 1 0
three false v = omega arith
three true (Undecodable fault) = omega arith
three true Connection = omega arith
three true Other = omega arith
three true Arrived = omega arith
three true (Explained n ways) = by (is_plain ways) where
  by : (p : Bool) → 1 ≡ cond p 1 0 + cond (not p) 1 0 + 0
  by true = omega arith
  by false = omega arith
three true (Management status) = omega arith
three true (Own ssn) = omega arith
three true (Unexplained why) = omega arith

filter_more : {X : Type 0} (b : Bool) (x : X) (xs : List X) → length (cond b (x ∷ xs) xs) ≡ cond b 1 0 + length xs
filter_more true x xs = omega arith
filter_more false x xs = omega arith

sum_of : {X : Type 0} (a b c d : X → Bool) (xs : List X)
    → ((x : X) → cond (a x) 1 0 ≡ cond (b x) 1 0 + cond (c x) 1 0 + cond (d x) 1 0)
    → length (filter a xs) ≡ length (filter b xs) + length (filter c xs) + length (filter d xs)
sum_of a b c d [] each = omega arith
sum_of a b c d (x ∷ xs) each =
    omega (
      arith,
      filter_more (a x) x (filter a xs),
      filter_more (b x) x (filter b xs),
      filter_more (c x) x (filter c xs),
      filter_more (d x) x (filter d xs),
      each x,
      sum_of a b c d xs each,
    )

stopped_below : (n m : ℕ) → min n m < m → min n m ≡ n
stopped_below n m h =
    ⊎_elim (λ (p : n < m). min-eq_left (omega (arith, p)))
    (λ (p : m ≤ n). absurd (omega (arith, h, min-eq_right p))) (cases_lt n m)

stopped_less : (n k : ℕ) → stopped n < 2 ^ 64 - 1 → k ≤ n → stopped k ≡ k
stopped_less n k h below =
    let same : stopped n ≡ n = stopped_below n (2 ^ 64 - 1) h in
    min-eq_left (omega (arith, same, h, below))

sum_parts : (s p f u : ℕ) → s ≡ p + f + u → stopped s < 2 ^ 64 - 1 → stopped s ≡ stopped p + stopped f + stopped u
sum_parts s p f u sum h =
    omega (
      arith,
      sum,
      stopped_less s s h (omega arith),
      stopped_less s p h (omega (arith, sum)),
      stopped_less s f h (omega (arith, sum)),
      stopped_less s u h (omega (arith, sum)),
    )

pub sent_sum : (plan : Network) (events : List Event) (lines : List Line) (left : Kept) (node : ℕ) (t : Tally)
    → AreWatched plan (nothing_kept plan) events lines left → slice_get (summary_of left).relays node ≡ Some t
    → t.counts.sent < 2 ^ 64 - 1 → t.counts.sent ≡ t.counts.plain + t.counts.failing + t.counts.unexplained
sent_sum plan events lines left node t run at h =
    let c = are_counts plan events lines left node t run at in
    let sum = sum_of (λ (m : Event × Line). is_from plan node m.0 && says_sent m.1.verdict)
    (λ (m : Event × Line). is_from plan node m.0 && says_plain m.1.verdict)
    (λ (m : Event × Line). is_from plan node m.0 && says_failing m.1.verdict)
    (λ (m : Event × Line). is_from plan node m.0 && is_unexplained m.1.verdict) (zip events lines)
    (λ m. three (is_from plan node m.0) m.1.verdict) in
    let parts = sum_parts (how_many (λ e line. is_from plan node e && says_sent line.verdict) events lines)
    (how_many (λ e line. is_from plan node e && says_plain line.verdict) events lines)
    (how_many (λ e line. is_from plan node e && says_failing line.verdict) events lines)
    (how_many (λ e line. is_from plan node e && is_unexplained line.verdict) events lines) sum
    (subst (λ (n : ℕ). n < 2 ^ 64 - 1) c.sent_is h) in
    c.sent_is ∙ parts
    ∙ sym (ap₂ (λ (x : ℕ) (y : ℕ). x + y) (ap₂ (λ (x : ℕ) (y : ℕ). x + y) c.plain_is c.failing_is) c.unexplained_is)

-- ---- the whole

length_counted : (relays : List Tally) (u : Option Unanswered) → length (counted_unanswered relays u) ≡ length relays
length_counted relays None = refl
length_counted relays (Some u) = length_changed (counted one_unanswered) (Some u.node) relays

length_moved : (plan : Network) (e : Event) (line : Line) (relays : List Tally)
    → length (left_relays plan e line.verdict line.unanswered relays) ≡ length relays
length_moved plan e line relays =
    let first : List Tally = changed (sent line.verdict) (source plan e) relays in
    length_counted (changed (arrived (is_other (reading e.octets))) (target plan e) first) line.unanswered
    ∙ length_changed (arrived (is_other (reading e.octets))) (target plan e) first
    ∙ length_changed (sent line.verdict) (source plan e) relays

length_run : (plan : Network) (old : Kept) (events : List Event) (lines : List Line) (new : Kept)
    → AreWatched plan old events lines new
    → length new.relays ≡ length old.relays
length_run plan old [] [] new run = ap (λ (k : Kept). length k.relays) run
length_run plan old [] (line ∷ lines) new run = absurd run
length_run plan old (e ∷ events) [] new run = absurd run
length_run plan old (e ∷ events) (line ∷ lines) new run =
    length_run plan run.0 events lines new run.2
    ∙ ap (λ (ts : List Tally). length ts) run.1.relays_are
    ∙ length_moved plan e line old.relays

length_ended : (us : List Unanswered) (relays : List Tally) → length (all_counted relays us) ≡ length relays
length_ended [] relays = refl
length_ended (u ∷ us) relays = length_ended us (counted_unanswered relays (Some u)) ∙ length_counted relays (Some u)

events_run : (plan : Network) (old : Kept) (events : List Event) (lines : List Line) (new : Kept) (n : ℕ)
    → AreWatched plan old events lines new → old.events ≡ stopped n → new.events ≡ stopped (n + length events)
events_run plan old [] [] new n run is = ap (λ (k : Kept). k.events) run ∙ is ∙ ap stopped (omega arith)
events_run plan old [] (line ∷ lines) new n run is = absurd run
events_run plan old (e ∷ events) [] new n run is = absurd run
events_run plan old (e ∷ events) (line ∷ lines) new n run is =
    events_run plan run.0 events lines new (suc n) run.2 (run.1.events_are ∙ ap one_more is ∙ stopped_more n)
    ∙ ap stopped (omega arith)

unexplained_run : (plan : Network) (old : Kept) (events : List Event) (lines : List Line) (new : Kept) (n : ℕ)
    → AreWatched plan old events lines new → old.unexplained ≡ stopped n
    → new.unexplained ≡ stopped (n + how_many (λ e line. is_unexplained line.verdict) events lines)
unexplained_run plan old [] [] new n run is = ap (λ (k : Kept). k.unexplained) run ∙ is ∙ ap stopped (omega arith)
unexplained_run plan old [] (line ∷ lines) new n run is = absurd run
unexplained_run plan old (e ∷ events) [] new n run is = absurd run
unexplained_run plan old (e ∷ events) (line ∷ lines) new n run is =
    by (is_unexplained line.verdict) run.1.unexplained_are (λ k at. unexplained_run plan run.0 events lines new k run.2 at)
  where
    rest : List (Event × Line)
    rest = filter (λ m. is_unexplained m.1.verdict) (zip events lines)

    by : (b : Bool) → run.0.unexplained ≡ one_more_if b old.unexplained
        → ((k : ℕ) → run.0.unexplained ≡ stopped k → new.unexplained ≡ stopped (k + length rest))
        → new.unexplained ≡ stopped (n + length (cond b ((e, line) ∷ rest) rest))
    by true h later = later (suc n) (h ∙ ap (one_more_if true) is ∙ stopped_more n) ∙ ap stopped (omega arith)
    by false h later = later n (h ∙ is)

pub whole : (plan : Network) (events : List Event) (lines : List Line) (left : Kept)
    → AreWatched plan (nothing_kept plan) events lines left
    → (length (summary_of left).relays ≡ length plan.nodes) × ((summary_of left).events ≡ stopped (length events))
    × ((summary_of left).unexplained ≡ stopped (how_many (λ e line. is_unexplained line.verdict) events lines))
whole plan events lines left run = (
  length_ended (all_unanswered left) left.relays ∙ length_run plan (nothing_kept plan) events lines left run
      ∙ length-map plan.nodes first_tally,
  events_run plan (nothing_kept plan) events lines left 0 run refl ∙ ap stopped (omega arith),
  unexplained_run plan (nothing_kept plan) events lines left 0 run refl ∙ ap stopped (omega arith),
)
