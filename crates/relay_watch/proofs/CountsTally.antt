-- What a run leaves of the tally of one relay, and the counts there.
use Rattle.std.proofs.Common.{◌≡◌, ℕ, suc, ◌+◌, ◌<◌, Bool, true, false, cond, not, ◌&&◌, List, [], ◌∷◌, length, map, filter}
use Rattle.std.proofs.Common.{Option, Some, None, refl, sym, ◌∙◌, ap, subst, arith, zip}
use Rattle.std.specs.Prelude.{slice_get, option_map, ◌==◌}
use Rattle.std.specs.List.{All, AllByRecursion}
use Rattle.std.proofs.lemmas.Option.{slice_get-map}
use Rattle.sccp_message.specs.Reading.{reading}
use Rattle.plan_model.specs.Network.{Network}
use Rattle.plan_model.specs.declared.node.Node.{Node}
use Rattle.relay_ways.specs.Conditions.{IsPossible}
use Rattle.relay_ways.specs.Markings as markings
use Rattle.relay_ways.specs.declared.condition.Condition.{Condition}
use Rattle.relay_ways.specs.declared.explanation.Explanation.{Explanation}
use Rattle.relay_watch.specs.Arrivals.{source, target, is_other}
use Rattle.relay_watch.specs.Judging.{IsJudged}
use Rattle.relay_watch.specs.Kept.{Kept, nothing_kept, first_tally, changed, counted, one_unanswered, one_more_if}
use Rattle.relay_watch.specs.Kept.{sent, arrived, counted_unanswered, left_relays, all_counted, all_unanswered, summary_of}
use Rattle.relay_watch.specs.Kept.{is_unexplained}
use Rattle.relay_watch.specs.Totals.{how_many, stopped, is_from, is_for, is_unanswered, says_plain, says_failing, says_sent}
use Rattle.relay_watch.specs.Totals.{says_other}
use Rattle.relay_watch.specs.Watching.{IsWatched, AreWatched}
use Rattle.relay_watch.specs.declared.counts.Counts.{Counts}
use Rattle.relay_watch.specs.declared.event.Event.{Event}
use Rattle.relay_watch.specs.declared.line.Line.{Line}
use Rattle.relay_watch.specs.declared.tally.Tally.{Tally}
use Rattle.relay_watch.specs.declared.unanswered.Unanswered.{Unanswered}
use Rattle.relay_watch.specs.declared.verdict.Verdict.{Verdict}
use Rattle.relay_watch.specs.declared.verdict.Verdict.TheVariants.{Undecodable, Connection, Other, Arrived, Explained, Management}
use Rattle.relay_watch.specs.declared.verdict.Verdict.TheVariants.{Own}
use Rattle.relay_watch.specs.declared.verdict.Verdict.TheVariants.{Unexplained}
use Rattle.relay_watch.proofs.CountsChanged.{only_if, changed_at, stopped_more}
use Rattle.relay_watch.proofs.Steps.{line_names}

-- ---- what is told of an explained message: its ways, each of which some marking allows

abbrev pub IsTold : List Explanation → Type 0
IsTold ways = (0 < length ways) × All IsPossible (map (λ w. w.condition) ways)

abbrev pub Tells : Verdict → Type 0
Tells (Undecodable fault) = Unit {0}
Tells Connection = Unit {0}
Tells Other = Unit {0}
Tells Arrived = Unit {0}
Tells (Explained by ways) = IsTold ways
Tells (Management status) = Unit {0}
Tells (Own ssn) = Unit {0}
Tells (Unexplained why) = Unit {0}

abbrev pub AllTell : List Line → Type 0
AllTell lines = AllByRecursion (λ line. Tells line.verdict) lines

judged : (plan : Network) (old : Kept) (e : Event) (line : Line) (new : Kept) → IsWatched plan old e line new
    → IsJudged plan old.waiting e line new.waiting
judged plan old e line new w = record {
  found = w.found;
  search = w.search;
  why = w.why;
  verdict_is = w.verdict_is;
  given_is = w.given_is;
  left = w.waiting_is;
}

tells : (plan : Network) (old : Kept) (e : Event) (line : Line) (new : Kept) → IsWatched plan old e line new → Tells line.verdict
tells plan old e line new w = by line.verdict refl where
  by : (v : Verdict) → line.verdict ≡ v → Tells v
  by (Undecodable fault) is = tt
  by Connection is = tt
  by Other is = tt
  by Arrived is = tt
  by (Explained n ways) is =
      let names = line_names plan old.waiting e line new.waiting n ways (judged plan old e line new w) is in
      let under = names.explaining.first.reason.under in
      subst IsTold names.ways_are (under.some, under.conditions.possible)
  by (Management status) is = tt
  by (Own ssn) is = tt
  by (Unexplained why) is = tt

pub all_tell : (plan : Network) (old : Kept) (events : List Event) (lines : List Line) (new : Kept)
    → AreWatched plan old events lines new
    → AllTell lines
all_tell plan old [] [] new run = tt
all_tell plan old [] (line ∷ lines) new run = absurd run
all_tell plan old (e ∷ events) [] new run = absurd run
all_tell plan old (e ∷ events) (line ∷ lines) new run =
    (tells plan old e line run.0 run.1, all_tell plan run.0 events lines new run.2)

-- ---- the tally

-- what a message with its line changes of the tally of the relay at this place
abbrev pub sent_if : Bool → Verdict → Tally → Tally
sent_if here v t = only_if here (sent v) t

abbrev pub arrived_if : Bool → Bool → Tally → Tally
arrived_if here other t = only_if here (arrived other) t

abbrev pub unanswered_if : Bool → Tally → Tally
unanswered_if here t = only_if here (counted one_unanswered) t

abbrev pub moved : Network → ℕ → Event → Line → Tally → Tally
moved plan node e line t =
    unanswered_if (is_unanswered node line.unanswered)
    (arrived_if (is_for plan node e) (is_other (reading e.octets)) (sent_if (is_from plan node e) line.verdict t))

abbrev pub moved_all : Network → ℕ → List Event → List Line → Tally → Tally
moved_all plan node [] lines t = t
moved_all plan node (e ∷ events) [] t = t
moved_all plan node (e ∷ events) (line ∷ lines) t = moved_all plan node events lines (moved plan node e line t)

-- what the arrivals change that are unanswered at the end
abbrev pub ended : ℕ → List Unanswered → Tally → Tally
ended node [] t = t
ended node (u ∷ us) t = ended node us (unanswered_if (u.node == node) t)

map_map : {A B C : Type 0} (f : B → C) (g : A → B) (o : Option A) → option_map f (option_map g o) ≡ option_map (λ x. f (g x)) o
map_map f g None = refl
map_map f g (Some x) = refl

map_same : {A : Type 0} (o : Option A) → o ≡ option_map (λ x. x) o
map_same None = refl
map_same (Some x) = refl

counted_at : (relays : List Tally) (u : Option Unanswered) (node : ℕ)
    → slice_get (counted_unanswered relays u) node ≡ option_map (unanswered_if (is_unanswered node u)) (slice_get relays node)
counted_at relays None node = by (slice_get relays node) where
  by : (o : Option Tally) → o ≡ option_map (unanswered_if false) o
  by None = refl
  by (Some t) = refl
counted_at relays (Some u) node = changed_at (counted one_unanswered) (Some u.node) relays node

moved_at : (plan : Network) (e : Event) (line : Line) (relays : List Tally) (node : ℕ)
    → slice_get (left_relays plan e line.verdict line.unanswered relays) node
    ≡ option_map (moved plan node e line) (slice_get relays node)
moved_at plan e line relays node =
    let other : Bool = is_other (reading e.octets) in
    let first : List Tally = changed (sent line.verdict) (source plan e) relays in
    counted_at (changed (arrived other) (target plan e) first) line.unanswered node
    ∙ ap (option_map (unanswered_if (is_unanswered node line.unanswered)))
    (changed_at (arrived other) (target plan e) first node
    ∙ ap (option_map (arrived_if (is_for plan node e) other)) (changed_at (sent line.verdict) (source plan e) relays node))
    ∙ by (slice_get relays node)
  where
    by : (o : Option Tally)
        → option_map (unanswered_if (is_unanswered node line.unanswered))
        (option_map (arrived_if (is_for plan node e) (is_other (reading e.octets)))
        (option_map (sent_if (is_from plan node e) line.verdict) o))
        ≡ option_map (moved plan node e line) o
    by None = refl
    by (Some t) = refl

run_at : (plan : Network) (old : Kept) (events : List Event) (lines : List Line) (new : Kept) (node : ℕ)
    → AreWatched plan old events lines new
    → slice_get new.relays node ≡ option_map (moved_all plan node events lines) (slice_get old.relays node)
run_at plan old [] [] new node run = ap (λ (k : Kept). slice_get k.relays node) run ∙ map_same (slice_get old.relays node)
run_at plan old [] (line ∷ lines) new node run = absurd run
run_at plan old (e ∷ events) [] new node run = absurd run
run_at plan old (e ∷ events) (line ∷ lines) new node run =
    run_at plan run.0 events lines new node run.2
    ∙ ap (option_map (moved_all plan node events lines))
    (ap (λ (ts : List Tally). slice_get ts node) run.1.relays_are ∙ moved_at plan e line old.relays node)
    ∙ map_map (moved_all plan node events lines) (moved plan node e line) (slice_get old.relays node)

ended_at : (us : List Unanswered) (relays : List Tally) (node : ℕ)
    → slice_get (all_counted relays us) node ≡ option_map (ended node us) (slice_get relays node)
ended_at [] relays node = map_same (slice_get relays node)
ended_at (u ∷ us) relays node =
    ended_at us (counted_unanswered relays (Some u)) node
    ∙ ap (option_map (ended node us)) (counted_at relays (Some u) node)
    ∙ map_map (ended node us) (unanswered_if (u.node == node)) (slice_get relays node)

-- the tally of a relay at the end
pub record IsLeft (plan : Network) (node : ℕ) (events : List Event) (lines : List Line) (last : List Unanswered)
    (t : Tally) : Type 0 where
  pub relay : Node
  pub at : slice_get plan.nodes node ≡ Some relay
  pub is : t ≡ ended node last (moved_all plan node events lines (first_tally relay))

pub left_at_end : (plan : Network) (events : List Event) (lines : List Line) (left : Kept) (node : ℕ) (t : Tally)
    → AreWatched plan (nothing_kept plan) events lines left → slice_get (summary_of left).relays node ≡ Some t
    → IsLeft plan node events lines (all_unanswered left) t
left_at_end plan events lines left node t run at = by (slice_get plan.nodes node) refl (sym whole ∙ at) where
  whole : slice_get (all_counted left.relays (all_unanswered left)) node
      ≡ option_map (ended node (all_unanswered left)) (option_map (moved_all plan node events lines)
      (option_map first_tally (slice_get plan.nodes node)))
  whole =
      ended_at (all_unanswered left) left.relays node
      ∙ ap (option_map (ended node (all_unanswered left)))
      (run_at plan (nothing_kept plan) events lines left node run
      ∙ ap (option_map (moved_all plan node events lines)) (slice_get-map first_tally plan.nodes node))

  by : (o : Option Node) → slice_get plan.nodes node ≡ o
      → option_map (ended node (all_unanswered left)) (option_map (moved_all plan node events lines) (option_map first_tally o))
      ≡ Some t
      → IsLeft plan node events lines (all_unanswered left) t
  by None e h = absurd cc
  by (Some n) e h = record { relay = n; at = e; is = cc }

-- ---- its counts

pub unanswered_counts : (b : Bool) (t : Tally) → (unanswered_if b t).counts
    ≡ record t.counts { unanswered = one_more_if b t.counts.unanswered }
unanswered_counts true t = refl
unanswered_counts false t = refl

arrived_counts : (b other : Bool) (t : Tally) → (arrived_if b other t).counts
    ≡ record t.counts { arrived = one_more_if (b && not other) t.counts.arrived; others = one_more_if (b && other) t.counts.others }
arrived_counts true true t = refl
arrived_counts true false t = refl
arrived_counts false other t = refl

-- another marking begins
abbrev pub begins_by : Option Condition → List Explanation → Bool
begins_by s [] = false
begins_by s (w ∷ ws) = markings.begins s w.condition

abbrev pub begins_in : Option Condition → Verdict → Bool
begins_in s (Explained by ways) = begins_by s ways
begins_in s v = false

sent_counts : (b : Bool) (v : Verdict) (t : Tally) → Tells v → (sent_if b v t).counts ≡ record t.counts {
  sent = one_more_if (b && says_sent v) t.counts.sent;
  plain = one_more_if (b && says_plain v) t.counts.plain;
  failing = one_more_if (b && says_failing v) t.counts.failing;
  unexplained = one_more_if (b && is_unexplained v) t.counts.unexplained;
  others = one_more_if (b && says_other v) t.counts.others;
  markings = one_more_if (b && begins_in t.so_far v) t.counts.markings;
}
sent_counts false v t told = refl
sent_counts true (Undecodable fault) t told = refl
sent_counts true Connection t told = refl
sent_counts true Other t told = refl
sent_counts true Arrived t told = refl
sent_counts true (Explained by []) t told = absurd (omega (arith, told.0))
sent_counts true (Explained by (w ∷ ws)) t told = refl
sent_counts true (Management status) t told = refl
sent_counts true (Own ssn) t told = refl
sent_counts true (Unexplained why) t told = refl

-- the counts after a message with its line
abbrev pub more_counts : Network → ℕ → Event → Line → Option Condition → Counts → Counts
more_counts plan node e line s c = record {
  arrived = one_more_if (is_for plan node e && not (is_other (reading e.octets))) c.arrived;
  sent = one_more_if (is_from plan node e && says_sent line.verdict) c.sent;
  plain = one_more_if (is_from plan node e && says_plain line.verdict) c.plain;
  failing = one_more_if (is_from plan node e && says_failing line.verdict) c.failing;
  unexplained = one_more_if (is_from plan node e && is_unexplained line.verdict) c.unexplained;
  unanswered = one_more_if (is_unanswered node line.unanswered) c.unanswered;
  others = one_more_if (is_for plan node e && is_other (reading e.octets))
      (one_more_if (is_from plan node e && says_other line.verdict) c.others);
  markings = one_more_if (is_from plan node e && begins_in s line.verdict) c.markings;
}

pub moved_counts : (plan : Network) (node : ℕ) (e : Event) (line : Line) (t : Tally) → Tells line.verdict
    → (moved plan node e line t).counts ≡ more_counts plan node e line t.so_far t.counts
moved_counts plan node e line t told =
    let other : Bool = is_other (reading e.octets) in
    let s : Tally = sent_if (is_from plan node e) line.verdict t in
    let a : Tally = arrived_if (is_for plan node e) other s in
    unanswered_counts (is_unanswered node line.unanswered) a
    ∙ ap (λ (c : Counts). record c { unanswered = one_more_if (is_unanswered node line.unanswered) c.unanswered })
    (arrived_counts (is_for plan node e) other s
    ∙ ap (λ (c : Counts). record c {
      arrived = one_more_if (is_for plan node e && not other) c.arrived;
      others = one_more_if (is_for plan node e && other) c.others;
    }) (sent_counts (is_from plan node e) line.verdict t told))

-- ---- counts of lines

-- A count that each message of a kind raises by one, and no other, is how many there are.
pub run_count : (plan : Network) (node : ℕ) (count : Tally → ℕ) (kind : Event → Line → Bool)
    → ((e : Event) (line : Line) (t : Tally) → Tells line.verdict
    → count (moved plan node e line t) ≡ one_more_if (kind e line) (count t))
    → (events : List Event) (lines : List Line) (t : Tally) (n : ℕ) → AllTell lines → count t ≡ stopped n
    → count (moved_all plan node events lines t) ≡ stopped (n + how_many kind events lines)
run_count plan node count kind step [] lines t n told is = is ∙ ap stopped (omega arith)
run_count plan node count kind step (e ∷ events) [] t n told is = is ∙ ap stopped (omega arith)
run_count plan node count kind step (e ∷ events) (line ∷ lines) t n told is =
    by (kind e line) (step e line t told.0)
    (λ k at. run_count plan node count kind step events lines (moved plan node e line t) k told.1 at)
  where
    rest : List (Event × Line)
    rest = filter (λ m. kind m.0 m.1) (zip events lines)

    next : Tally
    next = moved plan node e line t

    by : (b : Bool) → count next ≡ one_more_if b (count t)
        → ((k : ℕ) → count next ≡ stopped k → count (moved_all plan node events lines next) ≡ stopped (k + length rest))
        → count (moved_all plan node events lines next) ≡ stopped (n + length (cond b ((e, line) ∷ rest) rest))
    by true h later = later (suc n) (h ∙ ap (one_more_if true) is ∙ stopped_more n) ∙ ap stopped (omega arith)
    by false h later = later n (h ∙ is)

-- The same of two kinds. A message of both raises the count by two.
pub run_count_two : (plan : Network) (node : ℕ) (count : Tally → ℕ) (kind other : Event → Line → Bool)
    → ((e : Event) (line : Line) (t : Tally) → Tells line.verdict
    → count (moved plan node e line t) ≡ one_more_if (other e line) (one_more_if (kind e line) (count t)))
    → (events : List Event) (lines : List Line) (t : Tally) (n : ℕ) → AllTell lines → count t ≡ stopped n
    → count (moved_all plan node events lines t) ≡ stopped (n + (how_many kind events lines + how_many other events lines))
run_count_two plan node count kind other step [] lines t n told is = is ∙ ap stopped (omega arith)
run_count_two plan node count kind other step (e ∷ events) [] t n told is = is ∙ ap stopped (omega arith)
run_count_two plan node count kind other step (e ∷ events) (line ∷ lines) t n told is =
    by (kind e line) (other e line) (step e line t told.0)
    (λ k at. run_count_two plan node count kind other step events lines (moved plan node e line t) k told.1 at)
  where
    rest : List (Event × Line)
    rest = filter (λ m. kind m.0 m.1) (zip events lines)

    others : List (Event × Line)
    others = filter (λ m. other m.0 m.1) (zip events lines)

    next : Tally
    next = moved plan node e line t

    by : (b c : Bool) → count next ≡ one_more_if c (one_more_if b (count t))
        → ((k : ℕ) → count next ≡ stopped k
        → count (moved_all plan node events lines next) ≡ stopped (k + (length rest + length others)))
        → count (moved_all plan node events lines next)
        ≡ stopped (n + (length (cond b ((e, line) ∷ rest) rest) + length (cond c ((e, line) ∷ others) others)))
    by true true h later =
        later (suc (suc n))
        (h ∙ ap (λ k. one_more_if true (one_more_if true k)) is ∙ ap (one_more_if true) (stopped_more n) ∙ stopped_more (suc n))
        ∙ ap stopped (omega arith)
    by true false h later = later (suc n) (h ∙ ap (one_more_if true) is ∙ stopped_more n) ∙ ap stopped (omega arith)
    by false true h later = later (suc n) (h ∙ ap (one_more_if true) is ∙ stopped_more n) ∙ ap stopped (omega arith)
    by false false h later = later n (h ∙ is)
