-- What the lines of a trace leave of what the relays hold prohibited.
use Rattle.std.proofs.Common.{◌≡◌, ℕ, zero, suc, List, [], ◌∷◌, ◌++◌, map, Bool, true, false, cond, Option, Some, None, refl, sym, ◌∙◌, ap}
use Rattle.std.specs.Prelude.{slice_get, slice_set, fold}
use Rattle.std.specs.Option.{option_map, option_map_or}
use Rattle.std.specs.List.{AllByRecursion}
use Rattle.std.proofs.lemmas.List.{map-set}
use Rattle.sccp_base.specs.declared.mark.Mark.{Mark}
use Rattle.sccp_manage.specs.Managing.{Management, managed}
use Rattle.sccp_manage.specs.declared.event.Event.TheVariants as events
use Rattle.sccp_manage.specs.Statuses.{status, sent_to}
use Rattle.sccp_manage.specs.declared.status.StatusKind.TheVariants.{Prohibited}
use Rattle.sccp_manage.proofs.Left.{left_as_it_was}
use Rattle.sccp_message.specs.Reading.{reading}
use Rattle.sccp_segment.specs.declared.arrival.Arrival.{Arrival}
use Rattle.sccp_segment.specs.Segments.{arrival_of}
use Rattle.plan_model.specs.Network.{Network}
use Rattle.relay_net.specs.Batches.{Incoming, Due, due, due_after, ssn_in, applied_if_due, applied_after}
use Rattle.relay_net.specs.States.{State, applied_at, after_delivered, happened, markings_of}
use Rattle.relay_net.specs.declared.end.End.{End}
use Rattle.relay_net.specs.declared.end.End.TheVariants.{Ended, Local, Returned, Connection, Management as ForManagement, Undecodable, Cut}
use Rattle.relay_net.specs.declared.happening.Happening.{Happening}
use Rattle.relay_net.specs.declared.happening.Happening.TheVariants.{Managed, Connected, Delivered}
use Rattle.relay_net.specs.declared.travelled.Journey.{Journey}
use Rattle.sccp_report.specs.Roles.{Role, routed, later, aside, alone, role_of}
use Rattle.trace_text.specs.declared.line.Numbered.{Numbered}
use Rattle.sccp_replay.specs.Holding.{managers_of, after_happening, after_role, after_line, managers_after}
use Rattle.sccp_replay.specs.Replay.{Standing, Settled, prints, routes, journey_by, tell, latest, done_alone}

-- ---- lists

pub fold_append : {A B : Type 0} (f : B → A → B) (b : B) (xs ys : List A) → fold f b (xs ++ ys) ≡ fold f (fold f b xs) ys
fold_append f b [] ys = refl
fold_append f b (x ∷ xs) ys = fold_append f (f b x) xs ys

set_same : {X : Type 0} (xs : List X) (place : ℕ) (x : X) → slice_get xs place ≡ Some x → slice_set xs place x ≡ xs
set_same [] place x e = refl
set_same (y ∷ ys) zero x e = let is : y ≡ x = cc in ap (λ z. z ∷ ys) (sym is)
set_same (y ∷ ys) (suc place) x e = ap (λ zs. y ∷ zs) (set_same ys place x e)

pub get_map : {X Y : Type 0} (f : X → Y) (xs : List X) (place : ℕ) → slice_get (map f xs) place ≡ option_map f (slice_get xs place)
get_map f [] place = refl
get_map f (x ∷ xs) zero = refl
get_map f (x ∷ xs) (suc place) = get_map f xs place

pub markings_are : (states : List State) → map (λ m. m.marking) (managers_of states) ≡ markings_of states
markings_are [] = refl
markings_are (s ∷ states) = ap (λ ms. s.manager.marking ∷ ms) (markings_are states)

-- ---- what happens at one node

got : (states : List State) (node : ℕ) (o : Option State) → slice_get states node ≡ o
    → slice_get (managers_of states) node ≡ option_map (λ s. s.manager) o
got states node o e = get_map (λ s. s.manager) states node ∙ ap (option_map (λ s. s.manager)) e

-- the manager at a place stays
stays : (states : List State) (node : ℕ) (s new : State) → slice_get states node ≡ Some s → new.manager ≡ s.manager
    → managers_of (slice_set states node new) ≡ managers_of states
stays states node s new e same = map-set (λ s. s.manager) states node new ∙ ap (slice_set (managers_of states) node) same
    ∙ set_same (managers_of states) node s.manager (got states node (Some s) e)

delivered_stays : (s : State) (arrival : Option Arrival) → (after_delivered s arrival).state.manager ≡ s.manager
delivered_stays s None = refl
delivered_stays s (Some a) = refl

changes : (plan : Network) (states : List State) (node : ℕ) (what : Happening) (o : Option State) → slice_get states node ≡ o
    → managers_of (applied_at plan states node what o).states ≡ after_happening (managers_of states) node what
changes plan states node (Managed event) None e =
    sym (ap (λ o. option_map_or (λ m. slice_set (managers_of states) node (managed m event)) o (managers_of states))
    (got states node None e))
changes plan states node (Managed event) (Some s) e =
    map-set (λ s. s.manager) states node (happened plan node s (Managed event)).state
    ∙ sym (ap (λ o. option_map_or (λ m. slice_set (managers_of states) node (managed m event)) o (managers_of states))
    (got states node (Some s) e))
changes plan states node (Connected origin message) None e = refl
changes plan states node (Connected origin message) (Some s) e =
    stays states node s (happened plan node s (Connected origin message)).state e refl
changes plan states node (Delivered message) None e = refl
changes plan states node (Delivered message) (Some s) e =
    stays states node s (happened plan node s (Delivered message)).state e (delivered_stays s (arrival_of message))

-- ---- what stands alone

pub alone_changes : (at : Standing) (d : Option Due) → managers_of (done_alone at d).states ≡ after_role (managers_of at.states) (alone d)
alone_changes at None = refl
alone_changes at (Some d) = changes (latest at) at.states d.node d.what (slice_get at.states d.node) refl

-- ---- what the end of a journey leaves to be done

-- such a happening changes nothing of what is held
abbrev IsQuiet : Happening → Type 0
IsQuiet (Managed (events.Knock from ssn)) = Unit {0}
IsQuiet (Managed event) = ⊥
IsQuiet (Connected origin message) = ⊥
IsQuiet (Delivered message) = Unit {0}

abbrev AreQuiet : Option Due → Type 0
AreQuiet None = Unit {0}
AreQuiet (Some d) = IsQuiet d.what

knocks : (x : Incoming) (o : Option ℕ) → AreQuiet (option_map (λ ssn. due x.entry (Managed (events.Knock x.origin ssn))) o)
knocks x None = tt
knocks x (Some ssn) = tt

ends_quietly : (x : Incoming) (path : List ℕ) (end : End) → AreQuiet (due_after x path end)
ends_quietly x path (Local ssn m) = tt
ends_quietly x path (Returned cause marks) = by (Rattle.std.specs.Prelude.nat_eq cause 3) where
  by : (b : Bool)
      → AreQuiet (cond b (option_map (λ ssn. due x.entry (Managed (events.Knock x.origin ssn))) (ssn_in (reading x.octets))) None)
  by true = knocks x (ssn_in (reading x.octets))
  by false = tt
ends_quietly x path (Ended pc ssn octets) = tt
ends_quietly x path (Connection message) = tt
ends_quietly x path (ForManagement message) = tt
ends_quietly x path (Undecodable fault) = tt
ends_quietly x path Cut = tt

knock_stays : (m : Management) (from ssn : ℕ) → managed m (events.Knock from ssn) ≡ m
knock_stays m from ssn = λ i. record m { marking = left_as_it_was m.marking (sent_to from (status Prohibited ssn m.own) ∷ []) i }

quiet : (plan : Network) (states : List State) (node : ℕ) (what : Happening) → IsQuiet what → (o : Option State) → slice_get states node ≡ o
    → managers_of (applied_at plan states node what o).states ≡ managers_of states
quiet plan states node (Managed (events.Knock from ssn)) h None e = refl
quiet plan states node (Managed (events.Knock from ssn)) h (Some s) e =
    stays states node s (happened plan node s (Managed (events.Knock from ssn))).state e (knock_stays s.manager from ssn)
quiet plan states node (Managed (events.Status from payload)) h o e = absurd h
quiet plan states node (Managed (events.Pause pc)) h o e = absurd h
quiet plan states node (Managed (events.Resume pc)) h o e = absurd h
quiet plan states node (Managed (events.NoSccp pc)) h o e = absurd h
quiet plan states node (Managed (events.Up ssn)) h o e = absurd h
quiet plan states node (Managed (events.Down ssn)) h o e = absurd h
quiet plan states node (Managed events.Tick) h o e = absurd h
quiet plan states node (Connected origin message) h o e = absurd h
quiet plan states node (Delivered message) h o e = changes plan states node (Delivered message) o e

quietly : (plan : Network) (states : List State) (d : Option Due) → AreQuiet d
    → managers_of (applied_if_due plan states d).states ≡ managers_of states
quietly plan states None h = refl
quietly plan states (Some d) h = quiet plan states d.node d.what h (slice_get states d.node) refl

after_stays : (plan : Network) (states : List State) (x : Incoming) (j : Journey)
    → managers_of (applied_after plan states x j).states ≡ managers_of states
after_stays plan states x j = quietly plan states (due_after x j.path j.end) (ends_quietly x j.path j.end)

-- what the ends of a batch leave to be done changes nothing of what is held
pub tell_stays : (at : Standing) (mk : List (List Mark)) (st : List State) (ss : List Settled) (ns : List ℕ)
    → managers_of (tell at mk st ss ns).states ≡ managers_of st
unfolding tell
tell_stays at mk st [] ns = refl
tell_stays at mk st (prints text ∷ ss) ns = tell_stays at mk st ss ns
tell_stays at mk st (routes line x before ∷ ss) [] = refl
tell_stays at mk st (routes line x before ∷ ss) (n ∷ ns) =
    tell_stays at mk (applied_after at.first st x (journey_by at mk x n)).states ss ns
    ∙ after_stays at.first st x (journey_by at mk x n)

-- ---- the lines of a batch

-- the line ends no batch
abbrev pub Joins : Network → Numbered → Type 0
Joins first l = (d : Option Due) → role_of first l.line ≡ alone d → ⊥

joins : (managers : List Management) (r : Role) → ((d : Option Due) → r ≡ alone d → ⊥) → after_role managers r ≡ managers
joins managers (routed x) never = refl
joins managers (later name) never = refl
joins managers aside never = refl
joins managers (alone d) never = absurd (never d refl)

batch_stays : (first : Network) (managers : List Management) (ls : List Numbered) → AllByRecursion (Joins first) ls
    → fold (after_line first) managers ls ≡ managers
batch_stays first managers [] h = refl
batch_stays first managers (l ∷ ls) h =
    batch_stays first (after_line first managers l) ls h.1 ∙ joins managers (role_of first l.line) h.0

pub managers_stay : (first : Network) (done ls : List Numbered) → AllByRecursion (Joins first) ls
    → managers_after first (done ++ ls) ≡ managers_after first done
managers_stay first done ls h = fold_append (after_line first) _ done ls ∙ batch_stays first (managers_after first done) ls h

pub managers_alone : (first : Network) (done : List Numbered) (l : Numbered)
    → managers_after first (done ++ l ∷ []) ≡ after_role (managers_after first done) (role_of first l.line)
managers_alone first done l = fold_append (after_line first) _ done (l ∷ [])
