-- a message that is passed from relay to relay, compared with its octets
use Rattle.std.specs.Prelude.{◌≡◌, ℕ, ◌-◌, ◌<◌, false, List, [], ◌∷◌, ◌++◌, Option, Some, Result, Ok, Err, IfOk, IfSome, length, refl}
use Rattle.std.proofs.Common.{zero, suc, sym, ◌∙◌, ap, subst, append_assoc}
use Rattle.std.proofs.lemmas.Bool.{false≢true}
use Rattle.sccp_base.specs.declared.mark.Mark.{Mark}
use Rattle.sccp_message.specs.declared.message.Message.{Message}
use Rattle.sccp_message.specs.declared.fault.DecodeFault.{DecodeFault}
use Rattle.sccp_message.specs.Reading.{reading}
use Rattle.sccp_message.specs.Written.{message_octets}
use Rattle.sccp_message.specs.Unitdata.{called_of}
use Rattle.plan_model.specs.declared.hop.Hop.{Hop}
use Rattle.plan_model.specs.Network.{Network, IsPlan}
use Rattle.sccp_scrc.specs.declared.arrival.Arrival.{Arrival}
use Rattle.sccp_scrc.specs.declared.arrival.Arrival.TheVariants.{Relayed}
use Rattle.sccp_scrc.specs.declared.arrival.Arrival.TheVariants as arrivals
use Rattle.sccp_scrc.specs.Arriving.{arrival, by_called, of_message, point_of}
use Rattle.sccp_scrc.specs.declared.passed.Passed.{Passed}
use Rattle.sccp_scrc.specs.declared.passed.Passed.TheVariants as passes
use Rattle.sccp_scrc.specs.Passing.{sent_on, is_relayed, IsStepped, IsPassed, ReadsAgain}
use Rattle.sccp_scrc.proofs.Redirected.{reads_again}
use Rattle.sccp_scrc.proofs.Arrivals.{node_again}
use Rattle.sccp_scrc.proofs.Onward.{sent_reads}
use Rattle.relay_net.specs.Journeys.{Trip, trip, after, held_at, onward, travel, most_arrivals, trip_of}
use Rattle.relay_net.specs.Riding.{GoesOn, Rests}
use Rattle.relay_net.proofs.Turns.{relayed_turn, last_turn}

-- what becomes of octets is what becomes of the message that they are
of_octets : (plan : Network) (node : ℕ) (marking : List Mark) (origin : ℕ) (m : Message) → ReadsAgain m
    → arrival plan node marking origin (message_octets m) ≡ by_called plan node marking origin m (called_of m)
of_octets plan node marking origin m again = ap (of_message plan node marking origin) (reads_again m again.message again.sound)

pub arrived : {E : Type 0} (r : Result Arrival E) (plan : Network) (node : ℕ) (marking held : List Mark) (origin : ℕ) (m : Message)
    → ReadsAgain m → marking ≡ held →
    IfOk r (λ a. a ≡ by_called plan node marking origin m (called_of m))
    → IfOk r (λ a. a ≡ arrival plan node held origin (message_octets m))
arrived r plan node marking held origin m again e h =
    subst (λ (y : Arrival). IfOk r (λ a. a ≡ y)) (sym (of_octets plan node marking origin m again)
    ∙ ap (λ (x : List Mark). arrival plan node x origin (message_octets m)) e) h

pub passed_at : {E : Type 0} (r : Result Passed E) (plan : Network) (node : ℕ) (marking held : List Mark) (m new : Message)
    → marking ≡ held →
    IfOk r (IsPassed plan node marking (λ origin. by_called plan node marking origin m (called_of m)) (sent_on plan node marking m) m new) →
    IfOk r (IsPassed plan node held (λ origin. by_called plan node held origin m (called_of m)) (sent_on plan node held m) m new)
passed_at r plan node marking held m new e h =
    subst (λ (x : List Mark). IfOk r (IsPassed plan node x (λ origin. by_called plan node x origin m (called_of m))
    (sent_on plan node x m) m new)) e h

-- a message that is passed on, or stays, reads again
pub passed_again : {E : Type 0} (r : Result Passed E) (plan : Network) (node : ℕ) (marking : List Mark) (m new : Message) → IsPlan plan
    → ReadsAgain m →
    IfOk r (IsPassed plan node marking (λ origin. by_called plan node marking origin m (called_of m)) (sent_on plan node marking m) m new)
    → IfOk r (λ p. ReadsAgain new)
passed_again (Err e) plan node marking m new is again h = tt
passed_again (Ok (passes.On next)) plan node marking m new is again h = sent_reads plan node marking m new is again h.2
passed_again (Ok (passes.Stays hop)) plan node marking m new is again h = subst ReadsAgain (sym h.0.0) again

-- ---- one turn

-- what `pass` says of a message at a node
abbrev Passing : Network → List (List Mark) → ℕ → Message → Message → Passed → Type 0
Passing plan states node m new =
    IsPassed plan node (held_at states node) (λ origin. by_called plan node (held_at states node) origin m (called_of m))
    (sent_on plan node (held_at states node) m) m new

-- the next node is one of the plan
pub next_within : (plan : Network) (states : List (List Mark)) (node : ℕ) (m new : Message) (p : Passed) (next : ℕ)
    → Passing plan states node m new p → p ≡ passes.On next → next < length plan.nodes
next_within plan states node m new p next h is = (subst (Passing plan states node m new) is h).0

on_turn : (plan : Network) (states : List (List Mark)) (left node origin : ℕ) (m new : Message) (next from : ℕ) → IsPlan plan → 0 < left
    → ReadsAgain m → Passing plan states node m new (passes.On next) → from ≡ point_of plan node →
    travel plan states left node origin (message_octets m) ≡ after node (travel plan states (left - 1) next from (message_octets new))
on_turn plan states left node origin m new next from is lt again h f =
    relayed_turn plan states left node origin (message_octets m) (arrival plan node (held_at states node) origin (message_octets m))
    (point_of plan next) (message_octets new) next from (message_octets new) lt refl
    (of_octets plan node (held_at states node) origin m again ∙ h.1 origin) (sym (node_again plan next is h.0)) f refl

longer : (old pushed new : List ℕ) (before t rest : Trip) (node : ℕ) → pushed ≡ old ++ node ∷ [] → before ≡ after node t
    → GoesOn pushed t new rest → GoesOn old before new rest
longer old pushed new before t rest node a e h = record {
  last = ap (λ (x : Trip). x.last) e ∙ h.last;
  nodes = ap (λ (x : Trip). old ++ x.path) e ∙ (sym (append_assoc old (node ∷ []) t.path)
      ∙ (ap (λ (xs : List ℕ). xs ++ t.path) (sym a) ∙ h.nodes));
}

-- nothing was appended yet
pub nowhere_yet : (path : List ℕ) (t : Trip) → GoesOn path t path t
nowhere_yet path t = record { last = refl; nodes = refl }

pub further : (first second third : List ℕ) (a b c : Trip) → GoesOn first a second b → GoesOn second b third c → GoesOn first a third c
further first second third a b c before after = record { last = before.last ∙ after.last; nodes = before.nodes ∙ after.nodes }

-- if it is passed on
pub rode : (plan : Network) (states : List (List Mark)) (left node origin : ℕ) (m new : Message) (p : Passed) (next from : ℕ)
    (old pushed : List ℕ) → IsPlan plan → 0 < left → ReadsAgain m → Passing plan states node m new p → p ≡ passes.On next
    → from ≡ point_of plan node → pushed ≡ old ++ node ∷ [] →
    GoesOn old (travel plan states left node origin (message_octets m)) pushed
    (travel plan states (left - 1) next from (message_octets new))
rode plan states left node origin m new p next from old pushed is_plan lt again h is f a =
    longer old pushed pushed _ _ _ node a (on_turn plan states left node origin m new next from is_plan lt again
    (subst (Passing plan states node m new) is h) f) (nowhere_yet pushed (travel plan states (left - 1) next from (message_octets new)))

-- if it stays
pub halts : (plan : Network) (states : List (List Mark)) (left node origin : ℕ) (m new : Message) (p : Passed) (hop : Option Hop)
    (path : List ℕ) → Passing plan states node m new p → p ≡ passes.Stays hop →
    GoesOn path (travel plan states left node origin (message_octets m)) path (travel plan states left node origin (message_octets new))
halts plan states left node origin m new p hop path h is =
    let same : new ≡ m = (subst (Passing plan states node m new) is h).0.0 in
    let e = ap (λ (x : Message). travel plan states left node origin (message_octets x)) (sym same) in
    record { last = ap (λ (x : Trip). x.last) e; nodes = ap (λ (x : Trip). path ++ x.path) e }

pub rests : (plan : Network) (states : List (List Mark)) (node : ℕ) (m new : Message) (p : Passed) (hop : Option Hop)
    → Passing plan states node m new p → p ≡ passes.Stays hop → Rests plan node (held_at states node) new hop
rests plan states node m new p hop h is =
    let k = subst (Passing plan states node m new) is h in
    subst (λ (x : Message). Rests plan node (held_at states node) x hop) (sym k.0.0) (record { unrelayed = k.0.1; found = k.1 })

-- ---- at its rest

-- what is not relayed is the last arrival
apart : (x : Arrival) (pc : ℕ) (octets : List ℕ) → is_relayed x ≡ false → x ≡ Relayed pc octets → ⊥
apart x pc octets e is = false≢true (sym e ∙ ap is_relayed is)

pub unrelayed : {E : Type 0} (r : Result Arrival E) (plan : Network) (node : ℕ) (marking held : List Mark) (origin : ℕ) (m : Message)
    → marking ≡ held → ((from : ℕ) → is_relayed (by_called plan node held from m (called_of m)) ≡ false) →
    IfOk r (λ a. a ≡ by_called plan node marking origin m (called_of m)) → IfOk r (λ a. is_relayed a ≡ false)
unrelayed (Err e) plan node marking held origin m same never h = tt
unrelayed (Ok a) plan node marking held origin m same never h = ap is_relayed h
    ∙ (ap (λ (x : List Mark). is_relayed (by_called plan node x origin m (called_of m))) same ∙ never origin)

-- the hop that was looked up
pub looked_up : (plan : Network) (node : ℕ) (marking held : List Mark) (m : Message) (o : Option Hop) (hop : Hop) → marking ≡ held
    → o ≡ Some hop →
    IfSome o (IsStepped plan node held (λ origin. by_called plan node held origin m (called_of m)) m)
    → IsStepped plan node marking (λ origin. by_called plan node marking origin m (called_of m)) m hop
looked_up plan node marking held m o hop same is h =
    subst (λ (x : List Mark). IsStepped plan node x (λ origin. by_called plan node x origin m (called_of m)) m hop) (sym same)
    (subst (λ (q : Option Hop). IfSome q (IsStepped plan node held (λ origin. by_called plan node held origin m (called_of m)) m)) is h)

-- it is the last arrival of the trip
pub last_here : (plan : Network) (states : List (List Mark)) (left node origin : ℕ) (b : List ℕ) (a : Arrival) → 0 < left
    → a ≡ arrival plan node (held_at states node) origin b → is_relayed a ≡ false
    → travel plan states left node origin b ≡ trip (node ∷ []) (Some a)
last_here plan states left node origin b a lt h never = last_turn plan states left node origin b a lt h
    (λ pc octets is. apart a pc octets never is)

-- ---- the first arrival

-- trips of octets that read alike are the same
same_trip : (plan : Network) (states : List (List Mark)) (left node origin : ℕ) (a b : List ℕ) → reading a ≡ reading b
    → travel plan states left node origin a ≡ travel plan states left node origin b
same_trip plan states zero node origin a b e = refl
same_trip plan states (suc left) node origin a b e = ap (λ r. onward plan node (of_message plan node (held_at states node) origin r)
    (λ next from octets. travel plan states left next from octets)) e

pub read_trip : (plan : Network) (states : List (List Mark)) (left entry origin : ℕ) (b : List ℕ) (m : Message) → ReadsAgain m
    → reading b ≡ Ok m → left ≡ most_arrivals (Ok m) → travel plan states left entry origin (message_octets m)
    ≡ trip_of plan states entry origin b
read_trip plan states left entry origin b m again reads count =
    same_trip plan states left entry origin (message_octets m) b (reads_again m again.message again.sound ∙ sym reads)
    ∙ ap (λ n. travel plan states n entry origin b) (count ∙ ap most_arrivals (sym reads))

pub unread_trip : (plan : Network) (states : List (List Mark)) (entry origin : ℕ) (b : List ℕ) (f : DecodeFault) → reading b ≡ Err f
    → trip_of plan states entry origin b ≡ trip (entry ∷ []) (Some (arrivals.Undecodable f))
unread_trip plan states entry origin b f reads =
    ap (λ r. travel plan states (most_arrivals r) entry origin b) reads
    ∙ ap (λ r. onward plan entry (of_message plan entry (held_at states entry) origin r)
    (λ next from octets. travel plan states 13 next from octets)) reads
