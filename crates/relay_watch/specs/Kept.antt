-- What is kept while messages are judged, and what one message changes of it.
use Rattle.std.specs.Prelude.{ℕ, ◌+◌, ◌-◌, ◌^◌, min, Bool, true, false, not, ◌&&◌, ◌==◌, nat_lt, if◌then◌else◌, List, [], ◌∷◌, ◌++◌, length}
use Rattle.std.specs.Prelude.{map, drop}
use Rattle.std.specs.Prelude.{slice_get, replicate, Option, Some, None, option_map, set}
use Rattle.std.specs.List.{filter_map, list_any, position, remove}
use Rattle.std.specs.Option.{option_and_then, option_map_or}
use Rattle.sccp_message.specs.Reading.{reading}
use Rattle.plan_model.specs.declared.node.Node.{Node}
use Rattle.plan_model.specs.Network.{Network}
use Rattle.plan_rules.specs.Rule.{Rule}
use Rattle.relay_ways.specs.Markings as markings
use Rattle.relay_ways.specs.declared.condition.Condition.{Condition}
use Rattle.relay_ways.specs.declared.explanation.Explanation.{Explanation}
use Rattle.relay_ways.specs.declared.handling.Taken.{Taken}
use Rattle.relay_watch.specs.Arrivals.{source, target, is_other}
use Rattle.relay_watch.specs.declared.answered.Answered.{Answered}
use Rattle.relay_watch.specs.declared.counts.Counts.{Counts}
use Rattle.relay_watch.specs.declared.event.Event.{Event}
use Rattle.relay_watch.specs.declared.next.Next.{Next}
use Rattle.relay_watch.specs.declared.summary.Summary.{Summary}
use Rattle.relay_watch.specs.declared.tally.Tally.{Tally}
use Rattle.relay_watch.specs.declared.unanswered.Unanswered.{Unanswered}
use Rattle.relay_watch.specs.declared.verdict.Verdict.{Verdict}
use Rattle.relay_watch.specs.declared.verdict.Verdict.TheVariants.{Undecodable, Connection, Other, Arrived, Explained, Management, Own}
use Rattle.relay_watch.specs.declared.verdict.Verdict.TheVariants.{Unexplained}
use Rattle.relay_watch.specs.declared.waiting.Waiting.{Waiting}
use Rattle.relay_watch.specs.declared.why.Why.{Why}
use Rattle.relay_watch.specs.declared.why.Why.TheVariants.{By, Again, NoArrival}

-- The arrivals that wait, the answered ones, the numbers of waiting arrivals that an unexplained message names, what is kept of
-- each relay, and how many messages were judged and are unexplained.
pub record Kept : Type 0 where
  pub waiting : List Waiting
  pub answered : List Answered
  pub named : List ℕ
  pub relays : List Tally
  pub events : ℕ
  pub unexplained : ℕ

-- the count after one more; a count stops at the end of its type
abbrev pub one_more : ℕ → ℕ
one_more count = min (count + 1) (2 ^ 64 - 1)

abbrev pub one_more_if : Bool → ℕ → ℕ
one_more_if true count = one_more count
one_more_if false count = count

-- ---- before the first message

abbrev pub no_counts : Counts
no_counts = record { arrived = 0; sent = 0; plain = 0; failing = 0; unexplained = 0; unanswered = 0; others = 0; markings = 0 }

-- a count for each target of a row
abbrev pub none_taken : Rule → List ℕ
none_taken r = replicate (length r.targets) 0

abbrev pub first_tally : Node → Tally
first_tally node = record { counts = no_counts; taken = map none_taken node.table; so_far = None }

abbrev pub nothing_kept : Network → Kept
nothing_kept plan =
    record { waiting = []; answered = []; named = []; relays = map first_tally plan.nodes; events = 0; unexplained = 0 }

-- ---- answered arrivals

abbrev pub most_answered : ℕ
most_answered = 1024

abbrev pub answered : ℕ → Waiting → Answered
answered number w = record { arrival = w; by = number }

-- the arrival that was found, with the number of the message that it explains
abbrev pub answered_at : List Waiting → ℕ → Option ℕ → Option Answered
answered_at ws number place = option_map (answered number) (option_and_then (slice_get ws) place)

-- the last ones
abbrev pub remembered : List Answered → List Answered
remembered xs = if nat_lt most_answered (length xs) then drop 1 xs else xs

-- ---- named arrivals

-- the number of the arrival that a verdict names without being explained by it
abbrev pub named_by : Why → Option ℕ
named_by (By number reason) = Some number
named_by (Again number) = None
named_by NoArrival = None

abbrev pub named_in : Verdict → Option ℕ
named_in (Undecodable fault) = None
named_in Connection = None
named_in Other = None
named_in Arrived = None
named_in (Explained by ways) = None
named_in (Management status) = None
named_in (Own ssn) = None
named_in (Unexplained why) = named_by why

-- the number of the arrival that explains
abbrev pub explained_in : Verdict → Option ℕ
explained_in (Undecodable fault) = None
explained_in Connection = None
explained_in Other = None
explained_in Arrived = None
explained_in (Explained by ways) = Some by
explained_in (Management status) = None
explained_in (Own ssn) = None
explained_in (Unexplained why) = None

abbrev pub is_named : List ℕ → ℕ → Bool
is_named named number = list_any (λ n. n == number) named

abbrev pub with_named : List ℕ → Option ℕ → List ℕ
with_named named None = named
with_named named (Some number) = if is_named named number then named else named ++ number ∷ []

abbrev pub without_at : List ℕ → Option ℕ → List ℕ
without_at named None = named
without_at named (Some place) = remove named place

abbrev pub without : List ℕ → Option ℕ → List ℕ
without named None = named
without named (Some number) = without_at named (position (λ n. n == number) named)

abbrev pub number_of : Option Waiting → Option ℕ
number_of given = option_map (λ w. w.number) given

-- an arrival that waits no more, and was not answered: it is unanswered if it is due and not named
abbrev pub unanswered : List ℕ → Waiting → Option Unanswered
unanswered named w = if w.due && not (is_named named w.number) then Some (record { number = w.number; node = w.node }) else None

abbrev pub unanswered_if : List ℕ → Option Waiting → Option Unanswered
unanswered_if named given = option_and_then (unanswered named) given

-- after the verdict the arrival that explains and the one that is given up are named no more
abbrev pub left_named : List ℕ → Verdict → Option Waiting → List ℕ
left_named named v given = without (without (with_named named (named_in v)) (explained_in v)) (number_of given)

-- ---- counts

-- the item at a place changed
abbrev pub changed : {A : Type 0} → (A → A) → Option ℕ → List A → List A
changed f None xs = xs
changed f (Some i) xs = option_map_or (λ x. set xs i (f x)) (slice_get xs i) xs

abbrev pub counted : (Counts → Counts) → Tally → Tally
counted f t = record { counts = f t.counts; taken = t.taken; so_far = t.so_far }

abbrev pub one_other : Counts → Counts
one_other c = record c { others = one_more c.others }

abbrev pub one_arrived : Counts → Counts
one_arrived c = record c { arrived = one_more c.arrived }

abbrev pub one_unanswered : Counts → Counts
one_unanswered c = record c { unanswered = one_more c.unanswered }

abbrev pub one_unexplained : Counts → Counts
one_unexplained c = record c { sent = one_more c.sent; unexplained = one_more c.unexplained }

-- with nothing held it is sent in one of these ways
abbrev pub is_plain : List Explanation → Bool
is_plain ways = list_any (λ w. length w.condition.one_of == 0) ways

abbrev pub one_explained : Bool → Bool → Counts → Counts
one_explained is_plain begins c = record c {
  sent = one_more c.sent;
  plain = one_more_if is_plain c.plain;
  failing = one_more_if (not is_plain) c.failing;
  markings = one_more_if begins c.markings;
}

-- the target is taken once more
abbrev pub taken_once : Option Taken → List (List ℕ) → List (List ℕ)
taken_once None taken = taken
taken_once (Some t) taken = changed (changed one_more (Some t.target)) (Some t.row) taken

-- a message that is explained in these ways counts by the first
abbrev pub explained : List Explanation → Tally → Tally
explained [] t = t
explained (w ∷ ws) t = record {
  counts = one_explained (is_plain (w ∷ ws)) (markings.begins t.so_far w.condition) t.counts;
  taken = taken_once w.handling.taken t.taken;
  so_far = Some (markings.joined t.so_far w.condition);
}

-- whether another marking begins with an explained message, and the condition of the last marking afterwards

abbrev pub next_by : Option Condition → List Explanation → Option Next
next_by so_far [] = None
next_by so_far (w ∷ ws) =
    Some (record { begins = markings.begins so_far w.condition; so_far = markings.joined so_far w.condition })

abbrev pub next_in : Option Condition → Verdict → Option Next
next_in so_far (Undecodable fault) = None
next_in so_far Connection = None
next_in so_far Other = None
next_in so_far Arrived = None
next_in so_far (Explained by ways) = next_by so_far ways
next_in so_far (Management status) = None
next_in so_far (Own ssn) = None
next_in so_far (Unexplained why) = None

abbrev pub next_of : List Tally → Option ℕ → Verdict → Option Next
next_of relays None v = None
next_of relays (Some node) v = option_and_then (λ t. next_in t.so_far v) (slice_get relays node)

-- what a verdict changes at the relay that sent the message
abbrev pub sent : Verdict → Tally → Tally
sent (Undecodable fault) t = counted one_other t
sent Connection t = counted one_other t
sent Other t = t
sent Arrived t = t
sent (Explained by ways) t = explained ways t
sent (Management status) t = counted one_other t
sent (Own ssn) t = counted one_other t
sent (Unexplained why) t = counted one_unexplained t

-- what a message changes at the relay that it is for
abbrev pub arrived : Bool → Tally → Tally
arrived other t = counted (if other then one_other else one_arrived) t

abbrev pub counted_unanswered : List Tally → Option Unanswered → List Tally
counted_unanswered relays None = relays
counted_unanswered relays (Some u) = changed (counted one_unanswered) (Some u.node) relays

abbrev pub left_relays : Network → Event → Verdict → Option Unanswered → List Tally → List Tally
left_relays plan e v u relays =
    counted_unanswered (changed (arrived (is_other (reading e.octets))) (target plan e) (changed (sent v) (source plan e) relays)) u

abbrev pub is_unexplained : Verdict → Bool
is_unexplained (Undecodable fault) = false
is_unexplained Connection = false
is_unexplained Other = false
is_unexplained Arrived = false
is_unexplained (Explained by ways) = false
is_unexplained (Management status) = false
is_unexplained (Own ssn) = false
is_unexplained (Unexplained why) = true

-- ---- at the end

abbrev pub all_unanswered : Kept → List Unanswered
all_unanswered k = filter_map (unanswered k.named) k.waiting

abbrev pub all_counted : List Tally → List Unanswered → List Tally
all_counted relays [] = relays
all_counted relays (u ∷ us) = all_counted (counted_unanswered relays (Some u)) us

abbrev pub summary_of : Kept → Summary
summary_of k = record {
  unanswered = all_unanswered k;
  relays = all_counted k.relays (all_unanswered k);
  events = k.events;
  unexplained = k.unexplained;
}
