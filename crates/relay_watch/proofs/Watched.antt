-- What is kept after an event, as the code keeps it.
use Rattle.std.proofs.Common.{◌≡◌, ℕ, zero, suc, ◌+◌, ◌<◌, ◌≤◌, Bool, true, false, List, [], ◌∷◌, ◌++◌, length, drop, Option, Some, None}
use Rattle.std.proofs.Common.{refl, sym, ◌∙◌, ap, subst, arith, length-append}
use Rattle.std.specs.Prelude.{nat_lt, if◌then◌else◌, slice_get, option_map, IfSome, IfOk, Result, Ok, Err}
use Rattle.std.specs.List.{All}
use Rattle.std.specs.Option.{option_and_then, option_to_list}
use Rattle.std.proofs.lemmas.Bool.{ltb-false}
use Rattle.std.proofs.lemmas.List.Elements.{All-append, All-drop, All-get_or, All-nil, All-cons}
use Rattle.std.proofs.lemmas.Option.{get_or_from_slice_get, slice_get_within}
use Rattle.sccp_message.specs.Reading.{reading}
use Rattle.plan_model.specs.Network.{Network}
use Rattle.relay_watch.specs.Arrivals.{source, target, IsWaiting, AreWaiting}
use Rattle.relay_watch.specs.Judging.{IsJudged, IsSaid}
use Rattle.relay_watch.specs.Kept as keeping
use Rattle.relay_watch.specs.Kept.{Kept, most_answered}
use Rattle.relay_watch.specs.Settling.{IsSettled}
use Rattle.relay_watch.specs.Watching.{IsWatched}
use Rattle.relay_watch.specs.Whys.{IsOfWaiting, AreAnswered, IsWhyOf}
use Rattle.relay_watch.specs.declared.answered.Answered.{Answered}
use Rattle.relay_watch.specs.declared.event.Event.{Event}
use Rattle.relay_watch.specs.declared.judged.Judged.{Judged}
use Rattle.relay_watch.specs.declared.line.Line.{Line}
use Rattle.relay_watch.specs.declared.verdict.Verdict.{Verdict}
use Rattle.relay_watch.specs.declared.waiting.Waiting.{Waiting}
use Rattle.relay_watch.proofs.Left.{leaves, place_inside}

-- ---- the arrival that was found

at_left : (xs ys : List Waiting) (p : ℕ) → p < length xs → slice_get (xs ++ ys) p ≡ slice_get xs p
at_left [] ys p h = absurd (omega (arith, h))
at_left (x ∷ xs) ys zero h = refl
at_left (x ∷ xs) ys (suc p) h = at_left xs ys p (omega (arith, h))

found_at : (xs ys : List Waiting) (place : Option ℕ) → IfSome place (λ p. p < length xs)
    → option_and_then (slice_get (xs ++ ys)) place ≡ option_and_then (slice_get xs) place
found_at xs ys None h = refl
found_at xs ys (Some p) h = at_left xs ys p h

-- ---- what is said and done of an event

pub watched : (plan : Network) (old : Kept) (e : Event) (j : Judged) (line : Line) (new : Kept) → AreWaiting old.waiting
    → (said : IsSaid plan old.waiting old.answered e (reading e.octets) j) → IsSettled plan e old j line new → IsWatched plan old e line new
watched plan old e j line new are said s =
    let l = leaves plan old.waiting old.answered e j line.given_up new.waiting are said s.waiting_is s.given_is in
    let inside = place_inside plan old.waiting old.answered e (reading e.octets) j said in
    record {
      found = said.found;
      search = said.search;
      why = said.why;
      verdict_is = s.verdict_is ∙ said.verdict_is;
      says_why = subst (λ (v : Verdict). IsWhyOf plan old.waiting old.answered e (reading e.octets) v) (sym s.verdict_is) said.says_why;
      given_is = l.given_is;
      unanswered_is = s.unanswered_is
          ∙ ap (λ (v : Verdict). keeping.unanswered_if (keeping.with_named old.named (keeping.named_in v)) line.given_up)
          (sym s.verdict_is);
      waiting_is = l.left;
      answered_is = s.answered_is
          ∙ ap (λ (o : Option Waiting). keeping.remembered (old.answered ++ option_to_list (option_map (keeping.answered e.number) o)))
          (found_at old.waiting (option_to_list j.begins) j.place inside)
          ∙ ap (λ (o : Option ℕ). keeping.remembered (old.answered ++ option_to_list (keeping.answered_at old.waiting e.number o)))
          said.place_is;
      named_is = s.named_is ∙ ap (λ (v : Verdict). keeping.left_named old.named v line.given_up) (sym s.verdict_is);
      relays_are = s.relays_are
          ∙ ap (λ (b : Bool). keeping.counted_unanswered (keeping.changed (keeping.arrived b) (target plan e)
          (keeping.changed (keeping.sent j.verdict) (source plan e) old.relays)) line.unanswered) said.other_is
          ∙ ap (λ (v : Verdict). keeping.left_relays plan e v line.unanswered old.relays) (sym s.verdict_is);
      events_are = s.events_are;
      unexplained_are = s.unexplained_are
          ∙ ap (λ (v : Verdict). keeping.one_more_if (keeping.is_unexplained v) old.unexplained) (sym s.verdict_is);
    }

-- what a watch says is what is judged of those that wait
pub judged_by : (plan : Network) (old : Kept) (e : Event) (line : Line) (new : Kept) → IsWatched plan old e line new
    → IsJudged plan old.waiting e line new.waiting
judged_by plan old e line new w = record {
  found = w.found;
  search = w.search;
  why = w.why;
  verdict_is = w.verdict_is;
  given_is = w.given_is;
  left = w.waiting_is;
}

-- ---- answered arrivals

waiting_at : (ws : List Waiting) (p : ℕ) (w : Waiting) → All IsWaiting ws → slice_get ws p ≡ Some w → IsWaiting w
waiting_at ws p w all at =
    subst IsWaiting (get_or_from_slice_get ws p w w at) (All-get_or IsWaiting ws p w (slice_get_within ws p w at) all)

one_answered : (ws : List Waiting) (number : ℕ) (place : Option ℕ) → All IsWaiting ws
    → All IsOfWaiting (option_to_list (option_map (keeping.answered number) (option_and_then (slice_get ws) place)))
one_answered ws number None all = All-nil IsOfWaiting
one_answered ws number (Some p) all = by (slice_get ws p) refl where
  by : (o : Option Waiting) → slice_get ws p ≡ o → All IsOfWaiting (option_to_list (option_map (keeping.answered number) o))
  by None at = All-nil IsOfWaiting
  by (Some w) at = All-cons IsOfWaiting (keeping.answered number w) [] (waiting_at ws p w all at) (All-nil IsOfWaiting)

at_most_one : (o : Option Answered) → length (option_to_list o) ≤ 1
at_most_one None = omega arith
at_most_one (Some x) = omega arith

fewer : (xs : List Answered) → length xs ≤ most_answered + 1 → length (drop 1 xs) ≤ most_answered
fewer [] h = omega arith
fewer (x ∷ xs) h = omega (arith, h)

kept_answered : (xs : List Answered) → All IsOfWaiting xs → length xs ≤ most_answered + 1 → AreAnswered (keeping.remembered xs)
kept_answered xs all le = by (nat_lt most_answered (length xs)) refl where
  by : (b : Bool) → nat_lt most_answered (length xs) ≡ b → AreAnswered (if b then drop 1 xs else xs)
  by true e = record { each = All-drop IsOfWaiting 1 xs all; few = fewer xs le }
  by false e = record { each = all; few = ltb-false most_answered (length xs) e }

pub still_answered : (ws : List Waiting) (xs : List Answered) (number : ℕ) (place : Option ℕ) → All IsWaiting ws → AreAnswered xs
    → AreAnswered (keeping.remembered (xs ++ option_to_list (option_map (keeping.answered number) (option_and_then (slice_get ws) place))))
still_answered ws xs number place all are =
    let o = option_map (keeping.answered number) (option_and_then (slice_get ws) place) in
    kept_answered (xs ++ option_to_list o) (All-append IsOfWaiting xs (option_to_list o) are.each (one_answered ws number place all))
    (omega (arith, are.few, at_most_one o, length-append xs (option_to_list o)))

pub all_waiting : (ws : List Waiting) (new : Option Waiting) → All IsWaiting ws → IfSome new IsWaiting
    → All IsWaiting (ws ++ option_to_list new)
all_waiting ws new all is = All-append IsWaiting ws (option_to_list new) all (one new is) where
  one : (o : Option Waiting) → IfSome o IsWaiting → All IsWaiting (option_to_list o)
  one None h = All-nil IsWaiting
  one (Some w) h = All-cons IsWaiting w [] h (All-nil IsWaiting)

pub judged_of : {E : Type 0} (r : Result Line E) (plan : Network) (old : Kept) (e : Event) (new : Kept)
    → IfOk r (λ line. IsWatched plan old e line new) → IfOk r (λ line. IsJudged plan old.waiting e line new.waiting)
judged_of (Ok line) plan old e new h = judged_by plan old e line new h
judged_of (Err x) plan old e new h = tt
