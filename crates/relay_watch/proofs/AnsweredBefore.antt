-- Which arrivals are remembered as answered.
use Rattle.std.proofs.Common.{◌≡◌, ℕ, suc, Bool, true, false, List, [], ◌∷◌, length, drop, Option, Some, None, refl, sym, ◌∙◌, ap, subst}
use Rattle.std.proofs.Common.{◌⊎◌, inl, inr, ⊎_elim}
use Rattle.std.specs.Prelude.{nat_lt, if◌then◌else◌, option_map, slice_get}
use Rattle.std.specs.Option.{option_to_list}
use Rattle.sccp_base.proofs.Among.{Among, Among-slice_get}
use Rattle.sccp_message.specs.Reading.{reading}
use Rattle.plan_model.specs.Network.{Network}
use Rattle.relay_ways.specs.declared.explanation.Explanation.{Explanation}
use Rattle.relay_watch.specs.Arrivals.{begins}
use Rattle.relay_watch.specs.Judging.{place_of}
use Rattle.relay_watch.specs.Kept.{Kept, answered, answered_at, most_answered, remembered}
use Rattle.relay_watch.specs.Runs.{HasVerdict}
use Rattle.relay_watch.specs.Verdicts.{verdict_of}
use Rattle.relay_watch.specs.Watching.{IsWatched, AreWatched}
use Rattle.relay_watch.specs.declared.answered.Answered.{Answered}
use Rattle.relay_watch.specs.declared.event.Event.{Event}
use Rattle.relay_watch.specs.declared.found.Found.{Found}
use Rattle.relay_watch.specs.declared.line.Line.{Line}
use Rattle.relay_watch.specs.declared.verdict.Verdict.TheVariants as verdicts
use Rattle.relay_watch.specs.declared.waiting.Waiting.{Waiting}
use Rattle.relay_watch.proofs.Steps.{Begun, Explaining, found_says, begun, among_before, among_parts}
use Rattle.relay_watch.proofs.Watched.{judged_by}

-- one of the events began it
pub record HasBegun (plan : Network) (events : List Event) (w : Waiting) : Type 0 where
  pub place : ℕ
  pub event : Event
  pub at : slice_get events place ≡ Some event
  pub begun : Begun plan event w

-- A line explains its message by the arrival, and the message has that number. The arrival waited before the events, or is one of them.
pub record IsAnswer (plan : Network) (old : List Waiting) (events : List Event) (lines : List Line) (x : Answered) : Type 0 where
  pub place : ℕ
  pub answer : Event
  pub at : slice_get events place ≡ Some answer
  pub numbered : answer.number ≡ x.by
  pub told : List Explanation
  pub explains : HasVerdict lines place (verdicts.Explained x.arrival.number told)
  pub came : Among x.arrival old ⊎ HasBegun plan events x.arrival

remembered_back : (x : Answered) (xs : List Answered) → Among x (remembered xs) → Among x xs
remembered_back x xs at = by (nat_lt most_answered (length xs)) at where
  tail : (ys : List Answered) → Among x (drop 1 ys) → Among x ys
  tail [] k = absurd k
  tail (y ∷ ys) k = inr k

  by : (b : Bool) → Among x (if b then drop 1 xs else xs) → Among x xs
  by true k = tail xs k
  by false k = k

among_option : (x : Answered) (o : Option Answered) → Among x (option_to_list o) → o ≡ Some x
among_option x None at = absurd at
among_option x (Some y) at = ⊎_elim (λ (e : y ≡ x). ap Some e) (λ (n : ⊥). absurd n) at

-- the new one is the arrival that the line names
new_answer : (plan : Network) (old : Kept) (d : Event) (events : List Event) (line : Line) (lines : List Line) (next : Kept) (x : Answered)
    → (h : IsWatched plan old d line next) → Among x (option_to_list (answered_at old.waiting d.number (place_of h.found)))
    → IsAnswer plan old.waiting (d ∷ events) (line ∷ lines) x
new_answer plan old d events line lines next x h at =
    by h.found (found_says plan old.waiting d h.found h.why (reading d.octets) refl h.search).0 h.verdict_is at
  where
    by : (o : Option Found)
        → ((f : Found) → o ≡ Some f → (verdict_of plan d o h.why (reading d.octets) ≡ verdicts.Explained f.by f.ways)
        × Explaining plan old.waiting d f)
        → line.verdict ≡ verdict_of plan d o h.why (reading d.octets)
        → Among x (option_to_list (answered_at old.waiting d.number (place_of o)))
        → IsAnswer plan old.waiting (d ∷ events) (line ∷ lines) x
    by None says v k = absurd k
    by (Some f) says v k =
        let s = says f refl in
        let first = s.1.first in
        let e : answered_at old.waiting d.number (Some f.place) ≡ Some (answered d.number first.arrival) =
        ap (option_map (answered d.number)) first.at in
        let same : Some (answered d.number first.arrival) ≡ Some x = sym e
        ∙ among_option x (answered_at old.waiting d.number (Some f.place)) k in
        let is : answered d.number first.arrival ≡ x = cc in
        subst (λ (y : Answered). IsAnswer plan old.waiting (d ∷ events) (line ∷ lines) y) is (record {
          place = 0;
          answer = d;
          at = refl;
          numbered = refl;
          told = f.ways;
          explains = v ∙ s.0 ∙ ap (λ n. verdicts.Explained n f.ways) (sym first.numbered);
          came = inl (Among-slice_get old.waiting f.place first.arrival first.at);
        })

later_begun : (plan : Network) (d : Event) (events : List Event) (w : Waiting) → HasBegun plan events w → HasBegun plan (d ∷ events) w
later_begun plan d events w b = record { place = suc b.place; event = b.event; at = b.at; begun = b.begun }

first_begun : (plan : Network) (d : Event) (events : List Event) (w : Waiting) → begins plan d (reading d.octets) ≡ Some w
    → HasBegun plan (d ∷ events) w
first_begun plan d events w is = record { place = 0; event = d; at = refl; begun = begun plan d (reading d.octets) w is }

pub answers_from : (plan : Network) (events : List Event) (lines : List Line) (old now : Kept) (x : Answered)
    → AreWatched plan old events lines now
    → Among x now.answered → Among x old.answered ⊎ IsAnswer plan old.waiting events lines x
answers_from plan [] [] old now x run at = inl (subst (λ (k : Kept). Among x k.answered) run at)
answers_from plan [] (line ∷ lines) old now x run at = absurd run
answers_from plan (d ∷ events) [] old now x run at = absurd run
answers_from plan (d ∷ events) (line ∷ lines) old now x run at =
    ⊎_elim
    (λ (k : Among x run.0.answered).
    ⊎_elim (λ (m : Among x old.answered). inl m)
    (λ (m : Among x (option_to_list (answered_at old.waiting d.number (place_of run.1.found)))).
    inr (new_answer plan old d events line lines run.0 x run.1 m))
    (among_parts x old.answered (option_to_list (answered_at old.waiting d.number (place_of run.1.found)))
    (remembered_back x _ (subst (Among x) run.1.answered_is k))))
    (λ (a : IsAnswer plan run.0.waiting events lines x). inr (record {
      place = suc a.place;
      answer = a.answer;
      at = a.at;
      numbered = a.numbered;
      told = a.told;
      explains = a.explains;
      came = ⊎_elim
          (λ (k : Among x.arrival run.0.waiting).
          ⊎_elim (λ (m : Among x.arrival old.waiting). inl m)
          (λ (m : begins plan d (reading d.octets) ≡ Some x.arrival). inr (first_begun plan d events x.arrival m))
          (among_before plan old.waiting d line run.0.waiting x.arrival (judged_by plan old d line run.0 run.1) k))
          (λ (b : HasBegun plan events x.arrival). inr (later_begun plan d events x.arrival b)) a.came;
    }))
    (answers_from plan events lines run.0 now x run.2 at)
