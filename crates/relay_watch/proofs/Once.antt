-- No arrival explains two messages, if no two events have the same number.
use Rattle.std.proofs.Common.{◌≡◌, ◌≢◌, ℕ, zero, suc, ◌<◌, Bool, true, false, List, [], ◌∷◌, ◌++◌, length, drop, Option, Some, None, refl}
use Rattle.std.proofs.Common.{sym, ◌∙◌, ap, subst, get_or, inl, inr, ⊎_elim, arith}
use Rattle.std.specs.Prelude.{nat_lt, if◌then◌else◌, slice_get, IsSomeAnd}
use Rattle.std.specs.List.{remove}
use Rattle.std.specs.Option.{option_to_list}
use Rattle.std.proofs.lemmas.Bool.{cases_order}
use Rattle.sccp_base.proofs.Among.{Among, Among-slice_get}
use Rattle.sccp_message.specs.Reading.{reading}
use Rattle.plan_model.specs.Network.{Network}
use Rattle.relay_ways.specs.declared.explanation.Explanation.{Explanation}
use Rattle.relay_watch.specs.Arrivals.{begins, most_waiting, left_at, joined, kept}
use Rattle.relay_watch.specs.Judging.{IsJudged, place_of}
use Rattle.relay_watch.specs.Runs.{AreJudged, HasVerdict, HasReason, NumbersDiffer}
use Rattle.relay_watch.specs.declared.event.Event.{Event}
use Rattle.relay_watch.specs.declared.found.Found.{Found}
use Rattle.relay_watch.specs.declared.line.Line.{Line}
use Rattle.relay_watch.specs.declared.verdict.Verdict.TheVariants.{Explained}
use Rattle.relay_watch.specs.declared.waiting.Waiting.{Waiting}
use Rattle.relay_watch.proofs.Steps.{line_names, begun, among_before, among_parts, among_removed, among_kept_back}
use Rattle.relay_watch.proofs.Told.{FromWaiting, explained_from}

-- no arrival has that number
abbrev pub Fresh : ℕ → List Waiting → Type 0
Fresh n ws = (w : Waiting) → Among w ws → w.number ≢ n

-- no event has it
abbrev pub Absent : ℕ → List Event → Type 0
Absent n events = (k : ℕ) (e : Event) → slice_get events k ≡ Some e → e.number ≢ n

-- no two arrivals have the same number
abbrev pub Apart : List Waiting → Type 0
Apart [] = Unit {0}
Apart (w ∷ ws) = Fresh w.number ws × Apart ws

-- no two events, and no arrival the number of an event
pub record Numbered (old : List Waiting) (events : List Event) : Type 0 where
  pub apart : Apart old
  pub ahead : (k : ℕ) (e : Event) → slice_get events k ≡ Some e → Fresh e.number old
  pub differ : NumbersDiffer events

apart_removed : (ws : List Waiting) (p : ℕ) → Apart ws → Apart (remove ws p)
apart_removed [] zero a = tt
apart_removed [] (suc p) a = tt
apart_removed (w ∷ ws) zero a = a.1
apart_removed (w ∷ ws) (suc p) a = (λ x at. a.0 x (among_removed x ws p at), apart_removed ws p a.1)

apart_left : (ws : List Waiting) (place : Option ℕ) → Apart ws → Apart (left_at ws place)
apart_left ws None a = a
apart_left ws (Some p) a = apart_removed ws p a

apart_push : (ws : List Waiting) (w : Waiting) → Apart ws → Fresh w.number ws → Apart (ws ++ w ∷ [])
apart_push [] w a f = (λ x at. absurd at, tt)
apart_push (v ∷ vs) w a f = (
  λ x at. ⊎_elim (λ (k : Among x vs). a.0 x k)
      (λ (k : Among x (w ∷ [])). ⊎_elim (λ (e : w ≡ x). λ same. f v (inl refl) (sym (ap (λ (y : Waiting). y.number) e ∙ same)))
      (λ (n : ⊥). absurd n) k)
      (among_parts x vs (w ∷ []) at),
  apart_push vs w a.1 (λ x at. f x (inr at)),
)

pub apart_kept : (ws : List Waiting) → Apart ws → Apart (kept ws)
apart_kept ws a = by (nat_lt most_waiting (length ws)) where
  tail : (xs : List Waiting) → Apart xs → Apart (drop 1 xs)
  tail [] k = tt
  tail (x ∷ xs) k = k.1

  by : (b : Bool) → Apart (if b then drop 1 ws else ws)
  by true = tail ws a
  by false = a

fresh_left : (n : ℕ) (ws : List Waiting) (place : Option ℕ) → Fresh n ws → Fresh n (left_at ws place)
fresh_left n ws None f = f
fresh_left n ws (Some p) f = λ w at. f w (among_removed w ws p at)

pub apart_joined : (ws : List Waiting) (place : Option ℕ) (new : Option Waiting) → Apart ws
    → ((w : Waiting) → new ≡ Some w → Fresh w.number ws) → Apart (left_at ws place ++ option_to_list new)
apart_joined ws place None a f = append_nothing (left_at ws place) (apart_left ws place a) where
  append_nothing : (xs : List Waiting) → Apart xs → Apart (xs ++ [])
  append_nothing [] k = tt
  append_nothing (x ∷ xs) k = (
    λ y at. ⊎_elim (λ (m : Among y xs). k.0 y m) (λ (m : ⊥). absurd m) (among_parts y xs [] at),
    append_nothing xs k.1,
  )
apart_joined ws place (Some w) a f = apart_push (left_at ws place) w (apart_left ws place a) (fresh_left w.number ws place (f w refl))

-- the first event has none of the numbers of the others
pub first_absent : (d : Event) (events : List Event) → NumbersDiffer (d ∷ events) → Absent d.number events
first_absent d events differ k e at same = differ 0 (suc k) e (omega arith) (there events k at)
    (sym same ∙ sym (ap (λ (x : Event). x.number) (reads events k at)))
  where
    there : (xs : List Event) (i : ℕ) → slice_get xs i ≡ Some e → suc i < length (d ∷ xs)
    there [] zero h = absurd cc
    there [] (suc i) h = absurd cc
    there (x ∷ xs) zero h = omega arith
    there (x ∷ xs) (suc i) h = omega (arith, there xs i h)

    reads : (xs : List Event) (i : ℕ) → slice_get xs i ≡ Some e → get_or xs i e ≡ e
    reads [] zero h = absurd cc
    reads [] (suc i) h = absurd cc
    reads (x ∷ xs) zero h = cc
    reads (x ∷ xs) (suc i) h = reads xs i h

rest_differ : (d : Event) (events : List Event) → NumbersDiffer (d ∷ events) → NumbersDiffer events
rest_differ d events differ i j e lt within = differ (suc i) (suc j) e (omega (arith, lt)) (omega (arith, within))

pub joined_apart : (plan : Network) (old : List Waiting) (d : Event) (events : List Event) (place : Option ℕ)
    → Numbered old (d ∷ events) → Apart (joined old place (begins plan d (reading d.octets)))
joined_apart plan old d events place n =
    apart_joined old place (begins plan d (reading d.octets)) n.apart
    (λ w new. subst (λ (k : ℕ). Fresh k old) (sym (begun plan d (reading d.octets) w new).numbered) (n.ahead 0 d refl))

-- what holds of the numbers before an event holds after it
pub numbered_next : (plan : Network) (old : List Waiting) (d : Event) (events : List Event) (line : Line) (next : List Waiting)
    → IsJudged plan old d line next → Numbered old (d ∷ events) → Numbered next events
numbered_next plan old d events line next h n = record {
  apart = subst Apart (sym h.left)
      (apart_kept (joined old (place_of h.found) (begins plan d (reading d.octets))) (joined_apart plan old d events (place_of h.found) n));
  ahead = λ k e at w among.
      ⊎_elim (λ (waited : Among w old). n.ahead (suc k) e at w waited)
      (λ (new : begins plan d (reading d.octets) ≡ Some w).
      λ same. first_absent d events n.differ k e at (sym same ∙ (begun plan d (reading d.octets) w new).numbered))
      (among_before plan old d line next w h among);
  differ = rest_differ d events n.differ;
}

-- a line that explains is that of an event
event_there : (plan : Network) (events : List Event) (lines : List Line) (old left : List Waiting) (i : ℕ) (line : Line)
    → AreJudged plan old events lines left → slice_get lines i ≡ Some line → (e : Event) × (slice_get events i ≡ Some e)
event_there plan [] [] old left zero line run at = absurd cc
event_there plan [] [] old left (suc i) line run at = absurd cc
event_there plan [] (x ∷ lines) old left i line run at = absurd run
event_there plan (d ∷ events) [] old left i line run at = absurd run
event_there plan (d ∷ events) (x ∷ lines) old left zero line run at = (d, refl)
event_there plan (d ∷ events) (x ∷ lines) old left (suc i) line run at = event_there plan events lines run.0 left i line run.2 at

line_there : (lines : List Line) (i by : ℕ) (ways : List Explanation) → HasVerdict lines i (Explained by ways)
    → (line : Line) × (slice_get lines i ≡ Some line)
line_there lines i by ways has = by_option (slice_get lines i) has where
  by_option : (o : Option Line) → IsSomeAnd o (λ (l : Line). l.verdict ≡ Explained by ways) → (line : Line) × (o ≡ Some line)
  by_option None h = absurd h
  by_option (Some l) h = (l, refl)

-- no line is explained by a number that no arrival and no event has
pub none_by : (plan : Network) (events : List Event) (lines : List Line) (old left : List Waiting) (i by : ℕ) (ways : List Explanation)
    → AreJudged plan old events lines left → Fresh by old → Absent by events → HasVerdict lines i (Explained by ways) → ⊥
none_by plan events lines old left i by ways run fresh absent has =
    let l = line_there lines i by ways has in
    let e = event_there plan events lines old left i l.0 run l.1 in
    ⊎_elim (λ (f : FromWaiting plan old e.0 by ways). fresh f.arrival f.among f.numbered)
    (λ (r : HasReason plan events i e.0 by ways). absent r.place r.arrival r.at r.numbered)
    (explained_from plan events lines old left i by e.0 ways run e.1 has)

-- the others have other numbers than the one that is taken out
fresh_without : (ws : List Waiting) (p : ℕ) (w : Waiting) → slice_get ws p ≡ Some w → Apart ws → Fresh w.number (remove ws p)
fresh_without [] zero w at a = absurd cc
fresh_without [] (suc p) w at a = absurd cc
fresh_without (x ∷ xs) zero w at a = let same : x ≡ w = cc in subst (λ (y : Waiting). Fresh y.number xs) same a.0
fresh_without (x ∷ xs) (suc p) w at a = λ y among.
    ⊎_elim (λ (e : x ≡ y). λ same. a.0 w (Among-slice_get xs p w at) (sym same ∙ sym (ap (λ (z : Waiting). z.number) e)))
    (λ (k : Among y (remove xs p)). fresh_without xs p w at a.1 y k) among

new_is : (w : Waiting) (o : Option Waiting) → Among w (option_to_list o) → o ≡ Some w
new_is w None at = absurd at
new_is w (Some x) at = ⊎_elim (λ (e : x ≡ w). ap Some e) (λ (z : ⊥). absurd z) at

-- once an arrival is taken out, neither another one nor the new one has its number
fresh_joined : (plan : Network) (old : List Waiting) (d : Event) (events : List Event) (p : ℕ) (arrival : Waiting)
    → Numbered old (d ∷ events) → slice_get old p ≡ Some arrival
    → Fresh arrival.number (joined old (Some p) (begins plan d (reading d.octets)))
fresh_joined plan old d events p arrival n at w among =
    ⊎_elim
    (λ (q : Among w (remove old p)). fresh_without old p arrival at n.apart w q)
    (λ (q : Among w (option_to_list (begins plan d (reading d.octets)))). λ same.
    n.ahead 0 d refl arrival (Among-slice_get old p arrival at)
    (sym same ∙ (begun plan d (reading d.octets) w (new_is w (begins plan d (reading d.octets)) q)).numbered))
    (among_parts w (remove old p) (option_to_list (begins plan d (reading d.octets))) among)

-- after a line explains its message by a number, no arrival has it
pub record Used (plan : Network) (old : List Waiting) (d : Event) (events : List Event) (next : List Waiting) (o : Option Found) (by : ℕ)
    : Type 0 where
  pub joint : Fresh by (joined old (place_of o) (begins plan d (reading d.octets)))
  pub after : Fresh by next
  pub coming : Absent by events

pub used : (plan : Network) (old : List Waiting) (d : Event) (events : List Event) (line : Line) (next : List Waiting) (by : ℕ)
    (ways : List Explanation) → (h : IsJudged plan old d line next) → Numbered old (d ∷ events) → line.verdict ≡ Explained by ways
    → Used plan old d events next h.found by
used plan old d events line next by ways h n v =
    let k = line_names plan old d line next by ways h v in
    let first = k.explaining.first in
    let number : first.arrival.number ≡ by = first.numbered ∙ k.numbered in
    let fresh : Fresh by (joined old (place_of h.found) (begins plan d (reading d.octets))) =
    subst (λ (m : ℕ). Fresh m (joined old (place_of h.found) (begins plan d (reading d.octets)))) number
    (subst (λ (o : Option ℕ). Fresh first.arrival.number (joined old o (begins plan d (reading d.octets)))) (sym (ap place_of k.is))
    (fresh_joined plan old d events k.found.place first.arrival n first.at)) in
    record {
      joint = fresh;
      after = λ w among. fresh w
          (among_kept_back w (joined old (place_of h.found) (begins plan d (reading d.octets))) (subst (Among w) h.left among));
      coming = λ i e at same.
          n.ahead (suc i) e at first.arrival (Among-slice_get old k.found.place first.arrival first.at) (number ∙ sym same);
    }

once_from : (plan : Network) (events : List Event) (lines : List Line) (old left : List Waiting) (i j by : ℕ)
    (ways others : List Explanation)
    → AreJudged plan old events lines left → Numbered old events → i < j → HasVerdict lines i (Explained by ways)
    → HasVerdict lines j (Explained by others) → ⊥
once_from plan events lines old left i zero by ways others run n lt has also = omega (arith, lt)
once_from plan [] [] old left zero (suc j) by ways others run n lt has also = has
once_from plan [] [] old left (suc i) (suc j) by ways others run n lt has also = has
once_from plan [] (x ∷ lines) old left i (suc j) by ways others run n lt has also = run
once_from plan (d ∷ events) [] old left i (suc j) by ways others run n lt has also = run
once_from plan (d ∷ events) (line ∷ lines) old left zero (suc j) by ways others run n lt has also =
    let u = used plan old d events line run.0 by ways run.1 n has in
    none_by plan events lines run.0 left j by others run.2 u.after u.coming also
once_from plan (d ∷ events) (line ∷ lines) old left (suc i) (suc j) by ways others run n lt has also =
    once_from plan events lines run.0 left i j by ways others run.2 (numbered_next plan old d events line run.0 run.1 n)
    (omega (arith, lt)) has also

pub from_nothing : (events : List Event) → NumbersDiffer events → Numbered [] events
from_nothing events differ = record { apart = tt; ahead = λ k e at w among. absurd among; differ = differ }

pub once : (plan : Network) (events : List Event) (lines : List Line) (left : List Waiting) (i j by : ℕ) (ways others : List Explanation)
    → AreJudged plan [] events lines left → NumbersDiffer events → HasVerdict lines i (Explained by ways)
    → HasVerdict lines j (Explained by others) → i ≡ j
once plan events lines left i j by ways others run differ has also =
    ⊎_elim (λ (e : i ≡ j). e)
    (λ o. ⊎_elim (λ (lt : i < j). absurd (once_from plan events lines [] left i j by ways others run
    (from_nothing events differ) lt has also))
    (λ (gt : j < i). absurd (once_from plan events lines [] left j i by others ways run (from_nothing events differ) gt also has)) o)
    (cases_order i j)
