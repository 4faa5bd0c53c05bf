-- Which arrivals wait after events: those of the events that no line names.
use Rattle.std.proofs.Common.{◌≡◌, ℕ, zero, suc, Bool, true, false, ◌||◌, List, [], ◌∷◌, ◌++◌, length, drop, Option, Some, None, refl}
use Rattle.std.proofs.Common.{sym, ◌∙◌, ap, subst, inl, inr, ⊎_elim, append_assoc}
use Rattle.std.specs.Prelude.{◌==◌, nat_lt, not, if◌then◌else◌, slice_get}
use Rattle.std.specs.List.{filter, cons_option, list_any, remove}
use Rattle.std.specs.Option.{option_to_list}
use Rattle.std.proofs.lemmas.Bool.{eqb-true, eq-eqb}
use Rattle.std.proofs.lemmas.List.{append-nil}
use Rattle.std.proofs.lemmas.List.Elements.{filter-append}
use Rattle.sccp_base.proofs.Among.{Among, Among-slice_get}
use Rattle.sccp_message.specs.Reading.{reading}
use Rattle.plan_model.specs.Network.{Network}
use Rattle.relay_ways.specs.declared.explanation.Explanation.{Explanation}
use Rattle.relay_watch.specs.Arrivals.{begins, most_waiting, joined, kept, given_up}
use Rattle.relay_watch.specs.Judging.{IsJudged, place_of}
use Rattle.relay_watch.specs.Runs.{AreJudged, explains, gives_up, names}
use Rattle.relay_watch.specs.Verdicts.{verdict_of}
use Rattle.relay_watch.specs.WhyRuns.{arrivals_of, is_unnamed}
use Rattle.relay_watch.specs.declared.event.Event.{Event}
use Rattle.relay_watch.specs.declared.found.Found.{Found}
use Rattle.relay_watch.specs.declared.line.Line.{Line}
use Rattle.relay_watch.specs.declared.verdict.Verdict.{Verdict}
use Rattle.relay_watch.specs.declared.verdict.Verdict.TheVariants as verdicts
use Rattle.relay_watch.specs.declared.waiting.Waiting.{Waiting}
use Rattle.relay_watch.proofs.Once.{Apart, Numbered, joined_apart, numbered_next, used}
use Rattle.relay_watch.proofs.Steps.{Explaining, found_says, number_in, begun}
use Rattle.relay_watch.proofs.Waited.{absent_joined}

-- ---- lists without some of their items

-- the arrivals without those of a number
abbrev without : ℕ → List Waiting → List Waiting
without n ws = filter (λ w. not (n == w.number)) ws

differ : (a b : ℕ) → (a ≡ b → ⊥) → not (a == b) ≡ true
differ a b apart = by (a == b) refl where
  by : (c : Bool) → (a == b) ≡ c → not c ≡ true
  by true e = absurd (apart (eqb-true a b e))
  by false e = refl

not_true : (b : Bool) → (b ≡ true → ⊥) → b ≡ false
not_true true apart = absurd (apart refl)
not_true false apart = refl

-- a filter that every item passes
passes_all : (p : Waiting → Bool) (ws : List Waiting) → ((w : Waiting) → Among w ws → p w ≡ true) → filter p ws ≡ ws
passes_all p [] all = refl
passes_all p (w ∷ ws) all =
    ap (λ b. if b then w ∷ filter p ws else filter p ws) (all w (inl refl))
    ∙ ap (λ xs. w ∷ xs) (passes_all p ws (λ v at. all v (inr at)))

-- one after the other
filter_twice : (p q : Waiting → Bool) (ws : List Waiting) → filter (λ w. not (p w || q w)) ws
    ≡ filter (λ w. not (q w)) (filter (λ w. not (p w)) ws)
filter_twice p q [] = refl
filter_twice p q (w ∷ ws) = by (p w) (q w) refl (filter_twice p q ws) where
  by : (a b : Bool) → q w ≡ b → filter (λ w. not (p w || q w)) ws ≡ filter (λ w. not (q w)) (filter (λ w. not (p w)) ws)
      → (if not (a || b) then w ∷ filter (λ w. not (p w || q w)) ws else filter (λ w. not (p w || q w)) ws)
      ≡ filter (λ w. not (q w)) (if not a then w ∷ filter (λ w. not (p w)) ws else filter (λ w. not (p w)) ws)
  by true b e more = more
  by false true e more = more ∙ sym (ap (λ c. if not c then w ∷ filter (λ w. not (q w)) (filter (λ w. not (p w)) ws)
      else filter (λ w. not (q w)) (filter (λ w. not (p w)) ws)) e)
  by false false e more = ap (λ xs. w ∷ xs) more ∙ sym (ap (λ c. if not c then w ∷ filter (λ w. not (q w)) (filter (λ w. not (p w)) ws)
      else filter (λ w. not (q w)) (filter (λ w. not (p w)) ws)) e)

-- if no two have the same number, one less is all but those of its number
taken_out : (ws : List Waiting) (p : ℕ) (a : Waiting) → slice_get ws p ≡ Some a → Apart ws → without a.number ws ≡ remove ws p
taken_out [] zero a at apart = absurd cc
taken_out [] (suc p) a at apart = absurd cc
taken_out (w ∷ ws) zero a at apart =
    let same : w ≡ a = cc in
    ap (λ b. if not b then w ∷ without a.number ws else without a.number ws)
    (eq-eqb a.number w.number (ap (λ (x : Waiting). x.number) (sym same)))
    ∙ passes_all (λ v. not (a.number == v.number)) ws
    (λ v among. differ a.number v.number (λ e. apart.0 v among (sym e ∙ ap (λ (x : Waiting). x.number) (sym same))))
taken_out (w ∷ ws) (suc p) a at apart =
    ap (λ b. if b then w ∷ without a.number ws else without a.number ws)
    (differ a.number w.number (apart.0 a (Among-slice_get ws p a at)))
    ∙ ap (λ xs. w ∷ xs) (taken_out ws p a at apart.1)

-- ---- what one line names

explains_none : (v : Verdict) (n : ℕ) → number_in v ≡ None → explains n v ≡ false
explains_none (verdicts.Undecodable fault) n e = refl
explains_none verdicts.Connection n e = refl
explains_none verdicts.Other n e = refl
explains_none verdicts.Arrived n e = refl
explains_none (verdicts.Explained by ways) n e = absurd cc
explains_none (verdicts.Management status) n e = refl
explains_none (verdicts.Own ssn) n e = refl
explains_none (verdicts.Unexplained why) n e = refl

new_is : (w : Waiting) (o : Option Waiting) → Among w (option_to_list o) → o ≡ Some w
new_is w None at = absurd at
new_is w (Some x) at = ⊎_elim (λ (e : x ≡ w). ap Some e) (λ (z : ⊥). absurd z) at

-- without the arrival that explains, if one does
explained_out : (plan : Network) (old : List Waiting) (d : Event) (events : List Event) (line : Line) (next : List Waiting)
    → (h : IsJudged plan old d line next) → Numbered old (d ∷ events)
    → filter (λ w. not (explains w.number line.verdict)) (old ++ option_to_list (begins plan d (reading d.octets)))
    ≡ joined old (place_of h.found) (begins plan d (reading d.octets))
explained_out plan old d events line next h n =
    subst (λ (v : Verdict). filter (λ w. not (explains w.number v)) all ≡ joined old (place_of h.found) new) (sym h.verdict_is)
    (by h.found (found_says plan old d h.found h.why (reading d.octets) refl h.search))
  where
    new : Option Waiting
    new = begins plan d (reading d.octets)

    all : List Waiting
    all = old ++ option_to_list new

    by : (o : Option Found)
        → ((f : Found) → o ≡ Some f → (verdict_of plan d o h.why (reading d.octets) ≡ verdicts.Explained f.by f.ways)
        × Explaining plan old d f)
        × (o ≡ None → number_in (verdict_of plan d o h.why (reading d.octets)) ≡ None)
        → filter (λ w. not (explains w.number (verdict_of plan d o h.why (reading d.octets)))) all ≡ joined old (place_of o) new
    by None says =
        passes_all (λ w. not (explains w.number (verdict_of plan d None h.why (reading d.octets)))) all
        (λ w at. ap not (explains_none (verdict_of plan d None h.why (reading d.octets)) w.number (says.1 refl)))
    by (Some f) says =
        let s = says.0 f refl in
        let a = s.1.first.arrival in
        subst (λ (v : Verdict). filter (λ w. not (explains w.number v)) all ≡ remove old f.place ++ option_to_list new) (sym s.0)
        (subst (λ m. without m all ≡ remove old f.place ++ option_to_list new) s.1.first.numbered
        (filter-append (λ w. not (a.number == w.number)) old (option_to_list new)
        ∙ ap (λ xs. xs ++ without a.number (option_to_list new)) (taken_out old f.place a s.1.first.at n.apart)
        ∙ ap (λ xs. remove old f.place ++ xs)
        (passes_all (λ w. not (a.number == w.number)) (option_to_list new)
        (λ w at. differ a.number w.number (λ e. n.ahead 0 d refl a (Among-slice_get old f.place a s.1.first.at)
        (e ∙ (begun plan d (reading d.octets) w (new_is w new at)).numbered))))))

-- without the arrival that is given up, if one is
given_out : (ws : List Waiting) → Apart ws → filter (λ w. not (gives_up w.number (given_up ws))) ws ≡ kept ws
given_out ws apart = by (nat_lt most_waiting (length ws)) where
  first_out : (xs : List Waiting) → Apart xs → filter (λ w. not (gives_up w.number (slice_get xs 0))) xs ≡ drop 1 xs
  first_out [] k = refl
  first_out (x ∷ xs) k = taken_out (x ∷ xs) 0 x refl k

  by : (b : Bool) → filter (λ w. not (gives_up w.number (if b then slice_get ws 0 else None))) ws ≡ (if b then drop 1 ws else ws)
  by true = first_out ws apart
  by false = passes_all (λ w. not false) ws (λ w at. refl)

-- those that wait after an event: those before it and the new one, without those that its line names
after_event : (plan : Network) (old : List Waiting) (d : Event) (events : List Event) (line : Line) (next : List Waiting)
    → IsJudged plan old d line next → Numbered old (d ∷ events)
    → filter (λ w. not (names w.number line)) (old ++ option_to_list (begins plan d (reading d.octets))) ≡ next
after_event plan old d events line next h n =
    let all = old ++ option_to_list (begins plan d (reading d.octets)) in
    let joint = joined old (place_of h.found) (begins plan d (reading d.octets)) in
    filter_twice (λ w. explains w.number line.verdict) (λ w. gives_up w.number line.given_up) all
    ∙ ap (filter (λ w. not (gives_up w.number line.given_up))) (explained_out plan old d events line next h n)
    ∙ ap (λ (o : Option Waiting). filter (λ w. not (gives_up w.number o)) joint) h.given_is
    ∙ given_out joint (joined_apart plan old d events (place_of h.found) n) ∙ sym h.left

-- ---- later events have other numbers

-- an arrival of these events is that of one of them
record IsOne (plan : Network) (events : List Event) (w : Waiting) : Type 0 where
  place : ℕ
  event : Event
  at : slice_get events place ≡ Some event
  numbered : w.number ≡ event.number

is_one : (plan : Network) (events : List Event) (w : Waiting) → Among w (arrivals_of plan events) → IsOne plan events w
is_one plan [] w among = absurd among
is_one plan (d ∷ events) w among = by (is_one plan events w) (begins plan d (reading d.octets)) refl among where
  later : IsOne plan events w → IsOne plan (d ∷ events) w
  later one = record { place = suc one.place; event = one.event; at = one.at; numbered = one.numbered }

  by : (Among w (arrivals_of plan events) → IsOne plan events w) → (o : Option Waiting) → begins plan d (reading d.octets) ≡ o
      → Among w (cons_option o (arrivals_of plan events)) → IsOne plan (d ∷ events) w
  by more None e k = later (more k)
  by more (Some x) e k =
      ⊎_elim
      (λ (same : x ≡ w). record {
        place = 0;
        event = d;
        at = refl;
        numbered = (begun plan d (reading d.octets) w (e ∙ ap Some same)).numbered;
      })
      (λ (rest : Among w (arrivals_of plan events)). later (more rest)) k

explains_other : (v : Verdict) (n : ℕ) → ((by : ℕ) (ways : List Explanation) → v ≡ verdicts.Explained by ways → by ≡ n → ⊥)
    → explains n v ≡ false
explains_other (verdicts.Undecodable fault) n apart = refl
explains_other verdicts.Connection n apart = refl
explains_other verdicts.Other n apart = refl
explains_other verdicts.Arrived n apart = refl
explains_other (verdicts.Explained by ways) n apart = not_true (by == n) (λ e. apart by ways refl (eqb-true by n e))
explains_other (verdicts.Management status) n apart = refl
explains_other (verdicts.Own ssn) n apart = refl
explains_other (verdicts.Unexplained why) n apart = refl

gives_other : (o : Option Waiting) (n : ℕ) → ((w : Waiting) → o ≡ Some w → w.number ≡ n → ⊥) → gives_up n o ≡ false
gives_other None n apart = refl
gives_other (Some w) n apart = not_true (w.number == n) (λ e. apart w refl (eqb-true w.number n e))

later_unnamed : (plan : Network) (old : List Waiting) (d : Event) (events : List Event) (line : Line) (next : List Waiting)
    → IsJudged plan old d line next → Numbered old (d ∷ events)
    → filter (λ w. not (names w.number line)) (arrivals_of plan events) ≡ arrivals_of plan events
later_unnamed plan old d events line next h n =
    passes_all (λ w. not (names w.number line)) (arrivals_of plan events) (λ w among. unnamed w (is_one plan events w among))
  where
    unnamed : (w : Waiting) → IsOne plan events w → not (names w.number line) ≡ true
    unnamed w one =
        let a : explains w.number line.verdict ≡ false =
        explains_other line.verdict w.number
        (λ by ways v e. (used plan old d events line next by ways h n v).coming one.place one.event one.at (sym one.numbered ∙ sym e)) in
        let b : gives_up w.number line.given_up ≡ false =
        gives_other line.given_up w.number
        (λ g given e. absent_joined plan old d events line next g h n given one.place one.event one.at (sym one.numbered ∙ sym e)) in
        ap (λ x. not (x || gives_up w.number line.given_up)) a ∙ ap not b

-- ---- all events

consed : (o : Option Waiting) (ws : List Waiting) → cons_option o ws ≡ option_to_list o ++ ws
consed None ws = refl
consed (Some w) ws = refl

pub waiting_are : (plan : Network) (events : List Event) (lines : List Line) (old now : List Waiting) → AreJudged plan old events lines now
    → Numbered old events → filter (is_unnamed lines) (old ++ arrivals_of plan events) ≡ now
waiting_are plan [] [] old now run n =
    passes_all (λ w. not false) (old ++ []) (λ w at. refl) ∙ append-nil old ∙ sym run
waiting_are plan [] (line ∷ lines) old now run n = absurd run
waiting_are plan (d ∷ events) [] old now run n = absurd run
waiting_are plan (d ∷ events) (line ∷ lines) old now run n =
    let new = option_to_list (begins plan d (reading d.octets)) in
    let rest = arrivals_of plan events in
    let kept_on = λ (w : Waiting). not (names w.number line) in
    filter_twice (λ w. names w.number line) (λ w. list_any (names w.number) lines)
    (old ++ cons_option (begins plan d (reading d.octets)) rest)
    ∙ ap (λ xs. filter (is_unnamed lines) (filter kept_on (old ++ xs))) (consed (begins plan d (reading d.octets)) rest)
    ∙ ap (λ xs. filter (is_unnamed lines) (filter kept_on xs)) (sym (append_assoc old new rest))
    ∙ ap (filter (is_unnamed lines)) (filter-append kept_on (old ++ new) rest)
    ∙ ap (λ xs. filter (is_unnamed lines) (xs ++ filter kept_on rest)) (after_event plan old d events line run.0 run.1 n)
    ∙ ap (λ xs. filter (is_unnamed lines) (run.0 ++ xs)) (later_unnamed plan old d events line run.0 run.1 n)
    ∙ waiting_are plan events lines run.0 now run.2 (numbered_next plan old d events line run.0 run.1 n)
