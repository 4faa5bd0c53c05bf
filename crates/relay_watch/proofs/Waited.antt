-- What waits at the end, and what is given up.
use Rattle.std.proofs.Common.{◌≡◌, ℕ, zero, suc, Bool, true, false, List, [], ◌∷◌, length, drop, Some, None, refl, sym}
use Rattle.std.proofs.Common.{◌∙◌, subst, ◌⊎◌, inl, inr, ⊎_elim}
use Rattle.std.specs.Prelude.{nat_lt, if◌then◌else◌, slice_get}
use Rattle.sccp_base.proofs.Among.{Among, Among-slice_get}
use Rattle.sccp_message.specs.Reading.{reading}
use Rattle.plan_model.specs.Network.{Network}
use Rattle.relay_watch.specs.Arrivals.{begins, most_waiting, joined, kept, given_up}
use Rattle.relay_watch.specs.Judging.{IsJudged, place_of}
use Rattle.relay_watch.specs.Runs.{AreJudged, HasArrived, GivesUp, IsUnused, NumbersDiffer}
use Rattle.relay_watch.specs.declared.event.Event.{Event}
use Rattle.relay_watch.specs.declared.line.Line.{Line}
use Rattle.relay_watch.specs.declared.waiting.Waiting.{Waiting}
use Rattle.relay_watch.proofs.Steps.{Begun, begun, among_before, given_joined, given_before}
use Rattle.relay_watch.proofs.Once.{Fresh, Absent, Apart, Numbered, first_absent, joined_apart, none_by, numbered_next, used, from_nothing}

-- ---- where it is from

begun_arrived : (plan : Network) (events : List Event) (d : Event) (w : Waiting) → Begun plan d w → HasArrived plan (d ∷ events) w
begun_arrived plan events d w b =
    record { place = 0; event = d; at = refl; numbered = b.numbered; arrives = b.arrives; due_is = b.due_is }

later_arrived : (plan : Network) (events : List Event) (d : Event) (w : Waiting) → HasArrived plan events w → HasArrived plan (d ∷ events) w
later_arrived plan events d w h =
    record { place = suc h.place; event = h.event; at = h.at; numbered = h.numbered; arrives = h.arrives; due_is = h.due_is }

before_or_arrived : (plan : Network) (events : List Event) (d : Event) (old : List Waiting) (w : Waiting)
    → Among w old ⊎ (begins plan d (reading d.octets) ≡ Some w) → Among w old ⊎ HasArrived plan (d ∷ events) w
before_or_arrived plan events d old w h =
    ⊎_elim (λ (k : Among w old). inl k)
    (λ (k : begins plan d (reading d.octets) ≡ Some w). inr (begun_arrived plan events d w (begun plan d (reading d.octets) w k))) h

left_from : (plan : Network) (events : List Event) (lines : List Line) (old left : List Waiting) (w : Waiting)
    → AreJudged plan old events lines left → Among w left → Among w old ⊎ HasArrived plan events w
left_from plan [] [] old left w run at = inl (subst (Among w) run at)
left_from plan [] (line ∷ lines) old left w run at = absurd run
left_from plan (d ∷ events) [] old left w run at = absurd run
left_from plan (d ∷ events) (line ∷ lines) old left w run at =
    ⊎_elim
    (λ (k : Among w run.0). before_or_arrived plan events d old w (among_before plan old d line run.0 w run.1 k))
    (λ (k : HasArrived plan events w). inr (later_arrived plan events d w k))
    (left_from plan events lines run.0 left w run.2 at)

given_from : (plan : Network) (events : List Event) (lines : List Line) (old left : List Waiting) (k : ℕ) (w : Waiting)
    → AreJudged plan old events lines left → GivesUp lines k w → Among w old ⊎ HasArrived plan events w
given_from plan [] [] old left zero w run gives = absurd gives
given_from plan [] [] old left (suc k) w run gives = absurd gives
given_from plan [] (line ∷ lines) old left k w run gives = absurd run
given_from plan (d ∷ events) [] old left k w run gives = absurd run
given_from plan (d ∷ events) (line ∷ lines) old left zero w run gives =
    before_or_arrived plan events d old w (given_before plan old d line run.0 w run.1 gives)
given_from plan (d ∷ events) (line ∷ lines) old left (suc k) w run gives =
    ⊎_elim
    (λ (m : Among w run.0). before_or_arrived plan events d old w (among_before plan old d line run.0 w run.1 m))
    (λ (m : HasArrived plan events w). inr (later_arrived plan events d w m))
    (given_from plan events lines run.0 left k w run.2 gives)

-- ---- nothing is explained by it

-- it is not there, if no arrival and no event has its number
not_there : (plan : Network) (events : List Event) (ws : List Waiting) (w : Waiting) → Fresh w.number ws → Absent w.number events
    → Among w ws ⊎ HasArrived plan events w → ⊥
not_there plan events ws w fresh absent there =
    ⊎_elim (λ (k : Among w ws). fresh w k refl) (λ (k : HasArrived plan events w). absent k.place k.event k.at (sym k.numbered)) there

left_unused : (plan : Network) (events : List Event) (lines : List Line) (old left : List Waiting) (w : Waiting)
    → AreJudged plan old events lines left → Numbered old events → Among w left → IsUnused w.number lines
left_unused plan [] [] old left w run n at zero ways has = has
left_unused plan [] [] old left w run n at (suc i) ways has = has
left_unused plan [] (line ∷ lines) old left w run n at i ways has = run
left_unused plan (d ∷ events) [] old left w run n at i ways has = run
left_unused plan (d ∷ events) (line ∷ lines) old left w run n at zero ways has =
    let u = used plan old d events line run.0 w.number ways run.1 n has in
    not_there plan events run.0 w u.after u.coming (left_from plan events lines run.0 left w run.2 at)
left_unused plan (d ∷ events) (line ∷ lines) old left w run n at (suc i) ways has =
    left_unused plan events lines run.0 left w run.2 (numbered_next plan old d events line run.0 run.1 n) at i ways has

-- after it is given up, no arrival has its number
fresh_given : (ws : List Waiting) (w : Waiting) → Apart ws → given_up ws ≡ Some w → Fresh w.number (kept ws)
fresh_given ws w apart given = by (nat_lt most_waiting (length ws)) given where
  tail : (xs : List Waiting) → Apart xs → slice_get xs 0 ≡ Some w → Fresh w.number (drop 1 xs)
  tail [] a e = absurd cc
  tail (x ∷ xs) a e = let same : x ≡ w = cc in subst (λ (y : Waiting). Fresh y.number xs) same a.0

  by : (b : Bool) → (if b then slice_get ws 0 else None) ≡ Some w → Fresh w.number (if b then drop 1 ws else ws)
  by true e = tail ws apart e
  by false e = absurd cc

pub absent_joined : (plan : Network) (old : List Waiting) (d : Event) (events : List Event) (line : Line) (next : List Waiting)
    (w : Waiting)
    → IsJudged plan old d line next → Numbered old (d ∷ events) → line.given_up ≡ Some w → Absent w.number events
absent_joined plan old d events line next w h n given k e at =
    ⊎_elim (λ (m : Among w old). λ same. n.ahead (suc k) e at w m (sym same))
    (λ (m : begins plan d (reading d.octets) ≡ Some w). λ same.
    first_absent d events n.differ k e at (same ∙ (begun plan d (reading d.octets) w m).numbered))
    (given_before plan old d line next w h given)

given_unused : (plan : Network) (events : List Event) (lines : List Line) (old left : List Waiting) (k : ℕ) (w : Waiting)
    → AreJudged plan old events lines left → Numbered old events → GivesUp lines k w → IsUnused w.number lines
given_unused plan [] [] old left zero w run n gives i ways has = gives
given_unused plan [] [] old left (suc k) w run n gives i ways has = gives
given_unused plan [] (line ∷ lines) old left k w run n gives i ways has = run
given_unused plan (d ∷ events) [] old left k w run n gives i ways has = run
given_unused plan (d ∷ events) (line ∷ lines) old left zero w run n gives zero ways has =
    (used plan old d events line run.0 w.number ways run.1 n has).joint w (given_joined plan old d line run.0 w run.1 gives) refl
given_unused plan (d ∷ events) (line ∷ lines) old left zero w run n gives (suc i) ways has =
    none_by plan events lines run.0 left i w.number ways run.2
    (subst (Fresh w.number) (sym run.1.left)
    (fresh_given (joined old (place_of run.1.found) (begins plan d (reading d.octets))) w
    (joined_apart plan old d events (place_of run.1.found) n) (sym run.1.given_is ∙ gives)))
    (absent_joined plan old d events line run.0 w run.1 n gives) has
given_unused plan (d ∷ events) (line ∷ lines) old left (suc k) w run n gives zero ways has =
    let u = used plan old d events line run.0 w.number ways run.1 n has in
    not_there plan events run.0 w u.after u.coming (given_from plan events lines run.0 left k w run.2 gives)
given_unused plan (d ∷ events) (line ∷ lines) old left (suc k) w run n gives (suc i) ways has =
    given_unused plan events lines run.0 left k w run.2 (numbered_next plan old d events line run.0 run.1 n) gives i ways has

-- ---- from nothing

arrived_only : (plan : Network) (events : List Event) (w : Waiting) → Among w [] ⊎ HasArrived plan events w → HasArrived plan events w
arrived_only plan events w h = ⊎_elim (λ (k : Among w []). absurd k) (λ (k : HasArrived plan events w). k) h

pub left_waits : (plan : Network) (events : List Event) (lines : List Line) (left : List Waiting) (k : ℕ) (w : Waiting)
    → AreJudged plan [] events lines left → slice_get left k ≡ Some w
    → HasArrived plan events w × (NumbersDiffer events → IsUnused w.number lines)
left_waits plan events lines left k w run at =
    let among = Among-slice_get left k w at in (
      arrived_only plan events w (left_from plan events lines [] left w run among),
      λ differ. left_unused plan events lines [] left w run (from_nothing events differ) among,
    )

pub given_waits : (plan : Network) (events : List Event) (lines : List Line) (left : List Waiting) (k : ℕ) (w : Waiting)
    → AreJudged plan [] events lines left → GivesUp lines k w
    → HasArrived plan events w × (NumbersDiffer events → IsUnused w.number lines)
given_waits plan events lines left k w run gives = (
  arrived_only plan events w (given_from plan events lines [] left k w run gives),
  λ differ. given_unused plan events lines [] left k w run (from_nothing events differ) gives,
)
