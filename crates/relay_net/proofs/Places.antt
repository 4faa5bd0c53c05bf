-- each state is that of the node at its place
use Rattle.std.specs.Prelude.{◌≡◌, ℕ, zero, suc, ◌+◌, ◌<◌, ◌≤◌, ◌⊎◌, List, [], ◌∷◌, length, Option, Some, None, Result, Ok, Err, IfOk, OnOk}
use Rattle.std.specs.Prelude.{OnErr, slice_get, slice_set, slice_index_or}
use Rattle.std.proofs.Common.{refl, sym, ◌∙◌, ◌++◌, zero-add, ap, arith, inl, inr, ⊎_elim, drop}
use Rattle.std.proofs.lemmas.List.{append-nil, drop_all}
use Rattle.std.proofs.lemmas.Option.{slice_get-get_or}
use Rattle.sccp_base.specs.declared.out_of_memory.OutOfMemory.{OutOfMemory}
use Rattle.sccp_segment.specs.declared.arrival.Arrival.{Arrival}
use Rattle.sccp_segment.specs.Segments.{arrival_of}
use Rattle.plan_model.specs.declared.node.Node.{Node}
use Rattle.plan_model.specs.Network.{Network}
use Rattle.relay_net.specs.declared.happening.Happening.{Happening}
use Rattle.relay_net.specs.declared.happening.Happening.TheVariants as happenings
use Rattle.relay_net.specs.declared.outcome.Outcome.{Outcome}
use Rattle.relay_net.specs.States.{State, AreInPlace, Applied, after_delivered, applied, applied_at, applied_to, first_state}
use Rattle.relay_net.specs.States.{first_states_from, happened}

-- ---- at the start

first_in_place : (from : ℕ) (nodes : List Node) (place : ℕ) (s : State) → slice_get (first_states_from from nodes) place ≡ Some s
    → s.node ≡ from + place
first_in_place from [] place s e = absurd cc
first_in_place from (node ∷ nodes) zero s e = let is : first_state from node ≡ s = cc in omega (arith, ap (λ (x : State). x.node) is)
first_in_place from (node ∷ nodes) (suc place) s e = let h = first_in_place (suc from) nodes place s e in omega (arith, h)

-- once no node is left
pub all_in_place : (states : List State) (place : ℕ) (nodes : List Node) → length nodes ≤ place
    → states ++ first_states_from place (drop place nodes) ≡ first_states_from 0 nodes → AreInPlace states
all_in_place states place nodes le e =
    let all : states ≡ first_states_from 0 nodes = sym (append-nil states)
    ∙ ap (λ (left : List Node). states ++ first_states_from place left) (sym (drop_all place nodes le)) ∙ e in
    λ at s given. first_in_place 0 nodes at s (ap (λ (them : List State). slice_get them at) (sym all) ∙ given) ∙ zero-add at

-- ---- after something happened

set_other : (states : List State) (place at : ℕ) (new s : State) → slice_get (slice_set states place new) at ≡ Some s
    → (slice_get states at ≡ Some s) ⊎ ((at ≡ place) × (s ≡ new))
set_other [] place at new s e = inl e
set_other (t ∷ states) zero zero new s e = inr (refl, cc)
set_other (t ∷ states) zero (suc at) new s e = inl e
set_other (t ∷ states) (suc place) zero new s e = inl e
set_other (t ∷ states) (suc place) (suc at) new s e = ⊎_elim (λ h. inl h) (λ h. inr (ap suc h.0, h.1)) (set_other states place at new s e)

stay : (states : List State) (place : ℕ) (new : State) → AreInPlace states → new.node ≡ place → AreInPlace (slice_set states place new)
stay states place new h e = λ at s given. ⊎_elim (λ old. h at s old) (λ r. ap (λ (x : State). x.node) r.1 ∙ e
    ∙ sym r.0) (set_other states place at new s given)

same_delivered : (s : State) (arrival : Option Arrival) → (after_delivered s arrival).state.node ≡ s.node
same_delivered s None = refl
same_delivered s (Some a) = refl

same_node : (plan : Network) (node : ℕ) (s : State) (what : Happening) → (happened plan node s what).state.node ≡ s.node
same_node plan node s (happenings.Managed event) = refl
same_node plan node s (happenings.Connected origin message) = refl
same_node plan node s (happenings.Delivered message) = same_delivered s (arrival_of message)

kept : (plan : Network) (s new : State) (what : Happening) (r : Result (List Outcome) OutOfMemory)
    → OnOk r (new ≡ (happened plan s.node s what).state) → OnErr r (new ≡ s) → new.node ≡ s.node
kept plan s new what (Ok outcomes) ok err = ap (λ (x : State). x.node) ok ∙ same_node plan s.node s what
kept plan s new what (Err e) ok err = ap (λ (x : State). x.node) err

-- the state at a place is changed as what happens there changes it
at_place : (states : List State) (place : ℕ) (s : State) → place < length states → s ≡ slice_index_or states place s
    → slice_get states place ≡ Some s
at_place states place s lt e = slice_get-get_or states place s lt ∙ ap Some (sym e)

pub stay_in_place : (plan : Network) (states : List State) (node : ℕ) (s new : State) (what : Happening)
    (r : Result (List Outcome) OutOfMemory) → AreInPlace states → node < length states → s ≡ slice_index_or states node s →
    OnOk r (new ≡ (happened plan s.node s what).state) → OnErr r (new ≡ s) → AreInPlace (slice_set states node new)
stay_in_place plan states node s new what r h lt e ok err = stay states node new h (kept plan s new what r ok err
    ∙ h node s (at_place states node s lt e))

applied_is : (plan : Network) (states : List State) (node : ℕ) (s : State) (what : Happening) → AreInPlace states → node < length states
    → s ≡ slice_index_or states node s →
    applied_to states node (happened plan s.node s what) ≡ applied plan states node what
applied_is plan states node s what h lt e =
    let here = at_place states node s lt e in
    ap (λ n. applied_to states node (happened plan n s what)) (h node s here) ∙ ap (applied_at plan states node what) (sym here)

pub states_applied : (plan : Network) (states : List State) (node : ℕ) (s new : State) (what : Happening)
    (r : Result (List Outcome) OutOfMemory) → AreInPlace states → node < length states → s ≡ slice_index_or states node s →
    OnOk r (new ≡ (happened plan s.node s what).state) → OnOk r (slice_set states node new ≡ (applied plan states node what).states)
states_applied plan states node s new what (Ok outcomes) h lt e ok = ap (slice_set states node) ok
    ∙ ap (λ (a : Applied). a.states) (applied_is plan states node s what h lt e)
states_applied plan states node s new what (Err fault) h lt e ok = tt

pub outcomes_applied : (plan : Network) (states : List State) (node : ℕ) (s : State) (what : Happening)
    (r : Result (List Outcome) OutOfMemory) → AreInPlace states → node < length states → s ≡ slice_index_or states node s →
    IfOk r (λ outcomes. outcomes ≡ (happened plan s.node s what).outcomes)
    → IfOk r (λ outcomes. outcomes ≡ (applied plan states node what).outcomes)
outcomes_applied plan states node s what (Ok outcomes) h lt e ok = ok
    ∙ ap (λ (a : Applied). a.outcomes) (applied_is plan states node s what h lt e)
outcomes_applied plan states node s what (Err fault) h lt e ok = tt
