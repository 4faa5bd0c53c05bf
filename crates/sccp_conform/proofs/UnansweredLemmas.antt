-- An arrival that is told unanswered was answered by nothing.
use Rattle.std.proofs.Common.{◌≡◌, ℕ, zero, suc, Bool, true, false, not, ◌&&◌, cond, List, [], ◌∷◌, Option, Some, None, slice_get}
use Rattle.std.proofs.Common.{refl, sym, ◌∙◌, subst}
use Rattle.std.specs.Prelude.{filter_map, IsSomeAnd}
use Rattle.std.specs.List.{cons_option}
use Rattle.plan_model.specs.Network.{Network}
use Rattle.relay_watch.specs.Kept.{Kept, nothing_kept, with_named, named_in, is_named, unanswered, unanswered_if, summary_of}
use Rattle.relay_watch.specs.Runs.{HasArrived, IsUnused, NumbersDiffer}
use Rattle.relay_watch.specs.Watching.{AreWatched}
use Rattle.relay_watch.specs.declared.event.Event.{Event}
use Rattle.relay_watch.specs.declared.line.Line.{Line}
use Rattle.relay_watch.specs.declared.unanswered.Unanswered.{Unanswered}
use Rattle.relay_watch.specs.declared.waiting.Waiting.{Waiting}
use Rattle.sccp_conform.specs.Meaning.{IsUnanswered}
use Rattle.sccp_work.specs.Judgement.{Judgement, IsJudgement}

-- an arrival is told if it is due and not named
told_if : (due named : Bool) (x u : Unanswered) → cond (due && not named) (Some x) None ≡ Some u → (due ≡ true) × (x ≡ u)
told_if true true x u e = absurd cc
told_if true false x u e = (refl, cc)
told_if false named x u e = absurd cc

told : (plan : Network) (events : List Event) (lines : List Line) (w : Waiting) (named : List ℕ) (u : Unanswered)
    → HasArrived plan events w → IsUnused w.number lines → unanswered named w ≡ Some u → IsUnanswered plan events lines u
told plan events lines w named u arrived unused e =
    let x : Unanswered = record { number = w.number; node = w.node } in
    let is = told_if w.due (is_named named w.number) x u e in
    subst (IsUnanswered plan events lines) is.1 (record {
      place = arrived.place;
      arrival = arrived.event;
      at = arrived.at;
      numbered = sym arrived.numbered;
      arrives = arrived.arrives;
      would_send = sym arrived.due_is ∙ is.0;
      unused = unused;
    })

-- ---- one that is given up

-- a line tells of the arrival that it gives up
at_line : (plan : Network) (old : Kept) (events : List Event) (lines : List Line) (new : Kept) (i : ℕ) (line : Line)
    → AreWatched plan old events lines new → slice_get lines i ≡ Some line
    → (named : List ℕ) × (line.unanswered ≡ unanswered_if named line.given_up)
at_line plan old [] [] new zero line h at = absurd cc
at_line plan old [] [] new (suc i) line h at = absurd cc
at_line plan old [] (l ∷ lines) new i line h at = absurd h
at_line plan old (e ∷ events) [] new i line h at = absurd h
at_line plan old (e ∷ events) (l ∷ lines) new zero line h at =
    let same : l ≡ line = cc in
    subst (λ (x : Line). (named : List ℕ) × (x.unanswered ≡ unanswered_if named x.given_up)) same
    (with_named old.named (named_in l.verdict), h.1.unanswered_is)
at_line plan old (e ∷ events) (l ∷ lines) new (suc i) line h at = at_line plan h.0 events lines new i line h.2 at

-- the arrival that there is
given : (named : List ℕ) (o : Option Waiting) (u : Unanswered) → unanswered_if named o ≡ Some u
    → (w : Waiting) × (o ≡ Some w) × (unanswered named w ≡ Some u)
given named None u e = absurd cc
given named (Some w) u e = (w, refl, e)

gives : (lines : List Line) (i : ℕ) (line : Line) (w : Waiting) → slice_get lines i ≡ Some line → line.given_up ≡ Some w
    → IsSomeAnd (slice_get lines i) (λ l. l.given_up ≡ Some w)
gives lines i line w at is = subst (λ (o : Option Line). IsSomeAnd o (λ l. l.given_up ≡ Some w)) (sym at) is

pub given_up : (plan : Network) (events : List Event) (j : Judgement) (i : ℕ) (line : Line) (u : Unanswered) → NumbersDiffer events
    → IsJudgement plan events j → slice_get j.lines i ≡ Some line → line.unanswered ≡ Some u → IsUnanswered plan events j.lines u
given_up plan events j i line u differ is at e =
    let n = at_line plan (nothing_kept plan) events j.lines j.left i line is.watched at in
    let g = given n.0 line.given_up u (sym n.1 ∙ e) in
    let h = is.unanswered.given i g.0 (gives j.lines i line g.0 at g.1) in
    told plan events j.lines g.0 n.0 u h.0 (h.1 differ) g.2

-- ---- one that waits at the end

found : (named : List ℕ) (ws : List Waiting) (i : ℕ) (u : Unanswered) → slice_get (filter_map (unanswered named) ws) i ≡ Some u
    → (k : ℕ) × (w : Waiting) × (slice_get ws k ≡ Some w) × (unanswered named w ≡ Some u)
found named [] zero u at = absurd cc
found named [] (suc i) u at = absurd cc
found named (w ∷ ws) i u at = by (unanswered named w) refl (λ n h. found named ws n u h) i at where
  later : (k : ℕ) × (x : Waiting) × (slice_get ws k ≡ Some x) × (unanswered named x ≡ Some u)
      → (k : ℕ) × (x : Waiting) × (slice_get (w ∷ ws) k ≡ Some x) × (unanswered named x ≡ Some u)
  later h = (suc h.0, h.1, h.2, h.3)

  by : (o : Option Unanswered) → unanswered named w ≡ o
      → ((n : ℕ) → slice_get (filter_map (unanswered named) ws) n ≡ Some u
      → (k : ℕ) × (x : Waiting) × (slice_get ws k ≡ Some x) × (unanswered named x ≡ Some u))
      → (i : ℕ) → slice_get (cons_option o (filter_map (unanswered named) ws)) i ≡ Some u
      → (k : ℕ) × (x : Waiting) × (slice_get (w ∷ ws) k ≡ Some x) × (unanswered named x ≡ Some u)
  by None e more i h = later (more i h)
  by (Some v) e more zero h = (0, w, refl, e ∙ h)
  by (Some v) e more (suc i) h = later (more i h)

pub left_over : (plan : Network) (events : List Event) (j : Judgement) (i : ℕ) (u : Unanswered) → NumbersDiffer events
    → IsJudgement plan events j → slice_get (summary_of j.left).unanswered i ≡ Some u → IsUnanswered plan events j.lines u
left_over plan events j i u differ is at =
    let f = found j.left.named j.left.waiting i u at in
    let h = is.unanswered.waits f.0 f.1 f.2 in
    told plan events j.lines f.1 j.left.named u h.0 (h.1 differ) f.3
