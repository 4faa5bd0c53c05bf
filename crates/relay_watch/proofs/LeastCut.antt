-- The markings that are counted of a relay are the least that meet the conditions of its lines.
use Rattle.std.proofs.Common.{◌≡◌, ℕ, suc, ◌+◌, ◌-◌, ◌^◌, ◌≤◌, Bool, true, false, not, List, [], ◌∷◌, ◌++◌, length, map}
use Rattle.std.proofs.Common.{Option, Some, refl, sym, ◌∙◌, ap, arith}
use Rattle.std.specs.Prelude.{slice_get, if◌then◌else◌, ◌&&◌}
use Rattle.std.specs.List.{All, AllByRecursion}
use Rattle.std.proofs.lemmas.Bool.{and_from}
use Rattle.std.proofs.lemmas.List.Elements.{All-from_recursion, All-head}
use Rattle.std.proofs.Math.Nat.{min-le_left}
use Rattle.sccp_base.specs.declared.mark.Mark.{Mark}
use Rattle.sccp_message.specs.Reading.{reading}
use Rattle.plan_model.specs.Network.{Network}
use Rattle.relay_ways.specs.Conditions.{meets, is_possible, IsPossible, always, both}
use Rattle.relay_ways.specs.Markings.{begins, joined, markings_from, markings, AreMet, AreParts}
use Rattle.relay_ways.specs.Settled.{settled}
use Rattle.relay_ways.specs.declared.condition.Condition.{Condition}
use Rattle.relay_watch.specs.Arrivals.{is_other}
use Rattle.relay_watch.specs.Kept.{Kept, nothing_kept, first_tally, all_unanswered, summary_of, one_more_if}
use Rattle.relay_watch.specs.Least.{told_of, told_conditions}
use Rattle.relay_watch.specs.Totals.{stopped, is_from, is_for, is_unanswered}
use Rattle.relay_watch.specs.Watching.{AreWatched}
use Rattle.relay_watch.specs.declared.event.Event.{Event}
use Rattle.relay_watch.specs.declared.line.Line.{Line}
use Rattle.relay_watch.specs.declared.tally.Tally.{Tally}
use Rattle.relay_watch.specs.declared.verdict.Verdict.{Verdict}
use Rattle.relay_watch.specs.declared.verdict.Verdict.TheVariants.{Undecodable, Connection, Other, Arrived, Explained, Management}
use Rattle.relay_watch.specs.declared.verdict.Verdict.TheVariants.{Own}
use Rattle.relay_watch.specs.declared.verdict.Verdict.TheVariants.{Unexplained}
use Rattle.relay_watch.proofs.CountsChanged.{stopped_more}
use Rattle.relay_watch.proofs.CountsLines.{ended_rest}
use Rattle.relay_watch.proofs.CountsTally.{Tells, AllTell, all_tell, moved, moved_all, sent_if, arrived_if, unanswered_if}
use Rattle.relay_watch.proofs.CountsTally.{left_at_end}

-- ---- one message

-- the count of markings and the last one's condition, after these conditions
abbrev Goes : List Condition → Tally → Tally → Type 0
Goes [] t next = (next.counts.markings ≡ t.counts.markings) × (next.so_far ≡ t.so_far)
Goes (c ∷ cs) t next =
    (next.counts.markings ≡ one_more_if (begins t.so_far c) t.counts.markings) × (next.so_far ≡ Some (joined t.so_far c))

sent_goes : (b : Bool) (v : Verdict) (t : Tally) → Goes (if b then told_of v else []) t (sent_if b v t)
sent_goes false v t = (refl, refl)
sent_goes true (Undecodable fault) t = (refl, refl)
sent_goes true Connection t = (refl, refl)
sent_goes true Other t = (refl, refl)
sent_goes true Arrived t = (refl, refl)
sent_goes true (Explained n []) t = (refl, refl)
sent_goes true (Explained n (w ∷ ws)) t = (refl, refl)
sent_goes true (Management status) t = (refl, refl)
sent_goes true (Own ssn) t = (refl, refl)
sent_goes true (Unexplained why) t = (refl, refl)

arrived_goes : (b other : Bool) (cs : List Condition) (t next : Tally) → Goes cs t next → Goes cs t (arrived_if b other next)
arrived_goes true true [] t next g = g
arrived_goes true false [] t next g = g
arrived_goes false other [] t next g = g
arrived_goes true true (c ∷ cs) t next g = g
arrived_goes true false (c ∷ cs) t next g = g
arrived_goes false other (c ∷ cs) t next g = g

unanswered_goes : (b : Bool) (cs : List Condition) (t next : Tally) → Goes cs t next → Goes cs t (unanswered_if b next)
unanswered_goes true [] t next g = g
unanswered_goes false [] t next g = g
unanswered_goes true (c ∷ cs) t next g = g
unanswered_goes false (c ∷ cs) t next g = g

-- the condition that a message tells, if it is an explained one of the relay
abbrev told_at : Network → ℕ → Event → Line → List Condition
told_at plan node e line = if is_from plan node e then told_of line.verdict else []

moved_goes : (plan : Network) (node : ℕ) (e : Event) (line : Line) (t : Tally)
    → Goes (told_at plan node e line) t (moved plan node e line t)
moved_goes plan node e line t =
    let cs : List Condition = told_at plan node e line in
    let s : Tally = sent_if (is_from plan node e) line.verdict t in
    let a : Tally = arrived_if (is_for plan node e) (is_other (reading e.octets)) s in
    unanswered_goes (is_unanswered node line.unanswered) cs t a
    (arrived_goes (is_for plan node e) (is_other (reading e.octets)) cs t s (sent_goes (is_from plan node e) line.verdict t))

-- at most one
abbrev IsShort : List Condition → Type 0
IsShort [] = Unit {0}
IsShort (c ∷ []) = Unit {0}
IsShort (c ∷ (d ∷ cs)) = ⊥

told_short : (b : Bool) (v : Verdict) → IsShort (if b then told_of v else [])
told_short false v = tt
told_short true (Undecodable fault) = tt
told_short true Connection = tt
told_short true Other = tt
told_short true Arrived = tt
told_short true (Explained n []) = tt
told_short true (Explained n (w ∷ ws)) = tt
told_short true (Management status) = tt
told_short true (Own ssn) = tt
told_short true (Unexplained why) = tt

-- ---- all messages

run_markings : (plan : Network) (node : ℕ) (events : List Event) (lines : List Line) (t : Tally) (n : ℕ)
    → t.counts.markings ≡ stopped n
    → (moved_all plan node events lines t).counts.markings
    ≡ stopped (n + markings_from t.so_far (told_conditions plan node events lines))
run_markings plan node [] lines t n is = is ∙ ap stopped (omega arith)
run_markings plan node (e ∷ events) [] t n is = is ∙ ap stopped (omega arith)
run_markings plan node (e ∷ events) (line ∷ lines) t n is =
    by (told_at plan node e line) (told_short (is_from plan node e) line.verdict) (moved_goes plan node e line t)
    (λ k at. run_markings plan node events lines (moved plan node e line t) k at)
  where
    rest : List Condition
    rest = told_conditions plan node events lines

    next : Tally
    next = moved plan node e line t

    after : ℕ
    after = (moved_all plan node events lines next).counts.markings

    begun : (b : Bool) (s : Option Condition) → next.counts.markings ≡ one_more_if b t.counts.markings → next.so_far ≡ s
        → ((k : ℕ) → next.counts.markings ≡ stopped k → after ≡ stopped (k + markings_from next.so_far rest))
        → after ≡ stopped (n + ((if b then 1 else 0) + markings_from s rest))
    begun true s h same later =
        later (suc n) (h ∙ ap (one_more_if true) is ∙ stopped_more n)
        ∙ ap (λ (o : Option Condition). stopped (suc n + markings_from o rest)) same
        ∙ ap stopped (omega arith)
    begun false s h same later =
        later n (h ∙ is)
        ∙ ap (λ (o : Option Condition). stopped (n + markings_from o rest)) same
        ∙ ap stopped (omega arith)

    by : (cs : List Condition) → IsShort cs → Goes cs t next
        → ((k : ℕ) → next.counts.markings ≡ stopped k → after ≡ stopped (k + markings_from next.so_far rest))
        → after ≡ stopped (n + markings_from t.so_far (cs ++ rest))
    by [] short goes later =
        later n (goes.0 ∙ is) ∙ ap (λ (o : Option Condition). stopped (n + markings_from o rest)) goes.1
    by (c ∷ []) short goes later = begun (begins t.so_far c) (Some (joined t.so_far c)) goes.0 goes.1 later
    by (c ∷ (d ∷ cs)) short goes later = absurd short

-- the count at the end
markings_at_end : (plan : Network) (events : List Event) (lines : List Line) (left : Kept) (node : ℕ) (t : Tally)
    → AreWatched plan (nothing_kept plan) events lines left → slice_get (summary_of left).relays node ≡ Some t
    → t.counts.markings ≡ stopped (markings (told_conditions plan node events lines))
markings_at_end plan events lines left node t run at =
    let l = left_at_end plan events lines left node t run at in
    ap (λ (x : Tally). x.counts.markings) l.is
    ∙ ended_rest (λ c. c.markings) (λ c k. refl) node (all_unanswered left) (moved_all plan node events lines (first_tally l.relay))
    ∙ run_markings plan node events lines (first_tally l.relay) 0 refl
    ∙ ap stopped (omega arith)

-- ---- the law of conditions, for those of the lines

-- no fewer parts
abbrev pub Least : Type 0
Least = (conditions : List Condition) (parts : List (List Condition)) → AreParts conditions parts
    → markings conditions ≤ length parts

-- as many are enough
abbrev pub Enough : Type 0
Enough =
    (conditions : List Condition) → All (λ c. is_possible c ≡ true) conditions
    → (parts : List (List Condition)) × AreParts conditions parts × (length parts ≡ markings conditions)

pub least : Least → (plan : Network) (events : List Event) (lines : List Line) (left : Kept) (node : ℕ) (t : Tally)
    (parts : List (List Condition)) → AreWatched plan (nothing_kept plan) events lines left
    → slice_get (summary_of left).relays node ≡ Some t → AreParts (told_conditions plan node events lines) parts
    → t.counts.markings ≤ length parts
least law plan events lines left node t parts run at are =
    let n : ℕ = markings (told_conditions plan node events lines) in
    omega (
      arith,
      markings_at_end plan events lines left node t run at,
      min-le_left n (2 ^ 64 - 1),
      law (told_conditions plan node events lines) parts are,
    )

-- A condition that a marking meets passes the test: together with the one that each marking meets, it needs one marking.
met_possible : Least → (c : Condition) (M : List Mark) → meets M c ≡ true → is_possible c ≡ true
met_possible law c M e = by (is_possible (both always c)) refl (law (always ∷ c ∷ []) ((always ∷ c ∷ []) ∷ []) one) where
  one : AreParts (always ∷ c ∷ []) ((always ∷ c ∷ []) ∷ [])
  one = record {
    whole = refl;
    met = All-from_recursion AreMet ((always ∷ c ∷ []) ∷ [])
        ((M, and_from true (meets M c && true) refl (and_from (meets M c) true e refl)), tt);
  }

  by : (b : Bool) → is_possible (both always c) ≡ b
      → 1 + ((if not b then 1 else 0) + markings_from (Some (if b then settled (both always c) else c)) []) ≤ 1
      → b ≡ true
  by true f few = refl
  by false f few = absurd (omega (arith, few))

-- ---- each told condition is met by some marking

append_possible : (cs ds : List Condition) → AllByRecursion (λ c. is_possible c ≡ true) cs
    → AllByRecursion (λ c. is_possible c ≡ true) ds
    → AllByRecursion (λ c. is_possible c ≡ true) (cs ++ ds)
append_possible [] ds all more = more
append_possible (c ∷ cs) ds all more = (all.0, append_possible cs ds all.1 more)

told_possible : Least → (b : Bool) (v : Verdict) → Tells v
    → AllByRecursion (λ c. is_possible c ≡ true) (if b then told_of v else [])
told_possible law false v told = tt
told_possible law true (Undecodable fault) told = tt
told_possible law true Connection told = tt
told_possible law true Other told = tt
told_possible law true Arrived told = tt
told_possible law true (Explained n []) told = tt
told_possible law true (Explained n (w ∷ ws)) told =
    let p : IsPossible w.condition = All-head IsPossible w.condition (map (λ x. x.condition) ws) told.1 in
    (met_possible law w.condition p.0 p.2, tt)
told_possible law true (Management status) told = tt
told_possible law true (Own ssn) told = tt
told_possible law true (Unexplained why) told = tt

all_possible : Least → (plan : Network) (node : ℕ) (events : List Event) (lines : List Line) → AllTell lines
    → AllByRecursion (λ c. is_possible c ≡ true) (told_conditions plan node events lines)
all_possible law plan node [] lines told = tt
all_possible law plan node (e ∷ events) [] told = tt
all_possible law plan node (e ∷ events) (line ∷ lines) told =
    append_possible (told_at plan node e line) (told_conditions plan node events lines)
    (told_possible law (is_from plan node e) line.verdict told.0) (all_possible law plan node events lines told.1)

pub reached : Least → Enough → (plan : Network) (events : List Event) (lines : List Line) (left : Kept) (node : ℕ) (t : Tally)
    → AreWatched plan (nothing_kept plan) events lines left → slice_get (summary_of left).relays node ≡ Some t
    → (parts : List (List Condition)) × AreParts (told_conditions plan node events lines) parts
    × (t.counts.markings ≡ stopped (length parts))
reached law enough plan events lines left node t run at =
    let cut = enough (told_conditions plan node events lines)
    (All-from_recursion (λ c. is_possible c ≡ true) (told_conditions plan node events lines)
    (all_possible law plan node events lines (all_tell plan (nothing_kept plan) events lines left run))) in
    (cut.0, cut.1, markings_at_end plan events lines left node t run at ∙ ap stopped (sym cut.2))
