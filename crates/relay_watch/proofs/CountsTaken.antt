-- How often the targets of a relay's rows were taken.
use Rattle.std.proofs.Common.{◌≡◌, ℕ, zero, suc, ◌+◌, Bool, true, false, cond, ◌&&◌, List, [], ◌∷◌, length, map, filter, replicate}
use Rattle.std.proofs.Common.{zip}
use Rattle.std.proofs.Common.{Option, Some, None, refl, sym, ◌∙◌, ap, ap₂, arith}
use Rattle.std.specs.Prelude.{slice_get, option_map, ◌==◌}
use Rattle.std.specs.Option.{option_and_then}
use Rattle.std.proofs.lemmas.List.{length-replicate}
use Rattle.std.proofs.lemmas.Option.{slice_get-map}
use Rattle.sccp_message.specs.Reading.{reading}
use Rattle.plan_rules.specs.Rule.{Rule}
use Rattle.plan_model.specs.Network.{Network}
use Rattle.relay_ways.specs.declared.explanation.Explanation.{Explanation}
use Rattle.relay_ways.specs.declared.handling.Taken.{Taken}
use Rattle.relay_watch.specs.Arrivals.{is_other}
use Rattle.relay_watch.specs.Kept.{changed, one_more, one_more_if, taken_once, none_taken}
use Rattle.relay_watch.specs.Totals.{how_many, stopped, is_from, is_for, is_unanswered, is_target, says_taken, count_at, AreTaken}
use Rattle.relay_watch.specs.declared.event.Event.{Event}
use Rattle.relay_watch.specs.declared.line.Line.{Line}
use Rattle.relay_watch.specs.declared.tally.Tally.{Tally}
use Rattle.relay_watch.specs.declared.unanswered.Unanswered.{Unanswered}
use Rattle.relay_watch.specs.declared.verdict.Verdict.{Verdict}
use Rattle.relay_watch.specs.declared.verdict.Verdict.TheVariants.{Undecodable, Connection, Other, Arrived, Explained, Management}
use Rattle.relay_watch.specs.declared.verdict.Verdict.TheVariants.{Own}
use Rattle.relay_watch.specs.declared.verdict.Verdict.TheVariants.{Unexplained}
use Rattle.relay_watch.proofs.CountsChanged.{only_if, changed_at, map_changed, length_changed, stopped_more}
use Rattle.relay_watch.proofs.CountsTally.{moved, moved_all, sent_if, arrived_if, unanswered_if, ended}

-- ---- one message

abbrev taken_by : List Explanation → List (List ℕ) → List (List ℕ)
taken_by [] taken = taken
taken_by (w ∷ ws) taken = taken_once w.handling.taken taken

abbrev taken_in : Verdict → List (List ℕ) → List (List ℕ)
taken_in (Explained n ways) taken = taken_by ways taken
taken_in v taken = taken

sent_taken : (b : Bool) (v : Verdict) (t : Tally) → (sent_if b v t).taken ≡ only_if b (taken_in v) t.taken
sent_taken false v t = refl
sent_taken true (Undecodable fault) t = refl
sent_taken true Connection t = refl
sent_taken true Other t = refl
sent_taken true Arrived t = refl
sent_taken true (Explained n []) t = refl
sent_taken true (Explained n (w ∷ ws)) t = refl
sent_taken true (Management status) t = refl
sent_taken true (Own ssn) t = refl
sent_taken true (Unexplained why) t = refl

arrived_taken : (b other : Bool) (t : Tally) → (arrived_if b other t).taken ≡ t.taken
arrived_taken true other t = refl
arrived_taken false other t = refl

unanswered_taken : (b : Bool) (t : Tally) → (unanswered_if b t).taken ≡ t.taken
unanswered_taken true t = refl
unanswered_taken false t = refl

moved_taken : (plan : Network) (node : ℕ) (e : Event) (line : Line) (t : Tally)
    → (moved plan node e line t).taken ≡ only_if (is_from plan node e) (taken_in line.verdict) t.taken
moved_taken plan node e line t =
    let s : Tally = sent_if (is_from plan node e) line.verdict t in
    let a : Tally = arrived_if (is_for plan node e) (is_other (reading e.octets)) s in
    unanswered_taken (is_unanswered node line.unanswered) a
    ∙ arrived_taken (is_for plan node e) (is_other (reading e.octets)) s
    ∙ sent_taken (is_from plan node e) line.verdict t

pub ended_taken : (node : ℕ) (us : List Unanswered) (t : Tally) → (ended node us t).taken ≡ t.taken
ended_taken node [] t = refl
ended_taken node (u ∷ us) t = ended_taken node us (unanswered_if (u.node == node) t) ∙ unanswered_taken (u.node == node) t

-- ---- the count of one target

not_more : (o : Option ℕ) → o ≡ option_map (one_more_if false) o
not_more None = refl
not_more (Some n) = refl

more_if : (b : Bool) (o : Option ℕ) → option_map (only_if b one_more) o ≡ option_map (one_more_if b) o
more_if b None = refl
more_if true (Some n) = refl
more_if false (Some n) = refl

once : (o : Option Taken) (taken : List (List ℕ)) (row place : ℕ)
    → count_at (taken_once o taken) row place ≡ option_map (one_more_if (is_target row place o)) (count_at taken row place)
once None taken row place = not_more (count_at taken row place)
once (Some t) taken row place =
    ap (option_and_then (λ counts. slice_get counts place)) (changed_at (changed one_more (Some t.target)) (Some t.row) taken row)
    ∙ by (t.row == row) (slice_get taken row)
  where
    by : (b : Bool) (o : Option (List ℕ))
        → option_and_then (λ counts. slice_get counts place) (option_map (only_if b (changed one_more (Some t.target))) o)
        ≡ option_map (one_more_if (b && (t.target == place))) (option_and_then (λ counts. slice_get counts place) o)
    by b None = refl
    by true (Some counts) =
        changed_at one_more (Some t.target) counts place ∙ more_if (t.target == place) (slice_get counts place)
    by false (Some counts) = not_more (slice_get counts place)

raised : (b : Bool) (v : Verdict) (taken : List (List ℕ)) (row place : ℕ)
    → count_at (only_if b (taken_in v) taken) row place
    ≡ option_map (one_more_if (b && says_taken row place v)) (count_at taken row place)
raised false v taken row place = not_more (count_at taken row place)
raised true (Undecodable fault) taken row place = not_more (count_at taken row place)
raised true Connection taken row place = not_more (count_at taken row place)
raised true Other taken row place = not_more (count_at taken row place)
raised true Arrived taken row place = not_more (count_at taken row place)
raised true (Explained n []) taken row place = not_more (count_at taken row place)
raised true (Explained n (w ∷ ws)) taken row place = once w.handling.taken taken row place
raised true (Management status) taken row place = not_more (count_at taken row place)
raised true (Own ssn) taken row place = not_more (count_at taken row place)
raised true (Unexplained why) taken row place = not_more (count_at taken row place)

moved_raised : (plan : Network) (node row place : ℕ) (e : Event) (line : Line) (t : Tally)
    → count_at (moved plan node e line t).taken row place
    ≡ option_map (one_more_if (is_from plan node e && says_taken row place line.verdict)) (count_at t.taken row place)
moved_raised plan node row place e line t =
    ap (λ (taken : List (List ℕ)). count_at taken row place) (moved_taken plan node e line t)
    ∙ raised (is_from plan node e) line.verdict t.taken row place

-- the count is of so many, if there is one
abbrev Counts : Option ℕ → ℕ → Type 0
Counts o n = (c : ℕ) → o ≡ Some c → c ≡ stopped n

counts_more : (b : Bool) (o p : Option ℕ) (n : ℕ) → Counts o n → p ≡ option_map (one_more_if b) o → (c : ℕ) → p ≡ Some c
    → c ≡ one_more_if b (stopped n)
counts_more b None p n is e c at = absurd (off (sym e ∙ at)) where
  off : None ≡ Some c → ⊥
  off h = cc
counts_more b (Some k) p n is e c at =
    let same : one_more_if b k ≡ c = inside (sym e ∙ at) in
    sym same ∙ ap (one_more_if b) (is k refl)
  where
    inside : Some (one_more_if b k) ≡ Some c → one_more_if b k ≡ c
    inside h = cc

run_taken : (plan : Network) (node row place : ℕ) (events : List Event) (lines : List Line) (t : Tally) (n : ℕ)
    → Counts (count_at t.taken row place) n
    → Counts (count_at (moved_all plan node events lines t).taken row place)
    (n + how_many (λ e line. is_from plan node e && says_taken row place line.verdict) events lines)
run_taken plan node row place [] lines t n is = λ c at. is c at ∙ ap stopped (omega arith)
run_taken plan node row place (e ∷ events) [] t n is = λ c at. is c at ∙ ap stopped (omega arith)
run_taken plan node row place (e ∷ events) (line ∷ lines) t n is =
    by (is_from plan node e && says_taken row place line.verdict) (moved_raised plan node row place e line t)
    (λ k there. run_taken plan node row place events lines (moved plan node e line t) k there)
  where
    rest : List (Event × Line)
    rest = filter (λ m. is_from plan node m.0 && says_taken row place m.1.verdict) (zip events lines)

    next : Tally
    next = moved plan node e line t

    by : (b : Bool) → count_at next.taken row place ≡ option_map (one_more_if b) (count_at t.taken row place)
        → ((k : ℕ) → Counts (count_at next.taken row place) k
        → Counts (count_at (moved_all plan node events lines next).taken row place) (k + length rest))
        → Counts (count_at (moved_all plan node events lines next).taken row place) (n + length (cond b ((e, line) ∷ rest) rest))
    by true h later = λ c at.
        later (suc n)
        (λ k there. counts_more true (count_at t.taken row place) (count_at next.taken row place) n is h k there
        ∙ stopped_more n) c at
        ∙ ap stopped (omega arith)
    by false h later = λ c at.
        later n (λ k there. counts_more false (count_at t.taken row place) (count_at next.taken row place) n is h k there) c at

zeros : (n place c : ℕ) → slice_get (replicate {A = ℕ} n 0) place ≡ Some c → c ≡ 0
zeros zero place c at = absurd cc
zeros (suc n) zero c at = cc
zeros (suc n) (suc place) c at = zeros n place c at

first_taken : (table : List Rule) (row place : ℕ) → Counts (count_at (map none_taken table) row place) 0
first_taken table row place c at =
    by (slice_get table row) (sym (ap (option_and_then (λ counts. slice_get counts place)) (slice_get-map none_taken table row))
    ∙ at)
  where
    by : (o : Option Rule) → option_and_then (λ counts. slice_get counts place) (option_map none_taken o) ≡ Some c → c ≡ stopped 0
    by None h = absurd cc
    by (Some r) h = zeros (length r.targets) place c h

-- ---- how many there are

abbrev lengths : List (List ℕ) → List ℕ
lengths taken = map (λ counts. length counts) taken

once_shape : (o : Option Taken) (taken : List (List ℕ)) → lengths (taken_once o taken) ≡ lengths taken
once_shape None taken = refl
once_shape (Some t) taken =
    map_changed (λ counts. length counts) (changed one_more (Some t.target)) (Some t.row) taken
    (λ counts. length_changed one_more (Some t.target) counts)

shape_in : (b : Bool) (v : Verdict) (taken : List (List ℕ)) → lengths (only_if b (taken_in v) taken) ≡ lengths taken
shape_in false v taken = refl
shape_in true (Undecodable fault) taken = refl
shape_in true Connection taken = refl
shape_in true Other taken = refl
shape_in true Arrived taken = refl
shape_in true (Explained n []) taken = refl
shape_in true (Explained n (w ∷ ws)) taken = once_shape w.handling.taken taken
shape_in true (Management status) taken = refl
shape_in true (Own ssn) taken = refl
shape_in true (Unexplained why) taken = refl

run_shape : (plan : Network) (node : ℕ) (events : List Event) (lines : List Line) (t : Tally)
    → lengths (moved_all plan node events lines t).taken ≡ lengths t.taken
run_shape plan node [] lines t = refl
run_shape plan node (e ∷ events) [] t = refl
run_shape plan node (e ∷ events) (line ∷ lines) t =
    run_shape plan node events lines (moved plan node e line t)
    ∙ ap lengths (moved_taken plan node e line t)
    ∙ shape_in (is_from plan node e) line.verdict t.taken

first_shape : (table : List Rule) → lengths (map none_taken table) ≡ map (λ r. length r.targets) table
first_shape [] = refl
first_shape (r ∷ rs) = ap₂ (λ (n : ℕ) (ns : List ℕ). n ∷ ns) (length-replicate (length r.targets) 0) (first_shape rs)

pub are_taken : (plan : Network) (node : ℕ) (table : List Rule) (events : List Event) (lines : List Line) (t : Tally)
    → t.taken ≡ map none_taken table → AreTaken plan node table events lines (moved_all plan node events lines t).taken
are_taken plan node table events lines t first = record {
  shape = run_shape plan node events lines t ∙ ap lengths first ∙ first_shape table;
  each = λ row place count at.
      run_taken plan node row place events lines t 0
      (λ c there. first_taken table row place c (sym (ap (λ (taken : List (List ℕ)). count_at taken row place) first)
      ∙ there)) count at
      ∙ ap stopped (omega arith);
}
