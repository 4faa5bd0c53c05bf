-- Ways that are put at the end of a list, outcome by outcome.
use Rattle.std.proofs.Common.{◌≡◌, ℕ, ◌+◌, ◌<◌, zero, suc, Bool, true, false, List, [], ◌∷◌, ◌++◌, length, take, Option, Some, None, refl}
use Rattle.std.proofs.Common.{sym, ◌∙◌, ap, subst, get_or, inl, inr, append_assoc, arith}
use Rattle.std.specs.Bool.{MatchBool}
use Rattle.std.specs.List.{flat_map}
use Rattle.std.proofs.lemmas.Bool.{and_parts}
use Rattle.std.proofs.lemmas.List.{append-nil}
use Rattle.std.proofs.lemmas.List.Elements.{All-append, All-nil, filter-append}
use Rattle.sccp_base.specs.Marks.{IsMarking}
use Rattle.sccp_base.specs.declared.mark.Mark.{Mark}
use Rattle.sccp_base.proofs.Among.{Among, All-among}
use Rattle.std.proofs.lemmas.List.Elements.{All-from_recursion}
use Rattle.plan_model.specs.Network.{Network}
use Rattle.sccp_scrc.specs.Arriving.{arrival, point_of}
use Rattle.sccp_scrc.specs.declared.arrival.Arrival.{Arrival}
use Rattle.relay_ways.specs.Conditions.{meets, is_possible, IsPossible, both}
use Rattle.relay_ways.specs.Outcomes.{Outcome, outcomes, outcome_conditions, cleared, Becomes}
use Rattle.relay_ways.specs.Sends.{forwarded}
use Rattle.relay_ways.specs.Ways.{way, way_if, forwarded_way, ways_of, possible, possible_ways, ways, IsForwarded, AddsWays}
use Rattle.relay_ways.specs.declared.condition.Condition.{Condition}
use Rattle.relay_ways.specs.declared.way.Sending.{Sending}
use Rattle.relay_ways.specs.declared.way.Way.{Way}
use Rattle.relay_ways.proofs.OutcomeLemmas.{each_outcome}
use Rattle.relay_ways.proofs.Possible.{meets_both, met_possible}
use Rattle.relay_ways.proofs.WayLemmas.{forwarded_cleared}

pub adds_nothing : (found : List Way) → AddsWays found found []
adds_nothing found = record { added = sym (append-nil found); possible_each = All-nil (λ w. IsPossible w.condition) }

pub adds_more : (old found new more rest : List Way) → AddsWays old found more → AddsWays found new rest → AddsWays old new (more ++ rest)
adds_more old found new more rest a b = record {
  added = b.added ∙ ap (λ xs. xs ++ rest) a.added ∙ append_assoc old more rest;
  possible_each = All-append (λ w. IsPossible w.condition) more rest a.possible_each b.possible_each;
}

pub adds_same : (old new more rest : List Way) → more ≡ rest → AddsWays old new more → AddsWays old new rest
adds_same old new more rest e adds = subst (λ (xs : List Way). AddsWays old new xs) e adds

pub each_among : (plan : Network) (node origin : ℕ) (b : List ℕ) (o : Outcome) → Among o (outcomes plan node origin b)
    → (M : List Mark) → Becomes plan node origin b M o
each_among plan node origin b o at M =
    All-among (Becomes plan node origin b M) o (outcomes plan node origin b)
    (All-from_recursion (Becomes plan node origin b M) (outcomes plan node origin b) (each_outcome plan node origin b M)) at

pub one_more : (i : ℕ) → i + 1 ≡ suc i
one_more i = omega arith

-- the outcome at a place, by its condition
record IsNext (os : List Outcome) (i : ℕ) (c : Condition) : Type 0 where
  o : Outcome
  condition : o.condition ≡ c
  among : Among o os
  taken : take (suc i) os ≡ take i os ++ o ∷ []

next_at : (os : List Outcome) (i : ℕ) (c : Condition) → i < length (outcome_conditions os) → c ≡ get_or (outcome_conditions os) i c
    → IsNext os i c
next_at [] i c inside is = absurd (omega (arith, inside))
next_at (o ∷ os) zero c inside is = record { o = o; condition = sym is; among = inl refl; taken = refl }
next_at (o ∷ os) (suc i) c inside is =
    let rest : IsNext os i c = next_at os i c (omega (arith, inside)) is in
    record { o = rest.o; condition = rest.condition; among = inr rest.among; taken = ap (λ xs. o ∷ xs) rest.taken }

-- one more outcome
pub adds_next : (f : Outcome → List Way) (os : List Outcome) (cs : List Condition) (i : ℕ) (c : Condition) (old found new : List Way)
    → cs ≡ outcome_conditions os → i < length cs → c ≡ get_or cs i c → AddsWays old found (flat_map f (take i os))
    → ((o : Outcome) → o.condition ≡ c → Among o os → AddsWays found new (f o)) → AddsWays old new (flat_map f (take (i + 1) os))
adds_next f os cs i c old found new same inside is before adds =
    let next : IsNext os i c = next_at os i c (subst (λ (xs : List Condition). i < length xs) same inside)
    (is ∙ ap (λ (xs : List Condition). get_or xs i c) same) in
    adds_same old new (flat_map f (take i os) ++ f next.o) (flat_map f (take (i + 1) os))
    (sym (ap (λ n. flat_map f (take n os)) (one_more i) ∙ ap (flat_map f) next.taken ∙ flat_push f (take i os) next.o))
    (adds_more old found new (flat_map f (take i os)) (f next.o) before (adds next.o next.condition next.among))
  where
    flat_push : (f : Outcome → List Way) (xs : List Outcome) (x : Outcome) → flat_map f (xs ++ x ∷ []) ≡ flat_map f xs ++ f x
    flat_push f [] x = append-nil (f x)
    flat_push f (y ∷ ys) x = ap (λ zs. f y ++ zs) (flat_push f ys x) ∙ sym (append_assoc (f y) (flat_map f ys) (f x))

-- after the last one
take_whole : (os : List Outcome) (i : ℕ) → i ≡ length (outcome_conditions os) → take i os ≡ os
take_whole [] zero e = refl
take_whole [] (suc i) e = absurd (omega (arith, e))
take_whole (o ∷ os) zero e = absurd (omega (arith, e))
take_whole (o ∷ os) (suc i) e = ap (λ xs. o ∷ xs) (take_whole os i (omega (arith, e)))

pub adds_all : (f : Outcome → List Way) (os : List Outcome) (cs : List Condition) (i : ℕ) (old new : List Way) → cs ≡ outcome_conditions os
    → i ≡ length cs → AddsWays old new (flat_map f (take i os)) → AddsWays old new (flat_map f os)
adds_all f os cs i old new same end adds =
    adds_same old new (flat_map f (take i os)) (flat_map f os) (ap (flat_map f) (take_whole os i (end ∙ ap length same))) adds

pub possible_flat : (f : Outcome → List Way) (os : List Outcome) → possible (flat_map f os) ≡ flat_map (λ o. possible (f o)) os
possible_flat f [] = refl
possible_flat f (o ∷ os) =
    filter-append (λ w. is_possible w.condition) (f o) (flat_map f os) ∙ ap (λ xs. possible (f o) ++ xs) (possible_flat f os)

-- The ways of one outcome.

shut_way : (c : Condition) (s : Option Sending) → is_possible c ≡ false → possible (way_if c s) ≡ []
shut_way c None e = refl
shut_way c (Some s) e = rw e refl

pub kept_way : (c : Condition) (s : Sending) → IsPossible c → possible (way c s ∷ []) ≡ way c s ∷ []
kept_way c s is = rw (met_possible is.0 c is.2) refl

kept_if : (c : Condition) (s : Option Sending) → is_possible c ≡ true → possible (way_if c s) ≡ way_if c s
kept_if c None e = refl
kept_if c (Some s) e = rw e refl

-- what is forwarded under a least marking is the way of the outcome
pub forwarded_is : (plan : Network) (node : ℕ) (b : List ℕ) (c d : Condition) (o : Outcome) (s : Option Sending) → o.condition ≡ d
    → ((M : List Mark) → Becomes plan node (point_of plan node) b M o) → IsForwarded plan node b (both c d) s
    → way_if (both c d) s ≡ possible (forwarded_way c o)
forwarded_is plan node b c d o s same becomes is =
    subst (λ (x : Condition). way_if (both c d) s ≡ possible (way_if (both c x) (forwarded o.arrival))) (sym same)
    (by (is_possible (both c d)) refl is) where
      by : (p : Bool) → is_possible (both c d) ≡ p
          → MatchBool p ((M : List Mark) × IsMarking M × (meets M (both c d) ≡ true)
          × (s ≡ forwarded (arrival plan node M (point_of plan node) b))) (s ≡ None)
          → way_if (both c d) s ≡ possible (way_if (both c d) (forwarded o.arrival))
      by false e none = ap (way_if (both c d)) none ∙ sym (shut_way (both c d) (forwarded o.arrival) e)
      by true e h =
          let met = and_parts (meets h.0 c) (meets h.0 d) (sym (meets_both h.0 c d) ∙ h.2) in
          let is : cleared (arrival plan node h.0 (point_of plan node) b) ≡ o.arrival =
          becomes h.0 (subst (λ (x : Condition). meets h.0 x ≡ true) (sym same) met.1) in
          let sent : s ≡ forwarded o.arrival =
          h.3 ∙ sym (forwarded_cleared (arrival plan node h.0 (point_of plan node) b)) ∙ ap forwarded is in
          ap (way_if (both c d)) sent ∙ sym (kept_if (both c d) (forwarded o.arrival) e)

-- the ways of an arrival under a marking that meets the condition are those of the outcome
pub under_is : (plan : Network) (node origin : ℕ) (b : List ℕ) (c : Condition) (o : Outcome) (M : List Mark) (a : Arrival) → o.condition ≡ c
    → ((M : List Mark) → Becomes plan node origin b M o) → meets M c ≡ true → a ≡ arrival plan node M origin b
    → possible (ways_of plan node c (cleared a)) ≡ possible_ways plan node o
under_is plan node origin b c o M a same becomes met is =
    let own : meets M o.condition ≡ true = subst (λ (x : Condition). meets M x ≡ true) (sym same) met in
    let arrived : cleared a ≡ o.arrival = ap cleared is ∙ becomes M own in
    ap (λ x. possible (ways_of plan node c x)) arrived
    ∙ sym (ap (λ x. possible (ways_of plan node x o.arrival)) same)
    ∙ rw (met_possible M o.condition own) refl

-- an outcome whose condition no marking meets has no way
pub shut_outcome : (plan : Network) (node : ℕ) (c : Condition) (o : Outcome) → o.condition ≡ c → is_possible c ≡ false
    → [] ≡ possible_ways plan node o
shut_outcome plan node c o same e = rw (ap is_possible same ∙ e) refl

pub possible_of : (plan : Network) (node : ℕ) (b : List ℕ) (c : Condition) (s : Option Sending) (x : Sending) → IsForwarded plan node b c s
    → s ≡ Some x → IsPossible c
possible_of plan node b c s x is at = by (is_possible c) is where
  by : (p : Bool)
      → MatchBool p ((M : List Mark) × IsMarking M × (meets M c ≡ true) × (s ≡ forwarded (arrival plan node M (point_of plan node) b)))
      (s ≡ None)
      → IsPossible c
  by true h = (h.0, h.1, h.2)
  by false none = absurd (off none at) where
    off : s ≡ None → s ≡ Some x → ⊥
    off e f = let g : None ≡ Some x = sym e ∙ f in cc

pub forwarded_as : (plan : Network) (node : ℕ) (b : List ℕ) (c d combined : Condition) (o : Outcome) (s t : Option Sending)
    → o.condition ≡ d
    → ((M : List Mark) → Becomes plan node (point_of plan node) b M o) → combined ≡ both c d → IsForwarded plan node b combined s → s ≡ t
    → way_if combined t ≡ possible (forwarded_way c o)
forwarded_as plan node b c d combined o s t same becomes joined is at =
    ap (way_if combined) (sym at) ∙ ap (λ k. way_if k s) joined
    ∙ forwarded_is plan node b c d o s same becomes (subst (λ (k : Condition). IsForwarded plan node b k s) joined is)

pub adds_ways : (plan : Network) (node origin : ℕ) (b : List ℕ) (old new : List Way)
    → AddsWays old new (flat_map (possible_ways plan node) (outcomes plan node origin b)) → AddsWays old new (ways plan node origin b)
unfolding ways
adds_ways plan node origin b old new adds = adds
