-- the marks of a target that are still to be looked at, as a measure of the search
use Rattle.std.specs.Prelude.{ℕ, ◌≡◌, ◌+◌, ◌<◌, ◌≤◌, ◌==◌, not, if◌then◌else◌, Bool, true, false, List, [], ◌∷◌, length}
use Rattle.std.specs.Prelude.{Option, Some, None, IsSomeAnd, refl, slice_get}
use Rattle.std.specs.Option.{unwrap_or, option_map_or}
use Rattle.std.proofs.Common.{sym, ◌∙◌, ap, subst, ⊎_elim, arith}
use Rattle.std.proofs.lemmas.Bool.{false≢true, and_parts, and_from, cases_Bool, not-true, or_left, or_right}
use Rattle.sccp_base.specs.declared.mark.Mark.{Mark}
use Rattle.sccp_base.specs.declared.mark.Mark.TheVariants.{PointCode, Sccp, Subsystem}
use Rattle.sccp_base.specs.Marks.{holds, same_mark}
use Rattle.sccp_base.proofs.Among.{Among, find-Some}
use Rattle.plan_rules.specs.declared.target.Target.{Target}
use Rattle.plan_rules.specs.declared.target.Target.TheVariants.{Relay, Final}
use Rattle.plan_model.specs.declared.node.Node.{Node}
use Rattle.plan_model.specs.Network.{Network}
use Rattle.plan_model.specs.Steps.{marks as closing_marks}
use Rattle.plan_classes.specs.Titles.{Titles}
use Rattle.plan_classes.specs.Classes.{class_targets}
use Rattle.plan_classes.proofs.Openings.{own_mark}
use Rattle.plan_check.proofs.Soundness.{some_of}
use Rattle.plan_margin.specs.declared.loss_kinds.LossKinds.{LossKinds}
use Rattle.plan_margin.specs.declared.outage_set.OutageSet.{OutageSet}
use Rattle.plan_margin.specs.declared.turn.Turn.TheVariants.{Either}
use Rattle.plan_margin.specs.Outages.{is_loss}
use Rattle.plan_margin.specs.Searching.{IsTurn, IsTurnBy, IsWithUp, is_free}

abbrev one_if : Bool → ℕ
one_if true = 1
one_if false = 0

-- how many of the marks pass
abbrev pub passing : (Mark → Bool) → List Mark → ℕ
passing p [] = 0
passing p (m ∷ ms) = one_if (p m) + passing p ms

at_most_one : (b : Bool) → one_if b ≤ 1
at_most_one true = omega arith
at_most_one false = omega arith

no_more_than : (a b : Bool) → (a ≡ true → b ≡ true) → one_if a ≤ one_if b
no_more_than false b f = omega arith
no_more_than true b f = let e : one_if b ≡ 1 = ap one_if (f refl) in omega (arith, e)

all_pass : (p : Mark → Bool) (ms : List Mark) → passing p ms ≤ length ms
all_pass p [] = omega arith
all_pass p (m ∷ ms) = let one = at_most_one (p m) in let more = all_pass p ms in omega (arith, one, more)

fewer : (p q : Mark → Bool) (ms : List Mark) → ((m : Mark) → q m ≡ true → p m ≡ true) → passing q ms ≤ passing p ms
fewer p q [] f = omega arith
fewer p q (m ∷ ms) f =
    let here = no_more_than (q m) (p m) (f m) in
    let more = fewer p q ms f in omega (arith, here, more)

one_fewer : (p q : Mark → Bool) (x : Mark) (ms : List Mark) → ((m : Mark) → q m ≡ true → p m ≡ true) → Among x ms → p x ≡ true
    → q x ≡ false → passing q ms < passing p ms
one_fewer p q x [] f among holds_p fails_q = absurd among
one_fewer p q x (m ∷ ms) f among holds_p fails_q =
    let more = fewer p q ms f in
    ⊎_elim
    (λ (same : m ≡ x).
    let a : one_if (p m) ≡ 1 = ap one_if (ap p same ∙ holds_p) in
    let b : one_if (q m) ≡ 0 = ap one_if (ap q same ∙ fails_q) in omega (arith, a, b, more))
    (λ (later : Among x ms).
    let here = no_more_than (q m) (p m) (f m) in
    let rest = one_fewer p q x ms f later holds_p fails_q in omega (arith, here, rest)) among

-- how many marks of the target at a place are held in some outages of the set and not in others
abbrev pub free_at : Network → Titles → ℕ → OutageSet → ℕ
free_at plan c place set =
    option_map_or (λ node. option_map_or (λ t. passing (is_free plan set) (closing_marks node c.ssn t))
    (slice_get (class_targets plan c) place)
    0) (slice_get plan.nodes c.node) 0

few_marks : (node : Node) (ssn : ℕ) (t : Target) → length (closing_marks node ssn t) ≤ 3
few_marks node ssn (Relay pc strip put selector named) = omega arith
few_marks node ssn (Final pc named) =
    let sub : Mark = Subsystem pc (unwrap_or named ssn) in
    elim (pc == node.pc) as (λ b. length (if b then sub ∷ [] else PointCode pc ∷ Sccp pc ∷ sub ∷ []) ≤ 3)
    [ true ↦ omega arith | false ↦ omega arith ]

pub few_free : (plan : Network) (c : Titles) (place : ℕ) (set : OutageSet) → free_at plan c place set ≤ 3
few_free plan c place set = elim (slice_get plan.nodes c.node) as (λ o. option_map_or (λ node. option_map_or
    (λ t. passing (is_free plan set) (closing_marks node c.ssn t)) (slice_get (class_targets plan c) place) 0) o 0 ≤ 3) [
      | None ↦ omega arith
      | Some node ↦ elim (slice_get (class_targets plan c) place) as (λ o. option_map_or
          (λ t. passing (is_free plan set) (closing_marks node c.ssn t)) o 0 ≤ 3) [
            | None ↦ omega arith
            | Some t ↦ (let all = all_pass (is_free plan set) (closing_marks node c.ssn t) in
                let few = few_marks node c.ssn t in omega (arith, all, few))
          ]
    ]

-- what is free in the set with one more mark up is free in the set, and that mark is not
still_free : (plan : Network) (set more : OutageSet) (mark m : Mark) → IsWithUp set mark more → is_free plan more m ≡ true
    → is_free plan set m ≡ true
still_free plan set more mark m made h =
    let both = and_parts (is_loss plan more.kinds m) (not (holds more.up m)) h in
    and_from (is_loss plan set.kinds m) (not (holds set.up m)) (subst (λ (k : LossKinds). is_loss plan k m ≡ true) made.kinds both.0)
    (⊎_elim
    (λ (e : holds set.up m ≡ true). absurd (false≢true (sym (not-true (holds more.up m) both.1)
    ∙ (made.up m ∙ or_right (same_mark mark m) (holds set.up m) e))))
    (λ (e : holds set.up m ≡ false). ap not e)
    (cases_Bool (holds set.up m)))

not_free : (plan : Network) (set more : OutageSet) (mark : Mark) → IsWithUp set mark more → is_free plan more mark ≡ false
not_free plan set more mark made =
    let up : holds more.up mark ≡ true = made.up mark ∙ or_left (same_mark mark mark) (holds set.up mark) (own_mark mark) in
    ⊎_elim
    (λ (e : is_free plan more mark ≡ true).
    absurd (false≢true (sym (not-true (holds more.up mark) (and_parts (is_loss plan more.kinds mark) (not (holds more.up mark)) e).1)
    ∙ up)))
    (λ (e : is_free plan more mark ≡ false). e)
    (cases_Bool (is_free plan more mark))

pub less_free : (plan : Network) (c : Titles) (place : ℕ) (mark : Mark) (set more : OutageSet) → IsTurn plan c place set (Either mark)
    → IsWithUp set mark more → free_at plan c place more < free_at plan c place set
less_free plan c place mark set more turn made =
    let n = some_of (slice_get plan.nodes c.node) (λ x. IsSomeAnd (slice_get (class_targets plan c) place)
    (λ t. IsTurnBy plan (closing_marks x c.ssn t) set (Either mark))) turn in
    let t = some_of (slice_get (class_targets plan c) place) (λ t. IsTurnBy plan (closing_marks n.0 c.ssn t) set (Either mark)) n.2 in
    let found = find-Some (is_free plan set) mark (closing_marks n.0 c.ssn t.0) t.2.0 in
    let less = one_fewer (is_free plan set) (is_free plan more) mark (closing_marks n.0 c.ssn t.0)
    (λ m h. still_free plan set more mark m made h) found.0 found.1 (not_free plan set more mark made) in
    let a = free_here plan c place set n.0 t.0 n.1 t.1 in
    let b = free_here plan c place more n.0 t.0 n.1 t.1 in
    omega (arith, less, a, b)
  where
    free_here : (plan : Network) (c : Titles) (place : ℕ) (set : OutageSet) (node : Node) (t : Target)
        → slice_get plan.nodes c.node ≡ Some node → slice_get (class_targets plan c) place ≡ Some t
        → free_at plan c place set ≡ passing (is_free plan set) (closing_marks node c.ssn t)
    free_here plan c place set node t at here =
        ap (λ (o : Option Node). option_map_or (λ x. option_map_or (λ u. passing (is_free plan set) (closing_marks x c.ssn u))
        (slice_get (class_targets plan c) place) 0) o 0) at
        ∙ ap (λ (o : Option Target). option_map_or (λ u. passing (is_free plan set) (closing_marks node c.ssn u)) o 0) here
