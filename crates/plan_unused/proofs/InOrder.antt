-- lists of what is unused, in ascending order
use Rattle.std.specs.Prelude.{ℕ, ◌≡◌, ◌+◌, ◌<◌, ◌≤◌, ◌⊎◌, ◌↔◌, Bool, true, false, List, [], ◌∷◌, ◌++◌, length, Some, None}
use Rattle.std.specs.Prelude.{IsSomeAnd, slice_get, slice_index_or, refl}
use Rattle.std.specs.List.{Contains}
use Rattle.std.proofs.Common.{sym, ◌∙◌, ap, subst, inl, inr, ⊎_elim, arith}
use Rattle.std.proofs.lemmas.Bool.{false≢true}
use Rattle.std.proofs.lemmas.Option.{slice_get_within}
use Rattle.std.proofs.lemmas.List.Elements.{All-contains}
use Rattle.plan_rules.specs.Rule.{Rule}
use Rattle.plan_model.specs.declared.node.Node.{Node}
use Rattle.plan_model.specs.declared.spot.Spot.{Spot}
use Rattle.plan_model.specs.Network.{Network}
use Rattle.plan_model.specs.Covered.{Covers}
use Rattle.plan_covers.proofs.Ascending.{SoFar, none_yet, one_more, no_more}
use Rattle.plan_covers.proofs.Listing.{or_present}
use Rattle.plan_check.proofs.Soundness.{some_of}
use Rattle.plan_check.proofs.Verdict.{none-some}
use Rattle.plan_unused.specs.declared.survey.RowPlace.{RowPlace}
use Rattle.plan_unused.specs.declared.survey.TargetPlace.{TargetPlace}
use Rattle.plan_unused.specs.declared.survey.Gap.{Gap}
use Rattle.plan_unused.specs.declared.seen.Seen.{Seen}
use Rattle.plan_unused.specs.Uses.{UsesRelay, UsesRow, UsesTarget, HasGap}
use Rattle.plan_unused.specs.Surveys.{IsUnusedRelay, IsUnusedRow, IsUnusedTarget, IsRowBefore, IsTargetBefore, ListsRelays, ListsRows}
use Rattle.plan_unused.specs.Surveys.{ListsTargets, ListsGaps}
use Rattle.plan_unused.specs.Walks.{row_at, target_at, has_relay, has_row, has_target, gap_in, IsSeen, IsWhole}
use Rattle.plan_unused.specs.Listed.{AreBefore, RowsSoFar, TargetsSoFar, HasCount, HasPlace, HasTarget, HasTargetCount}
use Rattle.plan_unused.proofs.Fits.{is_some_and}

so_far : {X : Type 0} (Less : X → X → Type 0) (Is : X → Type 0) (p : X) (xs : List X) → AreBefore Less Is p xs
    → SoFar (λ (x : X). x) Less Is Is (λ x. Less x p) xs
so_far Less Is p xs h = record { each = h.each; every = h.every; ascending = h.ascending; before = h.before }

are_before : {X : Type 0} (Less : X → X → Type 0) (Is : X → Type 0) (p : X) (xs : List X)
    → SoFar (λ (x : X). x) Less Is Is (λ x. Less x p) xs → AreBefore Less Is p xs
are_before Less Is p xs h = record { each = h.each; every = h.every; ascending = h.ascending; before = h.before }

pub before_none : {X : Type 0} (Less : X → X → Type 0) (Is : X → Type 0) (p : X) → ((x : X) → Less x p → ⊥) → AreBefore Less Is p []
before_none {X} Less Is p none = are_before Less Is p [] (none_yet (λ (x : X). x) Less Is Is (λ x. Less x p) (λ x b h. none x b))

-- the present item is unused
pub before_more : {X : Type 0} (Less : X → X → Type 0) (Is : X → Type 0) (p q : X) (xs ys : List X) → ys ≡ xs ++ p ∷ [] → Is p
    → ((y : X) → Less y q → Less y p ⊎ (p ≡ y)) → ((y : X) → Less y p → Less y q) → Less p q → AreBefore Less Is p xs
    → AreBefore Less Is q ys
before_more {X} Less Is p q xs ys e is splits on own h =
    are_before Less Is q ys (one_more (λ (x : X). x) Less Is Is (λ x. Less x p) (λ x. Less x q) xs ys p e is (λ y b. b) splits on own
    (so_far Less Is p xs h))

-- what is before the next item, and unused, is before the present one
pub before_same : {X : Type 0} (Less : X → X → Type 0) (Is : X → Type 0) (p q : X) (xs : List X) → ((y : X) → Less y q → Is y → Less y p)
    → ((y : X) → Less y p → Less y q) → AreBefore Less Is p xs → AreBefore Less Is q xs
before_same {X} Less Is p q xs back on h =
    are_before Less Is q xs (no_more (λ (x : X). x) Less Is Is (λ x. Less x p) (λ x. Less x q) xs back on (so_far Less Is p xs h))

all_listed : {X : Type 0} (Less : X → X → Type 0) (Is : X → Type 0) (p : X) (xs : List X) → ((x : X) → Is x → Less x p)
    → AreBefore Less Is p xs → (x : X) → Contains xs x ↔ Is x
all_listed {X} Less Is p xs inside h x = (
  λ c. All-contains Is xs x h.each c,
  λ is. let a = h.every x (inside x is) is in
      (a.0, a.2, subst (λ (y : X). get_is y a.0) a.4 (a.3)),
)
  where
    get_is : X → ℕ → Type 0
    get_is y k = slice_index_or xs k y ≡ y

-- numbers

is_false : (b c : Bool) → b ≡ c → b ≡ false → c ≡ true → ⊥
is_false b c same f t = false≢true (sym f ∙ same ∙ t)

-- relays
pub relays_none : (plan : Network) → AreBefore (λ i j. i < j) (IsUnusedRelay plan) 0 []
relays_none plan = before_none (λ i j. i < j) (IsUnusedRelay plan) 0 (λ k lt. omega (arith, lt))

pub relays_more : (plan : Network) (seen : Seen) (n : ℕ) (xs ys : List ℕ) (b : Bool) → n < length plan.nodes → IsWhole plan seen
    → b ≡ has_relay seen n → b ≡ false → ys ≡ xs ++ n ∷ [] → AreBefore (λ i j. i < j) (IsUnusedRelay plan) n xs
    → AreBefore (λ i j. i < j) (IsUnusedRelay plan) (n + 1) ys
relays_more plan seen n xs ys b lt whole told not_in e h =
    before_more (λ i j. i < j) (IsUnusedRelay plan) n (n + 1) xs ys e
    (lt, λ uses. is_false b (has_relay seen n) told not_in (whole.relays n uses))
    (λ k l. or_present n k l) (λ k l. omega (arith, l)) (omega arith) h

pub relays_same : (plan : Network) (seen : Seen) (n : ℕ) (xs : List ℕ) (b : Bool) → IsSeen plan seen → b ≡ has_relay seen n → b ≡ true
    → AreBefore (λ i j. i < j) (IsUnusedRelay plan) n xs → AreBefore (λ i j. i < j) (IsUnusedRelay plan) (n + 1) xs
relays_same plan seen n xs b seen_is told is_in h =
    before_same (λ i j. i < j) (IsUnusedRelay plan) n (n + 1) xs
    (λ k l is. ⊎_elim (λ (lt : k < n). lt) (λ (same : n ≡ k). absurd (is.1 (subst (UsesRelay plan) same
    (seen_is.relays n (sym told ∙ is_in))))) (or_present n k l))
    (λ k l. omega (arith, l)) h

pub relays_all : (plan : Network) (n : ℕ) (xs : List ℕ) → length plan.nodes ≤ n → AreBefore (λ i j. i < j) (IsUnusedRelay plan) n xs
    → ListsRelays plan xs
relays_all plan n xs le h =
    record {
      exact = all_listed (λ i j. i < j) (IsUnusedRelay plan) n xs (λ k is. omega (arith, is.0, le)) h;
      ascending = h.ascending;
    }

-- rows
row_step : (n r : ℕ) (y : RowPlace) → IsRowBefore y (row_at n (r + 1)) → IsRowBefore y (row_at n r) ⊎ (row_at n r ≡ y)
row_step n r y (inl lt) = inl (inl lt)
row_step n r y (inr h) =
    ⊎_elim (λ (lt : y.row < r). inl (inr (h.0, lt))) (λ (same : r ≡ y.row). inr (λ i. record { node = sym h.0 i; row = same i }))
    (or_present r y.row h.1)

row_on : (n r : ℕ) (y : RowPlace) → IsRowBefore y (row_at n r) → IsRowBefore y (row_at n (r + 1))
row_on n r y (inl lt) = inl lt
row_on n r y (inr h) = inr (h.0, omega (arith, h.1))

node_on : (n r : ℕ) (y : RowPlace) → IsRowBefore y (row_at n r) → IsRowBefore y (row_at (n + 1) 0)
node_on n r y (inl lt) = inl (omega (arith, lt))
node_on n r y (inr h) = inl (omega (arith, h.0))

pub rows_none : (plan : Network) → RowsSoFar plan 0 0 []
rows_none plan = before_none IsRowBefore (IsUnusedRow plan) (row_at 0 0) none
  where
    none : (y : RowPlace) → IsRowBefore y (row_at 0 0) → ⊥
    none y (inl lt) = omega (arith, lt)
    none y (inr h) = omega (arith, h.1)

pub rows_more : (plan : Network) (seen : Seen) (place : RowPlace) (xs ys : List RowPlace) (b : Bool) → IsWhole plan seen
    → HasPlace plan place → UsesRelay plan place.node → b ≡ has_row seen place → b ≡ false → ys ≡ xs ++ place ∷ []
    → RowsSoFar plan place.node place.row xs → RowsSoFar plan place.node (place.row + 1) ys
rows_more plan seen place xs ys b whole there relay told not_in e h =
    before_more IsRowBefore (IsUnusedRow plan) place (row_at place.node (place.row + 1)) xs ys e
    (record { row = there; relay = relay; unused = λ uses. is_false b (has_row seen place) told not_in (whole.rows place uses) })
    (row_step place.node place.row) (row_on place.node place.row) (inr (refl, omega arith)) h

-- a place before the number of rows is one
pub place_there : (plan : Network) (n r count : ℕ) → HasCount plan n count → r < count → HasPlace plan (row_at n r)
place_there plan n r count counts lt =
    let node = some_of (slice_get plan.nodes n) (λ x. count ≡ length x.table) counts in
    is_some_and (slice_get plan.nodes n) (λ x. r < length x.table) node.0 node.1 (omega (arith, node.2, lt))

pub rows_same : (plan : Network) (seen : Seen) (n r : ℕ) (xs : List RowPlace) (b : Bool) → IsSeen plan seen → b ≡ has_row seen (row_at n r)
    → b ≡ true → RowsSoFar plan n r xs → RowsSoFar plan n (r + 1) xs
rows_same plan seen n r xs b seen_is told is_in h =
    before_same IsRowBefore (IsUnusedRow plan) (row_at n r) (row_at n (r + 1)) xs
    (λ y l is. ⊎_elim (λ (lt : IsRowBefore y (row_at n r)). lt)
    (λ (same : row_at n r ≡ y). absurd (is.unused (subst (λ (p : RowPlace). UsesRow plan p.node p.row) same
    (seen_is.rows (row_at n r) (sym told ∙ is_in))))) (row_step n r y l))
    (row_on n r) h

-- all rows of the node were looked at
pub rows_end : (plan : Network) (n r count : ℕ) (xs : List RowPlace) → HasCount plan n count → count ≤ r → RowsSoFar plan n r xs
    → RowsSoFar plan (n + 1) 0 xs
rows_end plan n r count xs counts le h = before_same IsRowBefore (IsUnusedRow plan) (row_at n r) (row_at (n + 1) 0) xs back (node_on n r) h
  where
    inside : (y : RowPlace) → y.node ≡ n → IsUnusedRow plan y → y.row < r
    inside y same is =
        let node = some_of (slice_get plan.nodes n) (λ x. count ≡ length x.table) counts in
        let own = some_of (slice_get plan.nodes y.node) (λ x. y.row < length x.table) is.row in
        let one : Some own.0 ≡ Some node.0 = sym own.1 ∙ (ap (slice_get plan.nodes) same ∙ node.1) in
        let e : own.0 ≡ node.0 = cc in
        omega (arith, own.2, ap (λ (x : Node). length x.table) e, node.2, le)

    back : (y : RowPlace) → IsRowBefore y (row_at (n + 1) 0) → IsUnusedRow plan y → IsRowBefore y (row_at n r)
    back y (inl lt) is = ⊎_elim (λ (l : y.node < n). inl l) (λ (same : n ≡ y.node). inr (sym same, inside y (sym same) is))
        (or_present n y.node lt)
    back y (inr bad) is = absurd (omega (arith, bad.1))

-- the rows of an unused relay are not listed
pub rows_skip : (plan : Network) (seen : Seen) (n : ℕ) (xs : List RowPlace) (b : Bool) → IsWhole plan seen → b ≡ has_relay seen n
    → b ≡ false
    → RowsSoFar plan n 0 xs → RowsSoFar plan (n + 1) 0 xs
rows_skip plan seen n xs b whole told not_in h = before_same IsRowBefore (IsUnusedRow plan) (row_at n 0) (row_at (n + 1) 0) xs back
    (node_on n 0) h
  where
    back : (y : RowPlace) → IsRowBefore y (row_at (n + 1) 0) → IsUnusedRow plan y → IsRowBefore y (row_at n 0)
    back y (inl lt) is = ⊎_elim (λ (l : y.node < n). inl l)
        (λ (same : n ≡ y.node). absurd (is_false b (has_relay seen n) told not_in
        (whole.relays n (subst (UsesRelay plan) (sym same) is.relay))))
        (or_present n y.node lt)
    back y (inr bad) is = absurd (omega (arith, bad.1))

pub rows_all : (plan : Network) (n : ℕ) (xs : List RowPlace) → length plan.nodes ≤ n → RowsSoFar plan n 0 xs → ListsRows plan xs
rows_all plan n xs le h =
    record {
      exact = all_listed IsRowBefore (IsUnusedRow plan) (row_at n 0) xs inside h;
      ascending = h.ascending;
    }
  where
    inside : (y : RowPlace) → IsUnusedRow plan y → IsRowBefore y (row_at n 0)
    inside y is =
        let own = some_of (slice_get plan.nodes y.node) (λ x. y.row < length x.table) is.row in
        inl (let lt : y.node < length plan.nodes = slice_get_within plan.nodes y.node own.0 own.1 in omega (arith, lt, le))

-- targets
target_step : (n r t : ℕ) (y : TargetPlace) → IsTargetBefore y (target_at n r (t + 1))
    → IsTargetBefore y (target_at n r t) ⊎ (target_at n r t ≡ y)
target_step n r t y (inl lt) = inl (inl lt)
target_step n r t y (inr h) = by h.1
  where
    by : (y.row < r) ⊎ ((y.row ≡ r) × (y.target < t + 1)) → IsTargetBefore y (target_at n r t) ⊎ (target_at n r t ≡ y)
    by (inl lt) = inl (inr (h.0, inl lt))
    by (inr k) = ⊎_elim (λ (lt : y.target < t). inl (inr (h.0, inr (k.0, lt))))
        (λ (same : t ≡ y.target). inr (λ i. record { node = sym h.0 i; row = sym k.0 i; target = same i })) (or_present t y.target k.1)

target_on : (n r t : ℕ) (y : TargetPlace) → IsTargetBefore y (target_at n r t) → IsTargetBefore y (target_at n r (t + 1))
target_on n r t y (inl lt) = inl lt
target_on n r t y (inr h) = inr (h.0, by h.1)
  where
    by : (y.row < r) ⊎ ((y.row ≡ r) × (y.target < t)) → (y.row < r) ⊎ ((y.row ≡ r) × (y.target < t + 1))
    by (inl lt) = inl lt
    by (inr k) = inr (k.0, omega (arith, k.1))

next_row : (n r t : ℕ) (y : TargetPlace) → IsTargetBefore y (target_at n r t) → IsTargetBefore y (target_at n (r + 1) 0)
next_row n r t y (inl lt) = inl lt
next_row n r t y (inr h) = inr (h.0, inl (by h.1))
  where
    by : (y.row < r) ⊎ ((y.row ≡ r) × (y.target < t)) → y.row < r + 1
    by (inl lt) = omega (arith, lt)
    by (inr k) = omega (arith, k.0)

next_node : (n r t : ℕ) (y : TargetPlace) → IsTargetBefore y (target_at n r t) → IsTargetBefore y (target_at (n + 1) 0 0)
next_node n r t y (inl lt) = inl (omega (arith, lt))
next_node n r t y (inr h) = inl (omega (arith, h.0))

-- no target comes before the first of a row
first_of_row : (n r : ℕ) (y : TargetPlace) → (y.row < r) ⊎ ((y.row ≡ r) × (y.target < 0)) → y.row < r
first_of_row n r y (inl lt) = lt
first_of_row n r y (inr k) = absurd (omega (arith, k.1))

pub targets_none : (plan : Network) → TargetsSoFar plan 0 0 0 []
targets_none plan = before_none IsTargetBefore (IsUnusedTarget plan) (target_at 0 0 0) none
  where
    none : (y : TargetPlace) → IsTargetBefore y (target_at 0 0 0) → ⊥
    none y (inl lt) = omega (arith, lt)
    none y (inr h) = let lt = first_of_row 0 0 y h.1 in omega (arith, lt)

pub targets_more : (plan : Network) (seen : Seen) (place : TargetPlace) (xs ys : List TargetPlace) (b : Bool) → IsWhole plan seen
    → HasTarget plan place → UsesRow plan place.node place.row → b ≡ has_target seen place → b ≡ false → ys ≡ xs ++ place ∷ []
    → TargetsSoFar plan place.node place.row place.target xs → TargetsSoFar plan place.node place.row (place.target + 1) ys
targets_more plan seen place xs ys b whole there row told not_in e h =
    before_more IsTargetBefore (IsUnusedTarget plan) place (target_at place.node place.row (place.target + 1)) xs ys e
    (record { target = there; row = row; unused = λ uses. is_false b (has_target seen place) told not_in (whole.targets place uses) })
    (target_step place.node place.row place.target) (target_on place.node place.row place.target) (inr (refl, inr (refl, omega arith))) h

-- a place before the number of targets is one
pub target_there : (plan : Network) (place : RowPlace) (t count : ℕ) → HasTargetCount plan place count → t < count
    → HasTarget plan (target_at place.node place.row t)
target_there plan place t count counts lt =
    let node = some_of (slice_get plan.nodes place.node) (λ n. IsSomeAnd (slice_get n.table place.row)
    (λ r. count ≡ length r.targets)) counts in
    let rule = some_of (slice_get node.0.table place.row) (λ r. count ≡ length r.targets) node.2 in
    is_some_and (slice_get plan.nodes place.node) (λ n. IsSomeAnd (slice_get n.table place.row) (λ r. t < length r.targets)) node.0 node.1
    (is_some_and (slice_get node.0.table place.row) (λ r. t < length r.targets) rule.0 rule.1 (omega (arith, rule.2, lt)))

pub targets_same : (plan : Network) (seen : Seen) (n r t : ℕ) (xs : List TargetPlace) (b : Bool) → IsSeen plan seen
    → b ≡ has_target seen (target_at n r t) → b ≡ true → TargetsSoFar plan n r t xs → TargetsSoFar plan n r (t + 1) xs
targets_same plan seen n r t xs b seen_is told is_in h =
    before_same IsTargetBefore (IsUnusedTarget plan) (target_at n r t) (target_at n r (t + 1)) xs
    (λ y l is. ⊎_elim (λ (lt : IsTargetBefore y (target_at n r t)). lt)
    (λ (same : target_at n r t ≡ y). absurd (is.unused (subst (λ (p : TargetPlace). UsesTarget plan p.node p.row p.target) same
    (seen_is.targets (target_at n r t) (sym told ∙ is_in))))) (target_step n r t y l))
    (target_on n r t) h

-- all targets of the row were looked at
pub targets_end : (plan : Network) (place : RowPlace) (t count : ℕ) (xs : List TargetPlace) → HasTargetCount plan place count → count ≤ t
    → TargetsSoFar plan place.node place.row t xs → TargetsSoFar plan place.node (place.row + 1) 0 xs
targets_end plan place t count xs counts le h =
    before_same IsTargetBefore (IsUnusedTarget plan) (target_at place.node place.row t) (target_at place.node (place.row + 1) 0) xs back
    (next_row place.node place.row t) h
  where
    inside : (y : TargetPlace) → y.node ≡ place.node → y.row ≡ place.row → IsUnusedTarget plan y → y.target < t
    inside y same line is =
        let node = some_of (slice_get plan.nodes place.node) (λ n. IsSomeAnd (slice_get n.table place.row)
        (λ r. count ≡ length r.targets)) counts in
        let rule = some_of (slice_get node.0.table place.row) (λ r. count ≡ length r.targets) node.2 in
        let own = some_of (slice_get plan.nodes y.node) (λ n. IsSomeAnd (slice_get n.table y.row) (λ r. y.target < length r.targets))
        is.target in
        let its = some_of (slice_get own.0.table y.row) (λ r. y.target < length r.targets) own.2 in
        let one : Some own.0 ≡ Some node.0 = sym own.1 ∙ (ap (slice_get plan.nodes) same ∙ node.1) in
        let e : own.0 ≡ node.0 = cc in
        let two : Some its.0 ≡ Some rule.0 = sym its.1 ∙ (ap (λ (x : Node). slice_get x.table y.row) e
        ∙ (ap (slice_get node.0.table) line ∙ rule.1)) in
        let f : its.0 ≡ rule.0 = cc in
        omega (arith, its.2, ap (λ (r : Rule). length r.targets) f, rule.2, le)

    back : (y : TargetPlace) → IsTargetBefore y (target_at place.node (place.row + 1) 0) → IsUnusedTarget plan y
        → IsTargetBefore y (target_at place.node place.row t)
    back y (inl lt) is = inl lt
    back y (inr k) is =
        ⊎_elim (λ (lt : y.row < place.row). inr (k.0, inl lt)) (λ (same : place.row ≡ y.row). inr (
          k.0,
          inr (
            sym same,
            inside y k.0 (sym same) is,
          ),
        )) (or_present place.row y.row (first_of_row place.node (place.row + 1) y k.1))

-- the targets of an unused row are not listed
pub targets_skip : (plan : Network) (seen : Seen) (place : RowPlace) (xs : List TargetPlace) (b : Bool) → IsWhole plan seen
    → b ≡ has_row seen place → b ≡ false → TargetsSoFar plan place.node place.row 0 xs → TargetsSoFar plan place.node (place.row + 1) 0 xs
targets_skip plan seen place xs b whole told not_in h =
    before_same IsTargetBefore (IsUnusedTarget plan) (target_at place.node place.row 0) (target_at place.node (place.row + 1) 0) xs back
    (next_row place.node place.row 0) h
  where
    uses_own : (y : TargetPlace) → y.node ≡ place.node → y.row ≡ place.row → IsUnusedTarget plan y → UsesRow plan place.node place.row
    uses_own y same line is = subst (UsesRow plan place.node) line (subst (λ n. UsesRow plan n y.row) same is.row)

    back : (y : TargetPlace) → IsTargetBefore y (target_at place.node (place.row + 1) 0) → IsUnusedTarget plan y
        → IsTargetBefore y (target_at place.node place.row 0)
    back y (inl lt) is = inl lt
    back y (inr k) is =
        ⊎_elim (λ (lt : y.row < place.row). inr (k.0, inl lt)) (λ (same : place.row ≡ y.row). absurd
        (is_false b (has_row seen place) told not_in (whole.rows place (uses_own y k.0 (sym same) is))))
        (or_present place.row y.row (first_of_row place.node (place.row + 1) y k.1))

-- all rows of the node were looked at
pub targets_next : (plan : Network) (n r count : ℕ) (xs : List TargetPlace) → HasCount plan n count → count ≤ r → TargetsSoFar plan n r 0 xs
    → TargetsSoFar plan (n + 1) 0 0 xs
targets_next plan n r count xs counts le h =
    before_same IsTargetBefore (IsUnusedTarget plan) (target_at n r 0) (target_at (n + 1) 0 0) xs back (next_node n r 0) h
  where
    inside : (y : TargetPlace) → y.node ≡ n → IsUnusedTarget plan y → y.row < r
    inside y same is =
        let node = some_of (slice_get plan.nodes n) (λ x. count ≡ length x.table) counts in
        let own = some_of (slice_get plan.nodes y.node) (λ n. IsSomeAnd (slice_get n.table y.row) (λ r. y.target < length r.targets))
        is.target in
        let its = some_of (slice_get own.0.table y.row) (λ r. y.target < length r.targets) own.2 in
        let one : Some own.0 ≡ Some node.0 = sym own.1 ∙ (ap (slice_get plan.nodes) same ∙ node.1) in
        let e : own.0 ≡ node.0 = cc in
        omega (arith, slice_get_within own.0.table y.row its.0 its.1, ap (λ (x : Node). length x.table) e, node.2, le)

    back : (y : TargetPlace) → IsTargetBefore y (target_at (n + 1) 0 0) → IsUnusedTarget plan y → IsTargetBefore y (target_at n r 0)
    back y (inl lt) is = ⊎_elim (λ (l : y.node < n). inl l)
        (λ (same : n ≡ y.node). inr (sym same, inl (inside y (sym same) is))) (or_present n y.node lt)
    back y (inr k) is = absurd (let lt = first_of_row (n + 1) 0 y k.1 in omega (arith, lt))

pub targets_all : (plan : Network) (n : ℕ) (xs : List TargetPlace) → length plan.nodes ≤ n → TargetsSoFar plan n 0 0 xs
    → ListsTargets plan xs
targets_all plan n xs le h =
    record {
      exact = all_listed IsTargetBefore (IsUnusedTarget plan) (target_at n 0 0) xs inside h;
      ascending = h.ascending;
    }
  where
    inside : (y : TargetPlace) → IsUnusedTarget plan y → IsTargetBefore y (target_at n 0 0)
    inside y is =
        let own = some_of (slice_get plan.nodes y.node) (λ x. IsSomeAnd (slice_get x.table y.row) (λ r. y.target < length r.targets))
        is.target in
        inl (let lt : y.node < length plan.nodes = slice_get_within plan.nodes y.node own.0 own.1 in omega (arith, lt, le))

-- gaps
abbrev pub AnyGap : Network → ℕ → Type 0
AnyGap plan number = (spot : Spot) × HasGap plan number spot

abbrev pub GapsSoFar : Network → ℕ → List Gap → Type 0
GapsSoFar plan n found = SoFar (λ (g : Gap). g.cover) (λ i j. i < j) (λ g. HasGap plan g.cover g.spot) (AnyGap plan) (λ k. k < n) found

pub gaps_none : (plan : Network) → GapsSoFar plan 0 []
gaps_none plan = none_yet (λ (g : Gap). g.cover) (λ i j. i < j) (λ g. HasGap plan g.cover g.spot) (AnyGap plan) (λ k. k < 0)
    (λ k lt h. omega (arith, lt))

pub gaps_more : (plan : Network) (seen : Seen) (n : ℕ) (spot : Spot) (xs ys : List Gap) → IsSeen plan seen → gap_in seen n ≡ Some spot
    → ys ≡ xs ++ record { cover = n; spot = spot } ∷ [] → GapsSoFar plan n xs → GapsSoFar plan (n + 1) ys
gaps_more plan seen n spot xs ys seen_is here e h =
    one_more (λ (g : Gap). g.cover) (λ i j. i < j) (λ g. HasGap plan g.cover g.spot) (AnyGap plan) (λ k. k < n) (λ k. k < n + 1) xs ys
    (record { cover = n; spot = spot }) e (seen_is.gaps n spot here) (λ k lt. lt) (λ k lt. or_present n k lt) (λ k lt. omega (arith, lt))
    (omega arith) h

pub gaps_same : (plan : Network) (seen : Seen) (n : ℕ) (xs : List Gap) → IsWhole plan seen → gap_in seen n ≡ None → GapsSoFar plan n xs
    → GapsSoFar plan (n + 1) xs
gaps_same plan seen n xs whole none h =
    no_more (λ (g : Gap). g.cover) (λ i j. i < j) (λ g. HasGap plan g.cover g.spot) (AnyGap plan) (λ k. k < n) (λ k. k < n + 1) xs
    (λ k lt any. ⊎_elim (λ (l : k < n). l) (λ (same : n ≡ k). absurd (none-some (gap_in seen n) none
    (whole.gaps n any.0 (subst (λ m. HasGap plan m any.0) (sym same) any.1)))) (or_present n k lt))
    (λ k lt. omega (arith, lt)) h

pub gaps_all : (plan : Network) (n : ℕ) (xs : List Gap) → length plan.covers ≤ n → GapsSoFar plan n xs → ListsGaps plan xs
gaps_all plan n xs le h =
    record {
      each = h.each;
      every = λ number spot gap. h.every number (covered number spot gap) (spot, gap);
      ascending = h.ascending;
    }
  where
    covered : (number : ℕ) (spot : Spot) → HasGap plan number spot → number < n
    covered number spot gap =
        let c = some_of (slice_get plan.covers number) (λ c. Covers c gap.0.start) gap.0.covered in
        let lt : number < length plan.covers = slice_get_within plan.covers number c.0 c.1 in omega (arith, lt, le)
