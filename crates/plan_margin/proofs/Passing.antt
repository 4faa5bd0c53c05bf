-- from target to target of a row
use Rattle.std.specs.Prelude.{ℕ, ◌≡◌, ◌+◌, ◌<◌, ◌≤◌, Bool, false, if◌then◌else◌, List, [], ◌∷◌, length, drop, Option, Some, None, is_none}
use Rattle.std.specs.Prelude.{refl, slice_get, IsSomeAnd}
use Rattle.std.proofs.Common.{zero, suc, sym, ◌∙◌, ap, subst, arith, add-zero}
use Rattle.std.proofs.lemmas.Option.{slice_get_within}
use Rattle.sccp_base.specs.declared.mark.Mark.{Mark}
use Rattle.plan_rules.specs.declared.target.Target.{Target}
use Rattle.plan_model.specs.declared.node.Node.{Node}
use Rattle.plan_model.specs.Network.{Network}
use Rattle.plan_model.specs.Steps.{closing, first_open}
use Rattle.plan_classes.specs.Titles.{Titles}
use Rattle.plan_classes.specs.Classes.{class_targets}
use Rattle.plan_classes.specs.Leading.{OpensClass}
use Rattle.plan_check.proofs.Soundness.{some_of}
use Rattle.plan_margin.specs.Searching.{OfTarget, IsClosedAt, IsOpenAt}

-- the first open target is looked for after those that are closed
pub passed : (node : Node) (ssn : ℕ) (held : List Mark) (base : ℕ) (ts : List Target) (n : ℕ) → n ≤ length ts
    → ((k : ℕ) (t : Target) → k < n → slice_get ts k ≡ Some t → is_none (closing node ssn held t) ≡ false)
    → first_open node ssn held base ts ≡ first_open node ssn held (base + n) (drop n ts)
passed node ssn held base ts zero le closed = ap (λ (k : ℕ). first_open node ssn held k ts) (sym (add-zero base))
passed node ssn held base [] (suc n) le closed = absurd (omega (arith, le))
passed node ssn held base (t ∷ ts) (suc n) le closed =
    ap (λ (b : Bool). if b then Some (base, t) else first_open node ssn held (base + 1) ts) (closed 0 t (omega arith) refl)
    ∙ (passed node ssn held (base + 1) ts n (omega (arith, le)) (λ k u lt e. closed (suc k) u (omega (arith, lt)) e)
    ∙ ap (λ (k : ℕ). first_open node ssn held k (drop n ts)) (let e : base + 1 + n ≡ base + suc n = omega arith in e))

drop_at : (ts : List Target) (n : ℕ) (t : Target) → slice_get ts n ≡ Some t → drop n ts ≡ t ∷ drop (suc n) ts
drop_at [] n t e = absurd (cc)
drop_at (u ∷ ts) zero t e = let same : u ≡ t = cc in ap (λ (x : Target). x ∷ ts) same
drop_at (u ∷ ts) (suc n) t e = drop_at ts n t e

drop_past : (ts : List Target) (n : ℕ) → length ts ≤ n → drop n ts ≡ []
drop_past [] n le = drop_nil n
  where
    drop_nil : (n : ℕ) → drop {A = Target} n [] ≡ []
    drop_nil zero = refl
    drop_nil (suc n) = refl
drop_past (u ∷ ts) zero le = absurd (omega (arith, le))
drop_past (u ∷ ts) (suc n) le = drop_past ts n (omega (arith, le))

-- what holds of the target at a place, if the node is known
pub target_at : (plan : Network) (c : Titles) (place : ℕ) (P : Node → Target → Type 0) (node : Node)
    → slice_get plan.nodes c.node ≡ Some node → OfTarget plan c place P
    → (t : Target) × (slice_get (class_targets plan c) place ≡ Some t) × P node t
target_at plan c place P node at h =
    some_of (slice_get (class_targets plan c) place) (P node)
    (subst (λ (o : Option Node). IsSomeAnd o (λ n. IsSomeAnd (slice_get (class_targets plan c) place) (P n))) at h)

-- the target of that node at that place
pub of_target : (plan : Network) (c : Titles) (place : ℕ) (P : Node → Target → Type 0) (node : Node) (t : Target)
    → slice_get plan.nodes c.node ≡ Some node → slice_get (class_targets plan c) place ≡ Some t → P node t → OfTarget plan c place P
of_target plan c place P node t at here h =
    subst (λ (o : Option Node). IsSomeAnd o (λ n. IsSomeAnd (slice_get (class_targets plan c) place) (P n))) (sym at)
    (subst (λ (o : Option Target). IsSomeAnd o (P node)) (sym here) h)

closed_each : (plan : Network) (c : Titles) (held : List Mark) (n : ℕ) (node : Node) → slice_get plan.nodes c.node ≡ Some node
    → ((k : ℕ) → k < n → IsClosedAt plan c held k) → (k : ℕ) (t : Target) → k < n → slice_get (class_targets plan c) k ≡ Some t
    → is_none (closing node c.ssn held t) ≡ false
closed_each plan c held n node at closed k t lt e =
    let u = target_at plan c k (λ x y. is_none (closing x c.ssn held y) ≡ false) node at (closed k lt) in
    let same : u.0 ≡ t = cc (u.1, e) in
    subst (λ (x : Target). is_none (closing node c.ssn held x) ≡ false) same u.2

first_here : (node : Node) (ssn : ℕ) (held : List Mark) (ts : List Target) (place : ℕ) (t : Target) → slice_get ts place ≡ Some t
    → ((k : ℕ) (u : Target) → k < place → slice_get ts k ≡ Some u → is_none (closing node ssn held u) ≡ false)
    → closing node ssn held t ≡ None → first_open node ssn held 0 ts ≡ Some (place, t)
first_here node ssn held ts place t at closed here =
    let inside : place < length ts = slice_get_within ts place t at in
    let whole : 0 + place ≡ place = omega arith in
    passed node ssn held 0 ts place (omega (arith, inside)) closed
    ∙ (ap (λ (k : ℕ). first_open node ssn held k (drop place ts)) whole
    ∙ (ap (first_open node ssn held place) (drop_at ts place t at)
    ∙ ap (λ (o : Option Mark). if is_none o then Some (place, t) else first_open node ssn held (place + 1) (drop (suc place) ts)) here))

-- an open target after closed ones is the first open one
pub opens_here : (plan : Network) (c : Titles) (held : List Mark) (place : ℕ) → ((k : ℕ) → k < place → IsClosedAt plan c held k)
    → IsOpenAt plan c held place → OpensClass plan c place held
opens_here plan c held place closed here =
    let n = some_of (slice_get plan.nodes c.node) (λ x. IsSomeAnd (slice_get (class_targets plan c) place)
    (λ t. closing x c.ssn held t ≡ None)) here in
    let t = some_of (slice_get (class_targets plan c) place) (λ t. closing n.0 c.ssn held t ≡ None) n.2 in
    subst (λ (o : Option Node). IsSomeAnd o (λ x. (u : Target) × (first_open x c.ssn held 0 (class_targets plan c) ≡ Some (place, u))))
    (sym n.1)
    (t.0, first_here n.0 c.ssn held (class_targets plan c) place t.0 t.1 (closed_each plan c held place n.0 n.1 closed) t.2)

-- if all targets are closed, none is the first open one
pub none_opens : (plan : Network) (c : Titles) (held : List Mark) (place : ℕ) (node : Node) → slice_get plan.nodes c.node ≡ Some node
    → place ≡ length (class_targets plan c) → ((k : ℕ) → k < place → IsClosedAt plan c held k)
    → first_open node c.ssn held 0 (class_targets plan c) ≡ None
none_opens plan c held place node at whole closed =
    passed node c.ssn held 0 (class_targets plan c) place (omega (arith, whole)) (closed_each plan c held place node at closed)
    ∙ ap (first_open node c.ssn held (0 + place)) (drop_past (class_targets plan c) place (omega (arith, whole)))
