-- The pairs of a line, one after another.
use Rattle.std.specs.Prelude.{ℕ, ◌≡◌, ◌-◌, ◌<◌, Bool, true, false, cond, List, [], ◌∷◌, ◌++◌, position, Option, Some, None, option_map}
use Rattle.std.specs.Prelude.{option_and_then, refl}
use Rattle.std.proofs.Common.{zero, suc, sym, ◌∙◌, ap, subst, arith, append_assoc}
use Rattle.plan_model.specs.Network as plans
use Rattle.plan_model.specs.Network.{has_point}
use Rattle.couple_chain.specs.Relays.{Relaying}
use Rattle.chain_world.specs.declared.stage.Stage.{Stage}
use Rattle.chain_world.specs.Staged.{is_open, next_in, stages_onward, stages_from}

behind : List Stage → Option (List Stage) → Option (List Stage)
behind path o = option_map (λ stages. path ++ stages) o

step : (plan : plans.Network) (relays : List Relaying) (n k : ℕ) (s : Stage) → 0 < n → k ≡ n - 1 →
    stages_from plan relays n s ≡ cond (is_open s) (stages_onward (λ next. stages_from plan relays k next) plan relays s
    (position (has_point s.far.point) plan.nodes)) None
step plan relays zero k s lt e = absurd (omega arith)
step plan relays (suc n) k s lt e =
    let f : n ≡ k = omega (arith, e) in
    ap (λ (j : ℕ). cond (is_open s) (stages_onward (λ next. stages_from plan relays j next) plan relays s
    (position (has_point s.far.point) plan.nodes)) None) f

-- at the start no pair was found, and all are still to be found
pub begins_so : (path : List Stage) (o : Option (List Stage)) → path ≡ [] → option_map (λ stages. path ++ stages) o ≡ o
begins_so path o e = subst (λ (p : List Stage). option_map (λ stages. p ++ stages) o ≡ o) (sym e) (same o)
  where
    same : (x : Option (List Stage)) → option_map (λ stages. [] ++ stages) x ≡ x
    same None = refl
    same (Some ss) = refl

-- if no more pairs are allowed, there is no line
pub is_over : (plan : plans.Network) (relays : List Relaying) (path : List Stage) (n : ℕ) (s : Stage) → n ≡ 0
    → None ≡ option_map (λ stages. path ++ stages) (stages_from plan relays n s)
is_over plan relays path n s e = sym (ap (λ (k : ℕ). option_map (λ stages. path ++ stages) (stages_from plan relays k s)) e)

-- if a pair is not open, there is no line
pub is_closed : (plan : plans.Network) (relays : List Relaying) (path : List Stage) (n : ℕ) (s : Stage) → 0 < n → is_open s ≡ false
    → None ≡ option_map (λ stages. path ++ stages) (stages_from plan relays n s)
is_closed plan relays path n s lt shut =
    sym (ap (option_map (λ stages. path ++ stages)) (step plan relays n (n - 1) s lt refl
    ∙ ap (λ (b : Bool). cond b (stages_onward (λ next. stages_from plan relays (n - 1) next) plan relays s
    (position (has_point s.far.point) plan.nodes)) None) shut))

goes : (plan : plans.Network) (relays : List Relaying) (n k : ℕ) (s : Stage) (o : Option ℕ) → 0 < n → k ≡ n - 1 → is_open s ≡ true
    → position (has_point s.far.point) plan.nodes ≡ o →
    stages_from plan relays n s ≡ stages_onward (λ next. stages_from plan relays k next) plan relays s o
goes plan relays n k s o lt e open_it at =
    step plan relays n k s lt e
    ∙ ap (λ (b : Bool). cond b (stages_onward (λ next. stages_from plan relays k next) plan relays s
    (position (has_point s.far.point) plan.nodes)) None) open_it
    ∙ ap (stages_onward (λ next. stages_from plan relays k next) plan relays s) at

-- if an open pair's far section has an end's point, it is the last one
pub ends_here : (plan : plans.Network) (relays : List Relaying) (path more : List Stage) (n : ℕ) (s : Stage) → 0 < n → more ≡ path ++ s ∷ []
    → is_open s ≡ true → position (has_point s.far.point) plan.nodes ≡ None →
    Some more ≡ option_map (λ stages. path ++ stages) (stages_from plan relays n s)
ends_here plan relays path more n s lt e open_it at = ap (λ (p : List Stage). Some p) e
    ∙ sym (ap (option_map (λ stages. path ++ stages)) (goes plan relays n (n - 1) s None lt refl open_it at))

-- if an open pair's far section has a relay's point and no pair is joined to it there, there is no line
pub breaks_off : (plan : plans.Network) (relays : List Relaying) (path : List Stage) (n node : ℕ) (s : Stage) → 0 < n → is_open s ≡ true
    → position (has_point s.far.point) plan.nodes ≡ Some node → next_in plan relays s node ≡ None →
    None ≡ option_map (λ stages. path ++ stages) (stages_from plan relays n s)
breaks_off plan relays path n node s lt open_it at none =
    sym (ap (option_map (λ stages. path ++ stages)) (goes plan relays n (n - 1) s (Some node) lt refl open_it at
    ∙ ap (λ (x : Option Stage). option_map (λ stages. s ∷ stages)
    (option_and_then (λ next. stages_from plan relays (n - 1) next) x)) none))

-- if one is joined to it, the pairs go on from that one
pub goes_further : (plan : plans.Network) (relays : List Relaying) (path more : List Stage) (n k node : ℕ) (s next : Stage) → 0 < n
    → k ≡ n - 1 → more ≡ path ++ s ∷ [] → is_open s ≡ true → position (has_point s.far.point) plan.nodes ≡ Some node →
    next_in plan relays s node ≡ Some next → option_map (λ stages. more ++ stages) (stages_from plan relays k next)
    ≡ option_map (λ stages. path ++ stages) (stages_from plan relays n s)
goes_further plan relays path more n k node s next lt e more_is open_it at is =
    subst (λ (p : List Stage). option_map (λ stages. p ++ stages) (stages_from plan relays k next)
    ≡ option_map (λ stages. path ++ stages) (stages_from plan relays n s)) (sym more_is)
    (both path s (stages_from plan relays k next)
    ∙ sym (ap (option_map (λ stages. path ++ stages)) (goes plan relays n k s (Some node) lt e open_it at
    ∙ ap (λ (x : Option Stage). option_map (λ stages. s ∷ stages) (option_and_then (λ next. stages_from plan relays k next) x)) is)))
  where
    both : (path : List Stage) (s : Stage) (o : Option (List Stage))
        → option_map (λ stages. (path ++ s ∷ []) ++ stages) o ≡ option_map (λ stages. path ++ stages) (option_map (λ stages. s ∷ stages) o)
    both path s None = refl
    both path s (Some ss) = ap (λ (p : List Stage). Some p) (append_assoc path (s ∷ []) ss)
