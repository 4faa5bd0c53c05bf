-- one more step after others
use Rattle.std.specs.Prelude.{ℕ, ◌≡◌, List, [], ◌∷◌, ◌++◌}
use Rattle.std.specs.List.{All, concat}
use Rattle.std.proofs.Common.{sym, ◌∙◌, ap, subst}
use Rattle.std.proofs.lemmas.List.{append_assoc, append-nil, map-append}
use Rattle.std.proofs.lemmas.List.Elements.{All-append, All-cons, All-nil}
use Rattle.std.proofs.lemmas.List.Folds.{concat-append}
use Rattle.plan_model.specs.Network.{Network}
use Rattle.plan_order.specs.declared.safe_step.SafeStep.{SafeStep}
use Rattle.plan_order.specs.Sets.{IsStepSet}
use Rattle.plan_order.specs.Steps.{IsStep, AreSteps, sets_of}

-- the relays of all steps
abbrev pub relays_of : List SafeStep → List ℕ
relays_of steps = concat (sets_of steps)

pub relays_append : (xs ys : List SafeStep) → relays_of (xs ++ ys) ≡ relays_of xs ++ relays_of ys
relays_append xs ys =
    ap (λ (s : List (List ℕ)). concat s) (map-append (λ (step : SafeStep). step.nodes) xs ys) ∙ concat-append (sets_of xs) (sets_of ys)

pub relays_one : (step : SafeStep) → relays_of (step ∷ []) ≡ step.nodes
relays_one step = append-nil step.nodes

-- the relays of the steps so far, and of one more
pub relays_push : (xs : List SafeStep) (x : SafeStep) → relays_of (xs ++ x ∷ []) ≡ relays_of xs ++ x.nodes
relays_push xs x = relays_append xs (x ∷ []) ∙ ap (λ (s : List ℕ). relays_of xs ++ s) (relays_one x)

pub sets_push : (xs : List SafeStep) (x : SafeStep) → All IsStepSet (sets_of xs) → IsStepSet x.nodes
    → All IsStepSet (sets_of (xs ++ x ∷ []))
sets_push xs x sets last =
    subst (All IsStepSet) (sym (map-append (λ (step : SafeStep). step.nodes) xs (x ∷ [])))
    (All-append IsStepSet (sets_of xs) (x.nodes ∷ []) sets (All-cons IsStepSet x.nodes [] last (All-nil IsStepSet)))

pub steps_push : (old new : Network) (d : List ℕ) (xs : List SafeStep) (x : SafeStep) → AreSteps old new d xs
    → IsStep old new (d ++ relays_of xs) x → AreSteps old new d (xs ++ x ∷ [])
steps_push old new d [] x steps last = (subst (λ (s : List ℕ). IsStep old new s x) (append-nil d) last, tt)
steps_push old new d (y ∷ xs) x steps last = (
  steps.0,
  steps_push old new (d ++ y.nodes) xs x steps.1
      (subst (λ (s : List ℕ). IsStep old new s x) (sym (append_assoc d y.nodes (relays_of xs))) last),
)
