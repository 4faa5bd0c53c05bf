-- two rows are the same or not
use Rattle.std.specs.Prelude.{◌≡◌, ◌⊎◌, List, [], ◌∷◌, Option, Some, None, refl}
use Rattle.std.proofs.Common.{ap, inl, inr}
use Rattle.std.proofs.lemmas.Bool.{cases_eq}
use Rattle.sccp_base.specs.Selector.{Numbers}
use Rattle.plan_rules.specs.declared.target.Target.{Target}
use Rattle.plan_rules.specs.declared.target.Target.TheVariants.{Relay, Final}
use Rattle.plan_rules.specs.Rule.{Rule}

-- two values are the same or not
abbrev pub IsTold : {X : Type 0} → X → X → Type 0
IsTold a b = (a ≡ b) ⊎ (a ≡ b → ⊥)

pub told_list : {X : Type 0} → ((x y : X) → IsTold x y) → (xs ys : List X) → IsTold xs ys
told_list told [] [] = inl refl
told_list told [] (y ∷ ys) = inr (λ e. cc)
told_list told (x ∷ xs) [] = inr (λ e. cc)
told_list told (x ∷ xs) (y ∷ ys) = by (told x y) (told_list told xs ys)
  where
    by : IsTold x y → IsTold xs ys → IsTold (x ∷ xs) (y ∷ ys)
    by (inl h) (inl k) = inl (λ i. h i ∷ k i)
    by (inl h) (inr k) = inr (λ e. k (let l : xs ≡ ys = cc in l))
    by (inr h) k = inr (λ e. h (let l : x ≡ y = cc in l))

told_option : {X : Type 0} → ((x y : X) → IsTold x y) → (a b : Option X) → IsTold a b
told_option told None None = inl refl
told_option told None (Some y) = inr (λ e. cc)
told_option told (Some x) None = inr (λ e. cc)
told_option told (Some x) (Some y) = by (told x y)
  where
    by : IsTold x y → IsTold (Some x) (Some y)
    by (inl h) = inl (ap Some h)
    by (inr h) = inr (λ e. h (let l : x ≡ y = cc in l))

told_numbers : (a b : Numbers) → IsTold a b
told_numbers a b =
    by (cases_eq a.kind b.kind) (cases_eq a.translation b.translation) (cases_eq a.plan b.plan) (cases_eq a.nature b.nature)
  where
    by : IsTold a.kind b.kind → IsTold a.translation b.translation → IsTold a.plan b.plan → IsTold a.nature b.nature → IsTold a b
    by (inl h) (inl k) (inl l) (inl m) = inl (λ i. record { kind = h i; translation = k i; plan = l i; nature = m i })
    by (inr h) k l m = inr (λ e. h (ap (λ (s : Numbers). s.kind) e))
    by (inl h) (inr k) l m = inr (λ e. k (ap (λ (s : Numbers). s.translation) e))
    by (inl h) (inl k) (inr l) m = inr (λ e. l (ap (λ (s : Numbers). s.plan) e))
    by (inl h) (inl k) (inl l) (inr m) = inr (λ e. m (ap (λ (s : Numbers). s.nature) e))

told_target : (a b : Target) → IsTold a b
told_target (Final pc ssn) (Final pc' ssn') = by (cases_eq pc pc') (told_option cases_eq ssn ssn')
  where
    by : IsTold pc pc' → IsTold ssn ssn' → IsTold (Final pc ssn) (Final pc' ssn')
    by (inl h) (inl k) = inl (λ i. Final (h i) (k i))
    by (inl h) (inr k) = inr (λ e. k (let l : ssn ≡ ssn' = cc in l))
    by (inr h) k = inr (λ e. h (let l : pc ≡ pc' = cc in l))
told_target (Final pc ssn) (Relay pc' strip put selector ssn') = inr (λ e. cc)
told_target (Relay pc strip put selector ssn) (Final pc' ssn') = inr (λ e. cc)
told_target (Relay pc strip put selector ssn) (Relay pc' strip' put' selector' ssn') =
    by (cases_eq pc pc') (cases_eq strip strip') (told_list cases_eq put put') (told_option told_numbers selector selector')
    (told_option cases_eq ssn ssn')
  where
    by : IsTold pc pc' → IsTold strip strip' → IsTold put put' → IsTold selector selector' → IsTold ssn ssn'
        → IsTold (Relay pc strip put selector ssn) (Relay pc' strip' put' selector' ssn')
    by (inl h) (inl k) (inl l) (inl m) (inl n) = inl (λ i. Relay (h i) (k i) (l i) (m i) (n i))
    by (inr h) k l m n = inr (λ e. h (let x : pc ≡ pc' = cc in x))
    by (inl h) (inr k) l m n = inr (λ e. k (let x : strip ≡ strip' = cc in x))
    by (inl h) (inl k) (inr l) m n = inr (λ e. l (let x : put ≡ put' = cc in x))
    by (inl h) (inl k) (inl l) (inr m) n = inr (λ e. m (let x : selector ≡ selector' = cc in x))
    by (inl h) (inl k) (inl l) (inl m) (inr n) = inr (λ e. n (let x : ssn ≡ ssn' = cc in x))

-- two rows are the same or not
pub told_rule : (a b : Rule) → IsTold a b
told_rule a b =
    by (told_numbers a.selector b.selector) (told_option cases_eq a.ssn b.ssn) (told_list cases_eq a.prefix b.prefix)
    (told_list told_target a.targets b.targets)
  where
    by : IsTold a.selector b.selector → IsTold a.ssn b.ssn → IsTold a.prefix b.prefix → IsTold a.targets b.targets → IsTold a b
    by (inl h) (inl k) (inl l) (inl m) = inl (λ i. record { selector = h i; ssn = k i; prefix = l i; targets = m i })
    by (inr h) k l m = inr (λ e. h (ap (λ (r : Rule). r.selector) e))
    by (inl h) (inr k) l m = inr (λ e. k (ap (λ (r : Rule). r.ssn) e))
    by (inl h) (inl k) (inr l) m = inr (λ e. l (ap (λ (r : Rule). r.prefix) e))
    by (inl h) (inl k) (inl l) (inr m) = inr (λ e. m (ap (λ (r : Rule). r.targets) e))
