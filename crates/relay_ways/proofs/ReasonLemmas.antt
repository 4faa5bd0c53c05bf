-- Tests of why a message was not sent, one candidate after the other.
use Rattle.std.proofs.Common.{◌≡◌, ℕ, ◌+◌, ◌<◌, zero, suc, Bool, true, false, List, [], ◌∷◌, length, drop, map, get_or, Option, Some, None}
use Rattle.std.proofs.Common.{refl, sym, ◌∙◌, ap, subst, arith}
use Rattle.std.proofs.Common.{◌↔◌}
use Rattle.std.specs.Prelude.{if◌then◌else◌, ◌==◌, nat_eq, IsTrue}
use Rattle.std.specs.Cmp.Lexicographic.{pointwise, nat_list_eq_equiv, same_text}
use Rattle.std.specs.List.{filter}
use Rattle.std.proofs.lemmas.Bool.{eqb-true, eq-eqb, and_parts}
use Rattle.sccp_layout.specs.Parameter.{Parameter}
use Rattle.sccp_message.specs.declared.message.Message.{Message}
use Rattle.relay_ways.specs.WhyNot.{later, latest, by_candidate, has_cause, same_param, same_params}
use Rattle.relay_ways.specs.declared.candidate.Candidate.{Candidate}
use Rattle.relay_ways.specs.declared.reason.Reason.{Reason}

-- one more candidate
next_at : (to : ℕ) (sent : Message) (cause : Option ℕ) (best : Reason) (xs : List Candidate) (i : ℕ) (x : Candidate) → i < length xs
    → x ≡ get_or xs i x
    → latest (if has_cause cause x then later best (by_candidate to sent x) else best)
    (map (by_candidate to sent) (filter (has_cause cause) (drop (suc i) xs)))
    ≡ latest best (map (by_candidate to sent) (filter (has_cause cause) (drop i xs)))
next_at to sent cause best [] i x inside is = absurd (omega (arith, inside))
next_at to sent cause best (y ∷ ys) zero x inside is =
    subst (λ (z : Candidate). latest (if has_cause cause x then later best (by_candidate to sent x) else best)
    (map (by_candidate to sent) (filter (has_cause cause) ys))
    ≡ latest best (map (by_candidate to sent) (if has_cause cause z then z ∷ filter (has_cause cause) ys
    else filter (has_cause cause) ys))) is
    (by (has_cause cause x))
  where
    by : (b : Bool)
        → latest (if b then later best (by_candidate to sent x) else best) (map (by_candidate to sent) (filter (has_cause cause) ys))
        ≡ latest best (map (by_candidate to sent) (if b then x ∷ filter (has_cause cause) ys else filter (has_cause cause) ys))
    by true = refl
    by false = refl
next_at to sent cause best (y ∷ ys) (suc i) x inside is = next_at to sent cause best ys i x (omega (arith, inside)) is

one_more : (i : ℕ) → i + 1 ≡ suc i
one_more i = omega arith

pub candidates_next : (to : ℕ) (sent : Message) (cause : Option ℕ) (best : Reason) (xs : List Candidate) (i : ℕ) (x : Candidate)
    → i < length xs → x ≡ get_or xs i x
    → latest (if has_cause cause x then later best (by_candidate to sent x) else best)
    (map (by_candidate to sent) (filter (has_cause cause) (drop (i + 1) xs)))
    ≡ latest best (map (by_candidate to sent) (filter (has_cause cause) (drop i xs)))
candidates_next to sent cause best xs i x inside is =
    ap (λ n. latest (if has_cause cause x then later best (by_candidate to sent x) else best)
    (map (by_candidate to sent) (filter (has_cause cause) (drop n xs)))) (one_more i)
    ∙ next_at to sent cause best xs i x inside is

-- the same parameters

param_is : (a b : Parameter) → same_param a b ≡ true → a ≡ b
param_is a b e =
    let p = and_parts (a.name == b.name) (pointwise nat_eq a.octets b.octets) e in
    let names : a.name ≡ b.name = eqb-true a.name b.name p.0 in
    let all : a.octets ≡ b.octets = same_text a.octets b.octets (sym p.1) in
    λ i. record { name = names i; octets = all i }

param_same : (a : Parameter) → same_param a a ≡ true
param_same a = rw (eq-eqb a.name a.name refl) (nat_list_eq_equiv.refl a.octets)

list_is : (xs ys : List Parameter) → pointwise same_param xs ys ≡ true → xs ≡ ys
list_is [] [] e = refl
list_is [] (y ∷ ys) e = absurd cc
list_is (x ∷ xs) [] e = absurd cc
list_is (x ∷ xs) (y ∷ ys) e =
    let p = and_parts (same_param x y) (pointwise same_param xs ys) e in
    let first : x ≡ y = param_is x y p.0 in
    let rest : xs ≡ ys = list_is xs ys p.1 in
    λ i. first i ∷ rest i

list_same : (xs : List Parameter) → pointwise same_param xs xs ≡ true
list_same [] = refl
list_same (x ∷ xs) = rw (param_same x) (list_same xs)

params_is : (a b : Option (List Parameter)) → same_params a b ≡ true → a ≡ b
params_is None None e = refl
params_is None (Some b) e = absurd cc
params_is (Some a) None e = absurd cc
params_is (Some a) (Some b) e = ap Some (list_is a b e)

params_same : (a : Option (List Parameter)) → same_params a a ≡ true
params_same None = refl
params_same (Some a) = list_same a

same_test : (x y : Bool) → (x ≡ true → y ≡ true) → (y ≡ true → x ≡ true) → x ≡ y
same_test true true f g = refl
same_test true false f g = sym (f refl)
same_test false true f g = g refl
same_test false false f g = refl

pub params_tested : (x : Bool) (a b : Option (List Parameter)) → (IsTrue x ↔ (a ≡ b)) → x ≡ same_params a b
params_tested x a b iff =
    same_test x (same_params a b) (λ (e : x ≡ true). subst (λ (z : Option (List Parameter)). same_params a z ≡ true) (iff.0 e)
    (params_same a))
    (λ (e : same_params a b ≡ true). iff.1 (params_is a b e))
