-- the greatest rank of the starts so far
use Rattle.std.specs.Prelude.{ℕ, ◌≡◌, ◌+◌, ◌<◌, ◌≤◌, ◌⊎◌, max, length, Option, Some, None, IsSomeAnd, slice_get, refl}
use Rattle.std.proofs.Common.{sym, ◌∙◌, ap, subst, inl, inr, ⊎_elim, arith}
use Rattle.std.proofs.lemmas.Bool.{cases_lt}
use Rattle.std.proofs.lemmas.Option.{slice_get_within, same_Some}
use Rattle.plan_model.specs.declared.cover.Cover.{Cover}
use Rattle.plan_model.specs.Network.{Network, IsPlan}
use Rattle.plan_classes.specs.Titles.{Titles}
use Rattle.plan_classes.specs.Classes.{start_of}
use Rattle.plan_check.specs.Ranked.{RanksUpTo, StartsBelow, IsGreatestStart}
use Rattle.plan_check.specs.Checks.{HasStarts, LacksStart}
use Rattle.plan_check.proofs.Soundness.{some_of}
use Rattle.plan_check.proofs.Causes.{some_rank}

-- some start has this rank
pub record HasStartOf (plan : Network) (rank : Titles → Option ℕ) (r : ℕ) : Type 0 where
  pub number : ℕ
  pub cover : Cover
  pub at : slice_get plan.covers number ≡ Some cover
  pub reached : rank (start_of number cover) ≡ Some r

-- the starts of this number of covers have ranks up to the greatest, which one of them has
pub record AreRanked (plan : Network) (rank : Titles → Option ℕ) (count greatest : ℕ) : Type 0 where
  pub each : (number : ℕ) (cover : Cover) → number < count → slice_get plan.covers number ≡ Some cover
      → RanksUpTo rank greatest (start_of number cover)
  pub one : ((count ≡ 0) × (greatest ≡ 0)) ⊎ HasStartOf plan rank greatest

pub wider : (o : Option ℕ) (m n : ℕ) → m ≤ n → IsSomeAnd o (λ s. s ≤ m) → IsSomeAnd o (λ s. s ≤ n)
wider None m n le h = h
wider (Some s) m n le h = omega (arith, le, h)

up_to : (o : Option ℕ) (r n : ℕ) → o ≡ Some r → r ≤ n → IsSomeAnd o (λ s. s ≤ n)
up_to o r n e le = subst (λ (x : Option ℕ). IsSomeAnd x (λ s. s ≤ n)) (sym e) le

pub ranked_none : (plan : Network) (rank : Titles → Option ℕ) → AreRanked plan rank 0 0
ranked_none plan rank = record { each = λ number cover lt at. absurd (omega (arith, lt)); one = inl (refl, refl) }

pub ranked_next : (plan : Network) (rank : Titles → Option ℕ) (count greatest r new : ℕ) (s : Titles) → new ≡ max greatest r
    → AreRanked plan rank count greatest → IsSomeAnd (slice_get plan.covers count) (λ cover. s ≡ start_of count cover) → rank s ≡ Some r
    → AreRanked plan rank (count + 1) new
ranked_next plan rank count greatest r new s is h start ranked =
    let here = some_of (slice_get plan.covers count) (λ cover. s ≡ start_of count cover) start in
    let own : rank (start_of count here.0) ≡ Some r = ap rank (sym here.2) ∙ ranked in
    record {
      each = λ number cover lt at. ⊎_elim
          (λ (before : number < count). wider (rank (start_of number cover)) greatest new (omega (arith, is))
          (h.each number cover before at))
          (λ (past : count ≤ number).
          let same : number ≡ count = omega (arith, lt, past) in
          let cover_is : here.0 ≡ cover = same_Some here.0 cover (sym here.1 ∙ ap (slice_get plan.covers) (sym same) ∙ at) in
          up_to (rank (start_of number cover)) r new (ap (λ (n : ℕ). rank (start_of n cover)) same
          ∙ ap (λ (c : Cover). rank (start_of count c)) (sym cover_is) ∙ own) (omega (arith, is)))
          (cases_lt number count);
      one = ⊎_elim
          (λ (higher : greatest < r). inr (newest here.0 here.1 own (omega (arith, is, higher))))
          (λ (lower : r ≤ greatest). ⊎_elim
          (λ (none : (count ≡ 0) × (greatest ≡ 0)). inr (newest here.0 here.1 own (omega (arith, is, lower, none.1))))
          (λ (was : HasStartOf plan rank greatest). inr (subst (HasStartOf plan rank)
          (let e : greatest ≡ new = omega (arith, is, lower) in e) was))
          h.one)
          (cases_lt greatest r);
    }
  where
    newest : (cover : Cover) → slice_get plan.covers count ≡ Some cover → rank (start_of count cover) ≡ Some r → r ≡ new
        → HasStartOf plan rank new
    newest cover at own e = record { number = count; cover = cover; at = at; reached = own ∙ ap Some e }

pub greatest_of : (plan : Network) (rank : Titles → Option ℕ) (count greatest : ℕ) → IsPlan plan → length plan.covers ≤ count
    → AreRanked plan rank count greatest → IsGreatestStart plan rank greatest
greatest_of plan rank count greatest is all h =
    ⊎_elim
    (λ (none : (count ≡ 0) × (greatest ≡ 0)). absurd (omega (arith, is.some_cover, all, none.0)))
    (λ (one : HasStartOf plan rank greatest). record {
      each = λ number cover at. h.each number cover (omega (arith, all, slice_get_within plan.covers number cover at)) at;
      number = one.number;
      cover = one.cover;
      at = one.at;
      reached = one.reached;
    })
    h.one

pub lacks_start : (plan : Network) (rank : Titles → Option ℕ) (count greatest : ℕ) (s : Titles) → AreRanked plan rank count greatest
    → IsSomeAnd (slice_get plan.covers count) (λ cover. s ≡ start_of count cover) → rank s ≡ None → LacksStart plan rank count
lacks_start plan rank count greatest s h start lacks =
    let here = some_of (slice_get plan.covers count) (λ cover. s ≡ start_of count cover) start in
    record {
      cover = here.0;
      at = here.1;
      lacks = ap rank (sym here.2) ∙ lacks;
      before = λ earlier cover lt at. some_rank (rank (start_of earlier cover)) (λ r. r ≤ greatest) (h.each earlier cover lt at);
    }

-- a greatest rank says that each start has one
pub starts_ranked : (plan : Network) (rank : Titles → Option ℕ) (bound : ℕ) → StartsBelow plan rank bound → HasStarts plan rank
starts_ranked plan rank bound starts number cover at = some_rank (rank (start_of number cover)) (λ r. r ≤ bound) (starts number cover at)

-- there is only one greatest rank
pub same_greatest : (plan : Network) (rank : Titles → Option ℕ) (a b : ℕ) → IsGreatestStart plan rank a → IsGreatestStart plan rank b
    → a ≡ b
same_greatest plan rank a b g h =
    let le : a ≤ b = bound (rank (start_of g.number g.cover)) a b g.reached (h.each g.number g.cover g.at) in
    let ge : b ≤ a = bound (rank (start_of h.number h.cover)) b a h.reached (g.each h.number h.cover h.at) in
    omega (arith, le, ge)
  where
    bound : (o : Option ℕ) (r n : ℕ) → o ≡ Some r → IsSomeAnd o (λ s. s ≤ n) → r ≤ n
    bound o r n e h = subst (λ (x : Option ℕ). IsSomeAnd x (λ s. s ≤ n)) e h
