-- the classes of a table can be listed
use Rattle.std.specs.Prelude.{ℕ, ◌≡◌, ◌≢◌, ◌≤◌, ◌<◌, true, false, List, [], ◌∷◌, length, take, Some, refl, get_or, cond, Bool}
use Rattle.std.specs.List.{All, AllPairs}
use Rattle.std.specs.List.Sorted.{IsStrictlySortedBy}
use Rattle.std.specs.Ordering.{is_eq}
use Rattle.std.specs.declared.cmp.Ordering.TheVariants.{Less, Equal}
use Rattle.std.proofs.Common.{sym, ◌∙◌, ap, arith, length-take-le}
use Rattle.std.proofs.lemmas.List.{get_or-take, length-map}
use Rattle.std.proofs.lemmas.List.Elements.{All-cons, All-nil, All-take}
use Rattle.std.proofs.lemmas.Map.Keys.{Less-from_sorted}
use Rattle.plan_classes.specs.Titles.{Titles}
use Rattle.plan_check.specs.Ranking.{rank_in, class_cmp, classes_in}
use Rattle.plan_check.proofs.Orders.{own_class, own_order}

-- a class of the table has a rank in it
has_rank : (ranks : List (Titles × ℕ)) → All (λ c. (r : ℕ) × (rank_in ranks c ≡ Some r)) (classes_in ranks)
has_rank [] = All-nil (λ c. (r : ℕ) × (rank_in [] c ≡ Some r))
has_rank (e ∷ es) =
    All-cons (λ c. (r : ℕ) × (rank_in (e ∷ es) c ≡ Some r)) e.0 (classes_in es)
    (e.1, ap (λ (b : Bool). cond b (Some e.1) (rank_in es e.0)) (own_class e.0))
    (λ k d lt.
    let h = has_rank es k d lt in
    elim (is_eq (class_cmp (get_or (classes_in es) k d) e.0)) as (λ b. (r : ℕ)
    × (cond b (Some e.1) (rank_in es (get_or (classes_in es) k d)) ≡ Some r)) [
      | true ↦ (e.1, refl)
      | false ↦ h
    ])

-- this number of classes of a table that has no class twice, each with what holds of every class that has a rank
pub listed_once : (P : Titles → Type 0) (ranks : List (Titles × ℕ)) (count : ℕ) → ((c : Titles) (r : ℕ) → rank_in ranks c ≡ Some r → P c)
    → AllPairs (λ c d. c ≢ d) (classes_in ranks) → count ≤ length ranks
    → (cs : List Titles) × (length cs ≡ count) × AllPairs (λ c d. c ≢ d) cs × All P cs
listed_once P ranks count each differ le = (
  take count (classes_in ranks),
  short,
  apart,
  All-take P count (classes_in ranks) (λ k d lt. let h = has_rank ranks k d lt in each (get_or (classes_in ranks) k d) h.0 h.1),
)
  where
    long : count ≤ length (classes_in ranks)
    long = omega (arith, length-map ranks (λ (e : Titles × ℕ). e.0))

    short : length (take count (classes_in ranks)) ≡ count
    short = length-take-le count (classes_in ranks) long

    apart : (i j : ℕ) (d : Titles) → i < j → j < length (take count (classes_in ranks))
        → get_or (take count (classes_in ranks)) i d ≡ get_or (take count (classes_in ranks)) j d → ⊥
    apart i j d lt in' same = differ i j d lt (omega (arith, short, long))
        (sym (get_or-take count (classes_in ranks) i d (omega (arith, short))) ∙ same
        ∙ get_or-take count (classes_in ranks) j d (omega (arith, short)))

-- classes of which each is below those that follow it
in_order : (cs : List Titles) → IsStrictlySortedBy class_cmp cs → AllPairs (λ c d. c ≢ d) cs
in_order cs ordered i j d lt in' same =
    let less : class_cmp (get_or cs i d) (get_or cs j d) ≡ Less = Less-from_sorted class_cmp cs i j d ordered lt in' in
    let equal : class_cmp (get_or cs i d) (get_or cs j d) ≡ Equal =
    ap (class_cmp (get_or cs i d)) (sym same) ∙ own_order (get_or cs i d) in
    let clash : Less ≡ Equal = sym less ∙ equal in
    absurd (cc)

-- the same of a table in order
pub listed : (P : Titles → Type 0) (ranks : List (Titles × ℕ)) (count : ℕ) → ((c : Titles) (r : ℕ) → rank_in ranks c ≡ Some r → P c)
    → IsStrictlySortedBy class_cmp (classes_in ranks) → count ≤ length ranks
    → (cs : List Titles) × (length cs ≡ count) × AllPairs (λ c d. c ≢ d) cs × All P cs
listed P ranks count each ordered le = listed_once P ranks count each (in_order (classes_in ranks) ordered) le
