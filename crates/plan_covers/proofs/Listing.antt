-- the covers that are not listed
use Rattle.std.specs.Prelude.{ℕ, ◌≡◌, ◌+◌, ◌<◌, ◌≤◌, ◌⊎◌, ◌==◌, ◌||◌, Bool, true, false, if◌then◌else◌, List, [], ◌∷◌, ◌++◌, length, Some}
use Rattle.std.specs.Prelude.{slice_get, refl}
use Rattle.std.specs.List.{list_any}
use Rattle.std.proofs.Common.{zero, suc, sym, ◌∙◌, ap, subst, inl, inr, ⊎_elim, arith}
use Rattle.std.proofs.lemmas.Bool.{cases_Bool, cases_lt, eqb-true, false≢true}
use Rattle.std.proofs.lemmas.Option.{slice_get_within}
use Rattle.sccp_base.proofs.Among.{Among, All-among}
use Rattle.plan_model.specs.declared.cover.Cover.{Cover}
use Rattle.plan_covers.specs.declared.needless.Needless.{Needless}
use Rattle.plan_covers.specs.Needless.{IsNeedlessBy, IsFirstNeedlessBy, AreNeedless}
use Rattle.plan_covers.specs.Remaining.{not_listed}
use Rattle.plan_covers.proofs.Ascending.{SoFar, none_yet, one_more, no_more}

abbrev pub is_listed : List Needless → ℕ → Bool
is_listed found place = list_any (λ n. n.cover == place) found

kept : (found : List Needless) (place : ℕ) (covers : List Cover) (j k : ℕ) (c : Cover) → k ≡ place + j → slice_get covers j ≡ Some c
    → is_listed found k ≡ false → Among c (not_listed found place covers)
kept found place [] j k c same at never = absurd (none j at)
  where
    none : (j : ℕ) → slice_get (let empty : List Cover = [] in empty) j ≡ Some c → ⊥
    none zero e = cc
    none (suc j) e = cc
kept found place (x ∷ xs) zero k c same at never =
    let here : x ≡ c = cc in
    let open' : is_listed found place ≡ false = ap (is_listed found) (let e : place ≡ k = omega arith in e) ∙ never in
    subst (λ b. Among c (if b then not_listed found (place + 1) xs else x ∷ not_listed found (place + 1) xs)) (sym open') (inl here)
kept found place (x ∷ xs) (suc j) k c same at never =
    let rest : Among c (not_listed found (place + 1) xs) = kept found (place + 1) xs j k c (omega arith) at never in
    elim (is_listed found place) as (λ b. Among c (if b then not_listed found (place + 1) xs else x ∷ not_listed found (place + 1) xs)) [
      | true ↦ rest
      | false ↦ inr rest
    ]

-- what is not listed is one of the covers
pub unlisted_among : (found : List Needless) (place : ℕ) (covers : List Cover) (c : Cover) → Among c (not_listed found place covers)
    → Among c covers
unlisted_among found place [] c h = h
unlisted_among found place (x ∷ xs) c h =
    elim (is_listed found place) as (λ b. Among c (if b then not_listed found (place + 1) xs else x ∷ not_listed found (place + 1) xs)
    → Among c (x ∷ xs)) [
      | true ↦ λ k. inr (unlisted_among found (place + 1) xs c k)
      | false ↦ λ k. ⊎_elim (λ (e : x ≡ c). inl e) (λ (r : Among c (not_listed found (place + 1) xs)).
          inr (unlisted_among found (place + 1) xs c r)) k
    ] h

-- a place that passes the test is that of a listed cover
listed_at : (found : List Needless) (place : ℕ) → is_listed found place ≡ true → (n : Needless) × Among n found × (n.cover ≡ place)
listed_at [] place h = absurd (false≢true h)
listed_at (n ∷ ns) place h =
    elim (n.cover == place) as (λ b. (n.cover == place) ≡ b → (b || list_any (λ n. n.cover == place) ns) ≡ true
    → (q : Needless) × Among q (n ∷ ns) × (q.cover ≡ place)) [
      | true ↦ λ e k. (n, inl refl, eqb-true n.cover place e)
      | false ↦ λ e k. let r = listed_at ns place k in (r.0, inr r.1, r.2)
    ] refl h

-- a cover that is not needless is kept
pub needed_kept : (covers : List Cover) (found : List Needless) (m : ℕ) (c : Cover) → AreNeedless covers found → slice_get covers m ≡ Some c
    → ((i : ℕ) → IsNeedlessBy covers m i → ⊥) → Among c (not_listed found 0 covers)
needed_kept covers found m c are at none =
    kept found 0 covers m m c (omega arith) at
    (⊎_elim
    (λ (h : is_listed found m ≡ true).
    let n = listed_at found m h in
    let first = All-among (λ n. IsFirstNeedlessBy covers n.cover n.within) n.0 found are.each n.1 in
    absurd (none n.0.within (subst (λ j. IsNeedlessBy covers j n.0.within) n.2 first.needless)))
    (λ (h : is_listed found m ≡ false). h)
    (cases_Bool (is_listed found m)))

-- the needless covers of the places so far are listed
abbrev pub HasNeedless : List Cover → ℕ → Type 0
HasNeedless covers j = (i : ℕ) × IsNeedlessBy covers j i

abbrev pub AreSoFar : List Cover → ℕ → List Needless → Type 0
AreSoFar covers place found = SoFar (λ (n : Needless). n.cover) (λ i j. i < j) (λ n. IsFirstNeedlessBy covers n.cover n.within)
    (HasNeedless covers) (λ j. j < place) found

pub so_far_none : (covers : List Cover) → AreSoFar covers 0 []
so_far_none covers = none_yet (λ (n : Needless). n.cover) (λ i j. i < j) (λ n. IsFirstNeedlessBy covers n.cover n.within)
    (HasNeedless covers) (λ j. j < 0) (λ k lt h. omega (arith, lt))

-- a place before the next one is before this one, or it is this one
pub or_present : (place k : ℕ) → k < place + 1 → (k < place) ⊎ (place ≡ k)
or_present place k lt = ⊎_elim (λ (l : k < place). inl l) (λ (l : place ≤ k). inr (omega (arith, l, lt))) (cases_lt k place)

pub so_far_more : (covers : List Cover) (place : ℕ) (before after : List Needless) (n : Needless) → after ≡ before ++ n ∷ []
    → n.cover ≡ place → IsFirstNeedlessBy covers place n.within → AreSoFar covers place before → AreSoFar covers (place + 1) after
so_far_more covers place before after n e at first h =
    one_more (λ (n : Needless). n.cover) (λ i j. i < j) (λ n. IsFirstNeedlessBy covers n.cover n.within) (HasNeedless covers)
    (λ j. j < place) (λ j. j < place + 1) before after n e (subst (λ j. IsFirstNeedlessBy covers j n.within) (sym at) first)
    (λ k lt. omega (arith, lt, at)) (λ k lt. ⊎_elim (λ (l : k < place). inl l) (λ (same : place ≡ k). inr (at ∙ same))
    (or_present place k lt))
    (λ k lt. omega (arith, lt)) (omega (arith, at)) h

pub so_far_same : (covers : List Cover) (place : ℕ) (found : List Needless) → ((i : ℕ) → IsNeedlessBy covers place i → ⊥)
    → AreSoFar covers place found → AreSoFar covers (place + 1) found
so_far_same covers place found none h =
    no_more (λ (n : Needless). n.cover) (λ i j. i < j) (λ n. IsFirstNeedlessBy covers n.cover n.within) (HasNeedless covers)
    (λ j. j < place) (λ j. j < place + 1) found
    (λ k lt has. ⊎_elim (λ (l : k < place). l) (λ (same : place ≡ k). absurd
    (none has.0 (subst (λ j. IsNeedlessBy covers j has.0) (sym same) has.1))) (or_present place k lt))
    (λ k lt. omega (arith, lt)) h

pub so_far_all : (covers : List Cover) (place : ℕ) (found : List Needless) → length covers ≤ place → AreSoFar covers place found
    → AreNeedless covers found
so_far_all covers place found le h =
    record {
      each = h.each;
      every = λ j i has. h.every j (let lt : j < length covers = slice_get_within covers j has.cover has.at in omega (arith, lt, le))
          (i, has);
      ascending = h.ascending;
    }
