-- the first cover to which a cover adds nothing, by the beginnings of the cover's prefix
use Rattle.std.specs.Prelude.{ℕ, ◌≡◌, ◌+◌, ◌<◌, ◌≤◌, min, List, length, take, drop, Option, Some, None, IfSome, IsSomeAnd}
use Rattle.std.specs.Prelude.{slice_get}
use Rattle.std.proofs.Common.{sym, ◌∙◌, ap, subst, ⊎_elim, arith}
use Rattle.std.proofs.lemmas.Bool.{cases_lt}
use Rattle.std.proofs.Math.Seq.{take-append_seam}
use Rattle.sccp_base.proofs.Prefix.{split-starts_with, fits-starts_with}
use Rattle.plan_model.specs.declared.cover.Cover.{Cover}
use Rattle.plan_covers.specs.Keys.{key_of, front_key}
use Rattle.plan_covers.specs.Needless.{IsWithin, IsNeedlessBy, IsFirstNeedlessBy}
use Rattle.plan_covers.specs.Firsts.{IsFirstOf, earlier}

-- the cover within which another one is has the key of a beginning of that one's prefix
front_of : (a b : Cover) → IsWithin a b → key_of b ≡ front_key a (length b.prefix)
front_of a b w = λ i. record {
  node = sym w.node i;
  selector = sym w.selector i;
  ssn = sym w.ssn i;
  prefix = front i;
}
  where
    front : b.prefix ≡ take (length b.prefix) a.prefix
    front = sym (take-append_seam b.prefix (drop (length b.prefix) a.prefix))
        ∙ ap (take (length b.prefix)) (sym (split-starts_with a.prefix b.prefix w.prefix))

-- the covers at the two places
within_of : (covers : List Cover) (j i : ℕ) (cover other : Cover) → slice_get covers j ≡ Some cover → slice_get covers i ≡ Some other
    → IsNeedlessBy covers j i → IsWithin cover other
within_of covers j i cover other at there h =
    let own : Some h.cover ≡ Some cover = sym h.at ∙ at in
    let one : h.cover ≡ cover = cc in
    let its : Some h.other ≡ Some other = sym h.there ∙ there in
    let two : h.other ≡ other = cc in
    subst (λ c. IsWithin c other) one (subst (IsWithin h.cover) two h.nothing.within)

-- the covers with a prefix of fewer digits
abbrev pub IsFirstShorter : List Cover → ℕ → ℕ → Option ℕ → Type 0
IsFirstShorter covers j count first = IsFirstOf (λ other. length other.prefix < count) covers j first

pub first_none : (covers : List Cover) (j : ℕ) → IsFirstShorter covers j 0 None
first_none covers j = record { needless = tt; least = λ i other at short needless. absurd (omega (arith, short)) }

earlier_first : (a b : Option ℕ) (i : ℕ) → IsSomeAnd a (λ k. k ≤ i) → IsSomeAnd (earlier a b) (λ k. k ≤ i)
earlier_first None b i h = absurd h
earlier_first (Some a) None i h = h
earlier_first (Some a) (Some b) i h = omega (arith, h)

earlier_second : (a b : Option ℕ) (i : ℕ) → IsSomeAnd b (λ k. k ≤ i) → IsSomeAnd (earlier a b) (λ k. k ≤ i)
earlier_second None b i h = h
earlier_second (Some a) None i h = absurd h
earlier_second (Some a) (Some b) i h = omega (arith, h)

earlier_one : (P : ℕ → Type 0) (a b : Option ℕ) → IfSome a P → IfSome b P → IfSome (earlier a b) P
earlier_one P None b h k = k
earlier_one P (Some a) None h k = h
earlier_one P (Some a) (Some b) h k =
    ⊎_elim
    (λ (lt : a < b). subst P (let e : a ≡ min a b = omega (arith, lt) in e) h)
    (λ (le : b ≤ a). subst P (let e : b ≡ min a b = omega (arith, le) in e) k)
    (cases_lt a b)

pub first_more : (covers : List Cover) (j count : ℕ) (cover : Cover) (first found : Option ℕ) → slice_get covers j ≡ Some cover
    → IsFirstShorter covers j count first → IsFirstOf (λ other. key_of other ≡ front_key cover count) covers j found
    → IsFirstShorter covers j (count + 1) (earlier first found)
first_more covers j count cover first found at short here =
    record {
      needless = earlier_one (IsNeedlessBy covers j) first found short.needless here.needless;
      least = λ i other there lt needless. ⊎_elim
          (λ (before : length other.prefix < count). earlier_first first found i (short.least i other there before needless))
          (λ (rest : count ≤ length other.prefix).
          let same : length other.prefix ≡ count = omega (arith, lt, rest) in
          earlier_second first found i (here.least i other there
          (front_of cover other (within_of covers j i cover other at there needless) ∙ ap (front_key cover) same) needless))
          (cases_lt (length other.prefix) count);
    }

-- the cover to which another one adds nothing has no longer a prefix
no_longer : (covers : List Cover) (j i : ℕ) (cover : Cover) → slice_get covers j ≡ Some cover → (h : IsNeedlessBy covers j i)
    → length h.other.prefix ≤ length cover.prefix
no_longer covers j i cover at h =
    fits-starts_with cover.prefix h.other.prefix (within_of covers j i cover h.other at h.there h).prefix

-- so all are looked at
pub first_found : (covers : List Cover) (j count : ℕ) (cover : Cover) (first : Option ℕ) → slice_get covers j ≡ Some cover
    → length cover.prefix < count → IsFirstShorter covers j count first → IfSome first (IsFirstNeedlessBy covers j)
first_found covers j count cover None at all h = tt
first_found covers j count cover (Some i) at all h =
    record {
      needless = h.needless;
      first = λ k lt needless.
          let short = no_longer covers j k cover at needless in
          let le : i ≤ k = h.least k needless.other needless.there (omega (arith, short, all)) needless in
          omega (arith, lt, le);
    }

pub none_found : (covers : List Cover) (j count : ℕ) (cover : Cover) (first : Option ℕ) → slice_get covers j ≡ Some cover
    → length cover.prefix < count → IsFirstShorter covers j count first → first ≡ None → (i : ℕ) → IsNeedlessBy covers j i → ⊥
none_found covers j count cover first at all h none i needless =
    let short = no_longer covers j i cover at needless in
    subst (λ (o : Option ℕ). IsSomeAnd o (λ k. k ≤ i)) none
    (h.least i needless.other needless.there (omega (arith, short, all)) needless)
