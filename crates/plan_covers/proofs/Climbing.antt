-- from a needless cover up to one that is not needless
use Rattle.std.specs.Prelude.{ℕ, ◌≡◌, ◌<◌, ◌≤◌, ◌⊎◌, List, [], length, Some, None, slice_get, refl}
use Rattle.std.proofs.Common.{zero, suc, sym, ◌∙◌, ap, subst, inl, inr, ⊎_elim, arith, get_or}
use Rattle.std.proofs.lemmas.Bool.{cases_lt}
use Rattle.std.proofs.lemmas.Option.{slice_get_cases, slice_get_within}
use Rattle.std.proofs.lemmas.List.{append-nil}
use Rattle.sccp_base.proofs.Prefix.{starts_with-split, fits-starts_with}
use Rattle.plan_model.specs.declared.cover.Cover.{Cover}
use Rattle.plan_covers.specs.Needless.{AddsNothing, IsNeedlessBy}
use Rattle.plan_covers.proofs.Titles.{begins_all}
use Rattle.plan_covers.proofs.Adding.{Decision, adds_or_not, equal}

pub adds_itself : (a : Cover) → AddsNothing a a
adds_itself a =
    record {
      within = record {
        node = refl;
        selector = refl;
        ssn = refl;
        prefix = starts_with-split a.prefix a.prefix []
            (sym (append-nil a.prefix));
        least = omega arith;
        most = omega arith;
      };
      allowed = λ p h. h;
    }

pub adds_on : (a b c : Cover) → AddsNothing a b → AddsNothing b c → AddsNothing a c
adds_on a b c h k =
    record {
      within = record {
        node = h.within.node ∙ k.within.node;
        selector = h.within.selector ∙ k.within.selector;
        ssn = h.within.ssn ∙ k.within.ssn;
        prefix = begins_all a.prefix b.prefix c.prefix h.within.prefix k.within.prefix;
        least = omega (arith, h.within.least, k.within.least, no_longer);
        most = omega (arith, h.within.most, k.within.most);
      };
      allowed = λ p here. h.allowed p (k.allowed p here);
    }
  where
    no_longer : length b.prefix ≤ length a.prefix
    no_longer = fits-starts_with a.prefix b.prefix h.within.prefix

-- what stands at a place is one cover
one_at : (covers : List Cover) (j : ℕ) (c d : Cover) → slice_get covers j ≡ Some c → slice_get covers j ≡ Some d → c ≡ d
one_at covers j c d h k = let e : Some c ≡ Some d = sym h ∙ k in cc

-- the cover at n, to which that at m adds nothing, adds nothing to that at i: then that at m adds nothing to that at i either
needless_on : (covers : List Cover) (m n i : ℕ) → IsNeedlessBy covers m n → IsNeedlessBy covers n i → IsNeedlessBy covers m i
needless_on covers m n i h k =
    record {
      cover = h.cover;
      other = k.other;
      at = h.at;
      there = k.there;
      apart = λ same. omega (
        arith,
        not_back same,
      );
      nothing = adds_on h.cover h.other k.other h.nothing next;
      later = ⊎_elim
          (λ (lt : n < m). ⊎_elim
          (λ (lower : i < n). inl (omega (arith, lt, lower)))
          (λ (never : AddsNothing k.other k.cover → ⊥). inr
          (λ back. never (subst (AddsNothing k.other) joined (adds_on k.other h.cover h.other back
          h.nothing))))
          k.later)
          (λ (never : AddsNothing h.other h.cover → ⊥). inr (λ back. never (adds_on h.other k.other h.cover next back)))
          h.later;
    }
  where
    joined : h.other ≡ k.cover
    joined = one_at covers n h.other k.cover h.there k.at

    next : AddsNothing h.other k.other
    next = subst (λ (c : Cover). AddsNothing c k.other) (sym joined) k.nothing

    not_back : m ≡ i → (n < m) × (i < n)
    not_back same = (
      ⊎_elim (λ (lt : n < m). lt) (λ (never : AddsNothing h.other h.cover
          → ⊥). absurd (never (subst (AddsNothing h.other) ends next))) h.later,
      ⊎_elim (λ (lt : i < n). lt) (λ (never : AddsNothing k.other k.cover → ⊥). absurd (never
          (subst (λ (c : Cover). AddsNothing c k.cover) ends' (subst (AddsNothing h.cover) joined h.nothing)))) k.later,
    )
      where
        ends : k.other ≡ h.cover
        ends = one_at covers i k.other h.cover k.there (sym (ap (slice_get covers) same) ∙ h.at)

        ends' : h.cover ≡ k.other
        ends' = sym ends

needless_or_not : (covers : List Cover) (m n : ℕ) (c d : Cover) → slice_get covers m ≡ Some c → slice_get covers n ≡ Some d
    → Decision (IsNeedlessBy covers m n)
needless_or_not covers m n c d at there = by_place (equal m n)
  where
    by_order : (m ≡ n → ⊥) → AddsNothing c d → (n < m) ⊎ (m ≤ n) → Decision (IsNeedlessBy covers m n)
    by_order apart nothing (inl lt) =
        inl (record { cover = c; other = d; at = at; there = there; apart = apart; nothing = nothing; later = inl lt })
    by_order apart nothing (inr le) = elim (adds_or_not d c) as (λ _. Decision (IsNeedlessBy covers m n)) [
      | inl back ↦ inr (λ h. ⊎_elim (λ (lt : n < m). omega (arith, lt, le)) (λ (never : AddsNothing h.other h.cover → ⊥). never
          (subst (AddsNothing h.other) (one_at covers m c h.cover at h.at)
          (subst (λ (x : Cover). AddsNothing x c) (one_at covers n d h.other there h.there) back))) h.later)
      | inr never ↦ inl (record { cover = c; other = d; at = at; there = there; apart = apart; nothing = nothing; later = inr never })
    ]

    by_place : Decision (m ≡ n) → Decision (IsNeedlessBy covers m n)
    by_place (inl same) = inr (λ h. h.apart same)
    by_place (inr apart) = elim (adds_or_not c d) as (λ _. Decision (IsNeedlessBy covers m n)) [
      | inl nothing ↦ by_order apart nothing (cases_lt n m)
      | inr never ↦ inr (λ h. never (subst (AddsNothing c) (one_at covers n h.other d h.there there)
          (subst (λ (x : Cover). AddsNothing x h.other) (one_at covers m h.cover c h.at at) h.nothing)))
    ]

-- a cover to which this one adds nothing, and which is needless by none of the first n
pub record IsTop (covers : List Cover) (n : ℕ) (from : Cover) : Type 0 where
  pub place : ℕ
  pub cover : Cover
  pub at : slice_get covers place ≡ Some cover
  pub nothing : AddsNothing from cover
  pub none : (i : ℕ) → i < n → IsNeedlessBy covers place i → ⊥

top_more : (covers : List Cover) (n : ℕ) (from d : Cover) → slice_get covers n ≡ Some d → IsTop covers n from → IsTop covers (suc n) from
top_more covers n from d there t = by (needless_or_not covers t.place n t.cover d t.at there)
  where
    below : (P : ℕ → Type 0) → ((i : ℕ) → i < n → P i) → P n → (i : ℕ) → i < suc n → P i
    below P h k i lt = ⊎_elim (λ (l : i < n). h i l) (λ (l : n ≤ i). let e : n ≡ i = omega (arith, l, lt) in subst P e k) (cases_lt i n)

    by : Decision (IsNeedlessBy covers t.place n) → IsTop covers (suc n) from
    by (inl h) =
        record {
          place = n;
          cover = d;
          at = there;
          nothing = adds_on from t.cover d t.nothing (subst (λ (x : Cover). AddsNothing x d)
              (one_at covers t.place h.cover t.cover h.at t.at)
              (subst (AddsNothing h.cover) (one_at covers n h.other d h.there there) h.nothing));
          none = below (λ i. IsNeedlessBy covers n i → ⊥) (λ i lt k. t.none i lt (needless_on covers t.place n i h k)) (λ k. k.apart refl);
        }
    by (inr never) =
        record {
          place = t.place;
          cover = t.cover;
          at = t.at;
          nothing = t.nothing;
          none = below (λ i. IsNeedlessBy covers t.place i → ⊥) t.none never;
        }

top : (covers : List Cover) (n : ℕ) → n ≤ length covers → (j : ℕ) (from : Cover) → slice_get covers j ≡ Some from → IsTop covers n from
top covers zero le j from at =
    record { place = j; cover = from; at = at; nothing = adds_itself from; none = λ i lt. absurd (omega (arith, lt)) }
top covers (suc n) le j from at =
    ⊎_elim
    (λ (d : (x : Cover) × (n < length covers) × (slice_get covers n ≡ Some x) × (get_or covers n x ≡ x)).
    top_more covers n from d.0 d.2 (top covers n (omega arith) j from at))
    (λ (past : (length covers ≤ n) × (slice_get covers n ≡ None)). absurd (omega (arith, past.0)))
    (slice_get_cases covers n).1

-- each cover adds nothing to one that is not needless
pub needed : (covers : List Cover) (j : ℕ) (from : Cover) → slice_get covers j ≡ Some from
    → (m : ℕ) × (c : Cover) × (slice_get covers m ≡ Some c) × AddsNothing from c × ((i : ℕ) → IsNeedlessBy covers m i → ⊥)
needed covers j from at =
    let t : IsTop covers (length covers) from = top covers (length covers) (omega arith) j from at in
    (t.place, t.cover, t.at, t.nothing, λ i h. t.none i (slice_get_within covers i h.other h.there) h)
