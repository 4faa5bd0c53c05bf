-- What is read as a title is one, and octets that are a title are read as it.
use Rattle.std.proofs.Common.{◌≡◌, ◌≢◌, ℕ, zero, suc, ◌<◌, ◌≤◌, Bool, true, false, cond, leb, eqb, ◌&&◌, List, [], ◌∷◌, ◌++◌, length}
use Rattle.std.proofs.Common.{Result, Ok, refl, sym, ap, subst, ◌∙◌, arith, inl, inr}
use Rattle.std.specs.Prelude.{IsTrue}
use Rattle.std.proofs.lemmas.Bool.{leb-true, leb-false, le-leb, lt-leb, eqb-true, eqb-false, ne_eqb}
use Rattle.sccp_base.specs.Bcd.{unpacked}
use Rattle.sccp_base.specs.Bits.{bit, bits}
use Rattle.sccp_base.specs.Selector.{Numbers, numbers}
use Rattle.sccp_base.proofs.AllOk.{guard_ok}
use Rattle.sccp_base.proofs.Cases.{chosen}
use Rattle.sccp_address.specs.declared.address.Title.{Title}
use Rattle.sccp_address.specs.declared.address.Title.TheVariants.{Absent, Global, Raw}
use Rattle.sccp_address.specs.declared.fault.AddressFault.{AddressFault}
use Rattle.sccp_address.specs.declared.fault.AddressFault.TheVariants.{OddWithoutDigits}
use Rattle.sccp_address.specs.Reading.{global_or_raw, by_scheme, none_at, nature_at, translation_at, plan_at, full_at, title_at}
use Rattle.sccp_address.specs.Addresses.{IsHeading, HasDigits, HasOtherScheme, TitleIs}

abbrev done : Title → Result Title AddressFault
done t = Ok t

done_is : (t u : Title) → done t ≡ done u → t ≡ u
done_is t u e = cc

some_of : (odd : Bool) (n : ℕ) → (odd && eqb n 0) ≡ false → IsTrue odd → 0 < n
some_of true n e h = let ne = eqb-false n 0 e in omega arith
some_of false n e h = absurd cc

-- What is read is a title.

global_takes : (s : Numbers) (odd : Bool) (packed heading octets : List ℕ) (t : Title) → octets ≡ heading ++ packed
    → IsHeading heading s odd → global_or_raw s odd packed octets ≡ Ok t → TitleIs s.kind octets t
global_takes s odd packed heading octets t parts says e =
    let ds = unpacked packed odd in
    let g = guard_ok (odd && eqb (length packed) 0) OddWithoutDigits
    (cond (leb (length ds) 32) (Ok (Global s ds)) (Ok (Raw s.kind octets))) t e in
    let has : HasDigits octets s ds = record {
      heading = heading;
      packed = packed;
      odd = odd;
      parts = parts;
      says = says;
      some = some_of odd
          (length packed) g.0;
      are = refl;
    } in
    elim (chosen (leb (length ds) 32) (done (Global s ds)) (done (Raw s.kind octets)) (done t) g.1) [
      | inl w ↦ subst (TitleIs s.kind octets) (done_is (Global s ds) t w.1) (refl, has, leb-true _ _ w.0)
      | inr w ↦ subst (TitleIs s.kind octets) (done_is (Raw s.kind octets) t w.1)
          (refl, refl, inr (inr (s, ds, refl, has, leb-false _ _ w.0)))
    ]

nature_takes : (octets : List ℕ) (t : Title) → nature_at octets ≡ Ok t → TitleIs 1 octets t
nature_takes [] t e = absurd cc
nature_takes (n ∷ packed) t e = global_takes (numbers 1 0 0 (bits n 1 7)) (bit n 8) packed (n ∷ []) (n ∷ packed) t refl (inl (refl, refl)) e

translation_takes : (octets : List ℕ) (t : Title) → translation_at octets ≡ Ok t → TitleIs 2 octets t
translation_takes [] t e = absurd cc
translation_takes (n ∷ packed) t e = global_takes (numbers 2 n 0 0) false packed (n ∷ []) (n ∷ packed) t refl (inr (refl, refl)) e

scheme_takes : (scheme : ℕ) (s : Numbers) (packed heading octets : List ℕ) (t : Title) → octets ≡ heading ++ packed
    → ((odd : Bool) → scheme ≡ cond odd 1 2 → IsHeading heading s odd) → (scheme ≢ 1 → scheme ≢ 2 → HasOtherScheme s.kind octets)
    → by_scheme scheme s packed octets ≡ Ok t → TitleIs s.kind octets t
scheme_takes scheme s packed heading octets t parts says other e =
    elim (chosen (eqb scheme 1) (global_or_raw s true packed octets)
    (cond (eqb scheme 2) (global_or_raw s false packed octets) (Ok (Raw s.kind octets))) (done t) e) [
      | inl w ↦ global_takes s true packed heading octets t parts (says true (eqb-true _ _ w.0)) w.1
      | inr w ↦ elim (chosen (eqb scheme 2) (global_or_raw s false packed octets) (done (Raw s.kind octets)) (done t) w.1) [
        | inl v ↦ global_takes s false packed heading octets t parts (says false (eqb-true _ _ v.0)) v.1
        | inr v ↦ subst (TitleIs s.kind octets) (done_is (Raw s.kind octets) t v.1)
            (refl, refl, inr (inl (other (eqb-false _ _ w.0) (eqb-false _ _ v.0))))
      ]
    ]

plan_takes : (octets : List ℕ) (t : Title) → plan_at octets ≡ Ok t → TitleIs 3 octets t
plan_takes [] t e = absurd cc
plan_takes (x ∷ []) t e = absurd cc
plan_takes (x ∷ p ∷ packed) t e = scheme_takes (bits p 1 4) (numbers 3 x (bits p 5 8) 0) packed (x ∷ p ∷ []) (x ∷ p ∷ packed) t refl
    (λ odd is. (refl, is)) (λ no1 no2. (no1, no2, inl refl)) e

full_takes : (octets : List ℕ) (t : Title) → full_at octets ≡ Ok t → TitleIs 4 octets t
full_takes [] t e = absurd cc
full_takes (x ∷ []) t e = absurd cc
full_takes (x ∷ p ∷ []) t e = absurd cc
full_takes (x ∷ p ∷ n ∷ packed) t e = scheme_takes (bits p 1 4) (numbers 4 x (bits p 5 8) (bits n 1 7)) packed (x ∷ p ∷ n ∷ [])
    (x ∷ p ∷ n ∷ packed) t refl (λ odd is. (refl, is)) (λ no1 no2. (no1, no2, inr (refl, omega arith))) e

none_takes : (octets : List ℕ) (t : Title) → none_at octets ≡ Ok t → TitleIs 0 octets t
none_takes [] t e = subst (TitleIs 0 []) (done_is Absent t e) (refl, refl)
none_takes (o ∷ octets) t e = absurd cc

kind_again : (kind : ℕ) (octets : List ℕ) → 5 ≤ kind → title_at kind octets ≡ Ok (Raw kind octets)
kind_again kind octets le = rw (
  ne_eqb kind 0 (λ e. omega arith),
  ne_eqb kind 1 (λ e. omega arith),
  ne_eqb kind 2
      (λ e. omega arith),
  ne_eqb kind 3 (λ e. omega arith),
  ne_eqb kind 4 (λ e. omega arith),
) refl

pub title_takes : (kind : ℕ) (octets : List ℕ) (t : Title) → title_at kind octets ≡ Ok t → TitleIs kind octets t
title_takes zero octets t e = none_takes octets t e
title_takes (suc zero) octets t e = nature_takes octets t e
title_takes (suc (suc zero)) octets t e = translation_takes octets t e
title_takes (suc (suc (suc zero))) octets t e = plan_takes octets t e
title_takes (suc (suc (suc (suc zero)))) octets t e = full_takes octets t e
title_takes (suc (suc (suc (suc (suc k))))) octets t e =
    let kind : ℕ = suc (suc (suc (suc (suc k)))) in
    let le : 5 ≤ kind = omega arith in
    subst (TitleIs kind octets) (done_is (Raw kind octets) t (sym (kind_again kind octets le) ∙ e)) (refl, refl, inl le)

-- What is a title is read.

heading_again : (heading packed : List ℕ) (s : Numbers) (odd : Bool) → IsHeading heading s odd
    → title_at s.kind (heading ++ packed) ≡ global_or_raw s odd packed (heading ++ packed)
heading_again [] packed s odd says = absurd says
heading_again (n ∷ []) packed s odd (inl w) = rw (w.0, w.1) refl
heading_again (n ∷ []) packed s odd (inr w) = rw (w.0, w.1) refl
heading_again (x ∷ p ∷ []) packed s true w = rw (w.0, w.1) refl
heading_again (x ∷ p ∷ []) packed s false w = rw (w.0, w.1) refl
heading_again (x ∷ p ∷ n ∷ []) packed s true w = rw (w.0, w.1) refl
heading_again (x ∷ p ∷ n ∷ []) packed s false w = rw (w.0, w.1) refl
heading_again (x ∷ p ∷ n ∷ o ∷ others) packed s odd says = absurd says

some_test : (odd : Bool) (n : ℕ) → (IsTrue odd → 0 < n) → (odd && eqb n 0) ≡ false
some_test true n h = let lt : 0 < n = h refl in ne_eqb n 0 (λ e. omega arith)
some_test false n h = refl

digits_again : (octets : List ℕ) (s : Numbers) (digits : List ℕ) → HasDigits octets s digits
    → title_at s.kind octets ≡ cond (leb (length digits) 32) (Ok (Global s digits)) (Ok (Raw s.kind octets))
digits_again octets s digits h =
    ap (title_at s.kind) h.parts ∙ heading_again h.heading h.packed s h.odd h.says
    ∙ rw (some_test h.odd (length h.packed) h.some, ← h.are, ← h.parts) refl

scheme_again : (kind : ℕ) (octets : List ℕ) → HasOtherScheme kind octets → title_at kind octets ≡ Ok (Raw kind octets)
scheme_again kind [] h = absurd h
scheme_again kind (x ∷ []) h = absurd h
scheme_again kind (x ∷ p ∷ []) (no1, no2, inl e) = rw (e, ne_eqb (bits p 1 4) 1 no1, ne_eqb (bits p 1 4) 2 no2) refl
scheme_again kind (x ∷ p ∷ []) (no1, no2, inr e) = absurd (omega (arith, e.1))
scheme_again kind (x ∷ p ∷ n ∷ octets) (no1, no2, inl e) = rw (e, ne_eqb (bits p 1 4) 1 no1, ne_eqb (bits p 1 4) 2 no2) refl
scheme_again kind (x ∷ p ∷ n ∷ octets) (no1, no2, inr e) = rw (e.0, ne_eqb (bits p 1 4) 1 no1, ne_eqb (bits p 1 4) 2 no2) refl

pub title_again : (kind : ℕ) (octets : List ℕ) (t : Title) → TitleIs kind octets t → title_at kind octets ≡ Ok t
title_again kind octets Absent (k, none) = rw (k, none) refl
title_again kind octets (Global s digits) (k, has, le) = rw (← k) (digits_again octets s digits has
    ∙ rw (le-leb (length digits) 32 le) refl)
title_again kind octets (Raw k kept) (same, whole, inl le) = rw (same, whole) (kind_again kind octets le)
title_again kind octets (Raw k kept) (same, whole, inr (inl other)) = rw (same, whole) (scheme_again kind octets other)
title_again kind octets (Raw k kept) (same, whole, inr (inr (s, digits, k', has, many))) =
    rw (same, whole, ← k') (digits_again octets s digits has ∙ rw (lt-leb (length digits) 32 many) refl)
