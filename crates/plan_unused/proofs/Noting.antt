-- what is noted of the titles of a class
use Rattle.std.specs.Prelude.{ℕ, ◌≡◌, ◌⊎◌, true, false, cond, IsTrue, List, Some, None, Result, Ok, Err, OnOk}
use Rattle.std.specs.Prelude.{refl}
use Rattle.std.specs.Ordering.{nat_cmp, ordering_then, is_eq}
use Rattle.std.specs.declared.cmp.Ordering.{Ordering}
use Rattle.std.specs.BTreeMap as map
use Rattle.std.specs.BTreeMap.{BTreeMap}
use Rattle.std.specs.BTreeSet as sorted
use Rattle.std.specs.BTreeSet.{BTreeSet}
use Rattle.std.proofs.Common.{sym, ◌∙◌, ap, subst, inl, inr, ⊎_elim}
use Rattle.std.proofs.lemmas.Map.Lookups.{CmpEqualImpliesEq, exact_unsigned}
use Rattle.plan_rules.specs.Rule.{Rule}
use Rattle.plan_model.specs.declared.spot.Spot.{Spot}
use Rattle.plan_model.specs.Network.{Network}
use Rattle.plan_classes.specs.Titles.{Titles, IsClass, spot_of}
use Rattle.plan_classes.specs.Classes.{sample_of, Reaches, class_row}
use Rattle.plan_classes.proofs.Images.{sample_member}
use Rattle.plan_classes.proofs.Ordered.{both_equal, is_equal}
use Rattle.plan_unused.specs.declared.survey.RowPlace.{RowPlace}
use Rattle.plan_unused.specs.declared.survey.TargetPlace.{TargetPlace}
use Rattle.plan_unused.specs.declared.seen.Seen.{Seen}
use Rattle.plan_unused.specs.Met.{IsMet}
use Rattle.plan_unused.specs.Uses.{HasRow, CountsFor, UsesRelay, UsesRow, UsesTarget, HasGap}
use Rattle.plan_unused.specs.Walks.{row_cmp, target_cmp, IsSeen, IsMore, MayLook}
use Rattle.plan_unused.proofs.Meeting.{meets_class, titles_met}

pub ok_both : {T E : Type 0} (r : Result T E) (P Q R : Type 0) → (P → Q → R) → OnOk r P → OnOk r Q → OnOk r R
ok_both (Ok t) P Q R f p q = f p q
ok_both (Err e) P Q R f p q = p

pub exact_rows : CmpEqualImpliesEq row_cmp
exact_rows a b e =
    let k = both_equal (nat_cmp a.node b.node) (nat_cmp a.row b.row) e in
    λ i. record { node = exact_unsigned a.node b.node k.0 i; row = exact_unsigned a.row b.row k.1 i }

pub exact_targets : CmpEqualImpliesEq target_cmp
exact_targets a b e =
    let k = both_equal (nat_cmp a.node b.node) (ordering_then (nat_cmp a.row b.row) (nat_cmp a.target b.target)) e in
    let l = both_equal (nat_cmp a.row b.row) (nat_cmp a.target b.target) k.1 in
    λ i. record {
      node = exact_unsigned a.node b.node k.0 i;
      row = exact_unsigned a.row b.row l.0 i;
      target = exact_unsigned a.target b.target l.1 i;
    }

-- a key of the larger set is the new one, or an old one
pub noted_case : {K : Type 0} (cmp : K → K → Ordering) → CmpEqualImpliesEq cmp → (before after : BTreeSet K) (k q : K)
    → sorted.Updates cmp before after k true → IsTrue (sorted.contains cmp after q) → (k ≡ q) ⊎ IsTrue (sorted.contains cmp before q)
noted_case cmp exact before after k q updates h =
    elim (is_eq (cmp k q)) as (λ b. is_eq (cmp k q) ≡ b → cond b true (sorted.contains cmp before q) ≡ true
    → (k ≡ q) ⊎ IsTrue (sorted.contains cmp before q)) [
      | true ↦ λ same t. inl (exact k q (is_equal (cmp k q) same))
      | false ↦ λ other t. inr t
    ] refl (sym (updates.0 q) ∙ h)

pub noted_kept : {K : Type 0} (cmp : K → K → Ordering) (before after : BTreeSet K) (k q : K) → sorted.Updates cmp before after k true
    → IsTrue (sorted.contains cmp before q) → IsTrue (sorted.contains cmp after q)
noted_kept cmp before after k q updates h =
    updates.0 q ∙ elim (is_eq (cmp k q)) as (λ b. cond b true (sorted.contains cmp before q) ≡ true) [
      | true ↦ refl
      | false ↦ h
    ]

-- the same of a map of numbers
pub put_case : {V : Type 0} (before after : BTreeMap ℕ V) (k q : ℕ) (v w : V) → map.Updates nat_cmp before after k (Some v)
    → map.get nat_cmp after q ≡ Some w → ((k ≡ q) × (v ≡ w)) ⊎ (map.get nat_cmp before q ≡ Some w)
put_case before after k q v w updates h =
    elim (is_eq (nat_cmp k q)) as (λ b. is_eq (nat_cmp k q) ≡ b → cond b (Some v) (map.get nat_cmp before q) ≡ Some w
    → ((k ≡ q) × (v ≡ w)) ⊎ (map.get nat_cmp before q ≡ Some w)) [
      | true ↦ λ same t. inl (exact_unsigned k q (is_equal (nat_cmp k q) same), cc)
      | false ↦ λ other t. inr t
    ] refl (sym (updates.0 q) ∙ h)

-- one more relay, row, target or gap is noted
pub seen_row : (plan : Network) (s : Seen) (rows : BTreeSet RowPlace) (place : RowPlace) → UsesRow plan place.node place.row → IsSeen plan s
    → sorted.Updates row_cmp s.rows rows place true → IsSeen plan (record s { rows = rows })
seen_row plan s rows place uses seen updates =
    record {
      relays = seen.relays;
      rows = λ q h. ⊎_elim
          (λ (same : place ≡ q). subst (λ (p : RowPlace). UsesRow plan p.node p.row) same uses)
          (λ (old : IsTrue (sorted.contains row_cmp s.rows q)). seen.rows q old)
          (noted_case row_cmp exact_rows s.rows rows place q updates h);
      targets = seen.targets;
      gaps = seen.gaps;
    }

pub more_row : (s : Seen) (rows : BTreeSet RowPlace) (place : RowPlace) → sorted.Updates row_cmp s.rows rows place true
    → IsMore s (record s { rows = rows })
more_row s rows place updates =
    record {
      relays = λ n h. h;
      rows = λ q h. noted_kept row_cmp s.rows rows place q updates h;
      targets = λ q h. h;
      gaps = λ n h. h;
    }

pub seen_target : (plan : Network) (s : Seen) (targets : BTreeSet TargetPlace) (place : TargetPlace)
    → UsesTarget plan place.node place.row place.target → IsSeen plan s → sorted.Updates target_cmp s.targets targets place true
    → IsSeen plan (record s { targets = targets })
seen_target plan s targets place uses seen updates =
    record {
      relays = seen.relays;
      rows = seen.rows;
      targets = λ q h. ⊎_elim
          (λ (same : place ≡ q). subst (λ (p : TargetPlace). UsesTarget plan p.node p.row p.target) same uses)
          (λ (old : IsTrue (sorted.contains target_cmp s.targets q)). seen.targets q old)
          (noted_case target_cmp exact_targets s.targets targets place q updates h);
      gaps = seen.gaps;
    }

pub more_target : (s : Seen) (targets : BTreeSet TargetPlace) (place : TargetPlace) → sorted.Updates target_cmp s.targets targets place true
    → IsMore s (record s { targets = targets })
more_target s targets place updates =
    record {
      relays = λ n h. h;
      rows = λ q h. h;
      targets = λ q h. noted_kept target_cmp s.targets targets place q updates h;
      gaps = λ n h. h;
    }

pub seen_gap : (plan : Network) (s : Seen) (gaps : BTreeMap ℕ Spot) (number : ℕ) (spot : Spot) → HasGap plan number spot → IsSeen plan s
    → map.Updates nat_cmp s.gaps gaps number (Some spot) → IsSeen plan (record s { gaps = gaps })
seen_gap plan s gaps number spot gap seen updates =
    record {
      relays = seen.relays;
      rows = seen.rows;
      targets = seen.targets;
      gaps = λ n z h. ⊎_elim
          (λ (same : (number ≡ n) × (spot ≡ z)). subst (λ (m : ℕ). HasGap plan m z) same.0 (subst (HasGap plan number) same.1 gap))
          (λ (old : map.get nat_cmp s.gaps n ≡ Some z). seen.gaps n z old)
          (put_case s.gaps gaps number n spot z updates h);
    }

-- what the titles of a class that may be looked at use
sample_met : (plan : Network) (depth : ℕ) (c : Titles) → MayLook plan depth c → IsMet plan c.cover (spot_of c (sample_of c))
sample_met plan depth c may =
    let class : IsClass c = (meets_class plan may.sound depth c may.meets).0 in
    titles_met plan depth c (spot_of c (sample_of c)) may.sound may.meets (sample_of c, sample_member c class, refl)

pub uses_relay : (plan : Network) (depth : ℕ) (c : Titles) → MayLook plan depth c → UsesRelay plan c.node
uses_relay plan depth c may = (c.cover, spot_of c (sample_of c), sample_met plan depth c may, refl)

counts_for : (plan : Network) (c : Titles) (r : ℕ) (row : Rule) → class_row plan c ≡ Some row → HasRow plan c.node r row
    → CountsFor plan c.node r (spot_of c (sample_of c))
counts_for plan c r row counts at = record { node = refl; row = row; counts = counts; at = at }

pub uses_row : (plan : Network) (depth : ℕ) (c : Titles) (r : ℕ) (row : Rule) → MayLook plan depth c
    → class_row plan c ≡ Some row → HasRow plan c.node r row → UsesRow plan c.node r
uses_row plan depth c r row may counts at =
    (c.cover, spot_of c (sample_of c), sample_met plan depth c may, counts_for plan c r row counts at)

pub uses_target : (plan : Network) (depth : ℕ) (c : Titles) (r t : ℕ) (row : Rule) → MayLook plan depth c
    → class_row plan c ≡ Some row → HasRow plan c.node r row → Reaches plan c t → UsesTarget plan c.node r t
uses_target plan depth c r t row may counts at reached =
    (c.cover, spot_of c (sample_of c), sample_met plan depth c may, counts_for plan c r row counts at, reached)

pub gap_noted : (plan : Network) (depth : ℕ) (c : Titles) (number : ℕ) (spot : Spot) (digits : List ℕ) → MayLook plan depth c
    → class_row plan c ≡ None → number ≡ c.cover → spot ≡ spot_of c digits → digits ≡ sample_of c → HasGap plan number spot
gap_noted plan depth c number spot digits may none cover at same =
    subst (λ (n : ℕ). HasGap plan n spot) (sym cover)
    (subst (HasGap plan c.cover) (sym (at ∙ ap (spot_of c) same)) (sample_met plan depth c may, none))
