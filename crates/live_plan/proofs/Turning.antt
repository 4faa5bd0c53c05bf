-- Each step keeps the rule.
use Rattle.std.proofs.Common.{◌≡◌, ◌≢◌, ℕ, ◌<◌, ◌≤◌, List, [], ◌∷◌, ◌++◌, set, refl, sym, ◌∙◌, subst, ⊎_elim, le_refl, le_trans, arith}
use Rattle.std.proofs.lemmas.Bool.{cases_eq}
use Rattle.std.specs.Arc.{arc_value}
use mathlib.Core.Option.{some}
use lib.ListN.{get_elem?}
use Rattle.crossbeam_utils.specs.Register.{Admits, TurnsAt, Forks, Merges}
use Rattle.atomic_table.proofs.Lists.{at_set, at_snoc}
use Rattle.plan_check.specs.Verified.{Verified}
use Rattle.live_plan.specs.declared.known.Known.{Known}
use Rattle.live_plan.specs.declared.published.Shown.{Shown}
use Rattle.live_plan.specs.Plans.{HasPlan}
use Rattle.live_plan.specs.Published.{known, newcomer, seen_of, Fits, Kept, Saw, begun, advanced}

new_fits : (s : Shown) (plans : List Verified) → 0 < s.batch → Fits s plans newcomer
new_fits s plans positive = record {
  earlier = omega arith;
  same = λ e. absurd (omega (arith, e));
  within = λ e. omega arith;
}

-- all fit after one view was set
set_fits : (s : Shown) (plans : List Verified) (views : List Known) (seat : ℕ) (w : Known)
    → ((j : ℕ) (u : Known) → get_elem? views j ≡ some u → Fits s plans u) → Fits s plans w
    → (j : ℕ) (u : Known) → get_elem? (set views seat w) j ≡ some u → Fits s plans u
set_fits s plans views seat w each mine j u e =
    ⊎_elim (λ (t : (j ≡ seat) × (w ≡ u)). subst (Fits s plans) t.1 mine) (λ (t : (j ≢ seat) × (get_elem? views j ≡ some u)). each j u t.1)
    (at_set views seat j w u e)

snoc_fits : (s : Shown) (plans : List Verified) (views : List Known) (w : Known)
    → ((j : ℕ) (u : Known) → get_elem? views j ≡ some u → Fits s plans u) → Fits s plans w
    → (j : ℕ) (u : Known) → get_elem? (views ++ w ∷ []) j ≡ some u → Fits s plans u
snoc_fits s plans views w each mine j u e = ⊎_elim (each j u) (λ (same : w ≡ u). subst (Fits s plans) same mine) (at_snoc views w u j e)

abbrev set_kept : (s : Shown) (views : List Known) (seat : ℕ) (w : Known) → (k : Kept s views) → Fits s k.plans w
    → Kept s (set views seat w)
set_kept s views seat w k mine =
    record { plans = k.plans; begun = k.begun; here = k.here; each = set_fits s k.plans views seat w k.each mine }

abbrev snoc_kept : (s : Shown) (views : List Known) (w : Known) → (k : Kept s views) → Fits s k.plans w → Kept s (views ++ w ∷ [])
snoc_kept s views w k mine = record { plans = k.plans; begun = k.begun; here = k.here; each = snoc_fits s k.plans views w k.each mine }

-- when a batch begins, no view is of it
old_fits : (x y : Shown) (plans other : List Verified) (u : Known) → x.batch < y.batch → Fits x plans u → Fits y other u
old_fits x y plans other u lt f =
    let earlier = f.earlier in record {
      earlier = omega arith;
      same = λ e. absurd (omega (arith, e));
      within = λ e. absurd (omega (arith, e));
    }

-- in the same batch, more is published
more_fits : (x y : Shown) (plans : List Verified) (u : Known) → x.batch ≡ y.batch → x.number ≤ y.number → Fits x plans u → Fits y plans u
more_fits x y plans u same le f = record {
  earlier = subst (λ n. u.batch ≤ n) same f.earlier;
  same = λ e. f.same (e ∙ sym same);
  within = λ e. le_trans (f.within (e ∙ sym same)) le;
}

module _ {T : Type 0} (shown : T → Shown) where
  pub admits : Admits (λ p. Kept (shown p)) newcomer
  admits p views k = snoc_kept (shown p) views newcomer k (new_fits (shown p) k.plans k.begun)

  pub begins : (seat : ℕ) (v : Known) (x y : T) → (shown x).batch < (shown y).batch
      → HasPlan (seen_of v ++ (shown y).coming.value) (shown y).number (arc_value (shown y).plan)
      → TurnsAt (λ p. Kept (shown p)) seat v x y (λ v x y w. w ≡ begun v (shown y))
  begins seat v x y lt here views k at =
      let w = begun v (shown y) in
      let mine : Fits (shown y) w.plans w = record { earlier = le_refl _; same = λ e. refl; within = λ e. le_refl _ } in
      let begun = k.begun in (
        w,
        record {
          plans = w.plans;
          begun = omega arith;
          here = here;
          each = set_fits (shown y) w.plans views seat w (λ j u e. old_fits (shown x) (shown y) k.plans w.plans u lt (k.each j u e)) mine;
        },
        refl,
      )

  pub advances : (seat : ℕ) (v : Known) (x y : T) → v.batch ≡ (shown x).batch → (shown x).batch ≡ (shown y).batch
      → (shown x).number ≤ (shown y).number → HasPlan v.plans (shown y).number (arc_value (shown y).plan)
      → TurnsAt (λ p. Kept (shown p)) seat v x y (λ v x y w. w ≡ advanced v (shown y))
  advances seat v x y mine same le here views k at =
      let w = advanced v (shown y) in
      let list : v.plans ≡ k.plans = (k.each seat v at).same mine in
      let fits : Fits (shown y) k.plans w = record {
        earlier = let e : v.batch ≡ (shown y).batch = mine
            ∙ same in omega (arith, e);
        same = λ e. list;
        within = λ e. le_refl _;
      } in (
        w,
        record {
          plans = k.plans;
          begun = subst (λ n. 0 < n) same k.begun;
          here = subst (λ l. HasPlan l (shown y).number (arc_value (shown y).plan)) list here;
          each = set_fits (shown y) k.plans views seat w (λ j u e. more_fits (shown x) (shown y) k.plans u same le (k.each j u e)) fits;
        },
        refl,
      )

  -- an entry
  pub enters : (seat : ℕ) (v : Known) (x : T) → TurnsAt (λ p. Kept (shown p)) seat v x x (λ v x y w. Saw v (shown y) w)
  enters seat v x views k at =
      let s = shown x in
      let mine = k.each seat v at in
      let here : v.batch ≡ s.batch → (w : Known) × Kept s (set views seat w) × Saw v s w = λ e.
      let list : v.plans ≡ k.plans = mine.same e in
      let w = known v.batch v.plans s.number in (
        w,
        set_kept s views seat w k (record { earlier = mine.earlier; same = λ o. list; within = λ o. le_refl _ }),
        record {
          here = λ o. (refl, (subst (λ l. HasPlan l s.number (arc_value s.plan)) (sym list) k.here, mine.within e));
          elsewhere = λ o. absurd (o e);
        },
      ) in
      let there : (v.batch ≡ s.batch → ⊥) → (w : Known) × Kept s (set views seat w) × Saw v s w = λ o. (
        v,
        set_kept s views seat v k mine,
        record { here = λ e. absurd (o e); elsewhere = λ p. refl },
      ) in
      ⊎_elim here there (cases_eq v.batch s.batch)

  pub forks : (seat : ℕ) (v : Known) → Forks (λ p. Kept (shown p)) seat v v v
  forks seat v x views k at =
      let mine = k.each seat v at in
      snoc_kept (shown x) (set views seat v) v (set_kept (shown x) views seat v k mine) mine

  pub merges : (seat : ℕ) (v : Known) (other : ℕ) (w : Known) → Merges (λ p. Kept (shown p)) seat v other w w newcomer
  merges seat v other w x views k at apart there =
      let theirs = ⊎_elim (λ (t : (other ≡ seat) × (w ≡ w)). absurd (apart t.0))
      (λ (t : (other ≢ seat) × (get_elem? views other ≡ some w)). k.each other w t.1) (at_set views seat other w w there) in
      let one = set_kept (shown x) views seat w k theirs in
      set_kept (shown x) (set views seat w) other newcomer one (new_fits (shown x) k.plans k.begun)
