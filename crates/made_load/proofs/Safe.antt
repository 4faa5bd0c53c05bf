-- The plan of each number is safe: each relay hands a title on to a later one, or straight to its destination.
use Rattle.std.proofs.Common.{◌≡◌, ◌⊎◌, ℕ, zero, suc, ◌+◌, ◌-◌, ◌*◌, ◌/◌, ◌%◌, ◌<◌, ◌≤◌, ◌==◌, ◌&&◌, Bool, true, false, List, [], ◌∷◌, ◌++◌}
use Rattle.std.proofs.Common.{length, Option}
use Rattle.std.proofs.Common.{Some, None, refl, sym, ◌∙◌, ap, subst, arith, inl, inr}
use Rattle.std.specs.Prelude.{nat_lt, if◌then◌else◌, option_to_list, is_none, slice_get, IsSomeAnd}
use Rattle.std.specs.List.{All, Contains, slice_index_or}
use Rattle.std.proofs.lemmas.Bool.{ltb-true, ne_eqb}
use Rattle.std.proofs.lemmas.List.Elements.{All-nil, All-cons}
use Rattle.sccp_base.specs.declared.mark.Mark.{Mark}
use Rattle.plan_rules.specs.Rule.{rule}
use Rattle.plan_rules.specs.declared.target.Target.{Target}
use Rattle.plan_model.proofs.Ways.{last-onward}
use Rattle.plan_model.specs.Covered.{Covers, IsAllowed}
use Rattle.plan_model.specs.Network.{node_of}
use Rattle.plan_model.specs.Next.{next_of}
use Rattle.plan_model.specs.Routes.{onward as follow, route}
use Rattle.plan_model.specs.RowFor.{row_for}
use Rattle.plan_model.specs.Steps.{step, step_at, step_by, taken, passed}
use Rattle.plan_model.specs.Targets.{first_open, closing}
use Rattle.plan_model.specs.Verdicts.{Safe, last, MayEnd}
use Rattle.plan_model.specs.declared.hop.Step.{Step}
use Rattle.plan_model.specs.declared.hop.Step.TheVariants.{Sent, Ended, NoRow, Overgrown}
use Rattle.plan_model.specs.declared.spot.Spot.{Spot}
use Rattle.made_load.specs.Relays.{relay_point, end_point, selector, destination, next_relay, onward, row_of, relay, relays, cover}
use Rattle.made_load.specs.Relays.{load_plan}

-- a title with this first digit at a relay
abbrev pub at : ℕ → ℕ → List ℕ → Spot
at i d rest = record { node = i; selector = selector; ssn = 6; digits = d ∷ rest }

pub node_at : (number i : ℕ) → i < 8 → slice_get (relays number) i ≡ Some (relay number i)
node_at number zero lt = refl
node_at number (suc zero) lt = refl
node_at number (suc (suc zero)) lt = refl
node_at number (suc (suc (suc zero))) lt = refl
node_at number (suc (suc (suc (suc zero)))) lt = refl
node_at number (suc (suc (suc (suc (suc zero))))) lt = refl
node_at number (suc (suc (suc (suc (suc (suc zero)))))) lt = refl
node_at number (suc (suc (suc (suc (suc (suc (suc zero))))))) lt = refl
node_at number (suc (suc (suc (suc (suc (suc (suc (suc n)))))))) lt = absurd (omega (arith, lt))

pub place_of : (number j : ℕ) → j < 8 → node_of (relays number) (relay_point j) ≡ j
place_of number zero lt = refl
place_of number (suc zero) lt = refl
place_of number (suc (suc zero)) lt = refl
place_of number (suc (suc (suc zero))) lt = refl
place_of number (suc (suc (suc (suc zero)))) lt = refl
place_of number (suc (suc (suc (suc (suc zero))))) lt = refl
place_of number (suc (suc (suc (suc (suc (suc zero)))))) lt = refl
place_of number (suc (suc (suc (suc (suc (suc (suc zero))))))) lt = refl
place_of number (suc (suc (suc (suc (suc (suc (suc (suc n)))))))) lt = absurd (omega (arith, lt))

pub row_at : (number i d : ℕ) (rest : List ℕ) → d < 10 → row_for (relay number i) (at i d rest) ≡ Some (row_of number i d)
row_at number i zero rest lt = refl
row_at number i (suc zero) rest lt = refl
row_at number i (suc (suc zero)) rest lt = refl
row_at number i (suc (suc (suc zero))) rest lt = refl
row_at number i (suc (suc (suc (suc zero)))) rest lt = refl
row_at number i (suc (suc (suc (suc (suc zero))))) rest lt = refl
row_at number i (suc (suc (suc (suc (suc (suc zero)))))) rest lt = refl
row_at number i (suc (suc (suc (suc (suc (suc (suc zero))))))) rest lt = refl
row_at number i (suc (suc (suc (suc (suc (suc (suc (suc zero)))))))) rest lt = refl
row_at number i (suc (suc (suc (suc (suc (suc (suc (suc (suc zero))))))))) rest lt = refl
row_at number i (suc (suc (suc (suc (suc (suc (suc (suc (suc (suc n)))))))))) rest lt = absurd (omega (arith, lt))

-- the next relay is a later one
pub later : (number i d : ℕ) → i < 7 → (i < next_relay number i d) × (next_relay number i d < 8)
later number i d lt = (omega (arith, lt), omega (arith, lt))

-- the title goes on to the next relay, or the step is a last one
abbrev Goes : (ℕ → ℕ → Type 0) → ℕ → ℕ → ℕ → List ℕ → Step → Type 0
Goes allowed number i d rest s = ((i < 7) × (s ≡ Sent (at (next_relay number i d) d rest) 0)) ⊎ (MayEnd allowed s × (next_of s ≡ None))

-- the targets of a row of which it is known whether the relay hands titles on
abbrev pub targets_if : Bool → ℕ → ℕ → ℕ → List Target
targets_if hands number i d = option_to_list (if hands then Some (onward (next_relay number i d)) else None) ++ destination d ∷ []

abbrev taken_if : Bool → ℕ → ℕ → ℕ → List ℕ → List Mark → Step
taken_if hands number i d rest m =
    taken (load_plan number) (relay number i) (at i d rest) m (rule selector None (d ∷ []) (targets_if hands number i d))
    (first_open (relay number i) 6 m 0 (targets_if hands number i d))

module _ (allowed : ℕ → ℕ → Type 0) (number i d : ℕ) (rest : List ℕ) (m : List Mark) (inner : i < 8) (digit : d < 10)
    (nine : length rest ≡ 9) (may : allowed (end_point d) 6) where
  arrives : (place : ℕ) → Goes allowed number i d rest (taken (load_plan number) (relay number i) (at i d rest) m
      (rule selector None (d ∷ []) []) (Some (place, destination d)))
  arrives place = inr (
    subst (λ b. MayEnd allowed (if b && true then NoRow 4 else Ended (end_point d) 6 place)) (sym apart) may,
    ap (λ b. next_of (if b && true then NoRow 4 else Ended (end_point d) 6 place)) apart,
  )
    where
      apart : (end_point d == relay_point i) ≡ false
      apart = ne_eqb (end_point d) (relay_point i) (λ e. omega (arith, e))

  passes : i < 7 → Goes allowed number i d rest (taken (load_plan number) (relay number i) (at i d rest) m
      (rule selector None (d ∷ []) []) (Some (0, onward (next_relay number i d))))
  unfolding load_plan
  passes lt = inl (
    lt,
    ap (λ k. passed (record { node = k; selector = selector; ssn = 6; digits = d ∷ rest }) 0)
        (place_of number (next_relay number i d) (later number i d lt).1)
        ∙ ap (λ n. if nat_lt 32 (suc n) then Overgrown else Sent (at (next_relay number i d) d rest) 0) nine,
  )

  goes_if : (hands : Bool) → nat_lt i 7 ≡ hands → Goes allowed number i d rest (taken_if hands number i d rest m)
  goes_if true e = by (is_none (closing (relay number i) 6 m (onward (next_relay number i d))))
      (is_none (closing (relay number i) 6 m (destination d))) where
        by : (b c : Bool) → Goes allowed number i d rest (taken (load_plan number) (relay number i) (at i d rest) m
            (rule selector None (d ∷ []) (targets_if true number i d))
            (if b then Some (0, onward (next_relay number i d)) else (if c then Some (1, destination d) else None)))
        by true c = passes (ltb-true i 7 e)
        by false true = arrives 1
        by false false = inr (tt, refl)
  goes_if false e = by (is_none (closing (relay number i) 6 m (destination d))) where
    by : (c : Bool) → Goes allowed number i d rest (taken (load_plan number) (relay number i) (at i d rest) m
        (rule selector None (d ∷ []) (targets_if false number i d))
        (if c then Some (0, destination d) else None))
    by true = arrives 0
    by false = inr (tt, refl)

  goes : Goes allowed number i d rest (step (load_plan number) (at i d rest) m)
  unfolding load_plan
  goes = subst (Goes allowed number i d rest) (sym (ap (step_at (load_plan number) (at i d rest) m) (node_at number i inner)
      ∙ ap (step_by (load_plan number) (relay number i) (at i d rest) m) (row_at number i d rest digit)))
      (goes_if (nat_lt i 7) refl)

-- These hops are enough from a relay on. It hands a title on by one, two or three relays. After one relay follow two and after
-- two one, and after three follow three.
record AreEnough (number d i hops : ℕ) : Type 0 where
  some : 1 ≤ hops
  by_one : (number + i + d) % 3 ≡ 0 → 7 ≤ i + 3 * (hops - 1) / 2
  by_two : (number + i + d) % 3 ≡ 1 → 7 ≤ i + (3 * (hops - 1) + 1) / 2
  by_three : (number + i + d) % 3 ≡ 2 → 7 ≤ i + 3 * (hops - 1)

enough_from_first : (number d : ℕ) → AreEnough number d 0 6
enough_from_first number d =
    record { some = omega arith; by_one = λ e. omega arith; by_two = λ e. omega arith; by_three = λ e. omega arith }

-- one less is enough from the next relay on
enough_from_next : (number d i hops : ℕ) → i < 7 → AreEnough number d i (suc hops) → AreEnough number d (next_relay number i d) hops
enough_from_next number d i hops lt are = by ((number + i + d) % 3) refl where
  by : (r : ℕ) → (number + i + d) % 3 ≡ r → AreEnough number d (next_relay number i d) hops
  by zero e = let far = are.by_one e in record {
    some = omega (arith, lt, far);
    by_one = λ f. omega (arith, lt, e, far, f);
    by_two = λ f. omega (arith, lt, e, far, f);
    by_three = λ f. omega (arith, lt, e, far, f);
  }
  by (suc zero) e = let far = are.by_two e in record {
    some = omega (arith, lt, far);
    by_one = λ f. omega (arith, lt, e, far, f);
    by_two = λ f. omega (arith, lt, e, far, f);
    by_three = λ f. omega (arith, lt, e, far, f);
  }
  by (suc (suc zero)) e = let far = are.by_three e in record {
    some = omega (arith, lt, far);
    by_one = λ f. omega (arith, lt, e, far, f);
    by_two = λ f. omega (arith, lt, e, far, f);
    by_three = λ f. omega (arith, lt, e, far, f);
  }
  by (suc (suc (suc r))) e = absurd (omega (arith, e))

ends : (allowed : ℕ → ℕ → Type 0) (number d : ℕ) (rest : List ℕ) → d < 10 → length rest ≡ 9 → allowed (end_point d) 6
    → (n i : ℕ) (ms : List (List Mark)) → i < 8 → AreEnough number d i n → n ≤ length ms
    → IsSomeAnd (last (route (load_plan number) (at i d rest) ms)) (MayEnd allowed)
ends allowed number d rest digit nine may zero i ms inner enough long = absurd (omega (arith, enough.some))
ends allowed number d rest digit nine may (suc n) i [] inner enough long = absurd (omega (arith, long))
ends allowed number d rest digit nine may (suc n) i (m ∷ ms) inner enough long =
    by (λ lt. ends allowed number d rest digit nine may n (next_relay number i d) ms (later number i d lt).1
    (enough_from_next number d i n lt enough) (omega (arith, long)))
    (goes allowed number i d rest m inner digit nine may)
  where
    s : Step
    s = step (load_plan number) (at i d rest) m

    by : (i < 7 → IsSomeAnd (last (route (load_plan number) (at (next_relay number i d) d rest) ms)) (MayEnd allowed))
        → Goes allowed number i d rest s → IsSomeAnd (last (route (load_plan number) (at i d rest) (m ∷ ms))) (MayEnd allowed)
    by onward (inl (lt, is)) =
        subst (λ (o : Option Spot). IsSomeAnd (last (record { spot = at i d rest; step = s }
        ∷ follow o (λ next. route (load_plan number) next ms)))
        (MayEnd allowed)) (sym (ap next_of is))
        (last-onward (record { spot = at i d rest; step = s }) (route (load_plan number) (at (next_relay number i d) d rest) ms)
        (MayEnd allowed) (onward lt))
    by onward (inr (well, none)) =
        subst (λ (o : Option Spot). IsSomeAnd (last (record { spot = at i d rest; step = s }
        ∷ follow o (λ next. route (load_plan number) next ms)))
        (MayEnd allowed)) (sym none) well

-- the destinations are allowed
allowed_end : (d : ℕ) → d < 10 → Contains cover.allowed (end_point d, 6)
allowed_end d lt = (d, omega (arith, lt), by d lt) where
  by : (d : ℕ) → d < 10 → slice_index_or cover.allowed d (end_point d, 6) ≡ (end_point d, 6)
  by zero lt = refl
  by (suc zero) lt = refl
  by (suc (suc zero)) lt = refl
  by (suc (suc (suc zero))) lt = refl
  by (suc (suc (suc (suc zero)))) lt = refl
  by (suc (suc (suc (suc (suc zero))))) lt = refl
  by (suc (suc (suc (suc (suc (suc zero)))))) lt = refl
  by (suc (suc (suc (suc (suc (suc (suc zero))))))) lt = refl
  by (suc (suc (suc (suc (suc (suc (suc (suc zero)))))))) lt = refl
  by (suc (suc (suc (suc (suc (suc (suc (suc (suc zero))))))))) lt = refl
  by (suc (suc (suc (suc (suc (suc (suc (suc (suc (suc n)))))))))) lt = absurd (omega (arith, lt))

-- a title that the cover has
covered_well : (number : ℕ) (spot : Spot) (markings : List (List Mark)) → Covers cover spot → length markings ≡ 6
    → IsSomeAnd (last (route (load_plan number) spot markings)) (MayEnd (IsAllowed (load_plan number) spot))
unfolding load_plan
covered_well number spot ms has six = by spot.digits refl where
  by : (digits : List ℕ) → spot.digits ≡ digits
      → IsSomeAnd (last (route (load_plan number) spot ms)) (MayEnd (IsAllowed (load_plan number) spot))
  by [] e = absurd (omega (arith, has.least, ap length e))
  by (d ∷ rest) e =
      subst (λ (s : Spot). IsSomeAnd (last (route (load_plan number) s ms)) (MayEnd (IsAllowed (load_plan number) spot))) same
      (ends (IsAllowed (load_plan number) spot) number d rest digit (omega (arith, has.least, has.most, ap length e)) may 6 0 ms
      (omega arith) (enough_from_first number d) (omega (arith, six)))
    where
      digit : d < 10
      digit = subst (λ ds. All (λ x. x < 10) ds) e has.decimal 0 0 (omega arith)

      same : at 0 d rest ≡ spot
      same = ap (λ n. record { node = n; selector = selector; ssn = 6; digits = d ∷ rest }) has.node
          ∙ ap (λ s. record { node = spot.node; selector = s; ssn = 6; digits = d ∷ rest }) has.selector
          ∙ ap (λ s. record { node = spot.node; selector = spot.selector; ssn = s; digits = d ∷ rest }) has.ssn
          ∙ ap (λ ds. record { node = spot.node; selector = spot.selector; ssn = spot.ssn; digits = ds }) (sym e)

      may : IsAllowed (load_plan number) spot (end_point d) 6
      may = All-cons (λ c. Covers c spot → Contains c.allowed (end_point d, 6)) cover [] (λ h. allowed_end d digit)
          (All-nil (λ c. Covers c spot → Contains c.allowed (end_point d, 6)))

pub safe : (number : ℕ) → Safe (load_plan number) 6
unfolding load_plan
safe number spot markings (zero, c, lt, is, has) six = covered_well number spot markings (subst (λ x. Covers x spot) (sym is) has) six
safe number spot markings (suc k, c, lt, is, has) six = absurd (omega (arith, lt))
