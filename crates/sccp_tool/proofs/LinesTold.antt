-- The bound of a plan, and the numbers in the text of a message.
use Rattle.std.specs.Prelude.{◌≡◌, ◌<◌, ◌≤◌, ℕ, ◌+◌, ◌-◌, List, [], ◌∷◌, ◌++◌, codes, decimal, drop, length, take}
use Rattle.std.specs.Prelude.{Option, Some, IsSomeAnd}
use Rattle.std.specs.Prelude.{slice_get, refl}
use Rattle.std.proofs.Common.{◌⊎◌, inl, inr, sym, ◌∙◌, ap, subst, arith, get_or, length-take-le}
use Rattle.std.proofs.lemmas.Bool.{cases_lt}
use Rattle.std.proofs.lemmas.Option.{slice_get-get_or}
use Rattle.plan_model.proofs.Cutting.{cut_route, get_front, last_at, sent_to}
use Rattle.plan_model.proofs.Ways.{MayEnd-sent}
use Rattle.plan_model.specs.Covered.{IsAllowed}
use Rattle.plan_model.specs.Network.{Network}
use Rattle.plan_model.specs.Routes.{route}
use Rattle.plan_model.specs.Steps.{step}
use Rattle.plan_model.specs.Verdicts.{MayEnd, Safe, Tight, last}
use Rattle.plan_model.specs.declared.hop.Hop.{Hop}
use Rattle.plan_model.specs.declared.hop.Step.{Step}
use Rattle.plan_model.specs.declared.spot.Spot.{Spot}
use Rattle.sccp_base.specs.declared.mark.Mark.{Mark}
use Rattle.sccp_report.proofs.Parted.{no_blank, number_parted}
use Rattle.sccp_report.specs.Served.{end_words, journey_line, path_text, sent_lines}
use Rattle.sccp_report.specs.Values.{numbered}
use Rattle.sccp_tool.specs.Told.{HaveOneBound, LinesTellNumbers}

-- ---- one bound

there : {X : Type 0} (xs : List X) (k : ℕ) → k < length xs → (x : X) × (slice_get xs k ≡ Some x)
there [] k lt = absurd (omega (arith, lt))
there (x ∷ xs) k lt = (get_or (x ∷ xs) k x, slice_get-get_or (x ∷ xs) k x lt)

-- no route of a plan is longer than a bound for which it is safe
at_most : (plan : Network) (m n : ℕ) (s : Spot) (ms : List (List Mark)) → 1 ≤ m → Safe plan m → Tight plan n s ms → n ≤ m
at_most plan m n s ms some safe tight = by (cases_lt m n) where
  hops : List Hop
  hops = route plan s ms

  longer : m < n → ⊥
  longer lt =
      let many = tight.hops in
      let count = tight.count in
      let h = there hops m (omega (arith, many, lt)) in
      let place : m - 1 + 1 ≡ m = omega (arith, some) in
      let g = sent_to (λ marking spot. step plan spot marking) s ms (m - 1) h.0 (ap (slice_get hops) place ∙ h.1) in
      let short : length (take m ms) ≡ m = length-take-le m ms (omega (arith, count, lt)) in
      let few : length (take m hops) ≡ m - 1 + 1 = length-take-le m hops (omega (arith, many, lt)) ∙ sym place in
      let here : last (take m hops) ≡ Some g.0.step =
      last_at (take m hops) (m - 1) g.0 few (get_front hops m (m - 1) g.0 (omega (arith, some)) g.1) in
      let ends : IsSomeAnd (last (take m hops)) (MayEnd (IsAllowed plan s)) =
      subst (λ (hs : List Hop). IsSomeAnd (last hs) (MayEnd (IsAllowed plan s))) (cut_route (λ marking spot. step plan spot marking) s ms m)
      (safe s (take m ms) tight.covered short) in
      MayEnd-sent (IsAllowed plan s) g.0.step h.0.spot g.2 (subst (λ (o : Option Step). IsSomeAnd o (MayEnd (IsAllowed plan s))) here ends)

  by : (m < n) ⊎ (n ≤ m) → n ≤ m
  by (inl lt) = absurd (longer lt)
  by (inr le) = le

pub one_bound : HaveOneBound
one_bound plan a b x y =
    let below = at_most plan a.bound b.bound b.longest.spot b.longest.markings x.0.some x.0.safe y.1 in
    let above = at_most plan b.bound a.bound a.longest.spot a.longest.markings y.0.some y.0.safe x.1 in
    omega (arith, below, above)

-- ---- numbers

five : (a b c d e f : List ℕ) → a ++ b ++ c ++ d ++ e ++ f ≡ a ++ (b ++ c ++ d ++ e ++ f)
five [] b c d e f = refl
five (x ∷ a) b c d e f = ap (λ (t : List ℕ). x ∷ t) (five a b c d e f)

six : (a b c d e f g : List ℕ) → a ++ b ++ c ++ d ++ e ++ f ++ g ≡ a ++ (b ++ c ++ d ++ e ++ f ++ g)
six [] b c d e f g = refl
six (x ∷ a) b c d e f g = ap (λ (t : List ℕ). x ∷ t) (six a b c d e f g)

pub numbers_told : LinesTellNumbers
unfolding journey_line numbered
numbers_told p q line other number more j k us vs hl ho hn hm e =
    let a : List ℕ = path_text p j.path in
    let b : List ℕ = end_words p j.back us j.end in
    let c : List ℕ = path_text q k.path in
    let d : List ℕ = end_words q k.back vs k.end in
    let first = number_parted line other
    (codes " by " ++ decimal number ++ codes " via " ++ a ++ b ++ codes "\n" ++ sent_lines line us)
    (codes " by " ++ decimal more ++ codes " via " ++ c ++ d ++ codes "\n" ++ sent_lines other vs) hl ho no_blank no_blank
    (sym (six (decimal line) (codes " by " ++ decimal number) (codes " via ") a b (codes "\n") (sent_lines line us)) ∙ e
    ∙ six (decimal other) (codes " by " ++ decimal more) (codes " via ") c d (codes "\n") (sent_lines other vs)) in
    let second = number_parted number more
    (codes " via " ++ a ++ b ++ codes "\n" ++ sent_lines line us)
    (codes " via " ++ c ++ d ++ codes "\n" ++ sent_lines other vs) hn hm no_blank no_blank
    (sym (five (decimal number) (codes " via ") a b (codes "\n") (sent_lines line us)) ∙ ap (drop 4) first.1
    ∙ five (decimal more) (codes " via ") c d (codes "\n") (sent_lines other vs)) in
    (first.0, second.0)
