-- routes and the spots that titles get to
use Rattle.std.specs.Prelude.{ℕ, ◌≡◌, ◌<◌, ◌≤◌, List, [], ◌∷◌, ◌++◌, length, take, get_or, Option, Some, None, IsSomeAnd, refl}
use Rattle.std.specs.List.{Any}
use Rattle.std.proofs.Common.{zero, suc, sym, ◌∙◌, ap, subst, ⊎_elim, arith, length-append, length-take-le}
use Rattle.std.proofs.lemmas.Bool.{cases_lt}
use Rattle.sccp_base.specs.declared.mark.Mark.{Mark}
use Rattle.plan_model.specs.declared.spot.Spot.{Spot}
use Rattle.plan_model.specs.declared.hop.Step.{Step}
use Rattle.plan_model.specs.declared.hop.Hop.{Hop}
use Rattle.plan_model.specs.Network.{Network}
use Rattle.plan_model.specs.Covered.{Covered, IsAllowed}
use Rattle.plan_model.specs.Next.{next_of}
use Rattle.plan_model.specs.Steps.{step}
use Rattle.plan_model.specs.Routes.{route, onward}
use Rattle.plan_model.specs.Verdicts.{MayEnd, Safe, HasSpot}
use Rattle.plan_model.proofs.Ways.{Sends, Sends-take, last-Sends, MayEnd-sent, hop_at}
use Rattle.plan_model.proofs.SafeWays.{covered_by}
use Rattle.plan_unused.specs.Met.{IsMet}

abbrev pub does : Network → List Mark → Spot → Step
does plan marking spot = step plan spot marking

-- nothing is prohibited
abbrev pub free : List Mark
free = []

hop_sends_at : (plan : Network) (s : Spot) (ms : List (List Mark)) (spot : Spot) (k : ℕ) (x : Hop) → k < length (route plan s ms)
    → get_or (route plan s ms) k x ≡ x → x.spot ≡ spot → (n : ℕ) × (n < length ms) × Sends (does plan) s (take n ms) spot
hop_sends_at plan s [] spot k x lt at p = absurd (omega (arith, lt))
hop_sends_at plan s (m ∷ ms) spot zero x lt at p = (0, omega arith, ap (λ (h : Hop). h.spot) at ∙ p)
hop_sends_at plan s (m ∷ ms) spot (suc j) x lt at p =
    elim (next_of (step plan s m)) as (λ o. next_of (step plan s m) ≡ o → j < length (onward o (λ next. route plan next ms))
    → get_or (onward o (λ next. route plan next ms)) j x ≡ x
    → (n : ℕ) × (n < length (m ∷ ms)) × Sends (does plan) s (take n (m ∷ ms)) spot) [
      | None ↦ λ e l g. absurd (omega (arith, l))
      | Some u ↦ λ e l g. let r = hop_sends_at plan u ms spot j x l g p in (suc r.0, omega (arith, r.1), (u, e, r.2))
    ] refl (omega (arith, lt)) at

-- a hop of a route is at a spot to which the title is sent
pub hop_sends : (plan : Network) (s : Spot) (ms : List (List Mark)) (spot : Spot) → Any (λ hop. hop.spot ≡ spot) (route plan s ms)
    → (n : ℕ) × (n < length ms) × Sends (does plan) s (take n ms) spot
hop_sends plan s ms spot h = hop_sends_at plan s ms spot h.0 h.1 h.2 h.3 h.4

sends_any : (plan : Network) (s : Spot) (ms : List (List Mark)) (spot : Spot) → Sends (does plan) s ms spot
    → Any (λ hop. hop.spot ≡ spot) (route plan s (ms ++ free ∷ []))
sends_any plan s [] spot e = (0, hop_at plan s free, omega arith, refl, e)
sends_any plan s (m ∷ ms) spot a =
    let r = sends_any plan a.0 ms spot a.2 in
    subst (λ (o : Option Spot). Any (λ hop. hop.spot ≡ spot) (hop_at plan s m ∷ onward o (λ next. route plan next (ms ++ free ∷ []))))
    (sym a.1) (suc r.0, r.1, omega (arith, r.2), r.3, r.4)

-- where a covered title is sent within thirteen hops, it gets within fourteen
pub met_from : (plan : Network) (number : ℕ) (start : Spot) (ms : List (List Mark)) (spot : Spot) → HasSpot plan number start
    → length ms ≤ 13 → Sends (does plan) start ms spot → IsMet plan number spot
met_from plan number start ms spot has few sends =
    record {
      start = start;
      markings = ms ++ free ∷ [];
      covered = has;
      few = omega (arith, few, length-append ms (free ∷ []));
      meets = sends_any plan start ms spot sends;
    }

-- no title is still sent on at the bound
never_sent : (plan : Network) (bound : ℕ) (s : Spot) (ms : List (List Mark)) (t : Spot) → Safe plan bound → Covered plan s
    → length ms ≡ bound → Sends (does plan) s ms t → ⊥
never_sent plan bound s [] t safe covered len a = safe s [] covered len
never_sent plan bound s (m ∷ ms) t safe covered len a =
    let r = last-Sends (does plan) s m ms t a in
    MayEnd-sent (IsAllowed plan s) r.0 t r.2 (subst (λ (o : Option Step). IsSomeAnd o (MayEnd (IsAllowed plan s))) r.1
    (safe s (m ∷ ms) covered len))

pub within_fourteen : (plan : Network) (bound number : ℕ) (start spot : Spot) (markings : List (List Mark)) → bound ≤ 14 → Safe plan bound
    → HasSpot plan number start → Any (λ hop. hop.spot ≡ spot) (route plan start markings) → IsMet plan number spot
within_fourteen plan bound number start spot markings le safe has any =
    ⊎_elim
    (λ (lt : k.0 < 14). met_from plan number start front spot has (omega (arith, lt, size)) k.2)
    (λ (far : 14 ≤ k.0).
    let r = Sends-take (does plan) start front spot bound k.2 (omega (arith, far, le, size)) in
    absurd (never_sent plan bound start (take bound front) r.0 safe (covered_by plan number start has)
    (length-take-le bound front (omega (arith, far, le, size))) r.1))
    (cases_lt k.0 14)
  where
    k : (n : ℕ) × (n < length markings) × Sends (does plan) start (take n markings) spot
    k = hop_sends plan start markings spot any

    front : List (List Mark)
    front = take k.0 markings

    size : length front ≡ k.0
    size = length-take-le k.0 markings (omega (arith, k.1))
