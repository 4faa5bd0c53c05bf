-- Lists that are made of what is kept.
use Rattle.std.proofs.Common.{◌≡◌, ℕ, ◌+◌, ◌<◌, zero, suc, List, [], ◌∷◌, ◌++◌, length, drop, get_or, Option, Some, None}
use Rattle.std.proofs.Common.{refl, sym, ◌∙◌, ap, subst, arith, append_assoc}
use Rattle.std.specs.Prelude.{filter_map, replicate}
use Rattle.std.specs.Option.{option_to_list}
use Rattle.relay_watch.specs.Kept.{unanswered, all_counted, counted_unanswered}
use Rattle.relay_watch.specs.declared.tally.Tally.{Tally}
use Rattle.relay_watch.specs.declared.unanswered.Unanswered.{Unanswered}
use Rattle.relay_watch.specs.declared.waiting.Waiting.{Waiting}

one_more : (i : ℕ) → i + 1 ≡ suc i
one_more i = omega arith

-- ---- the arrivals that nothing answered

consed : (named : List ℕ) (w : Waiting) (ws : List Waiting) (o : Option Unanswered) → unanswered named w ≡ o
    → option_to_list o ++ filter_map (unanswered named) ws ≡ filter_map (unanswered named) (w ∷ ws)
consed named w ws None e = rw e refl
consed named w ws (Some u) e = rw e refl

next_at : (named : List ℕ) (ws : List Waiting) (i : ℕ) (w : Waiting) → i < length ws → w ≡ get_or ws i w
    → option_to_list (unanswered named w) ++ filter_map (unanswered named) (drop (suc i) ws) ≡ filter_map (unanswered named) (drop i ws)
next_at named [] i w inside is = absurd (omega (arith, inside))
next_at named (v ∷ vs) zero w inside is =
    subst (λ (z : Waiting). option_to_list (unanswered named w) ++ filter_map (unanswered named) vs
    ≡ filter_map (unanswered named) (z ∷ vs))
    is (consed named w vs (unanswered named w) refl)
next_at named (v ∷ vs) (suc i) w inside is = next_at named vs i w (omega (arith, inside)) is

pub unanswered_next : (named : List ℕ) (found : List Unanswered) (ws : List Waiting) (i : ℕ) (w : Waiting) → i < length ws
    → w ≡ get_or ws i w
    → (found ++ option_to_list (unanswered named w)) ++ filter_map (unanswered named) (drop (i + 1) ws)
    ≡ found ++ filter_map (unanswered named) (drop i ws)
unanswered_next named found ws i w inside is =
    append_assoc found (option_to_list (unanswered named w)) (filter_map (unanswered named) (drop (i + 1) ws))
    ∙ ap (λ n. found ++ (option_to_list (unanswered named w) ++ filter_map (unanswered named) (drop n ws))) (one_more i)
    ∙ ap (λ xs. found ++ xs) (next_at named ws i w inside is)

-- ---- their counts

count_at : (relays : List Tally) (us : List Unanswered) (i : ℕ) (u : Unanswered) → i < length us
    → all_counted (counted_unanswered relays (Some (get_or us i u))) (drop (suc i) us) ≡ all_counted relays (drop i us)
count_at relays [] i u inside = absurd (omega (arith, inside))
count_at relays (v ∷ vs) zero u inside = refl
count_at relays (v ∷ vs) (suc i) u inside = count_at relays vs i u (omega (arith, inside))

pub count_next : (relays : List Tally) (us : List Unanswered) (i : ℕ) (u : Unanswered) → i < length us
    → all_counted (counted_unanswered relays (Some (get_or us i u))) (drop (i + 1) us) ≡ all_counted relays (drop i us)
count_next relays us i u inside =
    ap (λ n. all_counted (counted_unanswered relays (Some (get_or us i u))) (drop n us)) (one_more i) ∙ count_at relays us i u inside

-- ---- counts of targets that were not taken

nones : (n : ℕ) → replicate {A = ℕ} n 0 ++ replicate {A = ℕ} 1 0 ≡ replicate {A = ℕ} (suc n) 0
nones zero = refl
nones (suc n) = ap (λ xs. 0 ∷ xs) (nones n)

pub nones_more : (counts : List ℕ) (n : ℕ) → counts ≡ replicate {A = ℕ} n 0
    → counts ++ replicate {A = ℕ} 1 0 ≡ replicate {A = ℕ} (n + 1) 0
nones_more counts n e =
    ap (λ xs. xs ++ replicate {A = ℕ} 1 0) e ∙ nones n ∙ ap (λ m. replicate {A = ℕ} m 0) (sym (one_more n))
