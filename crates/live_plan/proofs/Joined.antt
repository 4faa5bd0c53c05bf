-- The answers of blocks, put together again.
use Rattle.std.proofs.Common.{◌≡◌, ℕ, zero, suc, ◌+◌, ◌≤◌, min, List, [], ◌∷◌, ◌++◌, length, map, take, drop, slice_get, Some, refl, sym}
use Rattle.std.proofs.Common.{ap, subst, ◌∙◌, le_refl, arith}
use Rattle.std.proofs.lemmas.List.{drop-take, length-append, length-map, length-take, map-append, take-append-drop, take-take}
use Rattle.std.specs.List.{All, remove}
use Rattle.std.proofs.lemmas.List.Elements.{All-append, All-drop, All-pop, All-take}
use Rattle.plan_check.specs.Verified.{Verified}
use Rattle.relay_net.specs.declared.job.Job.{Job}
use Rattle.relay_net.specs.States.{State}
use Rattle.relay_net.specs.declared.served.Served.{Served}
use Rattle.live_plan.specs.Batches.{AreServed}
use Rattle.live_plan.specs.Blocks.{answer_under}
use Rattle.live_plan.specs.Plans.{HasPlan}
use Rattle.live_plan.proofs.Passed.{get_map}

pub All-remove : {A : Type 0} (P : A → Type 0) (xs : List A) (i : ℕ) → All P xs → All P (remove xs i)
All-remove P xs i all = All-append P (take i xs) (drop (suc i) xs) (All-take P i xs all) (All-drop P (suc i) xs all)

-- the items of the last list are added after those that were taken so far
pub all_taken : {A : Type 0} (P : A → Type 0) (lists left : List (List A)) (last taken more : List A) → lists ≡ left ++ last ∷ []
    → more ≡ taken ++ last → All (λ l. All P l) lists × All P taken → All (λ l. All P l) left × All P more
all_taken P lists left last taken more e f all =
    let both = All-pop (λ l. All P l) lists left (Some last) e all.0 in
    (both.0, subst (All P) (sym f) (All-append P taken last all.1 both.1))

module _ {A B : Type 0} (f : A → B) where
  -- the first of them, and those that are left, are all
  pub all_of_them : (xs : List A) (ys : List B) → ys ≡ map f (take (length ys) xs) → ys ++ map f (drop (length ys) xs) ≡ map f xs
  all_of_them xs ys is = ap (λ l. l ++ map f (drop (length ys) xs)) is ∙ sym (map-append f (take (length ys) xs) (drop (length ys) xs))
      ∙ ap (map f) (take-append-drop (length ys) xs)

  pub no_more_than : (xs : List A) (ys : List B) → ys ≡ map f (take (length ys) xs) → length ys ≤ length xs
  no_more_than xs ys is =
      let long : length ys ≡ min (length ys) (length xs) = ap length is ∙ length-map (take (length ys) xs) f ∙ length-take (length ys) xs in
      omega (arith, long)

  -- two parts, one after the other, from the beginning
  pub two_parts : (xs : List A) (ys zs : List B) → ys ≡ map f (take (length ys) xs) → zs ≡ map f (take (length zs) (drop (length ys) xs))
      → ys ++ zs ≡ map f (take (length (ys ++ zs)) xs)
  two_parts xs ys zs first then =
      let n = length ys in
      let m = length zs in
      let front : take n (take (n + m) xs) ≡ take n xs = take-take n (n + m) xs (omega arith) in
      let parts : take n xs ++ take m (drop n xs) ≡ take (n + m) xs = ap (λ l. l ++ take m (drop n xs)) (sym front)
      ∙ ap (λ l. take n (take (n + m) xs) ++ l) (sym (drop-take n m xs)) ∙ take-append-drop n (take (n + m) xs) in
      ap (λ l. l ++ zs) first ∙ ap (λ l. map f (take n xs) ++ l) then ∙ sym (map-append f (take n xs) (take m (drop n xs)))
      ∙ ap (map f) parts ∙ ap (λ k. map f (take k xs)) (sym (length-append ys zs))

-- a value that all items give is that of each of them
alike : {A B : Type 0} (f : A → B) (g : B → ℕ) (n : ℕ) → ((x : A) → g (f x) ≡ n) → (xs : List A) (i : ℕ) (y : B)
    → slice_get (map f xs) i ≡ Some y → g y ≡ n
alike f g n each [] i y at = absurd cc
alike f g n each (x ∷ xs) zero y at = let is : f x ≡ y = cc at in sym (ap g is) ∙ each x
alike f g n each (x ∷ xs) (suc i) y at = alike f g n each xs i y at

-- all jobs under the last plan
pub under_last : (plans : List Verified) (plan : Verified) (states : List State) (jobs : List Job) (count : ℕ)
    → HasPlan plans (length plans) plan → AreServed plans states jobs count (length plans)
    (map (answer_under (length plans) plan states) jobs)
under_last plans plan states jobs count has =
    let n = length plans in
    let answer : Job → Served = answer_under n plan states in
    let numbered : (i : ℕ) (s : Served) → slice_get (map answer jobs) i ≡ Some s
    → s.number ≡ n = λ i s at. alike answer (λ s. s.number) n (λ job. refl) jobs i s at in
    record {
      long = length-map jobs answer;
      each = λ i job s there at.
          let there' = get_map answer jobs i job there in
          let is : s ≡ answer job = cc (at, there') in
          (record { plan = plan; has = rw (numbered i s at) has; journey = ap (λ s. s.journey) is }, rw (numbered i s at) (le_refl n));
      rising = λ i j s t le same at_i at_j. rw (numbered i s at_i, numbered j t at_j) (le_refl n);
    }
