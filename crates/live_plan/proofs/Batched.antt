-- The answers of all shares as those of the batch.
use Rattle.std.proofs.Common.{◌≡◌, ℕ, ◌+◌, ◌*◌, ◌/◌, ◌%◌, ◌<◌, ◌≤◌, List, [], ◌∷◌, ◌++◌, length, take, drop, get_or, slice_get, Option}
use Rattle.std.proofs.Common.{Some, None, Result, Ok, Err, inl, inr, ⊎_elim, refl, sym, ap, ◌∙◌, subst, le_trans, arith}
use Rattle.std.specs.Prelude.{IfSome, IsSomeAnd, IfOk}
use Rattle.std.proofs.Math.Nat.{mod-lt, div-mul-le_self}
use Rattle.std.proofs.lemmas.Nat.{div-add-mod', le-div}
use Rattle.std.proofs.lemmas.Option.{slice_get_within}
use Rattle.plan_check.specs.Verified.{Verified}
use Rattle.relay_net.specs.declared.served.Served.{Served}
use Rattle.live_plan.specs.declared.job_batch.JobBatch.{JobBatch}
use Rattle.live_plan.specs.declared.place.Place.{Ghosts}
use Rattle.live_plan.specs.declared.worker.Worker.{Worker}
use Rattle.live_plan.specs.Batches.{AreServed, Follows, Lasts, Counted, KeepsAll, HasServed}
use Rattle.live_plan.proofs.Shares.{rose_less, goes_same, lasts_trans, counted_same}

pub first_item : {A : Type 0} (xs : List A) → 0 < length xs → A
first_item [] lt = absurd (omega arith)
first_item (x ∷ xs) lt = x

pub if_ok : {A E : Type 0} (P Q : A → Type 0) (r : Result A E) → ((x : A) → P x → Q x) → IfOk r P → IfOk r Q
if_ok P Q (Ok x) f p = f x p
if_ok P Q (Err e) f p = tt

pub is_some : {A : Type 0} (o : Option A) (x : A) (P : A → Type 0) → o ≡ Some x → P x → IsSomeAnd o P
is_some o x P e p = rw e p

some_both : {A : Type 0} (o : Option A) (P Q : A → Type 0) → IfSome o P → IsSomeAnd o Q → (x : A) × P x × Q x
some_both None P Q p q = absurd q
some_both (Some x) P Q p q = (x, p, q)

some_three : {A : Type 0} (o : Option A) (P Q R : A → Type 0) → IfSome o P → IsSomeAnd o Q → IsSomeAnd o R → (x : A) × P x × Q x × R x
some_three None P Q R p q r = absurd q
some_three (Some x) P Q R p q r = (x, p, q, r)

-- a list written back over a whole list of its length is the result
pub whole_back : {A : Type 0} (xs ys : List A) → length ys ≡ length xs → take (length xs) (ys ++ drop (length ys) xs) ≡ ys
whole_back [] [] e = refl
whole_back [] (y ∷ ys) e = absurd (omega (arith, e))
whole_back (x ∷ xs) [] e = absurd (omega (arith, e))
whole_back (x ∷ xs) (y ∷ ys) e = ap (λ zs. y ∷ zs) (whole_back xs ys (omega (arith, e)))

module _ {P : Type 0} {g : Ghosts P} where
  pub counted_from : (n : ℕ) (u v w : Worker P g) → Lasts n u v → Counted v w → Counted u w
  counted_from n u v w l c = ⊎_elim (λ r. inl (rose_less (g.entries u.place) (g.entries v.place) (g.entries w.place) l.entries r))
      (λ r. inr (rose_less (g.refusals u.place) (g.refusals v.place) (g.refusals w.place) l.refusals r)) c

  module _ (plans : List Verified) (batch : JobBatch) (count from : ℕ) (before after : List (Worker P g))
      (answers : List Served) (long : length answers ≡ length batch.jobs.now) (some : 0 < count) (all : count ≡ length before)
      (served : (i : ℕ) (d : Worker P g) → i < length before → HasServed batch (length before) i (get_or before i d) (get_or after i d))
      (follow : (i : ℕ) (d : Worker P g) → i < count → Follows plans (get_or before i d))
      (begun : (i : ℕ) (d : Worker P g) → i < count → (get_or before i d).kept.number ≡ from)
      (taken : (i : ℕ) (d : Worker P g) → i < length batch.jobs.now
      → IsSomeAnd (get_or after (i % count) d).answers (λ q. slice_get answers i ≡ slice_get q.items (i / count))) where
    d : Worker P g
    d = first_item before (subst (λ n. 0 < n) all some)

    inside : (i : ℕ) (s : Served) → slice_get answers i ≡ Some s → i < length batch.jobs.now
    inside i s at = subst (λ n. i < n) long (slice_get_within answers i s at)

    served_by : (i : ℕ) (d : Worker P g) → i < count → HasServed batch count i (get_or before i d) (get_or after i d)
    served_by i d lt = subst (λ n. HasServed batch n i (get_or before i d) (get_or after i d)) (sym all)
        (served i d (subst (λ n. i < n) all lt))

    pub batch_served : AreServed plans batch.states.now batch.jobs.now count from answers
    batch_served = record {
      long = long;
      each = λ i job s there at.
          let k = i % count in
          let k_lt : k < count = mod-lt i some in
          let h = served_by k d k_lt in
          let both = some_both (get_or after k d).answers _ _ h.served (taken i d (inside i s at)) in
          let share = both.1 plans (follow k d k_lt) in
          let here = sym both.2 ∙ at in
          let same : i / count * count + k ≡ i = div-add-mod' i count in (
            share.each (i / count) job s (subst (λ n. slice_get batch.jobs.now n ≡ Some job) (sym same) there) here,
            subst (λ n. n ≤ s.number)
                (begun k d k_lt) (share.within (i / count) s here).0,
          );
      rising = λ i j s t le same at_i at_j.
          let k = i % count in
          let k_lt : k < count = mod-lt i some in
          let h = served_by k d k_lt in
          let other = subst (λ n. IsSomeAnd (get_or after n d).answers (λ q. slice_get answers j ≡ slice_get q.items (j / count)))
          (sym same) (taken j d (inside j t at_j)) in
          let both = some_three (get_or after k d).answers _ _ _ h.served (taken i d (inside i s at_i)) other in
          let share = both.1 plans (follow k d k_lt) in
          share.rising (i / count) (j / count) s t (le-div (i / count) j count some (le_trans (div-mul-le_self i count) le)) (sym both.2
          ∙ at_i) (sym both.3 ∙ at_j);
    }

  -- a worker through a batch: it is briefed, serves, and gives its answers
  module _ (n : ℕ) (u v w x : Worker P g) (batch : JobBatch) (count share : ℕ) (l : Lasts n u v)
      (h : HasServed batch count share v w) (k : KeepsAll w x) where
    pub lasts_through : Lasts n u x
    lasts_through = lasts_trans n u v x l (goes_same v w x h.goes_on k)

    pub counted_through : share < length batch.jobs.now → Counted u x
    counted_through lt = counted_from n u v x l (counted_same v w x (h.counted lt) k)

    pub follows_through : (plans : List Verified) → Follows plans v → Follows plans x
    follows_through plans f = (goes_same v w x h.goes_on k).follows plans f

pub both_ok : {A E : Type 0} (P Q : A → Type 0) (r : Result A E) → IfOk r P → IfOk r Q → IfOk r (λ x. P x × Q x)
both_ok P Q (Ok x) p q = (p, q)
both_ok P Q (Err e) p q = tt
