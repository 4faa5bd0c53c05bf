-- How a share of a batch goes on with one job.
use Rattle.std.proofs.Common.{◌≡◌, ℕ, ◌+◌, ◌*◌, ◌≤◌, suc, List, [], ◌∷◌, ◌++◌, length, slice_get, Option, Some, None, refl, sym, ap, ◌∙◌}
use Rattle.std.proofs.Common.{subst, inl, inr, ⊎_elim, le_refl, le_trans, arith, length-append}
use Rattle.std.proofs.Math.Nat.{suc-mul}
use Rattle.std.proofs.lemmas.Option.{slice_get_within}
use Rattle.std.specs.Prelude.{IfSome}
use Rattle.std.specs.Option.{ForSome}
use Rattle.plan_check.specs.Verified.{Verified}
use Rattle.relay_net.specs.declared.job.Job.{Job}
use Rattle.relay_net.specs.declared.served.Served.{Served}
use Rattle.live_plan.specs.declared.job_batch.JobBatch.{JobBatch}
use Rattle.live_plan.specs.declared.place.Place.{Ghosts}
use Rattle.live_plan.specs.declared.worker.Worker.{Worker}
use Rattle.live_plan.specs.Entries.{entry_plan}
use Rattle.live_plan.specs.Plans.{Rose, HasPlan}
use Rattle.live_plan.specs.Batches.{IsServed, IsShare, Lasts, GoesOn, Counted, KeepsAll}
use Rattle.live_plan.proofs.Passed.{get_snoc}

pub rose_less : (a b c : ℕ) → a ≤ b → Rose b c → Rose a c
rose_less a b c le (inl lt) = inl (omega arith)
rose_less a b c le (inr e) = inr e

-- if a place reports its list, what is kept then is of that list; if not, what is kept has stayed
follows_at : (o : Option (List Verified)) (plans : List Verified) (n n' seen : ℕ) (p p' : Verified)
    → IfSome o (λ l. (n' ≡ seen) × HasPlan l n' p') → (o ≡ None → (n' ≡ n) × (p' ≡ p)) → ForSome o (λ l. l ≡ plans) → HasPlan plans n p
    → HasPlan plans n' p'
follows_at None plans n n' seen p p' m same told has = let e = same refl in rw e.0 (rw e.1 has)
follows_at (Some l) plans n n' seen p p' m same told has = subst (λ x. HasPlan x n' p') (told l refl) m.1

module _ {P : Type 0} {g : Ghosts P} where
  pub goes_on : (w w' : Worker P g) → w'.index ≡ w.index → g.nodes w'.place ≡ g.nodes w.place → g.plans w'.place ≡ g.plans w.place
      → (g.entries w.place ≤ g.entries w'.place) × (g.refusals w.place ≤ g.refusals w'.place)
      → w.kept.number ≤ w'.kept.number → g.seen w.place ≤ g.seen w'.place
      → IfSome (g.plans w'.place) (λ l. (w'.kept.number ≡ g.seen w'.place)
      × HasPlan l w'.kept.number (entry_plan w'.kept)) → (g.plans w.place ≡ None → w'.kept ≡ w.kept) → GoesOn w w'
  goes_on w w' index nodes plans counts rises seen told untold = record {
    lasts = λ n. record { index = index; nodes = nodes; entries = counts.0; refusals = counts.1; number = λ le. rises };
    rises = rises;
    seen = seen;
    follows = λ l f. record {
      told = subst (λ o. ForSome o (λ x. x ≡ l)) (sym plans) f.told;
      has = follows_at (g.plans w'.place) l w.kept.number w'.kept.number (g.seen w'.place) (entry_plan w.kept) (entry_plan w'.kept) told
          (λ none. let e = untold (sym plans ∙ none) in (ap (λ k. k.number) e, ap entry_plan e))
          (subst (λ o. ForSome o (λ x. x ≡ l)) (sym plans) f.told) f.has;
    };
  }

  pub lasts_trans : (n : ℕ) (u v w : Worker P g) → Lasts n u v → GoesOn v w → Lasts n u w
  lasts_trans n u v w p q =
      let r = q.lasts n in record {
        index = r.index ∙ p.index;
        nodes = r.nodes ∙ p.nodes;
        entries = le_trans p.entries r.entries;
        refusals = le_trans p.refusals r.refusals;
        number = λ le. le_trans (p.number le) q.rises;
      }

  pub goes_trans : (u v w : Worker P g) → GoesOn u v → GoesOn v w → GoesOn u w
  goes_trans u v w p q = record {
    lasts = λ n. lasts_trans n u v w (p.lasts n) q;
    rises = le_trans p.rises q.rises;
    seen = le_trans p.seen q.seen;
    follows = λ l f. q.follows l (p.follows l f);
  }

  pub counts_last : (u v w : Worker P g) → GoesOn u v → Counted v w → Counted u w
  counts_last u v w p c =
      let l = p.lasts 0 in
      ⊎_elim (λ r. inl (rose_less (g.entries u.place) (g.entries v.place) (g.entries w.place) l.entries r))
      (λ r. inr (rose_less (g.refusals u.place) (g.refusals v.place) (g.refusals w.place) l.refusals r)) c

-- one more answer
pub share_more : (plans : List Verified) (batch : JobBatch) (count share from upto : ℕ) (answers : List Served) (s : Served) (job : Job)
    → IsShare plans batch count share from upto answers → from ≤ upto → upto ≤ s.number
    → slice_get batch.jobs.now (length answers * count + share) ≡ Some job → IsServed plans batch.states.now job s
    → IsShare plans batch count share from s.number (answers ++ s ∷ [])
share_more plans batch count share from upto answers s job h some more at served = record {
  each = λ r other t there e. ⊎_elim (h.each r other t there)
      (λ (last : (r ≡ length answers) × (s ≡ t)). let same : job
      ≡ other = cc (at, subst (λ k. slice_get batch.jobs.now (k * count + share) ≡ Some other) last.0 there) in subst
      (IsServed plans batch.states.now other) last.1 (subst (λ (j : Job). IsServed plans batch.states.now j s) same served))
      (get_snoc answers s r t e);
  within = λ r t e. ⊎_elim (λ o. let w = h.within r t o in (w.0, le_trans w.1 more))
      (λ (last : (r ≡ length answers) × (s ≡ t)). subst (λ (u : Served). (from ≤ u.number) × (u.number ≤ s.number)) last.1
      (le_trans some more, le_refl _)) (get_snoc answers s r t e);
  rising = λ q r a b le x y.
      ⊎_elim
      (λ b_old. ⊎_elim (λ a_old. h.rising q r a b le a_old b_old)
      (λ (last : (q ≡ length answers) × (s ≡ a)). let inside = slice_get_within answers r b b_old in absurd
      (omega (arith, last.0, le, inside))) (get_snoc answers s q a x))
      (λ (b_last : (r ≡ length answers) × (s ≡ b)). ⊎_elim
      (λ a_old. subst (λ (u : Served). a.number ≤ u.number) b_last.1 (le_trans (h.within q a a_old).1 more))
      (λ (a_last : (q ≡ length answers) × (s ≡ a)). subst (λ (u : Served). a.number ≤ u.number) b_last.1
      (subst (λ (u : Served). u.number ≤ s.number) a_last.1 (le_refl _))) (get_snoc answers s q a x))
      (get_snoc answers s r b y);
}

pub next_at : (answers : List Served) (s : Served) (count share : ℕ)
    → length (answers ++ s ∷ []) * count + share ≡ length answers * count + share + count
next_at answers s count share =
    let long : length (answers ++ s ∷ []) ≡ suc (length answers) = omega (arith, length-append answers (s ∷ [])) in
    let e : length (answers ++ s ∷ []) * count ≡ length answers * count + count = ap (λ n. n * count) long
    ∙ suc-mul (length answers) count in
    omega (arith, e)

module _ {P : Type 0} {g : Ghosts P} where
  -- only the answers that it keeps differ
  pub goes_same : (u v w : Worker P g) → GoesOn u v → KeepsAll v w → GoesOn u w
  goes_same u v w p k = record {
    lasts = λ n.
        let l = p.lasts n in record {
          index = k.index ∙ l.index;
          nodes = ap g.nodes k.place ∙ l.nodes;
          entries = rw (k.place) l.entries;
          refusals = rw (k.place) l.refusals;
          number = λ le. rw (k.kept) (l.number le);
        };
    rises = rw (k.kept) p.rises;
    seen = rw (k.place) p.seen;
    follows = λ l f.
        let b = p.follows l f in record {
          told = rw (k.place) b.told;
          has = rw (k.kept) b.has;
        };
  }

  pub counted_same : (u v w : Worker P g) → Counted u v → KeepsAll v w → Counted u w
  counted_same u v w c k = rw (k.place) c
