-- What workers have seen of the published plans, through a batch.
use Rattle.std.proofs.Common.{◌≡◌, ℕ, ◌≤◌, zero, suc, List, [], ◌∷◌, length, take, get_or, Option, Some, None, refl, sym, ap}
use Rattle.std.proofs.Common.{◌∙◌, subst, le_refl, le_trans, arith}
use Rattle.std.specs.Option.{ForSome}
use mathlib.Core.List.{IsPrefix}
use Rattle.plan_check.specs.Verified.{Verified}
use Rattle.live_plan.specs.declared.place.Place.{Ghosts}
use Rattle.live_plan.specs.declared.worker.Worker.{Worker}
use Rattle.live_plan.specs.Batches.{AllPairs, Follows, GoesOn, IsByEvents, Lasts, Rests, SeesMore}
use Rattle.live_plan.specs.Entries.{entry_plan}
use Rattle.live_plan.specs.Plans.{pass_of}
use Rattle.live_plan.proofs.Machines.{number_at, batch_leads}
use Rattle.live_plan.proofs.Passed.{has_within, take_begins}
use Rattle.live_plan.proofs.Prefixes.{prefix_self, prefix_trans}

-- a beginning of a list is a beginning of each longer one
prefix_take : {A : Type 0} (xs ys : List A) (k : ℕ) → IsPrefix xs ys → length xs ≤ k → IsPrefix xs (take k ys)
prefix_take [] ys k p le = (take k ys, refl)
prefix_take (x ∷ xs) [] k p le = absurd (cc (p.1))
prefix_take (x ∷ xs) (y ∷ ys) zero p le = absurd (omega (arith, le))
prefix_take (x ∷ xs) (y ∷ ys) (suc k) p le =
    let rest = prefix_take xs ys k (p.0, cc (p.1)) (omega (arith, le)) in
    (rest.0, cc (p.1, rest.1))

prefix_whole : {A : Type 0} (xs ys : List A) → IsPrefix xs ys → take (length xs) ys ≡ xs
prefix_whole [] ys p = refl
prefix_whole (x ∷ xs) [] p = absurd (cc (p.1))
prefix_whole (x ∷ xs) (y ∷ ys) p = let rest = prefix_whole xs ys (p.0, cc (p.1)) in cc (p.1, rest)

pub prefix_long : {A : Type 0} (xs ys : List A) → IsPrefix xs ys → length xs ≤ length ys
prefix_long [] ys p = omega arith
prefix_long (x ∷ xs) [] p = absurd (cc (p.1))
prefix_long (x ∷ xs) (y ∷ ys) p = let rest = prefix_long xs ys (p.0, cc (p.1)) in omega (arith, rest)

-- of a list that is reported
module _ (o : Option (List Verified)) where
  pass_in : (k : ℕ) (plans : List Verified) → ForSome o (λ l. l ≡ plans) → ForSome (pass_of o k) (λ seen. IsPrefix seen plans)
  pass_in k plans told = by o told where
    by : (p : Option (List Verified)) → ForSome p (λ l. l ≡ plans) → ForSome (pass_of p k) (λ seen. IsPrefix seen plans)
    by None f seen e = absurd cc
    by (Some l) f seen e =
        let same : take k l ≡ seen = cc e in
        subst (λ (xs : List Verified). IsPrefix xs plans) same (subst (IsPrefix (take k l)) (f l refl) (take_begins l k))

  pass_past : (k : ℕ) (before plans : List Verified) → IsPrefix before plans → length before ≤ k → ForSome o (λ l. l ≡ plans)
      → ForSome (pass_of o k) (IsPrefix before)
  pass_past k before plans begins le told = by o told where
    by : (p : Option (List Verified)) → ForSome p (λ l. l ≡ plans) → ForSome (pass_of p k) (IsPrefix before)
    by None f seen e = absurd cc
    by (Some l) f seen e =
        let same : take k l ≡ seen = cc e in
        subst (IsPrefix before) same
        (subst (λ (xs : List Verified). IsPrefix before (take k xs)) (sym (f l refl)) (prefix_take before plans k begins le))

  pass_until : (k : ℕ) (before plans : List Verified) → IsPrefix before plans → k ≡ length before → ForSome o (λ l. l ≡ plans)
      → ForSome (pass_of o k) (λ seen. IsPrefix seen before)
  pass_until k before plans begins long told = by o told where
    by : (p : Option (List Verified)) → ForSome p (λ l. l ≡ plans) → ForSome (pass_of p k) (λ seen. IsPrefix seen before)
    by None f seen e = absurd cc
    by (Some l) f seen e =
        let same : take k l ≡ seen = cc e in
        let whole : take k l ≡ before = ap (λ (n : ℕ). take n l) long ∙ ap (λ (xs : List Verified). take (length before) xs) (f l refl)
        ∙ prefix_whole before plans begins in
        subst (λ (xs : List Verified). IsPrefix xs before) (sym whole ∙ same) (prefix_self before)

  none_in : (k : ℕ) (R : List Verified → Type 0) → o ≡ None → ForSome (pass_of o k) R
  none_in k R e seen is = absurd (cc (e, is))

module _ {P : Type 0} {g : Ghosts P} where
  pub sees_same : (plans : List Verified) (w : Worker P g) → SeesMore plans plans w w
  sees_same plans w = record {
    within = λ h. h;
    begins = λ seen e h more is. let same : seen ≡ more = cc (e, is) in subst (IsPrefix seen) same (prefix_self seen);
    rises = λ h. le_refl _;
    most = λ h. h;
  }

  -- a worker that knows all plans of a batch, of which at least those before it are published
  pub sees_on : (before after : List Verified) (u x : Worker P g) → IsPrefix before after → Follows after x → length before ≤ g.seen x.place
      → (u.kept.number ≤ length before → u.kept.number ≤ x.kept.number) → SeesMore before after u x
  sees_on before after u x begins f le rises = record {
    within = λ h. pass_in (g.plans x.place) (g.seen x.place) after f.told;
    begins = λ seen e h more is. prefix_trans seen before more h
        (pass_past (g.plans x.place) (g.seen x.place) before after begins le f.told more is);
    rises = rises;
    most = λ h. has_within after x.kept.number (entry_plan x.kept) f.has;
  }

  -- a worker that knows what may be published in a batch that begins
  pub sees_start : (before due : List Verified) (u v : Worker P g) → IsPrefix before due → Follows due v → g.seen v.place ≡ length before
      → v.kept.number ≡ length before → SeesMore before before u v
  sees_start before due u v begins f seen number = record {
    within = λ h. pass_until (g.plans v.place) (g.seen v.place) before due begins seen f.told;
    begins = λ s e h more is. prefix_trans s before more h
        (pass_past (g.plans v.place) (g.seen v.place) before due begins (omega (arith, seen)) f.told more is);
    rises = λ h. omega (arith, h, number);
    most = λ h. omega (arith, number);
  }

  pub sees_rest : (before after : List Verified) (u x : Worker P g) → IsPrefix before after → Rests (length before) u x
      → SeesMore before after u x
  sees_rest before after u x begins r = record {
    within = λ h. none_in (g.plans x.place) (g.seen x.place) (λ seen. IsPrefix seen after) r.untold;
    begins = λ s e h. none_in (g.plans x.place) (g.seen x.place) (IsPrefix s) r.untold;
    rises = λ h. omega (arith, h, r.number);
    most = λ h. omega (arith, r.number, prefix_long before after begins);
  }

  pub rests_on : (n : ℕ) (u v w : Worker P g) → GoesOn u v → Rests n v w → Rests n u w
  rests_on n u v w p r =
      let l = p.lasts 0 in record {
        index = r.index ∙ l.index;
        nodes = r.nodes ∙ l.nodes;
        entries = le_trans l.entries r.entries;
        refusals = le_trans l.refusals r.refusals;
        number = r.number;
        untold = r.untold;
      }

  pub rests_from : (n : ℕ) (u v w : Worker P g) → Lasts n u v → Rests n v w → Rests n u w
  rests_from n u v w l r = record {
    index = r.index ∙ l.index;
    nodes = r.nodes ∙ l.nodes;
    entries = le_trans l.entries r.entries;
    refusals = le_trans l.refusals r.refusals;
    number = r.number;
    untold = r.untold;
  }

  pub lasts_rest : (n : ℕ) (u w : Worker P g) → Rests n u w → Lasts n u w
  lasts_rest n u w r = record {
    index = r.index;
    nodes = r.nodes;
    entries = r.entries;
    refusals = r.refusals;
    number = λ le. omega (arith, le, r.number);
  }

  pub all_same : (plans : List Verified) (ws : List (Worker P g)) → AllPairs (SeesMore plans plans) ws ws
  all_same plans ws = record { long = refl; each = λ i d lt. sees_same plans (get_or ws i d) }

  -- what workers keep after a batch is what they learned in it
  pub by_events : (before after : List Verified) (ws ws' : List (Worker P g)) → IsPrefix before after
      → AllPairs (SeesMore before after) ws ws' → IsByEvents before after ws ws'
  by_events before after ws ws' begins sees valid =
      batch_leads (λ (w : Worker P g). w.kept.number) before after ws ws' begins sees.long
      (λ i d lt.
      let low : (get_or ws i d).kept.number ≤ length before =
      subst (λ n. n ≤ length before) (number_at (λ (w : Worker P g). w.kept.number) ws i d lt) (valid i) in
      ((sees.each i d lt).rises low, (sees.each i d lt).most low))
