-- What a batch of jobs leads to.
use Rattle.std.specs.Prelude.{◌≡◌, ◌⊎◌, ℕ, ◌+◌, ◌*◌, ◌%◌, ◌<◌, ◌≤◌, List, length, map, slice_get, slice_index_or, Option, Some, None}
use Rattle.std.specs.Prelude.{IfSome}
use Rattle.std.specs.Option.{ForSome}
use mathlib.Core.List.{IsPrefix}
use Rattle.plan_check.specs.Verified.{Verified}
use Rattle.relay_net.specs.declared.job.Job.{Job}
use Rattle.relay_net.specs.States.{State}
use Rattle.relay_net.specs.declared.served.Served.{Served}
use Rattle.live_plan.specs.declared.job_batch.JobBatch.{JobBatch}
use Rattle.live_plan.specs.declared.place.Place.{Ghosts}
use Rattle.live_plan.specs.declared.worker.Worker.{Worker}
use Rattle.live_plan.specs.Entries.{entry_plan}
use Rattle.live_plan.specs.Machine.{Machine, IsValid, LeadsTo}
use Rattle.live_plan.specs.Plans.{Rose, HasPlan, pass_of}
use Rattle.live_plan.specs.Routed.{journey_under}

-- the job's journey under the plan of the number, in this list
pub record IsServed (plans : List Verified) (states : List State) (job : Job) (s : Served) : Type 0 where
  pub plan : Verified
  pub has : HasPlan plans s.number plan
  pub journey : s.journey ≡ journey_under plan states job

-- The answers of a share, so far: those of every count-th job, from the share's own one on. The numbers lie between two
-- bounds, and never fall.
pub record IsShare (plans : List Verified) (batch : JobBatch) (count share from upto : ℕ) (answers : List Served) : Type 0 where
  pub each : (r : ℕ) (job : Job) (s : Served) → slice_get batch.jobs.now (r * count + share) ≡ Some job → slice_get answers r ≡ Some s
      → IsServed plans batch.states.now job s
  pub within : (r : ℕ) (s : Served) → slice_get answers r ≡ Some s → (from ≤ s.number) × (s.number ≤ upto)
  pub rising : (q r : ℕ) (s t : Served) → q ≤ r → slice_get answers q ≡ Some s → slice_get answers r ≡ Some t → s.number ≤ t.number

-- The answers of a batch: one for each job, in order, under a plan of the list. That is no earlier one than at the beginning.
-- In a share, which is the jobs of equal index modulo the count, the numbers never fall.
pub record AreServed (plans : List Verified) (states : List State) (jobs : List Job) (count from : ℕ) (answers : List Served) : Type 0 where
  pub long : length answers ≡ length jobs
  pub each : (i : ℕ) (job : Job) (s : Served) → slice_get jobs i ≡ Some job → slice_get answers i ≡ Some s
      → IsServed plans states job s × (from ≤ s.number)
  pub rising : (i j : ℕ) (s t : Served) → i ≤ j → i % count ≡ j % count → slice_get answers i ≡ Some s → slice_get answers j ≡ Some t
      → s.number ≤ t.number

-- each item is tied to the one at its place
pub record AllPairs {A : Type 0} (R : A → A → Type 0) (xs ys : List A) : Type 0 where
  pub long : length ys ≡ length xs
  pub each : (i : ℕ) (d : A) → i < length xs → R (slice_index_or xs i d) (slice_index_or ys i d)

module _ {P : Type 0} {g : Ghosts P} where
  -- a worker keeps a plan of the list, which is the list that its place reports, if any
  pub record Follows (plans : List Verified) (w : Worker P g) : Type 0 where
    pub told : ForSome (g.plans w.place) (λ l. l ≡ plans)
    pub has : HasPlan plans w.kept.number (entry_plan w.kept)

  -- what stays of a worker, and what does not fall; its number does not fall if it was at most n
  pub record Lasts (n : ℕ) (w w' : Worker P g) : Type 0 where
    pub index : w'.index ≡ w.index
    pub nodes : g.nodes w'.place ≡ g.nodes w.place
    pub entries : g.entries w.place ≤ g.entries w'.place
    pub refusals : g.refusals w.place ≤ g.refusals w'.place
    pub number : w.kept.number ≤ n → w.kept.number ≤ w'.kept.number

  -- what the worker has seen of the plans, if its place reports them
  abbrev pub pass_at : Worker P g → Option (List Verified)
  pass_at w = pass_of (g.plans w.place) (g.seen w.place)

  -- A worker that saw no more than the plans before sees no more than those after, and begins with what it had seen. The same is said
  -- of its number: it has not fallen, and is that of a plan that is published.
  pub record SeesMore (before after : List Verified) (w w' : Worker P g) : Type 0 where
    pub within : ForSome (pass_at w) (λ seen. IsPrefix seen before) → ForSome (pass_at w') (λ seen. IsPrefix seen after)
    pub begins : ForSome (pass_at w) (λ seen. IsPrefix seen before → ForSome (pass_at w') (λ more. IsPrefix seen more))
    pub rises : w.kept.number ≤ length before → w.kept.number ≤ w'.kept.number
    pub most : w.kept.number ≤ length before → w'.kept.number ≤ length after

  -- a worker keeps the plan of this number, and its place reports no plans
  pub record Rests (n : ℕ) (w w' : Worker P g) : Type 0 where
    pub index : w'.index ≡ w.index
    pub nodes : g.nodes w'.place ≡ g.nodes w.place
    pub entries : g.entries w.place ≤ g.entries w'.place
    pub refusals : g.refusals w.place ≤ g.refusals w'.place
    pub number : w'.kept.number ≡ n
    pub untold : g.plans w'.place ≡ None

  -- what a worker is after one job
  pub record GoesOn (w w' : Worker P g) : Type 0 where
    pub lasts : (n : ℕ) → Lasts n w w'
    pub rises : w.kept.number ≤ w'.kept.number
    pub seen : g.seen w.place ≤ g.seen w'.place
    pub follows : (plans : List Verified) → Follows plans w → Follows plans w'

  -- its place counted an entry or a refusal
  abbrev pub Counted : Worker P g → Worker P g → Type 0
  Counted w w' = Rose (g.entries w.place) (g.entries w'.place) ⊎ Rose (g.refusals w.place) (g.refusals w'.place)

  -- only the answers that it keeps may differ
  pub record KeepsAll (w w' : Worker P g) : Type 0 where
    pub index : w'.index ≡ w.index
    pub place : w'.place ≡ w.place
    pub kept : w'.kept ≡ w.kept

  -- a worker served its share, and keeps the answers unless memory was lacking
  pub record HasServed (batch : JobBatch) (count share : ℕ) (w w' : Worker P g) : Type 0 where
    pub goes_on : GoesOn w w'
    pub counted : share < length batch.jobs.now → Counted w w'
    pub enough : IfSome w'.answers (λ q. length batch.jobs.now ≤ length q.items * count + share)
    pub served : IfSome w'.answers (λ q. (plans : List Verified) → Follows plans w
        → IsShare plans batch count share w.kept.number w'.kept.number q.items)

  -- a new worker, when n plans are published
  pub record IsHired (plans : List Verified) (n nodes index : ℕ) (w : Worker P g) : Type 0 where
    pub index_is : w.index ≡ index
    pub nodes_are : g.nodes w.place ≡ nodes
    pub number : w.kept.number ≡ n
    pub follows : Follows plans w

  -- the published plans, and of each worker the number of the plan that it keeps
  abbrev pub machine_of : List Verified → List (Worker P g) → Machine
  machine_of plans workers = record { plans = plans; numbers = map (λ w. w.kept.number) workers }

  -- If no worker kept a plan with a higher number than the last one's, the batch is a list of events. Publications, and
  -- workers that learn of them, lead from the plans and numbers before to those after. So none has one afterwards either.
  abbrev pub IsByEvents : List Verified → List Verified → List (Worker P g) → List (Worker P g) → Type 0
  IsByEvents before after workers workers' = IsValid (machine_of before workers)
      → LeadsTo (machine_of before workers) (machine_of after workers')
