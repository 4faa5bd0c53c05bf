use Rattle.std.proofs.Common.{◌≡◌, ◌<◌, ◌++◌, List, length, take, drop, get_or, ap, sym, ◌∙◌, subst}
use Rattle.std.specs.Prelude.{IfOk}
use mathlib.Core.List.{IsPrefix}
use Rattle.plan_check.specs.Verified.{Verified}
use Rattle.relay_net.specs.declared.job.Job.{Job}
use Rattle.live_plan.specs.Batches.{AllPairs, AreServed, Counted, Follows, Lasts, SeesMore}
use Rattle.live_plan.specs.Tellers.{plans_of}
use Rattle.live_plan.proofs.Batched.{if_ok, whole_back}
use Rattle.live_plan.proofs.Passes.{all_same, by_events}
use Rattle.live_plan.proofs.Prefixes.{prefix_self}
use Rattle.live_plan.proofs.batch.run_batch.Goals as goal

pub returns-clause-published : goal.returns-clause-published
returns-clause-published g c = if_ok _ _ c.serve_batch.result (λ answers e. e ∙ c.in_ok-begin.ensures.due) c.serve_batch.ensures.published

pub returns-clause-served : goal.returns-clause-served
returns-clause-served g c =
    let plans = plans_of c.serve_batch.new.teller in
    let states = c.args.states.now in
    let same : c.as_mut_slice-workers.result.now ≡ c.args.workers.now = c.as_mut_slice-workers.ensures.value in
    let told : c.as_slice-jobs.result.now ≡ c.args.jobs.now = c.as_slice-jobs.ensures in
    let before : plans_of c.begin.new.self ≡ plans_of c.args.teller.now = c.begin.ensures.plans in
    subst (λ (l : List Verified). IfOk c.serve_batch.result
    (AreServed plans states c.args.jobs.now (length c.args.workers.now) (length l))) before
    (subst (λ (js : List Job). IfOk c.serve_batch.result
    (AreServed plans states js (length c.args.workers.now) (length (plans_of c.begin.new.self)))) told
    (subst (λ n. IfOk c.serve_batch.result (AreServed plans states c.as_slice-jobs.result.now n (length (plans_of c.begin.new.self))))
    (ap length same) c.serve_batch.ensures.served))

pub returns-clause-counted : goal.returns-clause-counted
returns-clause-counted g c =
    let before = c.args.workers.now in
    let after = c.serve_batch.new.workers in
    let same : c.as_mut_slice-workers.result.now ≡ before = c.as_mut_slice-workers.ensures.value in
    let told : c.as_slice-jobs.result.now ≡ c.args.jobs.now = c.as_slice-jobs.ensures in
    let back : take (length before) (after ++ drop (length after) before) ≡ after =
    whole_back before after (c.serve_batch.ensures.lasts.long ∙ ap length same) in
    if_ok _ _ c.serve_batch.result (λ answers h i d lt inside.
    let counted = h i d (subst (λ n. i < n) (sym (ap length same)) lt) (subst (λ n. i < n) (sym (ap length told)) inside) in
    subst (λ (ws : List _). Counted (get_or before i d) (get_or ws i d)) (sym back)
    (subst (λ (ws : List _). Counted (get_or ws i d) (get_or after i d)) same counted)) c.serve_batch.ensures.counted

pub returns-clause-follows : goal.returns-clause-follows
returns-clause-follows g c =
    let before = c.args.workers.now in
    let after = c.serve_batch.new.workers in
    let same : c.as_mut_slice-workers.result.now ≡ before = c.as_mut_slice-workers.ensures.value in
    let back : take (length before) (after ++ drop (length after) before) ≡ after =
    whole_back before after (c.serve_batch.ensures.lasts.long ∙ ap length same) in
    if_ok _ _ c.serve_batch.result (λ answers h i d lt.
    subst (λ (ws : List _). Follows (plans_of c.serve_batch.new.teller) (get_or ws i d)) (sym back)
    (h i d (subst (λ n. i < n) (sym (ap length same)) lt))) c.serve_batch.ensures.follows

pub returns-clause-lasts : goal.returns-clause-lasts
returns-clause-lasts g c =
    let before = c.args.workers.now in
    let after = c.serve_batch.new.workers in
    let plans : plans_of c.begin.new.self ≡ plans_of c.args.teller.now = c.begin.ensures.plans in
    let same : c.as_mut_slice-workers.result.now ≡ before = c.as_mut_slice-workers.ensures.value in
    let back : take (length before) (after ++ drop (length after) before) ≡ after =
    whole_back before after (c.serve_batch.ensures.lasts.long ∙ ap length same) in
    let lasts = subst (λ (ws : List _). AllPairs (Lasts (length (plans_of c.begin.new.self))) ws after) same c.serve_batch.ensures.lasts in
    subst (λ (ws : List _). AllPairs (Lasts (length (plans_of c.args.teller.now))) before ws) (sym back)
    (subst (λ (l : List Verified). AllPairs (Lasts (length l)) before after) plans lasts)

pub returns-clause-begins : goal.returns-clause-begins
returns-clause-begins g c = subst (λ (l : List Verified). IsPrefix l
    (plans_of c.serve_batch.new.teller)) c.begin.ensures.plans c.serve_batch.ensures.begins

pub returns-clause-within : goal.returns-clause-within
returns-clause-within g c = subst (λ (l : List Verified). IsPrefix
    (plans_of c.serve_batch.new.teller) l) c.in_ok-begin.ensures.due c.serve_batch.ensures.within

pub returns-clause-sees : goal.returns-clause-sees
returns-clause-sees g c =
    let before = c.args.workers.now in
    let after = c.serve_batch.new.workers in
    let plans : plans_of c.begin.new.self ≡ plans_of c.args.teller.now = c.begin.ensures.plans in
    let published = plans_of c.serve_batch.new.teller in
    let same : c.as_mut_slice-workers.result.now ≡ before = c.as_mut_slice-workers.ensures.value in
    let back : take (length before) (after ++ drop (length after) before) ≡ after =
    whole_back before after (c.serve_batch.ensures.lasts.long ∙ ap length same) in
    let sees = subst (λ (ws : List _). AllPairs (SeesMore
    (plans_of c.begin.new.self) published) ws after) same c.serve_batch.ensures.sees in
    subst (λ (ws : List _). AllPairs (SeesMore (plans_of c.args.teller.now) published) before ws) (sym back)
    (subst (λ (l : List Verified). AllPairs (SeesMore l published) before after) plans sees)

pub returns-clause-events : goal.returns-clause-events
returns-clause-events g c =
    by_events (plans_of c.args.teller.now) (plans_of c.serve_batch.new.teller) c.args.workers.now _
    (returns-clause-begins g c) (returns-clause-sees g c)

pub returns-in_err-begin-clause-sees : goal.returns-in_err-begin-clause-sees
returns-in_err-begin-clause-sees g c =
    subst (λ (l : List Verified). AllPairs (SeesMore (plans_of c.args.teller.now) l) c.args.workers.now c.args.workers.now)
    (sym c.begin.ensures.plans) (all_same (plans_of c.args.teller.now) c.args.workers.now)

pub returns-in_err-begin-clause-events : goal.returns-in_err-begin-clause-events
returns-in_err-begin-clause-events g c =
    by_events (plans_of c.args.teller.now) (plans_of c.begin.new.self) c.args.workers.now c.args.workers.now
    (subst (IsPrefix (plans_of c.args.teller.now)) (sym c.begin.ensures.plans) (prefix_self (plans_of c.args.teller.now)))
    (returns-in_err-begin-clause-sees g c)
