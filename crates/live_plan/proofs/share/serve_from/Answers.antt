use Rattle.std.proofs.Common.{rules, ◌≡◌, ◌*◌, ◌+◌, ◌<◌, ◌≤◌, ◌++◌, ◌∷◌, [], length, slice_get, Some, ap, sym, ◌∙◌, subst}
use Rattle.relay_net.specs.declared.job.Job.{Job}
use Rattle.relay_net.specs.declared.served.Served.{Served}
use Rattle.live_plan.specs.Batches.{IsServed, IsShare, GoesOn, Follows}
use Rattle.live_plan.specs.Entries.{entry_plan}
use Rattle.live_plan.proofs.Passed.{get_here}
use Rattle.live_plan.proofs.Shares.{goes_on, goes_trans, counts_last, share_more, next_at}
use Rattle.live_plan.proofs.share.serve_from.Goals as goal

pub serve-requires-clause-entry : goal.serve-requires-clause-entry
serve-requires-clause-entry g c =
    let l = c.loop-at.invariant.1.lasts 0 in
    rw (l.nodes ∙ sym c.requires.states) (subst (λ (j : Job). j.entry < length c.args.batch.now.states.now) (sym c.index-jobs-at.is)
    (c.args.batch.now.enter c.loop-at.at c.index-jobs-at.result c.loop-at-test.true))

pub serve-requires-clause-states : goal.serve-requires-clause-states
serve-requires-clause-states g c = let l = c.loop-at.invariant.1.lasts 0 in c.requires.states ∙ sym l.nodes

pub returns-in_err-served-clause-goes_on : goal.returns-in_err-served-clause-goes_on
returns-in_err-served-clause-goes_on g c =
    let s = c.serve.ensures in
    goes_trans c.args.worker.now c.loop-at.worker c.serve.new.self c.loop-at.invariant.1
    (goes_on c.loop-at.worker c.serve.new.self s.index s.nodes s.plans s.counts s.rises s.seen s.told s.untold)

pub returns-in_err-served-clause-counted : goal.returns-in_err-served-clause-counted
returns-in_err-served-clause-counted g c lt =
    counts_last c.args.worker.now c.loop-at.worker c.serve.new.self c.loop-at.invariant.1 c.serve.ensures.entered

pub returns-in_err-push_back-clause-goes_on : goal.returns-in_err-push_back-clause-goes_on
returns-in_err-push_back-clause-goes_on g c =
    let s = c.serve.ensures in
    goes_trans c.args.worker.now c.loop-at.worker c.serve.new.self c.loop-at.invariant.1
    (goes_on c.loop-at.worker c.serve.new.self s.index s.nodes s.plans s.counts s.rises s.seen s.told s.untold)

pub returns-in_err-push_back-clause-counted : goal.returns-in_err-push_back-clause-counted
returns-in_err-push_back-clause-counted g c lt =
    counts_last c.args.worker.now c.loop-at.worker c.serve.new.self c.loop-at.invariant.1 c.serve.ensures.entered

pub loop-at-preserved : goal.loop-at-preserved
loop-at-preserved g c =
    let s = c.serve.ensures in
    let before = c.loop-at.worker in
    let now = c.serve.new.self in
    let one : GoesOn before now = goes_on before now s.index s.nodes s.plans s.counts s.rises s.seen s.told s.untold in
    let answers = c.loop-at.answers.items in
    let served : Served = c.in_ok-served.served in
    let longer : c.push_back.new.self.items ≡ answers ++ served ∷ [] = search rules in
    let job : Job = c.index-jobs-at.result in
    let here : slice_get c.args.batch.now.jobs.now c.loop-at.at ≡ Some job = get_here _ _ _ c.loop-at-test.true c.index-jobs-at.is in
    let number : served.number ≡ now.kept.number = c.in_ok-served.ensures.number in
    let le : before.kept.number ≤ served.number = rw number s.rises in (
      (ap (λ n. n + c.args.count) c.loop-at.invariant.0 ∙ sym (ap (λ l. length l * c.args.count + c.args.share) longer
          ∙ next_at answers served c.args.count c.args.share)),
      goes_trans c.args.worker.now before now c.loop-at.invariant.1 one,
      (λ lt. counts_last c.args.worker.now before now c.loop-at.invariant.1 s.entered),
      (λ plans f.
          let mine : Follows plans now = one.follows plans (c.loop-at.invariant.1.follows plans f) in
          let is : IsServed plans c.args.batch.now.states.now job served =
          record { plan = entry_plan now.kept; has = rw number mine.has; journey = c.in_ok-served.ensures.journey } in
          let more = share_more plans c.args.batch.now c.args.count c.args.share c.args.worker.now.kept.number
          before.kept.number answers served job (c.loop-at.invariant.3 plans f) c.loop-at.invariant.1.rises le
          (subst (λ i. slice_get c.args.batch.now.jobs.now i ≡ Some job) c.loop-at.invariant.0 here) is in
          subst (λ n. IsShare plans c.args.batch.now c.args.count c.args.share c.args.worker.now.kept.number n
          c.push_back.new.self.items) number
          (subst (λ l. IsShare plans c.args.batch.now c.args.count c.args.share c.args.worker.now.kept.number served.number
          l) (sym longer) more)),
    )
