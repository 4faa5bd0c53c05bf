use Rattle.std.proofs.Common.{List, [], ℕ, Err, subst}
use Rattle.std.proofs.lemmas.Result.{err_from_is_err_and}
use Rattle.plan_check.specs.Verified.{Verified}
use Rattle.plan_model.specs.Network.{Network}
use Rattle.sccp_replay.specs.Replay.{replay_work, replayed_under}
use Rattle.sccp_work.specs.Accepting.{if_accepted}
use Rattle.sccp_work.specs.Ending.{Works}
use Rattle.sccp_work.specs.Moment.{Moment, moment}
use Rattle.sccp_work.specs.Work.{Work}
use Rattle.sccp_replay.proofs.replaying.replay.Goals as goal

pub returns-in_err-accepted : goal.returns-in_err-accepted
unfolding replay_work
returns-in_err-accepted g c =
    let p = err_from_is_err_and c.from_residual-in_err-accepted.result c.from_residual-in_err-accepted.ensures.1 in
    let m : Moment = moment g.F.Files.contents g.F.Files.sound g.F.Files.faults g.K.Sink.taken g.K.Sink.faults c.with_plan.new.files
    c.if_accepted.new.out in
    let next : Network → Verified → Work = replayed_under c.args.plan.now.name c.args.trace.now c.args.workers.now.count in
    rw (p.1, p.2) (c.in_ok-first.ensures.plan (λ plan. if_accepted [] plan (next plan)) (Err c.in_err-accepted.field-0.0) m
    (c.in_err-accepted.ensures.goes_on m (next c.in_ok-first.first)))

pub returns : goal.returns
unfolding replay_work
returns g c =
    let m : Moment = moment g.F.Files.contents g.F.Files.sound g.F.Files.faults g.K.Sink.taken g.K.Sink.faults c.with_plan.new.files
    c.if_accepted.new.out in
    let a : Moment = moment g.F.Files.contents g.F.Files.sound g.F.Files.faults g.K.Sink.taken g.K.Sink.faults c.replay_accepted.new.files
    c.replay_accepted.new.out in
    let next : Network → Verified → Work = replayed_under c.args.plan.now.name c.args.trace.now c.args.workers.now.count in
    let accepted = c.in_ok-accepted.accepted in
    c.in_ok-first.ensures.plan (λ plan. if_accepted [] plan (next plan)) c.replay_accepted.result a
    (c.in_ok-accepted.ensures.goes_on m (next c.in_ok-first.first) c.replay_accepted.result a
    (subst (λ q. Works (next q accepted) c.replay_accepted.result m a) c.in_ok-accepted.ensures.same
    (subst (λ (name : List ℕ). Works (replayed_under name c.args.trace.now c.args.workers.now.count accepted.plan accepted)
    c.replay_accepted.result m a) c.name.ensures c.replay_accepted.ensures)))
