use Rattle.std.proofs.Common.{◌≡◌, ◌+◌, [], ◌∷◌, ◌++◌, List, length, map, drop, sym, ◌∙◌, ap, subst, Err, length-append, arith}
use Rattle.std.proofs.lemmas.Iterator.Adapters.{YieldsList-from_vec}
use Rattle.std.proofs.lemmas.Iterator.Consumers.{YieldsList-turn, YieldsList-end}
use Rattle.std.proofs.lemmas.List.{map-append}
use Rattle.std.proofs.lemmas.List.Elements.{All-push, All-same}
use Rattle.std.proofs.lemmas.Result.{err_from_is_err_and}
use Rattle.sccp_replay.specs.Gathering.{lines_in}
use Rattle.sccp_work.specs.Moment.{Moment, moment}
use Rattle.sccp_replay.specs.Replay.{Standing, Settled}
use Rattle.sccp_replay.specs.Replayers.{ComesToNode, settled_in}
use Rattle.sccp_replay.specs.Replaying.{SettlesTo}
use Rattle.sccp_replay.specs.Routings.{ahead}
use Rattle.sccp_replay.specs.declared.joined.Joined.{Joined}
use Rattle.sccp_replay.proofs.BatchSteps.{dropped, settled_memory}
use Rattle.sccp_replay.proofs.SettleSteps.{one_settled, stopped_at}
use Rattle.sccp_replay.proofs.settle.settle.Goals as goal

pub settle_line-requires-clause-plans : goal.settle_line-requires-clause-plans
settle_line-requires-clause-plans g c =
    let v = c.into_vec-one-items in
    let it = c.into_iter-one-iterator in
    let t = YieldsList-turn (YieldsList-from_vec {s = it.result} c.args.joined (it.ensures.into_iter_gives.0
    ∙ v.ensures) (it.ensures.into_iter_gives.1 ∙ v.result.ok.0
    ∙ ap length v.ensures)) c.loop-one.yielded c.loop-one.one-iterator c.loop-one.yielded_by _ c.next.new.self c.in-Some.one
    c.in-Some.is c.next.ensures.steps in
    let turn = t.0 in
    let so_far = c.loop-one.invariant.few in
    let most = c.requires.joined.few in
    record { plans = c.loop-one.invariant.plans; few = omega (arith, turn, so_far, most) }

pub returns-in_err-settle_line-clause-gives : goal.returns-in_err-settle_line-clause-gives
returns-in_err-settle_line-clause-gives g c =
    let v = c.into_vec-one-items in
    let it = c.into_iter-one-iterator in
    let t = YieldsList-turn (YieldsList-from_vec {s = it.result} c.args.joined (it.ensures.into_iter_gives.0
    ∙ v.ensures) (it.ensures.into_iter_gives.1 ∙ v.result.ok.0
    ∙ ap length v.ensures)) c.loop-one.yielded c.loop-one.one-iterator c.loop-one.yielded_by _ c.next.new.self c.in-Some.one
    c.in-Some.is c.next.ensures.steps in
    let p = err_from_is_err_and c.from_residual.result c.from_residual.ensures.1 in
    let b : Moment = moment g.F.Files.contents g.F.Files.sound g.F.Files.faults g.K.Sink.taken g.K.Sink.faults c.args.files.now
    c.args.out.now in
    let m : Moment = moment g.F.Files.contents g.F.Files.sound g.F.Files.faults g.K.Sink.taken g.K.Sink.faults c.loop-one.files
    c.loop-one.out in
    let a : Moment = moment g.F.Files.contents g.F.Files.sound g.F.Files.faults g.K.Sink.taken g.K.Sink.faults c.settle_line.new.files
    c.settle_line.new.out in
    let first : Standing = ahead c.args.at.now c.args.coming.now in
    let now : Standing = ahead c.args.at.now c.loop-one.coming in
    let ss : List Settled = map settled_in c.loop-one.settled in
    let left : List Joined = drop (length c.loop-one.yielded + 1) c.args.joined in
    rw (p.1, p.2) (stopped_at first (lines_in c.args.joined) now ss c.in-Some.one.line (lines_in left)
    (Err c.in_err-settle_line.field-0.0) b m a
    (subst (λ l. SettlesTo first (lines_in c.args.joined) now ss (lines_in l) b m)
    (dropped c.args.joined (length c.loop-one.yielded) c.in-Some.one t.0 t.1) c.loop-one.invariant.settles)
    c.in_err-settle_line.ensures.gives)

pub returns-in_err-push-clause-gives : goal.returns-in_err-push-clause-gives
returns-in_err-push-clause-gives g c =
    let v = c.into_vec-one-items in
    let it = c.into_iter-one-iterator in
    let t = YieldsList-turn (YieldsList-from_vec {s = it.result} c.args.joined (it.ensures.into_iter_gives.0
    ∙ v.ensures) (it.ensures.into_iter_gives.1 ∙ v.result.ok.0
    ∙ ap length v.ensures)) c.loop-one.yielded c.loop-one.one-iterator c.loop-one.yielded_by _ c.next.new.self c.in-Some.one
    c.in-Some.is c.next.ensures.steps in
    let p = err_from_is_err_and c.from_residual-in_err-push.result c.from_residual-in_err-push.ensures.1 in
    let b : Moment = moment g.F.Files.contents g.F.Files.sound g.F.Files.faults g.K.Sink.taken g.K.Sink.faults c.args.files.now
    c.args.out.now in
    let m : Moment = moment g.F.Files.contents g.F.Files.sound g.F.Files.faults g.K.Sink.taken g.K.Sink.faults c.loop-one.files
    c.loop-one.out in
    let a : Moment = moment g.F.Files.contents g.F.Files.sound g.F.Files.faults g.K.Sink.taken g.K.Sink.faults c.settle_line.new.files
    c.settle_line.new.out in
    let first : Standing = ahead c.args.at.now c.args.coming.now in
    let now : Standing = ahead c.args.at.now c.loop-one.coming in
    let next : Standing = ahead c.args.at.now c.settle_line.new.coming in
    let ss : List Settled = map settled_in c.loop-one.settled in
    let s : Settled = settled_in c.in_ok-settle_line.field-0 in
    let left : List Joined = drop (length c.loop-one.yielded + 1) c.args.joined in
    rw (p.1, p.2) (settled_memory first (lines_in c.args.joined) next (ss ++ s ∷ []) (lines_in left) b a
    (one_settled first (lines_in c.args.joined) now next ss c.in-Some.one.line (lines_in left) s b m a
    (subst (λ l. SettlesTo first (lines_in c.args.joined) now ss (lines_in l) b m)
    (dropped c.args.joined (length c.loop-one.yielded) c.in-Some.one t.0 t.1) c.loop-one.invariant.settles)
    c.in_ok-settle_line.ensures.gives))

pub loop-one-preserved : goal.loop-one-preserved
loop-one-preserved g c =
    let v = c.into_vec-one-items in
    let it = c.into_iter-one-iterator in
    let t = YieldsList-turn (YieldsList-from_vec {s = it.result} c.args.joined (it.ensures.into_iter_gives.0
    ∙ v.ensures) (it.ensures.into_iter_gives.1 ∙ v.result.ok.0
    ∙ ap length v.ensures)) c.loop-one.yielded c.loop-one.one-iterator c.loop-one.yielded_by _ c.next.new.self c.in-Some.one
    c.in-Some.is c.next.ensures.steps in
    let b : Moment = moment g.F.Files.contents g.F.Files.sound g.F.Files.faults g.K.Sink.taken g.K.Sink.faults c.args.files.now
    c.args.out.now in
    let m : Moment = moment g.F.Files.contents g.F.Files.sound g.F.Files.faults g.K.Sink.taken g.K.Sink.faults c.loop-one.files
    c.loop-one.out in
    let a : Moment = moment g.F.Files.contents g.F.Files.sound g.F.Files.faults g.K.Sink.taken g.K.Sink.faults c.settle_line.new.files
    c.settle_line.new.out in
    let first : Standing = ahead c.args.at.now c.args.coming.now in
    let now : Standing = ahead c.args.at.now c.loop-one.coming in
    let next : Standing = ahead c.args.at.now c.settle_line.new.coming in
    let ss : List Settled = map settled_in c.loop-one.settled in
    let s : Settled = settled_in c.in_ok-settle_line.field-0 in
    let left : List Joined = drop (length c.loop-one.yielded + 1) c.args.joined in
    let kept = c.loop-one.invariant in
    let e = c.in_ok-settle_line.ensures in
    let count : length (c.loop-one.yielded ++ c.in-Some.one ∷ []) ≡ length c.loop-one.yielded + 1 =
    length-append c.loop-one.yielded (c.in-Some.one ∷ []) in
    let so_far = kept.few in
    let one = e.plans.few in
    let as_many = kept.as_many in
    let pushed : length c.push.new.self ≡ length c.loop-one.settled + 1 = ap length c.in_ok-push.ensures.ok
    ∙ length-append c.loop-one.settled (c.in_ok-settle_line.field-0 ∷ []) in
    let more : map settled_in c.push.new.self ≡ ss ++ s ∷ [] = ap (map settled_in) c.in_ok-push.ensures.ok
    ∙ map-append settled_in c.loop-one.settled (c.in_ok-settle_line.field-0 ∷ []) in
    record {
      settles = rw count (subst (λ ts. SettlesTo first (lines_in c.args.joined) next ts (lines_in left) b a) (sym more)
          (one_settled first (lines_in c.args.joined) now next ss c.in-Some.one.line (lines_in left) s b m a
          (subst (λ l. SettlesTo first (lines_in c.args.joined) now ss (lines_in l) b m)
          (dropped c.args.joined (length c.loop-one.yielded) c.in-Some.one t.0 t.1) kept.settles)
          e.gives));
      plans = e.plans.plans;
      few = omega (arith, count, so_far, one);
      as_many = omega (arith, count, pushed, as_many);
      fits = All-same (ComesToNode c.args.at.now.first) _ _ c.in_ok-push.ensures.ok
          (All-push (ComesToNode c.args.at.now.first) c.loop-one.settled c.in_ok-settle_line.field-0 kept.fits e.fits);
      left = e.left ∙ kept.left;
    }

pub returns-clause-few : goal.returns-clause-few
returns-clause-few g c =
    let v = c.into_vec-one-items in
    let it = c.into_iter-one-iterator in
    let e = YieldsList-end (YieldsList-from_vec {s = it.result} c.args.joined (it.ensures.into_iter_gives.0
    ∙ v.ensures) (it.ensures.into_iter_gives.1 ∙ v.result.ok.0
    ∙ ap length v.ensures)) c.loop-one.yielded c.loop-one.one-iterator c.loop-one.yielded_by _ c.next.new.self c.in-None.is
    c.next.ensures.steps in
    let as_many : length c.loop-one.yielded ≡ length c.args.joined = e.1 in
    let few = c.loop-one.invariant.few in
    omega (arith, as_many, few)

pub returns-clause-fits : goal.returns-clause-fits
returns-clause-fits g c =
    let v = c.into_vec-one-items in
    let it = c.into_iter-one-iterator in
    let e = YieldsList-end (YieldsList-from_vec {s = it.result} c.args.joined (it.ensures.into_iter_gives.0
    ∙ v.ensures) (it.ensures.into_iter_gives.1 ∙ v.result.ok.0
    ∙ ap length v.ensures)) c.loop-one.yielded c.loop-one.one-iterator c.loop-one.yielded_by _ c.next.new.self c.in-None.is
    c.next.ensures.steps in
    let all : length c.loop-one.yielded ≡ length c.args.joined = e.1 in
    let as_many = c.loop-one.invariant.as_many in
    let most = c.requires.joined.few in
    record { fits = c.loop-one.invariant.fits; few = omega (arith, all, as_many, most) }
