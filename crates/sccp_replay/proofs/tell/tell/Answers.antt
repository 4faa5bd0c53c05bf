use Rattle.std.proofs.Common.{◌+◌, drop, subst}
use Rattle.std.proofs.lemmas.List.{drop_all}
use Rattle.sccp_replay.proofs.BatchSteps.{dropped}
use Rattle.sccp_replay.proofs.TellSteps.{Telling, next_follows, more_told, all_told}
use Rattle.sccp_replay.proofs.tell.tell.Goals as goal

pub tell_line-requires : goal.tell_line-requires
tell_line-requires c =
    next_follows c.args.at.now c.loop-one.at c.loop-one.text c.args.settled.now
    (drop (c.loop-one.one-index + 1) c.args.settled.now) c.one-item.result c.args.served.now c.loop-one.left.now
    (subst (λ l. Telling c.args.at.now c.loop-one.at c.loop-one.text c.args.settled.now l c.args.served.now c.loop-one.left.now)
    (dropped c.args.settled.now c.loop-one.one-index c.one-item.result c.loop-one-test.true c.one-item.is) c.loop-one.invariant)

pub loop-one-preserved : goal.loop-one-preserved
loop-one-preserved c =
    more_told c.args.at.now c.loop-one.at c.tell_line.new.at c.loop-one.text c.tell_line.new.text c.args.settled.now
    (drop (c.loop-one.one-index + 1) c.args.settled.now) c.one-item.result c.args.served.now c.loop-one.left.now c.in_ok-left.left.now
    (subst (λ l. Telling c.args.at.now c.loop-one.at c.loop-one.text c.args.settled.now l c.args.served.now c.loop-one.left.now)
    (dropped c.args.settled.now c.loop-one.one-index c.one-item.result c.loop-one-test.true c.one-item.is) c.loop-one.invariant)
    c.in_ok-left.ensures.text c.in_ok-left.ensures.at c.in_ok-left.ensures.left

pub returns-clause-text : goal.returns-clause-text
returns-clause-text c =
    (all_told c.args.at.now c.loop-one.at c.loop-one.text c.args.settled.now c.args.served.now c.loop-one.left.now
    (subst (λ l. Telling c.args.at.now c.loop-one.at c.loop-one.text c.args.settled.now l c.args.served.now c.loop-one.left.now)
    (drop_all c.loop-one.one-index c.args.settled.now c.loop-one-test.false) c.loop-one.invariant)).0

pub returns-clause-at : goal.returns-clause-at
returns-clause-at c =
    (all_told c.args.at.now c.loop-one.at c.loop-one.text c.args.settled.now c.args.served.now c.loop-one.left.now
    (subst (λ l. Telling c.args.at.now c.loop-one.at c.loop-one.text c.args.settled.now l c.args.served.now c.loop-one.left.now)
    (drop_all c.loop-one.one-index c.args.settled.now c.loop-one-test.false) c.loop-one.invariant)).1
