use Rattle.std.proofs.Common.{refl}
use Rattle.sccp_scrc.specs.Arriving.{point_of}
use Rattle.sccp_scrc.proofs.Behind.{after_sent, after_ended}
use Rattle.sccp_scrc.proofs.arriving.after.Goals as goal

pub returns-in-Some : goal.returns-in-Some
returns-in-Some c address called on =
    let here = c.args.here.now in
    after_sent c.relay.result here.plan.now here.node here.marking.now here.origin c.args.message address c.in-Some.to c.args.to
    c.args.step c.in-Sent.next c.in-Sent.target c.point_of.result c.in-Sent.is c.in-Some.is on c.point_of.ensures c.relay.ensures

pub returns-in-Some-to : goal.returns-in-Some-to
returns-in-Some-to c address called on =
    let here = c.args.here.now in
    after_ended c.place.result here.plan.now here.node here.marking.now here.origin c.args.message address c.in-Some-to.to
    c.args.to c.args.step c.in-Ended.pc c.in-Ended.ssn c.in-Ended.target (point_of here.plan.now here.node) c.in-Ended.is c.in-Some-to.is
    on refl c.place.ensures
