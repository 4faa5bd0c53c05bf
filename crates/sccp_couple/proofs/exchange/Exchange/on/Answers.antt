use Rattle.std.proofs.Common.{ℕ, sym, subst}
use Rattle.sccp_message.specs.declared.message.Message.{Message}
use Rattle.sccp_message.specs.declared.message.Message.TheVariants as messages
use Rattle.sccp_couple.specs.declared.way.Way.{Way}
use Rattle.sccp_couple.specs.declared.way.Way.TheVariants.{Refused}
use Rattle.sccp_couple.specs.Events.{Event}
use Rattle.sccp_couple.specs.Invariant.{IsCoupling}
use Rattle.sccp_couple.specs.Ways.{request_way}
use Rattle.sccp_couple.proofs.Keeping.{keeps, keeps_or_stays}
use Rattle.sccp_couple.proofs.exchange.Exchange.on.Goals as goal

abbrev event : ℕ → Message → Way → Event
event origin message way = record { origin = origin; message = message; way = way }

pub invariant_of-self : goal.invariant_of-self
invariant_of-self c =
    let way = request_way c.args.plan.now c.self.inside.node c.args.marking.now c.in-Cr.class c.in-Cr.called c.in-Cr.params in
    keeps_or_stays c.on_request.result c.self.inside.sections c.on_request.new.sections
    (event c.args.origin (messages.Cr c.in-Cr.slr c.in-Cr.class c.in-Cr.called c.in-Cr.params) way) c.on_request.ensures.state
    c.on_request.ensures.err c.self.invariant

pub invariant_of-self-in-Cc : goal.invariant_of-self-in-Cc
invariant_of-self-in-Cc c =
    keeps_or_stays c.on_confirm.result c.self.inside.sections c.on_confirm.new.sections
    (event c.args.origin (messages.Cc c.in-Cc.dlr c.in-Cc.slr c.in-Cc.class c.in-Cc.params)
    (Refused 6)) c.on_confirm.ensures.state c.on_confirm.ensures.err c.self.invariant

pub invariant_of-self-in-Cref : goal.invariant_of-self-in-Cref
invariant_of-self-in-Cref c =
    keeps_or_stays c.on_refusal.result c.self.inside.sections c.on_refusal.new.sections
    (event c.args.origin (messages.Cref c.in-Cref.dlr c.in-Cref.cause c.in-Cref.params)
    (Refused 6)) c.on_refusal.ensures.state c.on_refusal.ensures.err c.self.invariant

pub invariant_of-self-in-Rlsd : goal.invariant_of-self-in-Rlsd
invariant_of-self-in-Rlsd c =
    keeps_or_stays c.on_release.result c.self.inside.sections c.on_release.new.sections
    (event c.args.origin (messages.Rlsd c.in-Rlsd.dlr c.in-Rlsd.slr c.in-Rlsd.cause c.in-Rlsd.params)
    (Refused 6)) c.on_release.ensures.state c.on_release.ensures.err c.self.invariant

pub invariant_of-self-in-Rlc : goal.invariant_of-self-in-Rlc
invariant_of-self-in-Rlc c =
    subst IsCoupling (sym c.on_complete.ensures)
    (keeps c.self.inside.sections (event c.args.origin (messages.Rlc c.in-Rlc.dlr c.in-Rlc.slr) (Refused 6)) c.self.invariant)
