use Rattle.std.proofs.Common.{◌≡◌, rules, sym, ap, ◌∙◌, arith}
use Rattle.std.specs.Prelude.{Err}
use Rattle.std.proofs.lemmas.Grind.{common_steps}
use Rattle.sccp_message.specs.Reading.{reading}
use Rattle.relay_watch.proofs.Said.{if_read, said_fault}
use Rattle.relay_watch.proofs.judging.said.Goals as goal

pub decoded-judged-requires-clause-reads : goal.decoded-judged-requires-clause-reads
decoded-judged-requires-clause-reads c = ap reading (sym c.as_slice.ensures) ∙ c.in-Ok.ensures.exact

pub decoded-judged-requires-clause-again : goal.decoded-judged-requires-clause-again
decoded-judged-requires-clause-again c = record { message = c.in-Ok.ensures.kept; sound = c.in-Ok.ensures.sound }

pub returns-in-Ok-clause-said : goal.returns-in-Ok-clause-said
returns-in-Ok-clause-said c =
    if_read c.decoded-judged.result c.args.plan.now c.args.waiting.now c.args.answered.now c.args.event.now c.in-Ok.message
    (reading c.args.event.now.octets) (ap reading (sym c.as_slice.ensures) ∙ c.in-Ok.ensures.exact) c.decoded-judged.ensures.said

pub returns-in-Err-clause-said : goal.returns-in-Err-clause-said
returns-in-Err-clause-said c =
    let is : reading c.as_slice.result.now ≡ Err c.in-Err.fault = first_of (search rules, grind (arith, common_steps)) in
    said_fault c.args.plan.now c.args.waiting.now c.args.answered.now c.args.event.now c.in-Err.fault
    (reading c.args.event.now.octets) c.only.result
    (ap reading (sym c.as_slice.ensures) ∙ is) c.only.ensures.verdict c.only.ensures.place c.only.ensures.begins c.only.ensures.other
