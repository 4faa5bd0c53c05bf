use Rattle.std.proofs.Common.{◌∙◌, ap}
use Rattle.made_load.specs.Draws.{after}
use Rattle.made_load.proofs.LaidOut.{laid_out}
use Rattle.made_load.proofs.messages.made_octets.Goals as goal

pub returns-clause-value : goal.returns-clause-value
returns-clause-value c =
    laid_out c.args.place c.args.draws.now c.pair-first.new.self c.pair-second.new.self c.pair-third.new.self c.pair-fourth.new.self
    c.pair-first.result c.pair-second.result c.pair-third.result c.pair-fourth.result c.pair-fifth.result
    c.pair-first.ensures.next c.pair-second.ensures.next c.pair-third.ensures.next c.pair-fourth.ensures.next
    c.pair-first.ensures.value c.pair-second.ensures.value c.pair-third.ensures.value c.pair-fourth.ensures.value c.pair-fifth.ensures.value

pub returns-clause-next : goal.returns-clause-next
returns-clause-next c =
    c.pair-fifth.ensures.next ∙ ap (λ x. after (after x)) (c.pair-fourth.ensures.next ∙ ap (λ x. after (after x)) (c.pair-third.ensures.next
    ∙ ap (λ x. after (after x)) (c.pair-second.ensures.next ∙ ap (λ x. after (after x)) c.pair-first.ensures.next)))
