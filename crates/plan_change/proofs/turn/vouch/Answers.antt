use Rattle.std.proofs.lemmas.List.Elements.{AllWithin-more, AllWithin-upto, All-from_all_within, at_read}
use Rattle.sccp_base.specs.Marks.{IsMarking}
use Rattle.plan_change.specs.declared.turn.Turn.{Turn}
use Rattle.plan_change.proofs.turn.vouch.Goals as goal

pub loop-turn-preserved : goal.loop-turn-preserved
loop-turn-preserved c =
    AllWithin-more (λ (turn : Turn). IsMarking turn.marking) _ 0 c.loop-turn.turn-index c.loop-turn.invariant
    (at_read c.args.turns.now (λ (turn : Turn). IsMarking turn.marking) c.loop-turn.turn-index c.turn-item.result c.loop-turn-test.true
    c.turn-item.is c.marks-marks.ensures.marking)

pub returns : goal.returns
returns c =
    All-from_all_within (λ (turn : Turn). IsMarking turn.marking) _
    (AllWithin-upto (λ (turn : Turn). IsMarking turn.marking) _ 0 c.loop-turn.turn-index _ c.loop-turn-test.false c.loop-turn.invariant)
