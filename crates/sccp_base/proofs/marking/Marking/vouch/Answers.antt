use Rattle.std.proofs.lemmas.List.Elements.{AllWithin-more, AllWithin-upto, All-from_all_within, at_read}
use Rattle.sccp_base.specs.Marks.{IsMarking}
use Rattle.sccp_base.proofs.marking.Marking.vouch.Goals as goal

pub loop-marking-preserved : goal.loop-marking-preserved
loop-marking-preserved c =
    AllWithin-more IsMarking _ 0 c.loop-marking.marking-index c.loop-marking.invariant
    (at_read c.args.markings.now IsMarking c.loop-marking.marking-index c.marking-item.result c.loop-marking-test.true c.marking-item.is
    c.marks-marks.ensures.marking)

pub returns : goal.returns
returns c =
    All-from_all_within IsMarking _
    (AllWithin-upto IsMarking _ 0 c.loop-marking.marking-index _ c.loop-marking-test.false c.loop-marking.invariant)
