use Rattle.std.proofs.Common.{◌∙◌, ap, take_all}
use Rattle.chain_call.specs.Notes.{data_at}
use Rattle.chain_call.proofs.finding.data_at.Goals as goal

pub returns : goal.returns
returns c =
    c.from_vec.ensures
    ∙ c.loop-h.invariant
    ∙ ap (data_at c.args.point c.args.reference) (take_all c.loop-h.h-index c.args.handed.now c.loop-h-test.false)
