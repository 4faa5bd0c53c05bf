use Rattle.sccp_base.proofs.MarkPlaces.{is_place}
use Rattle.sccp_base.proofs.marking.place_of.Goals as goal

pub returns : goal.returns
returns c = is_place c.args.marks.now c.args.mark.now c.binary_search.result c.requires c.binary_search.ensures.bound
    c.binary_search.ensures.position
