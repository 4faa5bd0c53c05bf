use Rattle.std.proofs.Common.{◌∙◌, ap}
use Rattle.sccp_base.specs.Marks.{holds}
use Rattle.sccp_base.proofs.MarkPlaces.{found_is}
use Rattle.sccp_base.proofs.marking.Marking.holds.Goals as goal

pub returns : goal.returns
returns c =
    c.is_ok.ensures.value ∙ found_is c.deref.result.now c.args.mark c.place_of.result c.place_of.ensures
    ∙ ap (λ marks. holds marks c.args.mark) (c.deref.ensures.value ∙ c.self.view_is)
