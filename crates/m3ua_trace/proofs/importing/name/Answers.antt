use Rattle.std.proofs.Common.{Some, refl, sym, ◌∙◌, ap}
use Rattle.sccp_base.proofs.NameTexts.{named}
use Rattle.m3ua_trace.proofs.importing.name.Goals as goal

pub returns : goal.returns
returns c = sym (named c.args.node.now.name (Some c.args.node.now.name) (c.as_slice.ensures.name, refl))
    ∙ ap Some (sym c.as_slice.ensures.same)
