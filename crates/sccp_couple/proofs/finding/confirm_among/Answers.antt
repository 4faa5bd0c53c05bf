use Rattle.std.proofs.Common.{arith, ◌∙◌, ap, sym}
use Rattle.std.proofs.Math.ListN.{set}
use Rattle.std.proofs.lemmas.List.Edits.{map_over_more}
use Rattle.sccp_couple.specs.declared.section.Section.{Section}
use Rattle.sccp_couple.specs.Sections.{change, confirmed}
use Rattle.sccp_couple.proofs.finding.confirm_among.Goals as goal

pub loop-section-preserved : goal.loop-section-preserved
loop-section-preserved c =
    ap (λ (s : Section). set c.loop-section.sections c.loop-section.section-index s) (c.confirmed.ensures
    ∙ ap (change (confirmed c.args.remote) c.args.own) (sym c.section-item.is))
    ∙ map_over_more (change (confirmed c.args.remote) c.args.own) c.args.sections.now c.loop-section.sections c.loop-section.section-index
    c.section-item.result (omega arith) c.loop-section.invariant c.section-item.is
