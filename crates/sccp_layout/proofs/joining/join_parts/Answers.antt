use Rattle.std.proofs.Common.{sym, ◌∙◌}
use Rattle.sccp_layout.specs.Parts.{parts_made}
use Rattle.sccp_layout.proofs.Joined.{answer_has_parts}
use Rattle.sccp_layout.proofs.joining.join_parts.Goals as goal

pub returns-clause-again : goal.returns-clause-again
returns-clause-again c =
    let made = parts_made c.args.code c.args.fixed.now c.args.variable.now c.args.params.now in
    answer_has_parts c.unwrap-layout.result made c.joined.result (sym c.layout.ensures.value
    ∙ c.unwrap-layout.ensures) c.requires c.joined.ensures.exact c.joined.ensures.named
