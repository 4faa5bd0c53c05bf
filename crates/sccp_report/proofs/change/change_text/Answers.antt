use Rattle.std.proofs.Common.{◌≤◌, List, length, sym, subst}
use Rattle.plan_change.specs.declared.mixed_hop.MixedHop.{MixedHop}
use Rattle.plan_change.specs.declared.turn.Turn.{Turn}
use Rattle.sccp_report.proofs.InMixture.{longest_covered, broken_short}
use Rattle.sccp_report.proofs.change.change_text.Goals as goal

pub put_longest-requires-clause-covered : goal.put_longest-requires-clause-covered
put_longest-requires-clause-covered c =
    longest_covered c.args.old.now c.args.new.now c.args.change.now c.in-Kept.bound c.in-Kept.spot c.in-Kept.turns c.in-Kept.is
    c.requires.lawful

pub put_mixed_hops-requires : goal.put_mixed_hops-requires
put_mixed_hops-requires c =
    subst (λ (turns : List Turn). length c.as_slice-in-Broken.result.now ≤ length turns) (sym c.as_slice-in-Broken-2.ensures)
    (subst (λ (hops : List MixedHop). length hops ≤ length c.in-Broken.turns) (sym c.as_slice-in-Broken.ensures)
    (broken_short c.args.old.now c.args.new.now c.args.change.now _ _ _ c.in-Broken.turns c.in-Broken.hops _ c.in-Broken.is
    c.requires.lawful))
