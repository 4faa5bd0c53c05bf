use Rattle.std.proofs.Common.{List, [], ◌∷◌, ◌∙◌, ap, sym, subst}
use Rattle.std.specs.Prelude.{OnOk}
use Rattle.relay_ways.specs.Ways.{way, AddsWays}
use Rattle.relay_ways.specs.declared.way.Way.{Way}
use Rattle.relay_ways.proofs.Adding.{kept_way}
use Rattle.relay_ways.proofs.all_ways.add_sending.Goals as goal

pub returns : goal.returns
returns c =
    subst (λ (xs : List Way). OnOk c.add_way.result (AddsWays c.args.found.now c.add_way.new.found xs))
    (ap (λ k. way k c.args.sending ∷ []) c.in_ok-condition.ensures ∙ sym (kept_way c.args.condition.now c.args.sending c.requires))
    c.add_way.ensures
