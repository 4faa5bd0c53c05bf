use Rattle.std.proofs.Common.{List, [], refl, sym, subst}
use Rattle.sccp_base.specs.declared.mark.Mark.{Mark}
use Rattle.relay_ways.specs.Conditions.{HoldsOneOf}
use Rattle.relay_ways.proofs.Possible.{nothing_held}
use Rattle.relay_ways.proofs.condition.least_marking.Goals as goal

pub loop-marks-init : goal.loop-marks-init
loop-marks-init c =
    subst (λ (M : List Mark). HoldsOneOf M [] c.args.condition.now.none_of) (sym c.new-marking.ensures)
    (record { each = refl; free = nothing_held c.args.condition.now.none_of; allowed = refl })
