use Rattle.std.proofs.Common.{sym, subst}
use Rattle.std.specs.Prelude.{OnOk}
use Rattle.sccp_scrc.specs.declared.arrival.Arrival.{Arrival}
use Rattle.relay_ways.specs.Outcomes.{cleared}
use Rattle.relay_ways.specs.Ways.{ways_of, possible, AddsWays}
use Rattle.relay_ways.proofs.all_ways.add_ways_of.Goals as goal

pub returns-in-Returned : goal.returns-in-Returned
returns-in-Returned c =
    subst (λ (a : Arrival). OnOk c.add_returned.result (AddsWays c.args.found.now c.add_returned.new.found
    (possible (ways_of c.args.plan.now c.args.node c.args.condition.now (cleared a))))) (sym c.in-Returned.is)
    (c.add_returned.ensures c.in-Returned.cause c.in-Returned.marks)
