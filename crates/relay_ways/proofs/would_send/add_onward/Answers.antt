use Rattle.std.proofs.Common.{◌≡◌, ◌++◌, [], ℕ, List, Option, ◌∙◌, subst, sym}
use Rattle.std.specs.Prelude.{OnOk}
use Rattle.relay_ways.specs.Candidates.{onward_or_returned}
use Rattle.relay_ways.proofs.would_send.add_onward.Goals as goal

pub returns-in-None : goal.returns-in-None
returns-in-None c m reads =
    subst (λ (o : Option (List ℕ)). OnOk c.add_returned.result (c.add_returned.new.found ≡ c.args.found.now
    ++ onward_or_returned c.args.at.now.plan.now c.args.at.now.node c.args.at.now.origin m c.args.to o))
    (sym c.in-None.is ∙ c.in_ok-written.ensures m reads)
    (c.add_returned.ensures m [] reads)
