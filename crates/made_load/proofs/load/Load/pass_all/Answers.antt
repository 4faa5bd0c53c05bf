use Rattle.std.proofs.Common.{◌∙◌, ap, arith}
use Rattle.made_load.specs.Loads.{passed}
use Rattle.made_load.proofs.Passing.{standing, goes_by}
use Rattle.made_load.proofs.load.Load.pass_all.Goals as goal

pub loop-place-preserved : goal.loop-place-preserved
loop-place-preserved c =
    goes_by c.args.plan.now c.args.upto c.loop-place.place c.args.self.now c.loop-place.self c.prepare.new.self
    (standing c.pass.new.self c.self.inside.net c.self.inside.counts) (omega arith)
    c.in_ok-prepare.ensures (ap (λ x. standing x c.self.inside.net c.self.inside.counts) c.pass.ensures
    ∙ ap (λ k. passed k) c.self.view_is) c.loop-place.invariant
