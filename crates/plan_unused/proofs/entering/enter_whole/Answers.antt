use Rattle.std.proofs.lemmas.Result.{on_ok_weaker}
use Rattle.plan_unused.specs.Walks.{IsRankedBy, KeepsPlaces, Grows}
use Rattle.plan_check.proofs.Orders.{Puts}
use Rattle.plan_unused.proofs.Growing.{whole_grows, put_ranked}
use Rattle.plan_unused.proofs.Noting.{ok_both}
use Rattle.plan_unused.proofs.entering.enter_whole.Goals as goal

pub returns-clause-grows : goal.returns-clause-grows
returns-clause-grows c =
    ok_both c.rank.result (Puts c.args.met.now c.rank.new.met c.args.class.now c.args.depth)
    (KeepsPlaces c.args.met.now c.rank.new.met) (Grows c.args.plan.now c.args.depth c.args.met.now c.rank.new.met)
    (λ puts places. whole_grows c.args.plan.now c.args.depth c.args.met.now c.rank.new.met
    c.args.class.now c.requires.fresh c.requires.decided c.requires.may.meets puts places)
    c.rank.ensures.puts c.rank.ensures.places

pub returns-clause-ranked : goal.returns-clause-ranked
returns-clause-ranked c =
    on_ok_weaker {P = Puts c.args.met.now c.rank.new.met c.args.class.now c.args.depth}
    {Q = IsRankedBy c.rank.new.met c.args.class.now c.args.depth} c.rank.result
    (put_ranked c.args.met.now c.rank.new.met c.args.class.now c.args.depth) c.rank.ensures.puts
