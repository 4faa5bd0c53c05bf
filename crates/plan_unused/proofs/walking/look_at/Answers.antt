use Rattle.std.proofs.Common.{◌≡◌, Some, sym, ◌∙◌, subst}
use Rattle.std.proofs.lemmas.Result.{on_ok_weaker}
use Rattle.plan_classes.specs.Titles.{Titles}
use Rattle.plan_classes.specs.Classes.{Decided}
use Rattle.plan_unused.specs.Walks.{IsEntry, IsSettled}
use Rattle.plan_unused.proofs.walking.look_at.Goals as goal

pub returns-then-rank-depth-clause-settled : goal.returns-then-rank-depth-clause-settled
returns-then-rank-depth-clause-settled c =
    on_ok_weaker {P = Decided c.args.plan.now c.at-class.result.0
    → IsSettled c.args.plan.now c.look_if_stop.new.seen c.look_if_stop.new.met c.at-class.result.0 c.args.depth} {Q = (class : Titles)
    → IsEntry c.args.met.now c.args.place class c.args.depth → Decided c.args.plan.now class
    → IsSettled c.args.plan.now c.look_if_stop.new.seen c.look_if_stop.new.met class c.args.depth} c.look_if_stop.result
    (λ settled class is decided.
    let one : Some c.at-class.result.0 ≡ Some class = sym c.at-class.ensures.class ∙ is.at in
    let same : c.at-class.result.0 ≡ class = cc in
    subst (λ (x : Titles). IsSettled c.args.plan.now c.look_if_stop.new.seen c.look_if_stop.new.met x c.args.depth) same
    (settled (subst (Decided c.args.plan.now) (sym same) decided)))
    c.look_if_stop.ensures.settled
