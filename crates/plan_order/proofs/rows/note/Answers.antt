use Rattle.std.specs.Prelude.{◌+◌}
use Rattle.std.proofs.Common.{sym, ◌∙◌, subst}
use Rattle.std.proofs.lemmas.Bool.{false≢true}
use Rattle.plan_order.specs.Searching.{AreFirst}
use Rattle.std.proofs.lemmas.Result.{on_ok_weaker}
use Rattle.plan_order.proofs.Firsts.{first_kept, first_more}
use Rattle.plan_order.proofs.rows.note.Goals as goal

pub returns-then-not-differs : goal.returns-then-not-differs
returns-then-not-differs c =
    first_kept c.args.old.now c.args.new.now c.args.node c.args.differ.now
    (λ d. false≢true (sym c.if-not-differs.true ∙ c.differs.ensures.1 d)) c.requires.first

pub returns : goal.returns
returns c =
    on_ok_weaker c.push.result
    (λ is. subst (AreFirst c.args.old.now c.args.new.now (c.args.node + 1)) (sym is)
    (first_more c.args.old.now c.args.new.now c.args.node c.args.differ.now (c.differs.ensures.0 c.if-not-differs.false) c.requires.first))
    c.push.ensures.ok
