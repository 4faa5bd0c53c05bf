use Rattle.plan_unused.proofs.Noting.{seen_gap}
use Rattle.plan_unused.proofs.seen.Seen.note_gap.Goals as goal

pub returns-clause-seen : goal.returns-clause-seen
returns-clause-seen c =
    seen_gap c.args.plan.now c.args.self.now c.insert.new.self c.args.cover c.args.spot c.requires.gap c.requires.seen
    c.in_ok-insert.ensures.updates
