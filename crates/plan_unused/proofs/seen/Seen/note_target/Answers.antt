use Rattle.plan_unused.proofs.Noting.{seen_target, more_target}
use Rattle.plan_unused.proofs.seen.Seen.note_target.Goals as goal

pub returns-clause-seen : goal.returns-clause-seen
returns-clause-seen c =
    seen_target c.args.plan.now c.args.self.now c.insert.new.self c.args.place c.requires.uses c.requires.seen
    c.in_ok-insert.ensures.updates

pub returns-clause-more : goal.returns-clause-more
returns-clause-more c = more_target c.args.self.now c.insert.new.self c.args.place c.in_ok-insert.ensures.updates
