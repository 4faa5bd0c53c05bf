use Rattle.std.proofs.Common.{ap, ◌∙◌}
use Rattle.user_messages.specs.declared.key.Key.{Key}
use Rattle.user_messages.specs.Gathering.{noted}
use Rattle.user_messages.proofs.taking.give.Goals as goal

pub returns-clause-seen : goal.returns-clause-seen
returns-clause-seen c = c.in_ok-note.ensures.ok ∙ ap (λ (k : Key). noted k c.args.seen.now) c.key_of.ensures
