use Rattle.user_messages.proofs.Outcomes.{waited}
use Rattle.user_messages.proofs.taking.wait.Goals as goal

pub returns-clause-exact : goal.returns-clause-exact
returns-clause-exact c =
    waited c.args.waiting.now.items c.push.new.self.items c.shorten.new.waiting.items c.args.fragment c.shorten.result
    c.in_ok-push.ensures.items c.shorten.ensures.place c.shorten.ensures.rest
