use Rattle.user_messages.proofs.Runs.{is_whole}
use Rattle.user_messages.proofs.laws.messages_are_whole.Goals as goal

pub returns : goal.returns
returns c = is_whole
