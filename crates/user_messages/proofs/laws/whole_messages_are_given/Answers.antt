use Rattle.user_messages.proofs.Come.{is_given}
use Rattle.user_messages.proofs.laws.whole_messages_are_given.Goals as goal

pub returns : goal.returns
returns c = is_given
