use Rattle.user_messages.proofs.Repeats.{is_hidden}
use Rattle.user_messages.proofs.laws.repeats_arrived_before.Goals as goal

pub returns : goal.returns
returns c = is_hidden
