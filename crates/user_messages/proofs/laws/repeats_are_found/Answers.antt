use Rattle.user_messages.proofs.Repeats.{comes_again}
use Rattle.user_messages.proofs.laws.repeats_are_found.Goals as goal

pub returns : goal.returns
returns c = comes_again
