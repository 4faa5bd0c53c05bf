use Rattle.user_messages.proofs.Stories.{are_apart}
use Rattle.user_messages.proofs.laws.no_chunk_is_given_twice.Goals as goal

pub returns : goal.returns
returns c = are_apart
