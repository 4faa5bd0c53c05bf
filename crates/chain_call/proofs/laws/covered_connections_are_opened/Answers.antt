use Rattle.chain_call.proofs.Reaching.{is_reached}
use Rattle.chain_call.proofs.laws.covered_connections_are_opened.Goals as goal

pub returns : goal.returns
returns c = is_reached
