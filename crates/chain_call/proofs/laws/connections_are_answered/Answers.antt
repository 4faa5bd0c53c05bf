use Rattle.chain_call.proofs.Carrying.{is_answered}
use Rattle.chain_call.proofs.laws.connections_are_answered.Goals as goal

pub returns : goal.returns
returns c = is_answered
