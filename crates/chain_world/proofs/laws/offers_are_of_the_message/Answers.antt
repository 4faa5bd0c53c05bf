use Rattle.chain_world.proofs.Readable.{same_message, same_fault}
use Rattle.chain_world.proofs.laws.offers_are_of_the_message.Goals as goal

pub returns-clause-message : goal.returns-clause-message
returns-clause-message c = same_message

pub returns-clause-fault : goal.returns-clause-fault
returns-clause-fault c = same_fault
