use Rattle.sccp_message.proofs.Octets.{answer_found, answer_writable, answer_only, answer_again}
use Rattle.sccp_message.proofs.encoding.encode.Goals as goal

pub returns-clause-found : goal.returns-clause-found
returns-clause-found c = answer_found c.args.message.now c.whole.result c.whole.ensures.exact

pub returns-clause-writable : goal.returns-clause-writable
returns-clause-writable c = answer_writable c.args.message.now c.whole.result c.whole.ensures.exact

pub returns-clause-only : goal.returns-clause-only
returns-clause-only c = answer_only c.args.message.now c.whole.result c.whole.ensures.exact

pub returns-clause-again : goal.returns-clause-again
returns-clause-again c = answer_again c.args.message.now c.whole.result c.whole.ensures.exact c.whole.ensures.named c.vouch_sevens.ensures
