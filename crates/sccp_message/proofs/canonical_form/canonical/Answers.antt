use Rattle.sccp_message.proofs.Octets.{answer_yes, answer_no}
use Rattle.sccp_message.proofs.canonical_form.canonical.Goals as goal

pub returns-clause-yes : goal.returns-clause-yes
returns-clause-yes c = answer_yes c.args.octets.now c.is_canonical.result c.is_canonical.ensures

pub returns-clause-no : goal.returns-clause-no
returns-clause-no c = answer_no c.args.octets.now c.is_canonical.result c.is_canonical.ensures
