use Rattle.sccp_message.proofs.Surveyed.{answer_whole_alone}
use Rattle.sccp_message.proofs.surveying.survey.Goals as goal

pub returns-clause-whole_alone : goal.returns-clause-whole_alone
returns-clause-whole_alone c = answer_whole_alone c.args.octets.now c.faults.result c.faults.ensures
