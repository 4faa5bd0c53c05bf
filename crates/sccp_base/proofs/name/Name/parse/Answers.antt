use Rattle.sccp_base.proofs.NameTexts.{named}
use Rattle.sccp_base.proofs.name.Name.parse.Goals as goal

pub returns-clause-read : goal.returns-clause-read
returns-clause-read c = named c.args.text.now c.laid_out.result c.laid_out.ensures
