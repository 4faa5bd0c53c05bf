use Rattle.std.proofs.Common.{subst}
use Rattle.sccp_layout.specs.Splitting.{Gives}
use Rattle.sccp_layout.proofs.Laws.{answer, parts_again}
use Rattle.sccp_layout.proofs.splitting.split.Goals as goal

pub returns-clause-found : goal.returns-clause-found
returns-clause-found c = (answer c.args.octets.now c.parts.result c.parts.ensures).0

pub returns-clause-fits : goal.returns-clause-fits
returns-clause-fits c = (answer c.args.octets.now c.parts.result c.parts.ensures).1

pub returns-clause-only : goal.returns-clause-only
returns-clause-only c = λ p has. subst (λ f. Gives (λ p. p) c.parts.result f) (parts_again c.args.octets.now p has) c.parts.ensures
