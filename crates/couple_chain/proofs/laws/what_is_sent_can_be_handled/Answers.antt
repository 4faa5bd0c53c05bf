use Rattle.sccp_couple.specs.Coupling.{coupled}
use Rattle.sccp_couple.specs.Ways.{event_of}
use Rattle.couple_chain.proofs.Fit.{sent_fit, fit_reads}
use Rattle.couple_chain.proofs.laws.what_is_sent_can_be_handled.Goals as goal

pub returns-clause-fit : goal.returns-clause-fit
returns-clause-fit c = λ plan node marking sections origin message is h. sent_fit plan node marking sections origin message is h

pub returns-clause-reads : goal.returns-clause-reads
returns-clause-reads c = λ plan node marking sections origin message is h. fit_reads
    (coupled sections (event_of plan node marking origin message)).sent (sent_fit plan node marking sections origin message is h)
