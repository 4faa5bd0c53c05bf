use Rattle.couple_chain.proofs.Noted.{noted}
use Rattle.couple_chain.proofs.laws.relays_note_what_passed.Goals as goal

pub returns-clause-sections : goal.returns-clause-sections
returns-clause-sections c = λ node events. (noted node events).sections

pub returns-clause-passed : goal.returns-clause-passed
returns-clause-passed c = λ node events. (noted node events).passed

pub returns-clause-given : goal.returns-clause-given
returns-clause-given c = λ node events. (noted node events).given_is
