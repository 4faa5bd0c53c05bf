use Rattle.relay_watch.proofs.CountsLines.{are_counts, are_targets, sent_sum, whole}
use Rattle.relay_watch.proofs.least.counted_truly.Goals as goal

pub returns-clause-each : goal.returns-clause-each
returns-clause-each c = are_counts

pub returns-clause-targets : goal.returns-clause-targets
returns-clause-targets c = are_targets

pub returns-clause-sum : goal.returns-clause-sum
returns-clause-sum c = sent_sum

pub returns-clause-all : goal.returns-clause-all
returns-clause-all c = whole
