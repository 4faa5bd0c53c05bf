use Rattle.capture_file.proofs.ReaderLemmas.{read-nothing, stands-beginning}
use Rattle.capture_file.proofs.reader.Reader.new.Goals as goal

pub invariant_of-result : goal.invariant_of-result
invariant_of-result c = stands-beginning _ c.new-kept.ensures.items

pub returns-clause-file : goal.returns-clause-file
returns-clause-file c = read-nothing _ c.new-kept.ensures.items
