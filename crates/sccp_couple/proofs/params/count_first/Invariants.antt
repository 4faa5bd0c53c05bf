use Rattle.std.proofs.Common.{◌≡◌, ◌++◌, drop}
use Rattle.sccp_couple.specs.Ways.{count_first}
use Rattle.sccp_couple.proofs.Counting.{ahead}
use Rattle.sccp_couple.proofs.params.count_first.Given as goal

-- what was copied, followed by what is still to be copied, is the whole
abbrev pub invariant-loop-param : goal.invariant-loop-param
invariant-loop-param l = l.copy ++ ahead l.is_first (drop l.param-index l.param-items) ≡ count_first l.param-items
