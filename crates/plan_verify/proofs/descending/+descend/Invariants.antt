use Rattle.std.proofs.Common.{◌+◌}
use Rattle.plan_verify.proofs.descending.+descend.Given as goal

-- a part has fewer open digits; a next class has the same number of them, and one hop fewer is left
abbrev pub decreases-descend : goal.decreases-descend
decreases-descend l = l.hops + l.class.now.most
