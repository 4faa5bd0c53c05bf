use Rattle.std.proofs.Common.{◌≡◌, drop, None}
use Rattle.chain_world.specs.Running.{best_of}
use Rattle.chain_world.proofs.asking.least.Given as goal

-- the best link of those that are left is the best of them all
abbrev pub invariant-loop-link : goal.invariant-loop-link
invariant-loop-link l = best_of l.links l.best (drop l.link-index l.links) ≡ best_of l.links None l.links
