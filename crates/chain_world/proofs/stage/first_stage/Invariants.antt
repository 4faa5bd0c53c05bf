use Rattle.std.proofs.Common.{◌≡◌, drop}
use Rattle.chain_world.specs.Staged.{first_in}
use Rattle.chain_world.proofs.stage.first_stage.Given as goal

-- the first pair at the relays that are left is the first of them all
abbrev pub invariant-loop-i : goal.invariant-loop-i
invariant-loop-i l = first_in l.i (drop l.i l.relays) l.fn.point l.fn.remote ≡ first_in 0 l.relays l.fn.point l.fn.remote
