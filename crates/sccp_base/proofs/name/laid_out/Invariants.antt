use Rattle.std.proofs.Common.{◌≡◌, ◌-◌, ◌++◌, take, replicate}
use Rattle.sccp_base.proofs.name.laid_out.Given as goal

-- the octets so far, and 0 after them
abbrev pub invariant-loop-place : goal.invariant-loop-place
invariant-loop-place l = l.octets ≡ take l.place l.text ++ replicate (16 - l.place) 0
