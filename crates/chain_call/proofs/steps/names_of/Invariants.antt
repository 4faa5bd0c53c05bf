use Rattle.std.proofs.Common.{◌≡◌, ◌++◌, drop, map}
use Rattle.std.specs.Prelude.{filter_map}
use Rattle.sccp_scrc.specs.Arriving.{point_of}
use Rattle.chain_call.specs.Steps.{name_at}
use Rattle.chain_call.proofs.steps.names_of.Given as goal

-- the names so far, and those of the places that are left
abbrev pub invariant-loop-place : goal.invariant-loop-place
invariant-loop-place l = l.names ++ filter_map (name_at l.plan) (map (point_of l.plan) (drop l.place-index l.places))
    ≡ filter_map (name_at l.plan) (map (point_of l.plan) l.places)
