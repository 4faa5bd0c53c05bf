-- A plan without its needless covers.
use Rattle.std.specs.Prelude.{ℕ, ◌+◌, ◌==◌, if◌then◌else◌, List, [], ◌∷◌}
use Rattle.std.specs.List.{list_any}
use Rattle.plan_model.specs.declared.cover.Cover.{Cover}
use Rattle.plan_model.specs.Network.{Network, network}
use Rattle.plan_covers.specs.declared.needless.Needless.{Needless}

-- the covers from this place on that are not listed
abbrev pub not_listed : List Needless → ℕ → List Cover → List Cover
not_listed found place [] = []
not_listed found place (cover ∷ covers) =
    if list_any (λ n. n.cover == place) found
    then not_listed found (place + 1) covers
    else cover ∷ not_listed found (place + 1) covers

-- the same relays, with the covers that are not listed
abbrev pub remaining : Network → List Needless → Network
remaining plan found = network plan.nodes (not_listed found 0 plan.covers)
