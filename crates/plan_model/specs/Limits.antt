-- How much a plan may have, how long its file may be, and at how many classes of titles a search for bad routes gives up.
use Rattle.std.specs.Prelude.{ℕ}
use Rattle.plan_model.specs.declared.limits.Limits.{Limits}

-- the most classes of a table of ranks, and of a search under the standard limits
abbrev pub most_classes : ℕ
most_classes = 262144

-- the limits of a plan for which nothing else is asked
abbrev pub standard : Limits
standard = record { nodes = 64; rows = 4096; covers = 256; classes = most_classes; octets = 1048576 }

-- the limits of a plan of a large gateway
abbrev pub wide : Limits
wide = record { nodes = 255; rows = 1048576; covers = 65535; classes = 67108864; octets = 268435456 }
