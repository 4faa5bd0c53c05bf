-- Lines on limits that were passed. A limit is named if it is not the standard one.
use Rattle.std.specs.Prelude.{ℕ, ◌==◌, if◌then◌else◌, List, [], ◌++◌, codes}
use Rattle.plan_model.specs.Limits.{standard}
use Rattle.plan_model.specs.declared.limits.Limits.{Limits}
use Rattle.plan_model.specs.declared.plan_fault.Counted.{Counted}
use Rattle.plan_model.specs.declared.plan_fault.Counted.TheVariants.{Nodes, Rows, Covers}
use Rattle.sccp_report.specs.Values.{numbered}

-- a blank and the limit, or nothing for the standard one
unfoldable pub beyond : ℕ → ℕ → List ℕ
beyond usual limit = if limit == usual then [] else numbered (codes " ") limit

-- the most nodes, rows or covers
abbrev pub beyond_count : Limits → Counted → List ℕ
beyond_count limits Nodes = beyond standard.nodes limits.nodes
beyond_count limits Rows = beyond standard.rows limits.rows
beyond_count limits Covers = beyond standard.covers limits.covers

-- a file has more octets than it may have
unfoldable pub too_long_line : Limits → List ℕ
too_long_line limits = codes "too long" ++ beyond standard.octets limits.octets ++ codes "\n"

-- a plan reaches more classes of titles than a search goes over
unfoldable pub too_wide_line : Limits → List ℕ
too_wide_line limits = codes "too wide" ++ beyond standard.classes limits.classes ++ codes "\n"
