-- Plans of the same relays.
use Rattle.std.specs.Prelude.{ℕ, ◌≡◌, Bool, ◌&&◌, ◌==◌, nat_eq, List, map}
use Rattle.std.specs.Cmp.Lexicographic.{pointwise}
use Rattle.plan_model.specs.declared.node.Node.{Node}
use Rattle.plan_model.specs.Network.{Network}

-- what a relay is, whatever it translates: its name, point code, subsystems and concerned points
abbrev pub without_rows : Node → List ℕ × ℕ × List ℕ × List ℕ
without_rows node = (node.name, node.pc, node.subsystems, node.concerned)

-- the relays are the same, in the same order
abbrev pub SameNodes : Network → Network → Type 0
SameNodes old new = map without_rows old.nodes ≡ map without_rows new.nodes

-- the same, as a test
abbrev pub same_node : Node → Node → Bool
same_node a b = pointwise nat_eq a.name b.name && (a.pc == b.pc
    && (pointwise nat_eq a.subsystems b.subsystems && pointwise nat_eq a.concerned b.concerned))

abbrev pub same_nodes : Network → Network → Bool
same_nodes old new = pointwise same_node old.nodes new.nodes
