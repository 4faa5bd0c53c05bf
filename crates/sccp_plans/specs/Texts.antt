-- The lines on names and plans that do not fit.
use Rattle.std.specs.Prelude.{ℕ, List, codes}

unfoldable pub unknown_node : List ℕ
unknown_node = codes "unknown node\n"

unfoldable pub other_nodes : List ℕ
other_nodes = codes "other nodes\n"
