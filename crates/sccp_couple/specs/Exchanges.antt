-- The coupling of one node.
use Rattle.std.specs.Prelude.{ℕ, List}
use Rattle.sccp_couple.specs.declared.section.Section.{Section}

-- the place of the node in the plan, and its sections
pub record Exchanging : Type 0 where
  pub node : ℕ
  pub sections : List Section
