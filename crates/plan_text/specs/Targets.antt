-- The targets of rows, as a plan text writes them: a relay is given by the name of its node.
use Rattle.std.specs.Prelude.{ℕ, Bool, nat_eq, if◌then◌else◌, List, Option, Some, None, option_map, option_and_then, codes}
use Rattle.std.specs.Option.{unwrap_or, option_map_or}
use Rattle.std.specs.List.{find}
use Rattle.std.specs.Cmp.Lexicographic.{pointwise}
use Rattle.toml.specs.Data.{Data}
use Rattle.sccp_base.specs.Selector.{Numbers}
use Rattle.sccp_base.specs.Names.{name_of}
use Rattle.sccp_base.specs.Text.{point_code_of, selector_of}
use Rattle.plan_rules.specs.declared.target.Target.{Target}
use Rattle.plan_rules.specs.declared.target.Target.TheVariants.{Relay, Final}
use Rattle.plan_text.specs.Document.{has_key, text_at, text_if_there, integer_if_there}
use Rattle.plan_text.specs.Words.{within, digits_up_to}

infixl 10 ◌>>=◌
abbrev ◌>>=◌ : {A B : Type 0} → Option A → (A → Option B) → Option B
o >>= f = option_and_then f o

-- what may be absent: nothing, or a value that can be read
abbrev pub optional : {A B : Type 0} → (A → Option B) → Option A → Option (Option B)
optional read None = Some None
optional read (Some x) = option_map Some (read x)

unfoldable pub is_named : List ℕ → Data → Bool
is_named name node = pointwise nat_eq (text_at (codes "name") node) name

unfoldable pub point_at : Data → ℕ
point_at node = unwrap_or (point_code_of (text_at (codes "point") node)) 0

-- The point code of the first node of this name. If no node has it, which a later test finds, it counts as 0.
unfoldable pub point_of : List Data → List ℕ → ℕ
point_of nodes name = option_map_or point_at (find (is_named name) nodes) 0

-- how many digits a relay takes off: none if the key is absent, and 15 at most
unfoldable pub strip_at : Data → Option ℕ
strip_at d = option_map_or (within 0 15) (integer_if_there (codes "strip") d) (Some 0)

unfoldable pub selector_given : Data → Option (Option Numbers)
selector_given d = optional selector_of (text_if_there (codes "selector") d)

unfoldable pub subsystem_given : Data → Option (Option ℕ)
subsystem_given d = optional (within 2 255) (integer_if_there (codes "ssn") d)

unfoldable pub relay_of : List Data → Data → Option Target
relay_of nodes d = do
  name ← name_of (text_at (codes "relay") d)
  strip ← strip_at d
  put ← digits_up_to 15 (text_at (codes "put") d)
  selector ← selector_given d
  ssn ← subsystem_given d
  Some (Relay (point_of nodes name) strip put selector ssn)

unfoldable pub final_of : Data → Option Target
final_of d = do
  pc ← point_code_of (text_at (codes "final") d)
  ssn ← subsystem_given d
  Some (Final pc ssn)

-- a target with the key `relay` is a relay, and any other a destination
unfoldable pub target_of : List Data → Data → Option Target
target_of nodes d = if has_key (codes "relay") d then relay_of nodes d else final_of d
