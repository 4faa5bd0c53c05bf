-- The covers, as a plan text writes them.
use Rattle.std.specs.Prelude.{ℕ, List, length, Option, option_and_then, codes, Result, Ok}
use Rattle.std.specs.Option.{ok_or, unwrap_or}
use Rattle.std.specs.List.{position}
use Rattle.toml.specs.Data.{Data}
use Rattle.sccp_base.specs.Answers.{◌>>=◌}
use Rattle.sccp_base.specs.Names.{name_of}
use Rattle.sccp_base.specs.Text.{selector_of}
use Rattle.plan_model.specs.declared.cover.Cover.{Cover}
use Rattle.plan_model.specs.declared.key.Key.TheVariants.{Node, Selector, Ssn, Prefix, Least, Most, Allowed}
use Rattle.plan_model.specs.declared.place.Place.TheVariants.{Cover as AtCover}
use Rattle.plan_model.specs.declared.plan_fault.PlanFault.{PlanFault}
use Rattle.plan_model.specs.declared.plan_fault.PlanFault.TheVariants.{BadValue}
use Rattle.plan_text.specs.Document.{text_of, text_at, elements_at, integer_if_there}
use Rattle.plan_text.specs.EachOk.{each_ok}
use Rattle.plan_text.specs.Words.{within, digits_up_to, place_of}
use Rattle.plan_text.specs.Targets.{is_named}

-- the place of the first node of this name, or the number of nodes if none has it
unfoldable pub node_place : List Data → List ℕ → ℕ
node_place nodes name = unwrap_or (position (is_named name) nodes) (length nodes)

-- the number under a key, from 0 to `most`
unfoldable pub number_at : ℕ → List ℕ → Data → Option ℕ
number_at most key d = option_and_then (within 0 most) (integer_if_there key d)

abbrev pub allowed_at : ℕ → ℕ → Data → Result (ℕ × ℕ) PlanFault
allowed_at i k d = ok_or (place_of (text_of d)) (BadValue (AtCover i Allowed))

-- a cover at its place, or the first key whose value cannot be read
unfoldable pub cover_of : List Data → ℕ → Data → Result Cover PlanFault
cover_of nodes i d = do
  node ← ok_or (name_of (text_at (codes "node") d)) (BadValue (AtCover i Node))
  selector ← ok_or (selector_of (text_at (codes "selector") d)) (BadValue (AtCover i Selector))
  ssn ← ok_or (number_at 255 (codes "ssn") d) (BadValue (AtCover i Ssn))
  prefix ← ok_or (digits_up_to 32 (text_at (codes "prefix") d)) (BadValue (AtCover i Prefix))
  least ← ok_or (number_at 32 (codes "least") d) (BadValue (AtCover i Least))
  most ← ok_or (number_at 32 (codes "most") d) (BadValue (AtCover i Most))
  allowed ← each_ok (allowed_at i) 0 (elements_at (codes "allowed") d)
  Ok (record {
    node = node_place nodes node;
    selector = selector;
    ssn = ssn;
    prefix = prefix;
    least = least;
    most = most;
    allowed = allowed;
  })

-- all covers in their order
abbrev pub covers_of : List Data → List Data → Result (List Cover) PlanFault
covers_of nodes covers = each_ok (cover_of nodes) 0 covers
