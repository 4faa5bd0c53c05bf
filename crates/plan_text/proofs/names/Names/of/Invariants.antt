use Rattle.std.proofs.Common.{◌≡◌, ℕ, List, drop, map, nat_cmp}
use Rattle.std.specs.BTreeMap.{get_by}
use Rattle.std.specs.Cmp.Lexicographic.{slice_cmp}
use Rattle.std.specs.List.{position, position_from}
use Rattle.std.specs.Option.{option_or}
use Rattle.toml.specs.View.{view}
use Rattle.plan_text.specs.Targets.{is_named}
use Rattle.plan_text.proofs.names.Names.of.Given as goal

-- the place under a name so far, or else its first place from here on, is its first place
abbrev pub invariant-loop-place : goal.invariant-loop-place
invariant-loop-place l = (name : List ℕ) → option_or (get_by (λ k. slice_cmp nat_cmp name k.now) l.places)
    (position_from (is_named name) l.place (map view (drop l.place l.nodes))) ≡ position (is_named name) (map view l.nodes)
