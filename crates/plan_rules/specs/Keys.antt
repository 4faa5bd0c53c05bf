-- What orders a row, and the places of rows under it.
use Rattle.std.specs.Prelude.{ℕ, ◌≡◌, ◌<◌, List, Option, Some}
use Rattle.std.specs.Ordering.{nat_cmp, ordering_then}
use Rattle.std.specs.Option.{option_cmp}
use Rattle.std.specs.Cmp.Lexicographic.{slice_cmp}
use Rattle.std.specs.declared.cmp.Ordering.{Ordering}
use Rattle.std.specs.BTreeMap as map
use Rattle.std.specs.BTreeMap.{BTreeMap, btree_map_len}
use Rattle.sccp_base.specs.Selector.{Numbers}
use Rattle.plan_rules.specs.Rule.{Rule}
use Rattle.plan_rules.specs.Order.{titles, titles_at}
use Rattle.plan_rules.specs.declared.row_key.RowKey.{RowKey}

-- the key of a row
abbrev pub key_of : Rule → RowKey
key_of r = record { selector = r.selector; ssn = r.ssn; prefix = r.prefix }

-- by kind, translation type, numbering plan and nature of address
abbrev pub selector_cmp : Numbers → Numbers → Ordering
selector_cmp a b = ordering_then (nat_cmp a.kind b.kind)
    (ordering_then (nat_cmp a.translation b.translation) (ordering_then (nat_cmp a.plan b.plan) (nat_cmp a.nature b.nature)))

-- by the fields, in the order in which they are written; digits as lists
abbrev pub key_cmp : RowKey → RowKey → Ordering
key_cmp a b = ordering_then (selector_cmp a.selector b.selector)
    (ordering_then (option_cmp nat_cmp a.ssn b.ssn) (slice_cmp nat_cmp a.prefix b.prefix))

-- the beginning of the titles that a row with this key is for
abbrev pub key_titles : RowKey → List ℕ
key_titles key = titles key.selector key.ssn key.prefix

-- the place under a key
abbrev pub place_under : BTreeMap RowKey ℕ → RowKey → Option ℕ
place_under places key = map.get key_cmp places key

-- The places of the first `count` rows, each under the key of the row there. No two of these rows have the same key.
pub record HasPlaces (table : List Rule) (count : ℕ) (places : BTreeMap RowKey ℕ) : Type 0 where
  pub size : btree_map_len places ≡ count
  pub found : (key : RowKey) (place : ℕ) → place_under places key ≡ Some place → (place < count) × (titles_at table place ≡ key_titles key)
  pub whole : (key : RowKey) (place : ℕ) → place < count → titles_at table place ≡ key_titles key → place_under places key ≡ Some place
