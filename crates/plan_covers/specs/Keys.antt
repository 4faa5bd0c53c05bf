-- What orders a cover, and the covers in that order.
use Rattle.std.specs.Prelude.{ℕ, ◌≡◌, ◌<◌, List, length, take, Some, IsSomeAnd, slice_get}
use Rattle.std.specs.Ordering.{nat_cmp, ordering_then}
use Rattle.std.specs.Cmp.Lexicographic.{slice_cmp}
use Rattle.std.specs.List.{All, Contains}
use Rattle.std.specs.List.Sorted.{IsSorted}
use Rattle.std.specs.declared.cmp.Ordering.{Ordering}
use Rattle.plan_model.specs.declared.cover.Cover.{Cover}
use Rattle.plan_rules.specs.Keys.{selector_cmp}
use Rattle.plan_covers.specs.declared.cover_key.CoverKey.{CoverKey}
use Rattle.plan_covers.specs.declared.cover_order.PlacedKey.{PlacedKey}

-- the key of a cover, and that with only the first digits of its prefix
abbrev pub key_of : Cover → CoverKey
key_of c = record { node = c.node; selector = c.selector; ssn = c.ssn; prefix = c.prefix }

abbrev pub front_key : Cover → ℕ → CoverKey
front_key c count = record { node = c.node; selector = c.selector; ssn = c.ssn; prefix = take count c.prefix }

-- by the fields, in the order in which they are written; digits as lists
abbrev pub key_cmp : CoverKey → CoverKey → Ordering
key_cmp a b =
    ordering_then (nat_cmp a.node b.node) (ordering_then (selector_cmp a.selector b.selector)
    (ordering_then (nat_cmp a.ssn b.ssn) (slice_cmp nat_cmp a.prefix b.prefix)))

-- by the key, and then by the place
abbrev pub placed_cmp : PlacedKey → PlacedKey → Ordering
placed_cmp a b = ordering_then (key_cmp a.key b.key) (nat_cmp a.place b.place)

-- the key of a cover, with the cover's place
abbrev pub placed : Cover → ℕ → PlacedKey
placed cover place = record { key = key_of cover; place = place }

-- it is the key of the cover at its place
abbrev pub IsKeyIn : List Cover → PlacedKey → Type 0
IsKeyIn covers p = IsSomeAnd (slice_get covers p.place) (λ cover. p.key ≡ key_of cover)

-- exactly the keys of the first `count` covers, each with its place
pub record HasKeys (covers : List Cover) (count : ℕ) (keys : List PlacedKey) : Type 0 where
  pub each : All (IsKeyIn covers) keys
  pub whole : (place : ℕ) (cover : Cover) → place < count → slice_get covers place ≡ Some cover → Contains keys (placed cover place)

-- exactly the keys of all covers, each with its place, in order
pub record IsOrder (covers : List Cover) (order : List PlacedKey) : Type 0 where
  pub keys : HasKeys covers (length covers) order
  pub sorted : IsSorted placed_cmp order
