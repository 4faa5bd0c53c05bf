-- Covers that may share titles with a cover, by their keys.
use Rattle.std.specs.Prelude.{ℕ, ◌≡◌, ◌⊎◌, IsTrue, nat_eq, List}
use Rattle.std.specs.List.{Contains, starts_with}
use Rattle.plan_covers.specs.declared.cover_key.CoverKey.{CoverKey}
use Rattle.plan_covers.specs.declared.cover_order.PlacedKey.{PlacedKey}

-- the first key begins the second one: the digits do, and all else is the same
pub record Begins (key longer : CoverKey) : Type 0 where
  pub node : key.node ≡ longer.node
  pub selector : key.selector ≡ longer.selector
  pub ssn : key.ssn ≡ longer.ssn
  pub prefix : IsTrue (starts_with nat_eq longer.prefix key.prefix)

-- one of two keys begins the other
abbrev pub AreNear : CoverKey → CoverKey → Type 0
AreNear a b = Begins a b ⊎ Begins b a

-- the places of all keys in the order for which P holds are among these
abbrev pub HasPlacesOf : (CoverKey → Type 0) → List PlacedKey → List ℕ → Type 0
HasPlacesOf P order places = (p : PlacedKey) → Contains order p → P p.key → Contains places p.place

-- what was among the places still is
abbrev pub StayAmong : List ℕ → List ℕ → Type 0
StayAmong before after = (place : ℕ) → Contains before place → Contains after place
