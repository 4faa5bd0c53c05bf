-- Sets of titles at a node, given by their known digits and the number of further ones.
use Rattle.std.specs.Prelude.{ℕ, ◌≡◌, ◌+◌, ◌-◌, ◌<◌, ◌≤◌, ◌==◌, if◌then◌else◌, List, [], ◌∷◌, ◌++◌, length, map}
use Rattle.std.specs.List.{All, Any, AllPairs, range_with_len}
use Rattle.sccp_base.specs.Selector.{Numbers}
use Rattle.plan_model.specs.declared.spot.Spot.{Spot}

-- a class, as contracts see it: the known digits, and how many decimal ones may follow
pub record Titles : Type 0 where
  pub cover : ℕ
  pub node : ℕ
  pub selector : Numbers
  pub ssn : ℕ
  pub known : List ℕ
  pub least : ℕ
  pub most : ℕ

-- a class by its fields
abbrev pub titles : ℕ → ℕ → Numbers → ℕ → List ℕ → ℕ → ℕ → Titles
titles cover node selector ssn known least most = record
    { cover = cover; node = node; selector = selector; ssn = ssn; known = known; least = least; most = most }

-- what every class keeps: no title has more than 32 digits
pub record IsClass (c : Titles) : Type 0 where
  pub range : c.least ≤ c.most
  pub room : length c.known + c.most ≤ 32

-- the digits are the known ones and then `least` to `most` decimal ones
pub record IsMember (c : Titles) (digits : List ℕ) : Type 0 where
  pub rest : List ℕ
  pub whole : digits ≡ c.known ++ rest
  pub decimal : All (λ d. d < 10) rest
  pub least : c.least ≤ length rest
  pub most : length rest ≤ c.most

-- a member with as many further digits as may be
abbrev pub IsLongest : Titles → List ℕ → Type 0
IsLongest c digits = IsMember c digits × (length digits ≡ length c.known + c.most)

-- these digits at the class's node, under its selector and SSN
abbrev pub spot_of : Titles → List ℕ → Spot
spot_of c digits = record { node = c.node; selector = c.selector; ssn = c.ssn; digits = digits }

-- the class has the spot
abbrev pub HasTitle : Titles → Spot → Type 0
HasTitle c spot = (digits : List ℕ) × IsMember c digits × (spot ≡ spot_of c digits)

-- the title with no further digit
abbrev pub closed : Titles → Titles
closed c = record c { least = 0; most = 0 }

-- the titles with this next digit
abbrev pub extended : Titles → ℕ → Titles
extended c digit = record c { known = c.known ++ digit ∷ []; least = c.least - 1; most = c.most - 1 }

-- the title with no further digit, if the class has it, and the titles with each next digit
abbrev pub parts_of : Titles → List Titles
parts_of c = (if c.least == 0 then closed c ∷ [] else []) ++ map (extended c) (range_with_len 0 10)

-- another class of the same cover at the same node, under the same selector and SSN, with fewer open digits
pub record IsPart (c part : Titles) : Type 0 where
  pub cover : part.cover ≡ c.cover
  pub node : part.node ≡ c.node
  pub selector : part.selector ≡ c.selector
  pub ssn : part.ssn ≡ c.ssn
  pub fewer : part.most < c.most
  pub class : IsClass part
  pub inside : (digits : List ℕ) → IsMember part digits → IsMember c digits

-- the members of the parts are the members, each once
pub record Splits (c : Titles) (parts : List Titles) : Type 0 where
  pub each : All (IsPart c) parts
  pub whole : (digits : List ℕ) → IsMember c digits → Any (λ part. IsMember part digits) parts
  pub once : AllPairs (λ p q. (digits : List ℕ) → IsMember p digits → IsMember q digits → ⊥) parts
