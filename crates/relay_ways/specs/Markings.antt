-- How few markings, one after the other, meet conditions in their order.
use Rattle.std.specs.Prelude.{◌≡◌, ℕ, ◌+◌, Bool, true, not, if◌then◌else◌, List, [], ◌∷◌, Option, Some, None}
use Rattle.std.specs.List.{All, flat_map, list_all}
use Rattle.sccp_base.specs.declared.mark.Mark.{Mark}
use Rattle.relay_ways.specs.Conditions.{both, is_possible, meets}
use Rattle.relay_ways.specs.Settled.{settled}
use Rattle.relay_ways.specs.declared.condition.Condition.{Condition}

-- A condition joins those so far, which are one condition, if some marking meets all. Otherwise another marking begins with it.
abbrev pub begins : Option Condition → Condition → Bool
begins None c = true
begins (Some s) c = not (is_possible (both s c))

-- the conditions that the last marking meets, as one condition
abbrev pub joined : Option Condition → Condition → Condition
joined None c = c
joined (Some s) c = if is_possible (both s c) then settled (both s c) else c

-- how many markings begin with these conditions, after those so far
abbrev pub markings_from : Option Condition → List Condition → ℕ
markings_from s [] = 0
markings_from s (c ∷ cs) = (if begins s c then 1 else 0) + markings_from (Some (joined s c)) cs

abbrev pub markings : List Condition → ℕ
markings cs = markings_from None cs

-- one marking meets all of them
abbrev pub AreMet : List Condition → Type 0
AreMet cs = (marking : List Mark) × (list_all (meets marking) cs ≡ true)

-- the conditions in their order, cut into parts each of which one marking meets
abbrev pub joined_parts : List (List Condition) → List Condition
joined_parts parts = flat_map (λ part. part) parts

pub record AreParts (cs : List Condition) (parts : List (List Condition)) : Type 0 where
  pub whole : joined_parts parts ≡ cs
  pub met : All AreMet parts
