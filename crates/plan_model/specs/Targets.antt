-- Which marks close a target, and which target is the first open one (ITU-T Q.714 sections 2 and 5).
use Rattle.std.specs.Prelude.{ℕ, ◌+◌, ◌==◌, if◌then◌else◌, List, [], ◌∷◌, Option, Some, None, is_none}
use Rattle.std.specs.List.{find}
use Rattle.std.specs.Option.{unwrap_or}
use Rattle.sccp_base.specs.Marks.{holds}
use Rattle.sccp_base.specs.declared.mark.Mark.{Mark}
use Rattle.sccp_base.specs.declared.mark.Mark.TheVariants.{PointCode, Sccp, Subsystem}
use Rattle.plan_rules.specs.declared.target.Target.{Target}
use Rattle.plan_rules.specs.declared.target.Target.TheVariants.{Relay, Final}
use Rattle.plan_model.specs.declared.node.Node.{Node}

-- The marks that close a target: its point, the SCCP there and, for a destination, its subsystem. Only its subsystem closes a
-- destination at the node itself.
abbrev pub marks : Node → ℕ → Target → List Mark
marks node ssn (Relay pc strip put selector named) = PointCode pc ∷ Sccp pc ∷ []
marks node ssn (Final pc named) =
    if pc == node.pc
    then Subsystem pc (unwrap_or named ssn) ∷ []
    else PointCode pc ∷ Sccp pc ∷ Subsystem pc (unwrap_or named ssn) ∷ []

-- the first of them that is held: a target is open if none is
abbrev pub closing : Node → ℕ → List Mark → Target → Option Mark
closing node ssn marking target = find (holds marking) (marks node ssn target)

-- the place of the first open target, and the target
abbrev pub first_open : Node → ℕ → List Mark → ℕ → List Target → Option (ℕ × Target)
first_open node ssn marking place [] = None
first_open node ssn marking place (t ∷ ts) =
    if is_none (closing node ssn marking t) then Some (place, t) else first_open node ssn marking (place + 1) ts
