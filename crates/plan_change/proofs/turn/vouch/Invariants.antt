use Rattle.std.specs.List.{AllWithin}
use Rattle.sccp_base.specs.Marks.{IsMarking}
use Rattle.plan_change.proofs.turn.vouch.Given as goal

-- each turn up to this one
abbrev pub invariant-loop-turn : goal.invariant-loop-turn
invariant-loop-turn l = AllWithin (λ turn. IsMarking turn.marking) l.turns 0 l.turn-index
