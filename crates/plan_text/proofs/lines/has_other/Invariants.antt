use Rattle.std.proofs.Common.{◌≡◌, map}
use Rattle.toml.specs.View.{members_view}
use Rattle.plan_text.specs.Shape.{has_other}
use Rattle.plan_text.proofs.lines.has_other.Given as goal

-- what the keys from here on answer is the answer of them all
abbrev pub invariant-loop-key : goal.invariant-loop-key
invariant-loop-key l =
    (goal.iterator-loop-key).can_next l.key-iterator × (goal.iterator-loop-key).is_finite l.key-iterator
    × (has_other (map (λ word. word.now) l.words) (members_view l.key-iterator) ≡ has_other (map (λ word. word.now) l.words)
    (members_view l.table.entries))
