use Rattle.std.proofs.Common.{◌≡◌, ◌≢◌, drop, take}
use Rattle.std.specs.List.{AllPairs}
use Rattle.plan_rules.specs.FirstOf.{first_of}
use Rattle.plan_text.specs.Drafts.{repeat_at}
use Rattle.plan_text.proofs.Marked.{Marks}
use Rattle.plan_text.proofs.numbers.points_repeat.Given as goal

-- the first repeat is found from here on, and the points before it have their flags
abbrev pub invariant-loop-i : goal.invariant-loop-i
invariant-loop-i l = record {
  ahead : first_of (repeat_at l.points) l.i (drop l.i l.points) ≡ first_of (repeat_at l.points) 0 l.points;
  marks : Marks l.seen (take l.i l.points);
  distinct : AllPairs (λ a b. a ≢ b) (take l.i l.points);
}
