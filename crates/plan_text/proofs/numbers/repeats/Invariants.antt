use Rattle.std.proofs.Common.{◌≡◌, ◌≢◌, drop, take}
use Rattle.std.specs.List.{AllPairs}
use Rattle.plan_rules.specs.FirstOf.{first_of}
use Rattle.plan_text.specs.Drafts.{repeat_at}
use Rattle.plan_text.proofs.Marked.{Marks}
use Rattle.plan_text.proofs.numbers.repeats.Given as goal

-- the first repeat is found from here on, and the numbers before it have their flags
abbrev pub invariant-loop-i : goal.invariant-loop-i
invariant-loop-i l = record {
  ahead : first_of (repeat_at l.ssns) l.i (drop l.i l.ssns) ≡ first_of (repeat_at l.ssns) 0 l.ssns;
  marks : Marks l.seen (take l.i l.ssns);
  distinct : AllPairs (λ a b. a ≢ b) (take l.i l.ssns);
}
