use Rattle.std.proofs.Common.{◌≡◌, ◌+◌, ◌-◌, filter}
use Rattle.std.specs.List.{range_with_len}
use Rattle.sccp_couple.specs.Marked.{is_unmarked}
use Rattle.sccp_couple.proofs.references.least_unmarked.Given as goal

-- every number before this one has a mark
abbrev pub invariant-loop-number : goal.invariant-loop-number
invariant-loop-number l =
    filter (is_unmarked l.marks) (range_with_len l.fn.from l.fn.count)
    ≡ filter (is_unmarked l.marks) (range_with_len l.number ((l.fn.from + l.fn.count) - l.number))
