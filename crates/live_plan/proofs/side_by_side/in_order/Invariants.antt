use Rattle.std.proofs.Common.{◌≡◌, ℕ, ◌+◌, ◌<◌, ◌≤◌, slice_index_or}
use Rattle.std.specs.Fork.{ChangesAt}
use Rattle.live_plan.proofs.side_by_side.in_order.Given as goal

abbrev pub invariant-loop-k : goal.invariant-loop-k
invariant-loop-k g l =
    ((i : ℕ) (d : g.row.T.Denot) → l.k ≤ i → slice_index_or l.items i d ≡ slice_index_or l.initial.items i d)
    × ((i : ℕ) (d : g.row.T.Denot) → i < l.k → ChangesAt g.F.Fn l.f (l.base + i) (slice_index_or l.initial.items i d)
    (slice_index_or l.items i d))
