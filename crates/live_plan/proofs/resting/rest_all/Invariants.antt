use Rattle.std.proofs.Common.{◌≡◌, ◌+◌, ◌<◌, ◌≤◌, ℕ, length, slice_index_or}
use Rattle.std.specs.Arc.{arc_value}
use Rattle.std.specs.List.{All}
use Rattle.live_plan.specs.Batches.{Rests}
use Rattle.live_plan.specs.Plans.{nodes_of}
use Rattle.live_plan.proofs.resting.rest_all.Given as goal

abbrev pub invariant-loop-k : goal.invariant-loop-k
invariant-loop-k l =
    (length l.workers ≡ length l.fn.workers) × (length l.fn.workers ≤ length l.left.items + l.k)
    × ((i : ℕ) (d : _) → i < length l.fn.workers
    → All (λ plan. nodes_of (arc_value (arc_value plan)) ≡ (slice_index_or l.fn.workers i d).place.nodes) l.left.items)
    × ((i : ℕ) (d : _) → l.k ≤ i → slice_index_or l.workers i d ≡ slice_index_or l.fn.workers i d)
    × ((i : ℕ) (d : _) → i < l.k → Rests l.number (slice_index_or l.fn.workers i d) (slice_index_or l.workers i d))
