use Rattle.std.proofs.Common.{ℕ, ◌≡◌, ◌<◌, [], Some, slice_get}
use Rattle.plan_model.specs.declared.cover.Cover.{Cover}
use Rattle.plan_classes.specs.Classes.{start_of}
use Rattle.plan_unused.specs.Walks.{IsRankedBy, Grows}
use Rattle.plan_unused.proofs.walking.first_hop.Given as goal

-- the starts so far have ranks
abbrev pub invariant-loop-number : goal.invariant-loop-number
invariant-loop-number l = record {
  grows : Grows l.plan 0 [] l.met;
  starts : (number : ℕ) (cover : Cover) → number < l.number → slice_get l.plan.covers number ≡ Some cover
      → IsRankedBy l.met (start_of number cover) 0;
}
