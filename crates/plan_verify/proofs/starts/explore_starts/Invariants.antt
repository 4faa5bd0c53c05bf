use Rattle.std.proofs.Common.{◌≡◌, ◌<◌, ◌≤◌, ℕ, Some}
use Rattle.std.specs.Prelude.{slice_get}
use Rattle.plan_model.specs.declared.cover.Cover.{Cover}
use Rattle.plan_classes.specs.Classes.{start_of}
use Rattle.plan_check.specs.Ranking.{rank_in}
use Rattle.plan_check.specs.Ranked.{RanksUpTo}
use Rattle.plan_verify.specs.Searching.{IsSound, IsBelowLimit, HasStart}
use Rattle.plan_verify.proofs.starts.explore_starts.Given as goal

-- the starts so far rank up to the greatest, and the one that was kept has it
abbrev pub invariant-loop-number : goal.invariant-loop-number
invariant-loop-number l = record {
  sound : IsSound l.plan l.ranks;
  room : IsBelowLimit l.plan l.ranks;
  below : (number : ℕ) (cover : Cover) → number < l.number → slice_get l.plan.covers number ≡ Some cover
      → RanksUpTo (rank_in l.ranks) l.greatest.rank (start_of number cover);
  some : 1 ≤ l.greatest.rank → HasStart l.plan l.ranks l.greatest;
}
