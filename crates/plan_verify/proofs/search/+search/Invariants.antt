use Rattle.std.proofs.Common.{◌+◌, ◌-◌, ◌*◌, ◌≤◌, ◌<◌, ℕ, take}
use Rattle.std.specs.List.{All, Any}
use Rattle.plan_check.specs.Ranking.{rank_in}
use Rattle.plan_check.specs.Ranked.{RanksUpTo, LeadsWell}
use Rattle.plan_classes.specs.declared.leads.Image.{Image}
use Rattle.plan_classes.specs.Classes.{Reaches, HasImage}
use Rattle.plan_verify.specs.Attained.{RanksFrom, LeadsHigh}
use Rattle.plan_verify.specs.Searching.{Keeps, IsSound, IsBelowLimit}
use Rattle.plan_verify.proofs.search.+search.Given as goal

-- a part has fewer open digits; a next class has the same number of them, and one rewriting more is done
abbrev pub decreases-explore : goal.decreases-explore
decreases-explore l = 5 * ((14 - l.depth) + l.class.now.most) + 4

abbrev pub decreases-follow : goal.decreases-follow
decreases-follow l = 5 * ((14 - l.depth) + l.class.now.most) + 3

abbrev pub decreases-explore_parts : goal.decreases-explore_parts
decreases-explore_parts l = 5 * ((14 - l.depth) + l.class.now.most) + 2

-- the parts so far rank up to the greatest, and one of them has it
abbrev pub invariant-explore_parts-loop-part : goal.invariant-explore_parts-loop-part
invariant-explore_parts-loop-part l = record {
  keeps : Keeps l.fn.ranks l.ranks;
  sound : IsSound l.plan l.ranks;
  room : IsBelowLimit l.plan l.ranks;
  low : 1 ≤ l.rank;
  few : l.depth + l.rank ≤ 14;
  below : All (RanksUpTo (rank_in l.ranks) l.rank) (take l.part-index l.part-items);
  some : 2 ≤ l.rank → Any (RanksFrom (rank_in l.ranks) l.rank) (take l.part-index l.part-items);
}

abbrev pub decreases-explore_targets : goal.decreases-explore_targets
decreases-explore_targets l = 5 * ((14 - l.depth) + l.class.now.most) + 2

abbrev pub decreases-explore_row : goal.decreases-explore_row
decreases-explore_row l = 5 * ((14 - l.stop.now.depth) + l.stop.now.class.now.most) + 1

abbrev pub decreases-explore_target : goal.decreases-explore_target
decreases-explore_target l = 5 * ((14 - l.stop.now.depth) + l.stop.now.class.now.most)

-- the targets so far lead well, and one of them leads to the greatest rank
abbrev pub invariant-explore_row-loop-place : goal.invariant-explore_row-loop-place
invariant-explore_row-loop-place l = record {
  keeps : Keeps l.fn.ranks l.ranks;
  sound : IsSound l.plan l.ranks;
  room : IsBelowLimit l.plan l.ranks;
  low : 1 ≤ l.rank;
  few : l.stop.depth + l.rank ≤ 14;
  leads : (place : ℕ) (image : Image) → place < l.place → Reaches l.plan l.stop.class.now place
      → HasImage l.plan l.stop.class.now place image → LeadsWell l.plan (rank_in l.ranks) l.stop.class.now.cover l.rank image;
  some : 2 ≤ l.rank → LeadsHigh l.plan (rank_in l.ranks) l.stop.class.now (l.rank - 1);
}
