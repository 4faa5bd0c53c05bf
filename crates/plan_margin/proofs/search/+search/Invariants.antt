use Rattle.std.proofs.Common.{◌+◌, ◌-◌, ◌*◌, ◌<◌, take}
use Rattle.std.specs.List.{All}
use Rattle.plan_margin.specs.Searching.{IsIn, AllArrive, most_ways}
use Rattle.plan_margin.proofs.Counted.{CountsBefore}
use Rattle.plan_margin.proofs.Measures.{free_at}
use Rattle.plan_margin.proofs.search.+search.Given as goal

-- A part has fewer open digits, a next class fewer hops left, and the next place fewer targets after it. A target that is looked at
-- again has fewer marks that may be held.
abbrev pub decreases-explore : goal.decreases-explore
decreases-explore l = 6000 * (l.left + l.class.now.most) + 5999

abbrev pub decreases-explore_parts : goal.decreases-explore_parts
decreases-explore_parts l = 6000 * (l.left + l.class.now.most) + 5998

abbrev pub decreases-explore_targets : goal.decreases-explore_targets
decreases-explore_targets l = 6000 * (l.left + l.class.now.most) + 5998

abbrev pub decreases-follow_row : goal.decreases-follow_row
decreases-follow_row l = 6000 * (l.choice.now.left + l.choice.now.class.now.most) + 20 * (256 - l.choice.now.place)
    + 4 * free_at l.plan.now l.choice.now.class.now l.choice.now.place l.set.now + 3

abbrev pub decreases-follow_either : goal.decreases-follow_either
decreases-follow_either l = 6000 * (l.choice.now.left + l.choice.now.class.now.most) + 20 * (256 - l.choice.now.place)
    + 4 * free_at l.plan.now l.choice.now.class.now l.choice.now.place l.set.now + 2

abbrev pub decreases-follow_up : goal.decreases-follow_up
decreases-follow_up l = 6000 * (l.choice.now.left + l.choice.now.class.now.most) + 20 * (256 - l.choice.now.place)
    + 4 * free_at l.plan.now l.choice.now.class.now l.choice.now.place l.set.now + 1

abbrev pub decreases-follow_lost : goal.decreases-follow_lost
decreases-follow_lost l = 6000 * (l.choice.now.left + l.choice.now.class.now.most) + 20 * (256 - l.choice.now.place)
    + 4 * free_at l.plan.now l.choice.now.class.now l.choice.now.place l.set.now + 1

abbrev pub decreases-follow_target : goal.decreases-follow_target
decreases-follow_target l = 6000 * (l.choice.now.left + l.choice.now.class.now.most)

-- the titles of the parts so far arrive, the limit is not reached, and what is counted is on the ways of these parts
abbrev pub invariant-explore_parts-loop-part : goal.invariant-explore_parts-loop-part
invariant-explore_parts-loop-part l = record {
  few : l.count < most_ways;
  arrive : All (λ part. AllArrive l.plan part l.left l.set.most (IsIn l.plan l.set) l.cut) (take l.part-index l.part-items);
  counts : CountsBefore l.plan l.set l.left l.part-items l.part-index l.fn.count l.count;
}
