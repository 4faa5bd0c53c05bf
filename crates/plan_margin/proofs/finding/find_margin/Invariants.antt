use Rattle.plan_margin.specs.Outages.{SurvivesBelow}
use Rattle.plan_margin.proofs.finding.find_margin.Given as goal

-- fewer losses stop no title
abbrev pub invariant-loop-most : goal.invariant-loop-most
invariant-loop-most l = SurvivesBelow l.plan l.kinds l.cover l.most
