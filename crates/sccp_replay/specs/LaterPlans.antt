-- The lines on the plans of a replay.
use Rattle.std.specs.Prelude.{ℕ, List, ◌++◌, codes, decimal}
use Rattle.sccp_report.specs.Verdicts.{accepted_line}
use Rattle.plan_model.specs.declared.limits.Limits.{Limits}
use Rattle.plan_model.specs.declared.plan_fault.PlanFault.{PlanFault}
use Rattle.sccp_work.specs.Plans.{bad_plan}

-- the plan of this number was accepted, whose file has this name
abbrev pub numbered_plan : ℕ → List ℕ → ℕ → List ℕ
numbered_plan number name bound = codes "plan " ++ decimal number ++ codes " " ++ name ++ codes " " ++ accepted_line bound

-- the first plan was accepted
unfoldable pub first_plan_line : List ℕ → ℕ → List ℕ
first_plan_line name bound = numbered_plan 1 name bound

-- the later plan of this line was accepted
unfoldable pub accepted_plan_line : ℕ → ℕ → List ℕ → ℕ → List ℕ
accepted_plan_line line number name bound = decimal line ++ codes " " ++ numbered_plan number name bound

-- the words before those on a later plan that was not accepted
unfoldable pub refused_plan_head : ℕ → List ℕ → List ℕ
refused_plan_head line name = decimal line ++ codes " plan " ++ name ++ codes " "

-- its text is no plan under limits
unfoldable pub bad_plan_line : ℕ → List ℕ → Limits → PlanFault → List ℕ
bad_plan_line line name limits fault = refused_plan_head line name ++ bad_plan limits fault

-- its relays are not those of the first plan
unfoldable pub other_nodes_line : ℕ → List ℕ → List ℕ
other_nodes_line line name = refused_plan_head line name ++ codes "other nodes\n"
