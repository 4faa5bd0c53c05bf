-- The words for what makes a text no plan.
use Rattle.std.specs.Prelude.{ℕ, List, [], ◌++◌, codes}
use Rattle.plan_rules.specs.declared.rule_fault.RuleFault.{RuleFault}
use Rattle.plan_rules.specs.declared.rule_fault.RuleFault.TheVariants as rules
use Rattle.plan_model.specs.Keys.{word_of}
use Rattle.plan_model.specs.declared.limits.Limits.{Limits}
use Rattle.plan_model.specs.declared.place.Place.{Place}
use Rattle.plan_model.specs.declared.place.Place.TheVariants.{Top, Node, Row, Cover}
use Rattle.plan_model.specs.declared.plan_fault.Counted.{Counted}
use Rattle.plan_model.specs.declared.plan_fault.Counted.TheVariants.{Nodes, Rows, Covers}
use Rattle.plan_model.specs.declared.plan_fault.PlanFault.{PlanFault}
use Rattle.plan_model.specs.declared.plan_fault.PlanFault.TheVariants as faults
use Rattle.sccp_report.specs.Limits.{beyond_count}
use Rattle.sccp_report.specs.Values.{numbered}

-- The place of a fault: the top, a node, a row of a node, or a cover, counted from 0, and the key.
unfoldable pub place_text : Place → List ℕ
place_text (Top key) = word_of key
place_text (Node i key) = numbered (codes "node ") i ++ codes " " ++ word_of key
place_text (Row i j key) = numbered (codes "node ") i ++ numbered (codes " row ") j ++ codes " " ++ word_of key
place_text (Cover i key) = numbered (codes "cover ") i ++ codes " " ++ word_of key

-- what there are too many of
abbrev pub counted_words : Counted → List ℕ
counted_words Nodes = codes "nodes"
counted_words Rows = codes "rows"
counted_words Covers = codes "covers"

-- why rows make no table. Want of memory is no fault of theirs, and has no words.
abbrev pub rule_words : RuleFault → List ℕ
rule_words (rules.Twice first second) = numbered (codes "twice ") first ++ numbered (codes " ") second
rule_words (rules.StripTooLong row) = numbered (codes "strip too long ") row
rule_words (rules.KindTwo row) = numbered (codes "kind two ") row
rule_words rules.OutOfMemory = []

-- why a text is no plan under limits. Want of memory is no fault of it, and has no words.
abbrev pub plan_fault_words : Limits → PlanFault → List ℕ
plan_fault_words limits faults.NotToml = codes "not toml"
plan_fault_words limits (faults.WrongShape place) = codes "wrong shape " ++ place_text place
plan_fault_words limits (faults.BadValue place) = codes "bad value " ++ place_text place
plan_fault_words limits (faults.Repeated place) = codes "repeated " ++ place_text place
plan_fault_words limits (faults.UnknownNode place) = codes "unknown node " ++ place_text place
plan_fault_words limits (faults.RelayToSelf place) = codes "relay to self " ++ place_text place
plan_fault_words limits (faults.Rule node fault) = numbered (codes "rule node ") node ++ codes " " ++ rule_words fault
plan_fault_words limits faults.NoCover = codes "no cover"
plan_fault_words limits (faults.Limit counted) = codes "limit " ++ counted_words counted ++ beyond_count limits counted
plan_fault_words limits (faults.BadCover place) = codes "bad cover " ++ place_text place
plan_fault_words limits faults.OutOfMemory = []

unfoldable pub plan_fault_text : Limits → PlanFault → List ℕ
plan_fault_text limits fault = plan_fault_words limits fault ++ codes "\n"
