-- The printed text of why a message is explained, or is not.
use Rattle.std.specs.Prelude.{ℕ, List, [], ◌∷◌, ◌++◌, codes, decimal}
use Rattle.std.specs.List.{flat_map}
use Rattle.std.specs.Option.{option_map_or}
use Rattle.sccp_base.specs.declared.mark.Mark.{Mark}
use Rattle.sccp_report.specs.Hops.{mark_text, marks_text}
use Rattle.relay_ways.specs.declared.condition.Condition.{Condition}
use Rattle.relay_ways.specs.declared.explanation.Explanation.{Explanation}
use Rattle.relay_ways.specs.declared.handling.Handling.{Handling}
use Rattle.relay_ways.specs.declared.handling.Taken.{Taken}
use Rattle.relay_ways.specs.declared.reason.Reason.{Reason}
use Rattle.relay_ways.specs.declared.reason.Reason.TheVariants as reasons
use Rattle.relay_watch.specs.declared.why.Why.{Why}
use Rattle.relay_watch.specs.declared.why.Why.TheVariants.{By, Again, NoArrival}

-- a mark after another one of its list
unfoldable pub or_mark : Mark → List ℕ
or_mark mark = codes "|" ++ mark_text mark

-- marks of which one is held
unfoldable pub list_text : List Mark → List ℕ
list_text [] = codes "none"
list_text (mark ∷ marks) = mark_text mark ++ flat_map or_mark marks

-- a list after another one
unfoldable pub next_list : List Mark → List ℕ
next_list marks = codes "," ++ list_text marks

-- lists with commas between them, or that there is none
unfoldable pub lists_text : List (List Mark) → List ℕ
lists_text [] = codes "none"
lists_text (marks ∷ lists) = list_text marks ++ flat_map next_list lists

-- what was held: one mark of each list, and none of the others
unfoldable pub condition_text : Condition → List ℕ
condition_text c = codes "held " ++ lists_text c.one_of ++ codes " free " ++ marks_text c.none_of

-- a row of the relay, and a target of the row, both from 0
unfoldable pub taken_text : Taken → List ℕ
taken_text t = codes "target " ++ decimal t.row ++ codes "/" ++ decimal t.target ++ codes " "

-- the return cause of a service message
unfoldable pub cause_text : ℕ → List ℕ
cause_text cause = codes "return " ++ decimal cause ++ codes " "

-- the return cause of a service message, and the target by which the message went, each if there is one
unfoldable pub handling_text : Handling → List ℕ
handling_text h = option_map_or cause_text h.cause [] ++ option_map_or taken_text h.taken []

-- a way in which the relay sends the message
unfoldable pub way_text : Explanation → List ℕ
way_text x = handling_text x.handling ++ condition_text x.condition

-- a way after another one
unfoldable pub or_way : Explanation → List ℕ
or_way x = codes " or " ++ way_text x

-- the ways in which the relay sends the message
unfoldable pub ways_text : List Explanation → List ℕ
ways_text [] = []
ways_text (x ∷ xs) = way_text x ++ flat_map or_way xs

-- the first test that fails
unfoldable pub reason_words : Reason → List ℕ
reason_words reasons.Type = codes "type"
reason_words reasons.NotAsked = codes "not asked"
reason_words reasons.Class = codes "class"
reason_words reasons.Cause = codes "cause"
reason_words reasons.Calling = codes "calling"
reason_words reasons.Parameters = codes "parameters"
reason_words reasons.Stays = codes "stays"
reason_words reasons.Hops = codes "hops"
reason_words reasons.Point = codes "point"
reason_words reasons.National = codes "national"
reason_words reasons.Routing = codes "routing"
reason_words reasons.Ssn = codes "ssn"
reason_words reasons.Title = codes "title"
reason_words reasons.Digits = codes "digits"
reason_words reasons.CalledPoint = codes "called point"
reason_words reasons.Closed = codes "closed"

-- why a message is unexplained
unfoldable pub why_words : Why → List ℕ
why_words (By number reason) = codes "by " ++ decimal number ++ codes " " ++ reason_words reason
why_words (Again number) = codes "again " ++ decimal number
why_words NoArrival = codes "no arrival"
