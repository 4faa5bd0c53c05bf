use Rattle.std.proofs.Common.{not, sym, ◌∙◌}
use Rattle.sccp_base.specs.Marks.{holds}
use Rattle.relay_ways.proofs.Possible.{holds_one_more, find_nothing}
use Rattle.relay_ways.proofs.condition.prohibit_one.Goals as goal

pub returns-in_ok-prohibit-in-Some : goal.returns-in_ok-prohibit-in-Some
returns-in_ok-prohibit-in-Some c lists before =
    holds_one_more c.args.marking.now c.prohibit.new.self c.in-Some.mark c.args.marks.now c.args.none_of.now lists
    c.in_ok-prohibit-in-Some.ensures.ok (sym c.first_allowed.ensures ∙ c.in-Some.is) before

pub returns-in-None : goal.returns-in-None
returns-in-None c =
    find_nothing (λ mark. not (holds c.args.none_of.now mark)) c.args.marks.now (sym c.first_allowed.ensures ∙ c.in-None.is)
