use Rattle.std.proofs.Common.{◌-◌, subst}
use Rattle.plan_margin.specs.declared.found.Found.{Found}
use Rattle.plan_margin.specs.Searching.{IsFound, IsIn}
use Rattle.plan_margin.proofs.Arriving.{stops_back, arrive_next}
use Rattle.plan_margin.proofs.search.carried.Goals as goal

pub returns-in-Stopped-clause-found : goal.returns-in-Stopped-clause-found
returns-in-Stopped-clause-found c =
    let choice = c.args.choice.now in
    let stop = subst (λ (f : Found). IsFound c.args.plan.now c.args.next.now (choice.left - 1) c.args.set.now f) c.in-Stopped.is
    c.requires.found in
    stops_back c.args.plan.now choice.class.now c.args.next.now choice.place choice.left c.args.set.now.most
    (IsIn c.args.plan.now c.args.set.now)
    c.in-Stopped.digits c.carry_back.result c.in-Stopped.lost c.requires.some c.requires.class c.requires.decided
    (c.requires.takes c.in-Stopped.lost stop.within) c.requires.cover c.carry_back.ensures.member
    (c.carry_back.ensures.leads c.args.next.now c.requires.image) stop

pub returns-in-Through-clause-found : goal.returns-in-Through-clause-found
returns-in-Through-clause-found c =
    let choice = c.args.choice.now in
    arrive_next c.args.plan.now choice.class.now c.args.next.now choice.place choice.left c.args.set.now.most
    (IsIn c.args.plan.now c.args.set.now)
    c.in-Through.cut c.requires.some c.requires.class c.requires.decided c.requires.takes c.requires.exact c.requires.cover
    (subst (λ (f : Found). IsFound c.args.plan.now c.args.next.now (choice.left - 1) c.args.set.now f) c.in-Through.is c.requires.found)
