use Rattle.sccp_message.specs.Unitdata.{called_of}
use Rattle.relay_ways.proofs.AlikeLemmas.{called_pair}
use Rattle.relay_ways.proofs.alike.have_same_called.Goals as goal

pub returns-in-Some-called : goal.returns-in-Some-called
returns-in-Some-called c =
    called_pair c.args.to (called_of c.args.a.now) (called_of c.args.b.now) c.in-Some.a.now c.in-Some-called.b.now c.same_called.result
    c.in-Some.ensures c.in-Some-called.ensures c.same_called.ensures
