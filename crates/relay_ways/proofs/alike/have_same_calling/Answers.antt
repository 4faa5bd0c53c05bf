use Rattle.relay_ways.specs.Alike.{calling_of}
use Rattle.relay_ways.proofs.AlikeLemmas.{calling_pair}
use Rattle.relay_ways.proofs.alike.have_same_calling.Goals as goal

pub returns-in-Some-calling : goal.returns-in-Some-calling
returns-in-Some-calling c =
    calling_pair (calling_of c.args.a.now) (calling_of c.args.b.now) c.in-Some.a.now c.in-Some-calling.b.now c.same_address.result
    c.in-Some.ensures c.in-Some-calling.ensures c.same_address.ensures
