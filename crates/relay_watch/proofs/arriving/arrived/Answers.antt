use Rattle.relay_watch.proofs.arriving.arrived.Goals as goal

pub returns : goal.returns
returns c = c.arrive.ensures.exact
