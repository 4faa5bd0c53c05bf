use Rattle.relay_ways.specs.Alike.{params_of}
use Rattle.relay_ways.proofs.ReasonLemmas.{params_tested}
use Rattle.relay_ways.proofs.reasoning.keeps_params.Goals as goal

pub returns : goal.returns
returns c =
    params_tested c.have_same_params.result (params_of c.args.message.now) (params_of c.args.sent.now) c.have_same_params.ensures
