use Rattle.std.proofs.Common.{sym, ◌∙◌}
use Rattle.packet_layers.specs.Values.{data_as}
use Rattle.user_messages.specs.Gathering.{received}
use Rattle.user_messages.proofs.Steps.{run_of-none, run_of-more}
use Rattle.user_messages.proofs.run.run_of.Goals as goal

pub returns-in_default : goal.returns-in_default
returns-in_default c = λ place.
    run_of-none c.args.waiting.now (received place (data_as c.args.chunk.now)) (sym c.in_default.is ∙ c.in_ok-run.ensures place)

pub returns : goal.returns
returns c = λ place.
    run_of-more c.args.waiting.now (received place (data_as c.args.chunk.now)) c.in-Some.run' c.after.result
    (sym c.in-Some.is ∙ c.in_ok-run.ensures place) (c.after.ensures place)
