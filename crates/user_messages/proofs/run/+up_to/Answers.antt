use Rattle.std.proofs.Common.{◌-◌, Some, option_map, ap, sym, ◌∙◌, arith}
use Rattle.packet_layers.specs.Values.{data_as, DataChunk}
use Rattle.user_messages.specs.Gathering.{received, up_to}
use Rattle.user_messages.specs.Runs.{longer, put_together}
use Rattle.user_messages.proofs.Steps.{up_to-none, up_to-first, up_to-lost, up_to-far, up_to-more}
use Rattle.user_messages.proofs.run.+up_to.Goals as goal

pub returns-then-most-eq0 : goal.returns-then-most-eq0
returns-then-most-eq0 t c = λ place. up_to-none c.args.most c.args.waiting.now (received place (data_as c.args.chunk.now)) (omega arith)

pub returns-then-chunk : goal.returns-then-chunk
returns-then-chunk t c = λ place.
    ap Some (c.in_ok-longer.ensures ∙ ap (λ r. longer r (data_as c.args.chunk.now)) c.empty.ensures)
    ∙ up_to-first c.args.most c.args.waiting.now (received place (data_as c.args.chunk.now)) (omega arith) c.if-chunk.true

pub returns-in_default : goal.returns-in_default
returns-in_default t c = λ place.
    up_to-lost c.args.most c.args.waiting.now (received place (data_as c.args.chunk.now)) (omega arith) c.if-chunk.false
    (sym c.in_default.ensures)

pub returns-in_default-2 : goal.returns-in_default-2
returns-in_default-2 t c = λ place.
    up_to-far c.args.most c.args.waiting.now (received place (data_as c.args.chunk.now)) c.in-Some.fragment.now (omega arith)
    c.if-chunk.false (sym c.in-Some.ensures)
    (sym c.in_default-2.is ∙ c.in_ok-run.ensures c.in-Some.fragment.now.place
    ∙ ap (λ (d : DataChunk). option_map put_together (up_to (c.args.most - 1) c.args.waiting.now
    (received c.in-Some.fragment.now.place d))) c.chunk.ensures)

pub returns : goal.returns
returns t c = λ place.
    ap Some c.in_ok-longer-2.ensures
    ∙ up_to-more c.args.most c.args.waiting.now (received place (data_as c.args.chunk.now)) c.in-Some.fragment.now c.in-Some-2.run'
    (omega arith) c.if-chunk.false (sym c.in-Some.ensures)
    (sym c.in-Some-2.is ∙ c.in_ok-run.ensures c.in-Some.fragment.now.place
    ∙ ap (λ (d : DataChunk). option_map put_together (up_to (c.args.most - 1) c.args.waiting.now
    (received c.in-Some.fragment.now.place d))) c.chunk.ensures)
