use Rattle.std.proofs.Common.{◌≡◌, ◌-◌, IfOk, option_map, ap, sym, subst, ◌∙◌, arith}
use Rattle.packet_layers.specs.Values.{data_as, DataChunk}
use Rattle.user_messages.specs.declared.run.Run.{Run}
use Rattle.user_messages.specs.Gathering.{received, after}
use Rattle.user_messages.specs.Runs.{longer, longer_by}
use Rattle.user_messages.proofs.Steps.{after-none, after-last, after-lost, after-more}
use Rattle.user_messages.proofs.run.+after.Goals as goal

pub returns-then-most-eq0 : goal.returns-then-most-eq0
returns-then-most-eq0 t c = λ place.
    after-none c.args.most c.args.waiting.now (received place (data_as c.args.chunk.now)) c.args.run (omega arith)

pub returns-then-chunk : goal.returns-then-chunk
returns-then-chunk t c = λ place.
    after-last c.args.most c.args.waiting.now (received place (data_as c.args.chunk.now)) c.args.run (omega arith) c.if-chunk.true

pub returns-in_default : goal.returns-in_default
returns-in_default t c = λ place.
    after-lost c.args.most c.args.waiting.now (received place (data_as c.args.chunk.now)) c.args.run (omega arith) c.if-chunk.false
    (sym c.in_default.ensures)

pub returns : goal.returns
returns t c = λ place.
    let run : c.in_ok-run.run' ≡ longer c.args.run c.in-Some.fragment.now.chunk =
    c.in_ok-run.ensures ∙ ap (longer c.args.run) c.chunk.ensures in
    after-more c.args.most c.args.waiting.now (received place (data_as c.args.chunk.now)) c.in-Some.fragment.now c.args.run c.after.result
    (omega arith) c.if-chunk.false (sym c.in-Some.ensures)
    (subst (λ (r : Run). IfOk c.after.result (λ more. more
    ≡ option_map (longer_by r) (after (c.args.most - 1) c.args.waiting.now c.in-Some.fragment.now))) run
    (subst (λ (d : DataChunk). IfOk c.after.result (λ more. more
    ≡ option_map (longer_by c.in_ok-run.run') (after (c.args.most - 1) c.args.waiting.now
    (received c.in-Some.fragment.now.place d)))) c.chunk-2.ensures
    (c.after.ensures c.in-Some.fragment.now.place)))
