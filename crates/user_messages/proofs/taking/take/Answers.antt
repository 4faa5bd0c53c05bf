use Rattle.std.proofs.Common.{List, sym, ap, ◌∙◌}
use Rattle.packet_layers.specs.Values.{data_as}
use Rattle.user_messages.specs.declared.given.Given.TheVariants.{Repeated}
use Rattle.user_messages.specs.declared.key.Key.{Key}
use Rattle.user_messages.specs.Gathering.{giving, is_repeat, keeping, noted, received}
use Rattle.user_messages.proofs.Outcomes.{kept, took_repeat, first_taken}
use Rattle.user_messages.proofs.taking.take.Goals as goal

pub returns-then-is_repeat-clause-exact : goal.returns-then-is_repeat-clause-exact
returns-then-is_repeat-clause-exact c =
    ap (λ (s : List Key). keeping s (giving c.args.waiting.now.items Repeated))
    (c.in_ok-note.ensures.ok ∙ ap (λ (k : Key). noted k c.args.seen.now) c.key_of-key.ensures)
    ∙ took_repeat (kept c.args.seen.now c.args.waiting.now.items) (received c.args.place (data_as c.args.chunk.now))
    (ap (is_repeat c.args.seen.now) (sym c.key_of-key.ensures) ∙ sym c.is_repeat.ensures ∙ c.if-is_repeat.true)

pub returns-clause-exact : goal.returns-clause-exact
returns-clause-exact c =
    first_taken c.take_first.result (kept c.args.seen.now c.args.waiting.now.items)
    (received c.args.place (data_as c.args.chunk.now)) c.take_first.new.seen c.take_first.new.waiting.items
    (ap (is_repeat c.args.seen.now) (sym c.key_of-key.ensures) ∙ sym c.is_repeat.ensures ∙ c.if-is_repeat.false)
    c.take_first.ensures.seen c.take_first.ensures.exact
