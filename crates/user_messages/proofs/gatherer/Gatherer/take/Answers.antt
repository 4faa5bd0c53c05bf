use Rattle.std.proofs.Common.{◌∙◌}
use Rattle.packet_layers.specs.Values.{data_as}
use Rattle.user_messages.specs.Gathering.{received}
use Rattle.user_messages.proofs.Outcomes.{kept, still_few, one_taken}
use Rattle.user_messages.proofs.gatherer.Gatherer.take.Goals as goal

pub invariant_of-self : goal.invariant_of-self
invariant_of-self c =
    still_few c.take-given.result (kept c.self.inside.seen c.self.inside.waiting.items)
    (received c.args.place (data_as c.args.chunk.now)) c.take-given.new.seen c.take-given.new.waiting.items c.self.invariant
    c.take-given.ensures.exact c.take-given.ensures.waiting_stays

pub returns-clause-capture : goal.returns-clause-capture
returns-clause-capture c = λ cs same.
    one_taken c.take-given.result cs (received c.args.place (data_as c.args.chunk.now))
    (kept c.self.inside.seen c.self.inside.waiting.items) c.take-given.new.seen c.take-given.new.waiting.items
    (c.self.view_is ∙ same) c.take-given.ensures.exact

pub returns-clause-waiting : goal.returns-clause-waiting
returns-clause-waiting c =
    still_few c.take-given.result (kept c.self.inside.seen c.self.inside.waiting.items)
    (received c.args.place (data_as c.args.chunk.now)) c.take-given.new.seen c.take-given.new.waiting.items c.self.invariant
    c.take-given.ensures.exact c.take-given.ensures.waiting_stays
