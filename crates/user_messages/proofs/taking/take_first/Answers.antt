use Rattle.std.proofs.Common.{List, option_map, sym, ap, ◌∙◌}
use Rattle.std.proofs.lemmas.Result.{IfOk-equal}
use Rattle.packet_layers.specs.Values.{data_as}
use Rattle.user_messages.specs.declared.key.Key.{Key}
use Rattle.user_messages.specs.Chunks.{key_of}
use Rattle.user_messages.specs.Gathering.{Received, noted, received, run_of}
use Rattle.user_messages.specs.Runs.{put_together}
use Rattle.user_messages.proofs.Outcomes.{single_given, joined, not_joined}
use Rattle.user_messages.proofs.taking.take_first.Goals as goal

pub returns-then-is_single-clause-exact : goal.returns-then-is_single-clause-exact
returns-then-is_single-clause-exact c =
    single_given c.give.result c.args.waiting.now.items (received c.args.place (data_as c.args.chunk.now))
    (sym c.is_single.ensures ∙ c.if-is_single.true) c.give.ensures.given

pub returns-in-Some-clause-exact : goal.returns-in-Some-clause-exact
returns-in-Some-clause-exact c =
    joined c.join.result c.args.waiting.now.items c.join.new.waiting.items (received c.args.place (data_as c.args.chunk.now))
    c.in-Some.run' (sym c.is_single.ensures ∙ c.if-is_single.false)
    (sym c.in-Some.is ∙ c.in_ok-run.ensures c.args.place
    ∙ ap (λ (w : List Received). option_map put_together (run_of w (received c.args.place (data_as c.args.chunk.now))))
    c.as_slice.ensures.value)
    c.join.ensures.exact

pub returns-in-Some-clause-seen : goal.returns-in-Some-clause-seen
returns-in-Some-clause-seen c =
    IfOk-equal c.join.result c.join.new.seen (noted c.key_of.result c.args.seen.now)
    (noted (key_of (data_as c.args.chunk.now)) c.args.seen.now) c.join.ensures.seen
    (ap (λ (k : Key). noted k c.args.seen.now) c.key_of.ensures)

pub returns-in_ok-fragment-in-None-clause-exact : goal.returns-in_ok-fragment-in-None-clause-exact
returns-in_ok-fragment-in-None-clause-exact c =
    not_joined c.wait.result c.args.waiting.now.items c.wait.new.waiting.items (received c.args.place (data_as c.args.chunk.now))
    c.in_ok-fragment-in-None.fragment (sym c.is_single.ensures ∙ c.if-is_single.false)
    (sym c.in-None.is ∙ c.in_ok-run.ensures c.args.place
    ∙ ap (λ (w : List Received). option_map put_together (run_of w (received c.args.place (data_as c.args.chunk.now))))
    c.as_slice.ensures.value)
    c.in_ok-fragment-in-None.ensures c.wait.ensures.exact

pub returns-in_ok-fragment-in-None-clause-seen : goal.returns-in_ok-fragment-in-None-clause-seen
returns-in_ok-fragment-in-None-clause-seen c =
    IfOk-equal c.wait.result c.wait.new.seen (noted c.key_of-in-None.result c.args.seen.now)
    (noted (key_of (data_as c.args.chunk.now)) c.args.seen.now) c.wait.ensures.seen
    (ap (λ (k : Key). noted k c.args.seen.now) c.key_of-in-None.ensures)
