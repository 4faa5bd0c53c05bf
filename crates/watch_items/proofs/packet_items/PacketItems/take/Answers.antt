use Rattle.std.proofs.Common.{◌∙◌, ◌++◌, ap}
use Rattle.capture_file.specs.Views.{captured}
use Rattle.capture_trace.specs.declared.counts.Counts.{Counts}
use Rattle.capture_trace.specs.Traced.{Standing, standing, with_packet}
use Rattle.watch_items.specs.Captures.{of_packet}
use Rattle.watch_items.proofs.packet_items.PacketItems.take.Goals as goal

pub returns-clause-now : goal.returns-clause-now
returns-clause-now c =
    c.in_ok-self-inside.ensures.now ∙ ap (λ (s : Standing). (of_packet s (captured c.args.held.now)).now)
    (ap (λ (k : Counts). standing k c.self.inside.gatherer) c.in_ok-counts.ensures ∙ ap with_packet c.self.view_is)

pub returns-clause-items : goal.returns-clause-items
returns-clause-items c =
    c.in_ok-self-inside.ensures.items
    ∙ ap (λ (s : Standing). c.args.items.now ++ (of_packet s (captured c.args.held.now)).items)
    (ap (λ (k : Counts). standing k c.self.inside.gatherer) c.in_ok-counts.ensures ∙ ap with_packet c.self.view_is)
