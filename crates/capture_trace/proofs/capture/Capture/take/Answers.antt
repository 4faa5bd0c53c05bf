use Rattle.std.proofs.Common.{◌∙◌, ◌++◌, ap}
use Rattle.capture_file.specs.Views.{captured}
use Rattle.capture_trace.specs.declared.counts.Counts.{Counts}
use Rattle.capture_trace.specs.Traced.{Standing, standing, with_packet, of_packet}
use Rattle.capture_trace.specs.Words.{text_of_lines}
use Rattle.capture_trace.proofs.capture.Capture.take.Goals as goal

pub returns-clause-now : goal.returns-clause-now
returns-clause-now c =
    c.in_ok-self-inside.ensures.now ∙ ap (λ (s : Standing). (of_packet c.args.plan.now s (captured c.args.held.now)).now)
    (ap (λ (k : Counts). standing k c.self.inside.gatherer) c.in_ok-counts.ensures ∙ ap with_packet c.self.view_is)

pub returns-clause-text : goal.returns-clause-text
returns-clause-text c =
    c.in_ok-self-inside.ensures.text
    ∙ ap (λ (s : Standing). c.args.text.now.items ++ text_of_lines (of_packet c.args.plan.now s (captured c.args.held.now)).lines)
    (ap (λ (k : Counts). standing k c.self.inside.gatherer) c.in_ok-counts.ensures ∙ ap with_packet c.self.view_is)
