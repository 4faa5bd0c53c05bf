use Rattle.std.proofs.Common.{◌∙◌, ap}
use Rattle.sccp_segment.specs.Pooling.{took, under_way}
use Rattle.sccp_segment.proofs.Steps.{keeps, kept_by}
use Rattle.sccp_segment.proofs.Heard.{others_stay_by}
use Rattle.sccp_segment.proofs.pool.Pool.take.Goals as goal

pub invariant_of-self : goal.invariant_of-self
invariant_of-self c =
    kept_by c.step.result c.self.inside.runs.items c.step.new.runs.items
    (took c.self.inside.runs.items c.args.key c.args.segment).runs c.self.invariant
    (keeps c.self.inside.runs.items c.args.key c.args.segment c.self.invariant) c.step.ensures.ok c.step.ensures.err

pub returns-clause-others : goal.returns-clause-others
returns-clause-others c = λ other apart.
    others_stay_by c.step.result c.self.inside.runs.items c.step.new.runs.items c.args.key other c.args.segment c.step.ensures.ok
    c.step.ensures.err apart ∙ ap (λ rs. under_way rs other) c.self.view_is

pub returns-clause-kept : goal.returns-clause-kept
returns-clause-kept c =
    kept_by c.step.result c.self.inside.runs.items c.step.new.runs.items
    (took c.self.inside.runs.items c.args.key c.args.segment).runs c.self.invariant
    (keeps c.self.inside.runs.items c.args.key c.args.segment c.self.invariant) c.step.ensures.ok c.step.ensures.err
