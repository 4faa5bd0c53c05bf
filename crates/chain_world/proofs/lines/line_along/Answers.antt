use Rattle.std.proofs.Common.{rules, ◌<◌, ◌-◌, length, Some, ap, ◌∙◌, arith}
use Rattle.couple_chain.specs.Line.{Line}
use Rattle.chain_world.proofs.Lined.{along, nodes_within}
use Rattle.chain_world.proofs.lines.line_along.Goals as goal

pub returns-clause-value : goal.returns-clause-value
returns-clause-value c =
    let some : 0 < length c.args.path.now = search rules in
    ap (λ (l : Line). Some l) c.in_ok-line.ensures.value
    ∙ along c.args.plan.now c.args.relays.now c.args.links.now c.args.point c.args.path.now c.index-path-0.result c.index-path-place.result
    (length c.args.path.now - 1) (omega (arith, some)) c.index-path-0.is c.index-path-place.is

pub returns-clause-inside : goal.returns-clause-inside
returns-clause-inside c = nodes_within _ c.args.path.now _ c.in_ok-line.ensures.path c.requires.inside
