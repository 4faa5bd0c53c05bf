use Rattle.std.proofs.Common.{◌≡◌, ◌++◌, ◌∷◌, [], ap, ◌∙◌}
use Rattle.std.specs.List.{range_with_len}
use Rattle.std.proofs.lemmas.Result.{err_from_is_err_and}
use Rattle.sccp_base.specs.Answers.{all_ok}
use Rattle.sccp_base.proofs.AllOk.{goes_on, ends}
use Rattle.sccp_layout.specs.Splitting.{is_memory, part_at}
use Rattle.sccp_layout.proofs.splitting.variable_of.Goals as goal

pub returns-in_err-part : goal.returns-in_err-part
returns-in_err-part c =
    let p = err_from_is_err_and c.from_residual.result c.from_residual.ensures.1 in
    let f = part_at c.args.layout.now c.args.octets.now in
    rw (p.1, p.2) (ends is_memory c.in_err-part.field-0.0 f c.loop-i.variable c.args.layout.now.variable c.loop-i.i
    (all_ok f (range_with_len 0 c.args.layout.now.variable)) c.loop-i-test.true c.in_err-part.ensures c.loop-i.invariant)

pub loop-i-preserved : goal.loop-i-preserved
loop-i-preserved c =
    let f = part_at c.args.layout.now c.args.octets.now in
    let pushed : c.push.new.self ≡ c.loop-i.variable ++ c.in_ok-part.part.now ∷ [] =
    c.in_ok-push.ensures.ok ∙ ap (λ part. c.loop-i.variable ++ part ∷ []) (c.new.ensures) in
    rw pushed (goes_on f c.loop-i.variable c.args.layout.now.variable c.loop-i.i c.in_ok-part.part.now
    (all_ok f (range_with_len 0 c.args.layout.now.variable)) c.loop-i-test.true c.in_ok-part.ensures c.loop-i.invariant)
