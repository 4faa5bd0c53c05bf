use Rattle.std.proofs.Common.{◌≡◌, ◌+◌, ◌++◌, ◌∷◌, [], length, arith, sym, ◌∙◌, ap}
use Rattle.std.proofs.lemmas.Bool.{eqb-true}
use Rattle.trace_text.specs.Lines.{lines_of, text_line}
use Rattle.m3ua_trace.specs.Traces.{octets_of_lines, text_of_octets, trace_if_read}
use Rattle.m3ua_trace.proofs.Loop.{behind, one_more, at_end, is_traced}
use Rattle.m3ua_trace.proofs.lines.import.Goals as goal

pub loop-rest-preserved : goal.loop-rest-preserved
loop-rest-preserved c =
    let plan = c.args.plan.now in
    let text = c.loop-rest.text.items in
    let number = c.loop-rest.number in
    let octets = c.in_ok-octets.octets in
    let line = text_line c.first_line-line.result.octets.now c.first_line-line.result.ended in
    let lines = lines_of c.first_line-line.result.rest.now in
    let put : c.put_line.new.text.items ≡ text ++ (text_of_octets plan octets ++ 10 ∷ []) = c.in_ok-put_line.ensures
    ∙ ap (λ o. text ++ (text_of_octets plan o ++ 10 ∷ [])) c.as_slice-held.ensures in (
      ap (λ t. behind t (trace_if_read plan (octets_of_lines (number + 1) lines))) put
          ∙ sym (one_more plan text octets number line lines c.in_ok-octets.ensures.octets)
          ∙ ap (λ ls. behind text (trace_if_read plan (octets_of_lines number ls))) (sym c.first_line-line.ensures.lines)
          ∙ c.loop-rest.invariant.0,
      omega (arith, c.in_ok-octets.ensures.few),
    )

pub returns-clause-exact : goal.returns-clause-exact
returns-clause-exact c =
    sym c.loop-rest.invariant.0 ∙ at_end c.args.plan.now c.loop-rest.text.items c.loop-rest.rest.now c.loop-rest.number
    (eqb-true (length c.loop-rest.rest.now) 0 (sym c.is_empty.ensures ∙ c.loop-rest-test.false))

pub returns-clause-trace : goal.returns-clause-trace
returns-clause-trace c =
    is_traced c.args.plan.now c.args.file.now c.loop-rest.text.items
    (sym c.loop-rest.invariant.0 ∙ at_end c.args.plan.now c.loop-rest.text.items c.loop-rest.rest.now c.loop-rest.number
    (eqb-true (length c.loop-rest.rest.now) 0 (sym c.is_empty.ensures ∙ c.loop-rest-test.false)))
