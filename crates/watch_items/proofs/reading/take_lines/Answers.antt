use Rattle.std.proofs.Common.{◌+◌, length, arith, sym, ◌∙◌, ap}
use Rattle.std.proofs.lemmas.Bool.{eqb-true}
use Rattle.m3ua_trace.specs.Traces.{octets_of_lines}
use Rattle.watch_items.proofs.ReadingLemmas.{left, one_more, at_end}
use Rattle.watch_items.specs.Items.{items_if_read}
use Rattle.watch_items.specs.Steps.{behind}
use Rattle.trace_text.specs.Lines.{lines_of, text_line}
use Rattle.watch_items.proofs.reading.take_lines.Goals as goal

pub loop-rest-preserved : goal.loop-rest-preserved
loop-rest-preserved c =
    let items = c.loop-rest.items in
    let number = c.loop-rest.number in
    let taken = c.in_ok-take_line.ensures.taken in
    let line = text_line c.first_line-line.result.octets.now c.first_line-line.result.ended in
    let lines = lines_of c.first_line-line.result.rest.now in (
      ap (λ now. behind now (left (number + 1) c.first_line-line.result.rest.now)) taken.2
          ∙ sym (one_more items number taken.0 line lines taken.1)
          ∙ ap (λ ls. behind items (items_if_read number (octets_of_lines number ls))) (sym c.first_line-line.ensures.lines)
          ∙ c.loop-rest.invariant.0,
      omega (arith, c.in_ok-take_line.ensures.few),
    )

pub returns : goal.returns
returns c =
    sym c.loop-rest.invariant.0 ∙ at_end c.loop-rest.items c.loop-rest.number c.loop-rest.rest.now
    (eqb-true (length c.loop-rest.rest.now) 0 (sym c.is_empty.ensures ∙ c.loop-rest-test.false))
