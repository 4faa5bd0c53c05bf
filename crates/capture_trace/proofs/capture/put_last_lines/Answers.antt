use Rattle.capture_trace.proofs.LastLines.{all_parts}
use Rattle.capture_trace.proofs.capture.put_last_lines.Goals as goal

pub returns : goal.returns
returns c =
    all_parts c.args.counts.now c.in_ok-counts.counts c.args.fault c.args.waiting.now c.args.text.now.items c.put_fault_line.new.text.items
    c.put_alone_lines.new.text.items c.put_end_line.new.text.items c.in_ok-put_fault_line.ensures c.in_ok-put_alone_lines.ensures
    c.in_ok-counts.ensures c.in_ok-put_end_line.ensures
