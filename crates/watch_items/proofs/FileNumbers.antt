-- No two messages of a file have one number.
use Rattle.std.proofs.Common.{◌≡◌, ℕ, Bool, true, false, cond, List, Result, Ok, Err, subst}
use Rattle.m3ua_trace.specs.Traces.{octets_of_lines}
use Rattle.relay_watch.specs.Runs.{NumbersDiffer}
use Rattle.trace_text.specs.Lines.{lines_of}
use Rattle.trace_text.specs.declared.line_fault.LineFault.{LineFault}
use Rattle.watch_items.specs.Captures.{Heard, heard}
use Rattle.watch_items.specs.Files.{heard_in, if_read}
use Rattle.watch_items.specs.Front.{is_capture}
use Rattle.watch_items.specs.Items.{events_in, items_if_read, items_of}
use Rattle.watch_items.proofs.CaptureNumbers.{capture_differs}
use Rattle.watch_items.proofs.NumberLemmas.{numbers_differ}

abbrev ok : Heard → Result Heard LineFault
ok h = Ok h

same : {x y : Heard} → ok x ≡ ok y → x ≡ y
same e = cc

none : {fault : LineFault} {y : Heard} → Err fault ≡ ok y → ⊥
none e = cc

text_differs : (r : Result (List (List ℕ)) LineFault) (h : Heard) → if_read (items_if_read 1 r) ≡ Ok h → NumbersDiffer (events_in h.items)
text_differs (Ok messages) h e = subst (λ (x : Heard). NumbersDiffer (events_in x.items)) (same e) (numbers_differ 1 messages)
text_differs (Err fault) h e = absurd (none e)

pub file_differs : (octets : List ℕ) (h : Heard) → heard_in octets ≡ Ok h → NumbersDiffer (events_in h.items)
file_differs octets h e = by (is_capture octets) e where
  by : (b : Bool) → cond b (ok (heard octets)) (if_read (items_of octets)) ≡ Ok h → NumbersDiffer (events_in h.items)
  by true f = subst (λ (x : Heard). NumbersDiffer (events_in x.items)) (same f) (capture_differs octets)
  by false f = text_differs (octets_of_lines 1 (lines_of octets)) h f
