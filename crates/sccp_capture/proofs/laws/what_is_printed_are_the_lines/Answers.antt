use Rattle.std.proofs.Common.{true}
use Rattle.capture_file.specs.Told.{told}
use Rattle.capture_trace.specs.Traced.{beginning}
use Rattle.sccp_capture.proofs.PrintingLemmas.{ends_are}
use Rattle.sccp_capture.proofs.laws.what_is_printed_are_the_lines.Goals as goal

pub returns : goal.returns
returns c = λ contents plan octets status text h.
    ends_are contents plan (told true octets).fault (told true octets).packets beginning status text h
