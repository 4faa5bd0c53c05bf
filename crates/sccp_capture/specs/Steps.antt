-- What a call for packets gives, whatever packets follow.
use Rattle.std.specs.Prelude.{List, ◌++◌, Option, Result, Ok, Err}
use Rattle.plan_model.specs.Network.{Network}
use Rattle.capture_file.specs.Packets.{Captured}
use Rattle.capture_file.specs.declared.file_fault.FileFault.{FileFault}
use Rattle.capture_trace.specs.Traced.{Standing}
use Rattle.sccp_capture.specs.Printing.{packets_work}
use Rattle.sccp_work.specs.Ending.{Works}
use Rattle.sccp_work.specs.Moment.{Moment}
use Rattle.sccp_work.specs.Pieces.{EndsAs}
use Rattle.sccp_work.specs.declared.stop.Stop.{Stop}

-- the lines of packets were printed, or the work stopped
abbrev pub PrintsPackets : {T : Type 0} → Network → List Captured → Standing → Result T Stop → Standing → Moment → Moment → Type 0
PrintsPackets plan packets s (Ok done) s' first now = (fault : Option FileFault) (more : List Captured)
    → EndsAs (packets_work plan fault (packets ++ more) s) (packets_work plan fault more s') first now
PrintsPackets plan packets s (Err stop) s' first now = (fault : Option FileFault) (more : List Captured)
    → Works (packets_work plan fault (packets ++ more) s) (Err stop) first now
