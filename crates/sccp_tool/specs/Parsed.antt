-- What the code makes of the words, seen as a task.
use Rattle.std.specs.Prelude.{Option, Some, None}
use Rattle.sccp_tool.specs.Task.{Task}
use Rattle.sccp_tool.specs.Task as spec
use Rattle.sccp_tool.specs.declared.command.Command.{Command}
use Rattle.sccp_tool.specs.declared.command.Command.TheVariants.{ShowHex, Show, Verify, Route, Replay, Load, Cuts, Import, Change, Connect}
use Rattle.sccp_tool.specs.declared.command.Command.TheVariants.{SendOn, Covers, Unused, Margin, Capture, Order, Conform}

abbrev pub task_in : Option Command → Option Task
task_in None = None
task_in (Some (ShowHex octets)) = Some (spec.ShowHex octets)
task_in (Some (Show name)) = Some (spec.Show name.now)
task_in (Some (Verify file)) = Some (spec.Verify file)
task_in (Some (Route file start)) = Some (spec.Route file start)
task_in (Some (Replay plan trace workers)) = Some (spec.Replay plan trace.now workers.count)
task_in (Some (Load number size workers)) = Some (spec.Load number size workers.count)
task_in (Some (Cuts octets)) = Some (spec.Cuts octets)
task_in (Some (Import plan file)) = Some (spec.Import plan file.now)
task_in (Some (Change old new)) = Some (spec.Change old new)
task_in (Some (Connect file calling)) = Some (spec.Connect file calling)
task_in (Some (SendOn file incoming)) = Some (spec.SendOn file incoming)
task_in (Some (Covers file)) = Some (spec.Covers file)
task_in (Some (Unused file)) = Some (spec.Unused file)
task_in (Some (Margin file losses)) = Some (spec.Margin file losses.limit)
task_in (Some (Capture plan file)) = Some (spec.Capture plan file.now)
task_in (Some (Order old new)) = Some (spec.Order old new)
task_in (Some (Conform plan file)) = Some (spec.Conform plan file.now)
