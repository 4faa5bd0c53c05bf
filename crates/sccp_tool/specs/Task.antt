-- What the words of the command line ask for.
use Rattle.std.specs.Prelude.{ℕ, List}
use Rattle.sccp_work.specs.PlanFile.{PlanFile}
use Rattle.sccp_tool.specs.declared.connect.Calling.{Calling}
use Rattle.sccp_plans.specs.declared.loss_limit.LossLimit.{LossLimit}
use Rattle.sccp_tool.specs.declared.send_on.Incoming.{Incoming}
use Rattle.sccp_plans.specs.declared.start.Start.{Start}

pub data Task : Type 0 where
  -- shows the message of these octets
  ShowHex : List ℕ → Task
  -- shows the messages of the file of this name
  Show : List ℕ → Task
  -- verifies the plan of this file
  Verify : PlanFile → Task
  -- follows a title from its start, under the plan of this file
  Route : PlanFile → Start → Task
  -- replays the trace of the second file under the plan of the first one, with this number of workers
  Replay : PlanFile → List ℕ → ℕ → Task
  -- makes a plan and messages from a number, and sends them over its relays: the number, how many messages, how many workers
  Load : ℕ → ℕ → ℕ → Task
  -- shows every cut of the message of these octets
  Cuts : List ℕ → Task
  -- makes a trace of the DATA messages of the second file, for the nodes of the plan of the first one
  Import : PlanFile → List ℕ → Task
  -- says whether relays may hold either of the plans of these files, the old one and the new one
  Change : PlanFile → PlanFile → Task
  -- makes one connection over the relays of the plan of this file, and reports its outcome
  Connect : PlanFile → Calling → Task
  -- prints what becomes of octets at a relay of the plan of this file, and cuts a long message that leaves it
  SendOn : PlanFile → Incoming → Task
  -- verifies each cover of the plan of this file by itself
  Covers : PlanFile → Task
  -- lists what no covered title of the plan of this file can use
  Unused : PlanFile → Task
  -- says how many losses there can be before a title of a cover is stopped, up to this number of these kinds, of the plan of this file
  Margin : PlanFile → LossLimit → Task
  -- prints the lines of the capture of the second file, for the nodes of the plan of the first one
  Capture : PlanFile → List ℕ → Task
  -- gives an order in which relays can be given the second of the plans of these files, the old one and the new one
  Order : PlanFile → PlanFile → Task
  -- judges the messages of the second file, a capture or DATA messages one a line, against the plan of the first one
  Conform : PlanFile → List ℕ → Task
