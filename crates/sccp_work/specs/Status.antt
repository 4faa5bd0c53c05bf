-- The exit status of the program under each answer.
use Rattle.std.specs.Prelude.{ℕ}
use Rattle.sccp_work.specs.declared.status.Status.{Status}
use Rattle.sccp_work.specs.declared.status.Status.TheVariants.{Done, Refused, Usage, BadPlan, BadTrace, TooWide, TooLong}
use Rattle.sccp_work.specs.declared.status.Status.TheVariants.{OtherNodes, BadCapture, NoMemory, ReadFault, WriteFault, Differs}

abbrev pub number_of : Status → ℕ
number_of Done = 0
number_of Refused = 1
number_of Differs = 2
number_of Usage = 64
number_of BadPlan = 65
number_of BadTrace = 66
number_of TooWide = 67
number_of TooLong = 68
number_of OtherNodes = 69
number_of BadCapture = 70
number_of NoMemory = 71
number_of ReadFault = 74
number_of WriteFault = 75
