-- The work of the words, and the cause of each answer.
use Rattle.std.specs.Prelude.{◌≡◌, ◌≢◌, ◌⊎◌, ℕ, List, Option, Some, None}
use Rattle.std.specs.Io.KnownBytes.{append_known}
use Rattle.sccp_io.specs.Files.{Contents}
use Rattle.sccp_replay.specs.Account.{TellsReplay}
use Rattle.sccp_tool.specs.Capture.{capture_work, CaptureCause, CaptureTells}
use Rattle.sccp_plans.specs.Change.{change_work, ChangeCause, ChangeSure, ChangeTells}
use Rattle.sccp_tool.specs.Conform.{conform_work, ConformCause, ConformTells}
use Rattle.sccp_tool.specs.Connect.{connect_work, ConnectTells}
use Rattle.sccp_plans.specs.Covers.{covers_work, CoversCause, CoversSure, CoversTells}
use Rattle.sccp_tool.specs.Cuts.{cuts_work, CutsCause}
use Rattle.sccp_work.specs.Ending.{IsCut}
use Rattle.sccp_tool.specs.Import.{import_work, ImportCause, ImportTells}
use Rattle.sccp_work.specs.Limit.{IsThere}
use Rattle.sccp_work.specs.Plans.{TextCause}
use Rattle.sccp_tool.specs.Load.{load_work, LoadCause, LoadTells}
use Rattle.sccp_plans.specs.Margin.{margin_work, MarginCause, MarginSure, MarginTells}
use Rattle.sccp_plans.specs.Order.{order_work, OrderCause, OrderSure, OrderTells}
use Rattle.sccp_replay.specs.Replay.{replay_work}
use Rattle.sccp_replay.specs.ReplayEnds.{ReplayCause, ReplaySure, ReplayTells, LaterPlansThere}
use Rattle.sccp_plans.specs.Route.{route_work}
use Rattle.sccp_tool.specs.SendOn.{send_on_work, SendOnTells}
use Rattle.sccp_tool.specs.Show.{show_work, ShowCause}
use Rattle.sccp_tool.specs.ShowHex.{show_hex_work, ShowHexCause}
use Rattle.sccp_tool.specs.Task.{Task, ShowHex, Show, Verify, Route, Replay, Load, Cuts, Import, Change, Connect, SendOn, Covers, Unused}
use Rattle.sccp_tool.specs.Task.{Margin, Capture, Order, Conform}
use Rattle.sccp_tool.specs.Texts.{usage}
use Rattle.sccp_replay.specs.Trace.{lines_in}
use Rattle.sccp_plans.specs.Unused.{unused_work, UnusedCause, UnusedSure, UnusedTells}
use Rattle.sccp_plans.specs.Verify.{verify_work, VerifyCause, VerifySure, VerifyTells}
use Rattle.sccp_work.specs.Work.{Work, answered}
use Rattle.sccp_work.specs.declared.status.Status.{Status}
use Rattle.sccp_work.specs.declared.status.Status.TheVariants.{Done, Refused, Usage, BadPlan, BadTrace, TooWide, TooLong, OtherNodes}
use Rattle.sccp_work.specs.declared.status.Status.TheVariants.{BadCapture, Differs}

abbrev pub work_of : Option Task → Work
work_of None = answered (Usage, usage)
work_of (Some (ShowHex octets)) = show_hex_work octets
work_of (Some (Show name)) = show_work name
work_of (Some (Verify file)) = verify_work file
work_of (Some (Route file start)) = route_work file start
work_of (Some (Replay plan trace workers)) = replay_work plan trace workers
work_of (Some (Load number size workers)) = load_work number size
work_of (Some (Cuts octets)) = cuts_work octets
work_of (Some (Import plan file)) = import_work plan file
work_of (Some (Change old new)) = change_work old new
work_of (Some (Connect file calling)) = connect_work file calling
work_of (Some (SendOn file incoming)) = send_on_work file incoming
work_of (Some (Covers file)) = covers_work file
work_of (Some (Unused file)) = unused_work file
work_of (Some (Margin file losses)) = margin_work file losses
work_of (Some (Capture plan file)) = capture_work plan file
work_of (Some (Order old new)) = order_work old new
work_of (Some (Conform plan file)) = conform_work plan file

-- words of no shape
abbrev pub UsageCause : Status → Type 0
UsageCause Usage = Unit {0}
UsageCause answer = ⊥

-- an answer that is not a fault's or want of memory's is given only if this holds of the files
abbrev pub Cause : Contents → Option Task → Status → Type 0
Cause c None answer = UsageCause answer
Cause c (Some (ShowHex octets)) answer = ShowHexCause answer
Cause c (Some (Show name)) answer = ShowCause (Some c) name answer
Cause c (Some (Verify file)) answer = VerifyCause (Some c) file answer
Cause c (Some (Route file start)) answer = TextCause (Some c) file answer
Cause c (Some (Replay plan trace workers)) answer = ReplayCause c plan trace answer
Cause c (Some (Load number size workers)) answer = LoadCause answer
Cause c (Some (Cuts octets)) answer = CutsCause answer
Cause c (Some (Import plan file)) answer = ImportCause (Some c) plan file answer
Cause c (Some (Change old new)) answer = ChangeCause (Some c) old new answer
Cause c (Some (Connect file calling)) answer = VerifyCause (Some c) file answer
Cause c (Some (SendOn file incoming)) answer = TextCause (Some c) file answer
Cause c (Some (Covers file)) answer = CoversCause (Some c) file answer
Cause c (Some (Unused file)) answer = UnusedCause (Some c) file answer
Cause c (Some (Margin file losses)) answer = MarginCause (Some c) file losses answer
Cause c (Some (Capture plan file)) answer = CaptureCause (Some c) plan file answer
Cause c (Some (Order old new)) answer = OrderCause (Some c) old new answer
Cause c (Some (Conform plan file)) answer = ConformCause (Some c) plan file answer

-- if this holds, the answer is given, but for a fault or want of memory before it
abbrev pub SureCause : Contents → Option Task → Status → Type 0
SureCause c (Some (Verify file)) answer = VerifySure (Some c) file answer
SureCause c (Some (Replay plan trace workers)) answer = ReplaySure c plan trace answer
SureCause c (Some (Change old new)) answer = ChangeSure (Some c) old new answer
SureCause c (Some (Connect file calling)) answer = VerifySure (Some c) file answer
SureCause c (Some (Covers file)) answer = CoversSure (Some c) file answer
SureCause c (Some (Unused file)) answer = UnusedSure (Some c) file answer
SureCause c (Some (Margin file losses)) answer = MarginSure (Some c) file losses answer
SureCause c (Some (Order old new)) answer = OrderSure (Some c) old new answer
SureCause c task answer = Cause c task answer

-- What the sink took gives the verdict on a plan, on each of its covers by itself, or those on two plans and the answer on their
-- mixture, or on an order. Or it gives what no covered title of a plan uses, or the margins of its covers. Of DATA messages it is a
-- trace without a faulty line. Of a long message that leaves a relay it is octets that carry its data in segments. Of a connection it
-- is that it was refused, or that all octets came out at both ends and no section is left. Of a load it is counts that add up.
abbrev pub TellsAnswer : Contents → Option Task → Status → Option (List ℕ) → Option (List ℕ) → Type 0
TellsAnswer c (Some (Verify file)) given taken taken' = VerifyTells (Some c) file given taken taken'
TellsAnswer c (Some (Replay plan trace workers)) given taken taken' = ReplayTells c plan given taken taken'
TellsAnswer c (Some (Change old new)) given taken taken' = ChangeTells (Some c) old new given taken taken'
TellsAnswer c (Some (Connect file calling)) given taken taken' =
    ReplayTells c file given taken taken' × ConnectTells (Some c) file calling given taken taken'
TellsAnswer c (Some (Load number size workers)) given taken taken' = LoadTells number size given taken taken'
TellsAnswer c (Some (Import plan file)) given taken taken' = ImportTells (Some c) plan file given taken taken'
TellsAnswer c (Some (SendOn file incoming)) given taken taken' = SendOnTells (Some c) file incoming given taken taken'
TellsAnswer c (Some (Covers file)) given taken taken' = CoversTells (Some c) file given taken taken'
TellsAnswer c (Some (Unused file)) given taken taken' = UnusedTells (Some c) file given taken taken'
TellsAnswer c (Some (Margin file losses)) given taken taken' = MarginTells (Some c) file losses given taken taken'
TellsAnswer c (Some (Order old new)) given taken taken' = OrderTells (Some c) old new given taken taken'
TellsAnswer c task given taken taken' = Unit {0}

-- What the sink took of a replay gives the bound of the first plan and, of each message that was routed, its whole journey. Of a
-- capture it is the lines of the whole capture. Of a file that is judged it is a true line for each of its messages.
abbrev pub TellsJourneys : Contents → Option Task → Status → Option (List ℕ) → Option (List ℕ) → Type 0
TellsJourneys c (Some (Replay plan trace workers)) given taken taken' =
    (text : List ℕ) × (taken' ≡ append_known taken text) × TellsReplay c plan trace workers given text
TellsJourneys c (Some (Capture plan file)) given taken taken' =
    (text : List ℕ) × (taken' ≡ append_known taken text) × CaptureTells c plan file given text
TellsJourneys c (Some (Conform plan file)) given taken taken' =
    (text : List ℕ) × (taken' ≡ append_known taken text) × ConformTells c plan file given text
TellsJourneys c task given taken taken' = Unit {0}

-- each file is there that the words name, or that a line of the trace names as a later plan
abbrev pub HasNamedFiles : Contents → Option Task → Type 0
HasNamedFiles c (Some (Show name)) = IsThere c name
HasNamedFiles c (Some (Verify file)) = IsThere c file.name
HasNamedFiles c (Some (Route file start)) = IsThere c file.name
HasNamedFiles c (Some (Replay plan trace workers)) = IsThere c plan.name × IsThere c trace × LaterPlansThere c (lines_in c trace)
HasNamedFiles c (Some (Import plan file)) = IsThere c plan.name × IsThere c file
HasNamedFiles c (Some (Change old new)) = IsThere c old.name × IsThere c new.name
HasNamedFiles c (Some (Connect file calling)) = IsThere c file.name
HasNamedFiles c (Some (SendOn file incoming)) = IsThere c file.name
HasNamedFiles c (Some (Covers file)) = IsThere c file.name
HasNamedFiles c (Some (Unused file)) = IsThere c file.name
HasNamedFiles c (Some (Margin file losses)) = IsThere c file.name
HasNamedFiles c (Some (Capture plan file)) = IsThere c plan.name × IsThere c file
HasNamedFiles c (Some (Order old new)) = IsThere c old.name × IsThere c new.name
HasNamedFiles c (Some (Conform plan file)) = IsThere c plan.name × IsThere c file
HasNamedFiles c task = Unit {0}

-- nothing is wrong with the words, or with the files that they name: no answer on a fault of them has a cause
pub record IsFaultless (c : Contents) (task : Option Task) : Type 0 where
  pub words : task ≢ None
  pub plan : Cause c task BadPlan → ⊥
  pub trace : Cause c task BadTrace → ⊥
  pub capture : Cause c task BadCapture → ⊥
  pub long : Cause c task TooLong → ⊥
  pub relays : Cause c task OtherNodes → ⊥

-- an answer on what was asked
abbrev pub IsResult : Status → Type 0
IsResult Done = Unit {0}
IsResult Refused = Unit {0}
IsResult TooWide = Unit {0}
IsResult Differs = Unit {0}
IsResult answer = ⊥

-- this answer is given exactly if the cause holds, but for a fault or want of memory before it
pub record ExactlyWhere (answer given : Status) (cause : Type 0) : Type 0 where
  pub only : given ≡ answer → cause
  pub always : cause → (given ≡ answer) ⊎ IsCut given

-- The answer is given only if one thing holds. If another does, it is given, but for a fault or want of memory before it.
pub record ComesWhere (answer given : Status) (can must : Type 0) : Type 0 where
  pub only : given ≡ answer → can
  pub always : must → (given ≡ answer) ⊎ IsCut given

-- A refusal is given only if the cause holds. If it does, it is given or the plan is too wide, but for a fault or want of
-- memory.
pub record RefusedWhere (given : Status) (cause : Type 0) : Type 0 where
  pub only : given ≡ Refused → cause
  pub always : cause → ((given ≡ Refused) ⊎ (given ≡ TooWide)) ⊎ IsCut given
