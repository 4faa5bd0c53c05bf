-- A file that a command needs whole.
use Rattle.std.specs.Prelude.{◌≡◌, ℕ, ◌<◌, ◌≤◌, List, length, nat_lt, if◌then◌else◌, Option, Some, Result, Ok, Err, Vec}
use Rattle.std.specs.declared.alloc.Global.{Global}
use Rattle.sccp_io.specs.Files.{Contents, Reads}
use Rattle.sccp_report.specs.Limits.{too_long_line}
use Rattle.sccp_work.specs.Ending.{Works}
use Rattle.sccp_work.specs.Moment.{Moment}
use Rattle.sccp_work.specs.PlanFile.{PlanFile}
use Rattle.sccp_work.specs.Work.{Work, read, answered}
use Rattle.sccp_work.specs.declared.status.Status.{Status}
use Rattle.sccp_work.specs.declared.status.Status.TheVariants.{TooLong}
use Rattle.sccp_work.specs.declared.stop.Stop.{Stop}

-- the file is read; one of more octets than its limits allow is the answer
abbrev pub within_limit : PlanFile → (List ℕ → Work) → Work
within_limit file next = read file.name (λ octets.
    if nat_lt file.limits.octets (length octets) then answered (TooLong, too_long_line file.limits) else next octets)

-- the file is there
abbrev pub IsThere : Contents → List ℕ → Type 0
IsThere c name = (octets : List ℕ) × (c name ≡ Some octets)

-- the file is there and within the limit, and this holds of its octets
abbrev pub HasFile : Option Contents → PlanFile → (List ℕ → Type 0) → Type 0
HasFile contents file holds = (octets : List ℕ) × Reads contents file.name octets × (length octets ≤ file.limits.octets) × holds octets

-- the file is there, and has more octets than the limit
abbrev pub HasLongFile : Option Contents → PlanFile → Type 0
HasLongFile contents file = (octets : List ℕ) × Reads contents file.name octets × (file.limits.octets < length octets)

-- Whatever the work that needs the file goes on with: from the octets it goes on, and otherwise it has ended or stopped.
abbrev pub GivesWhole : PlanFile → Result (Vec ℕ Global) Stop → Moment → Moment → Type 0
GivesWhole file (Ok octets) first now =
    (next : List ℕ → Work) (result : Result Status Stop) (after : Moment) → Works (next octets.items) result now after
    → Works (within_limit file next) result first after
GivesWhole file (Err stop) first now = (next : List ℕ → Work) → Works (within_limit file next) (Err stop) first now
