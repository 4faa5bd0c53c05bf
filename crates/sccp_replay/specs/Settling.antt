-- What the calls on a batch give, whatever the replay goes on with.
use Rattle.std.specs.Option.{option_map}
use Rattle.std.specs.Prelude.{◌≡◌, ℕ, List, [], ◌∷◌, ◌++◌, map, Option, Result, Ok, Err}
use Rattle.plan_model.specs.Network.{Network}
use Rattle.plan_model.specs.declared.plan_fault.PlanFault.{PlanFault}
use Rattle.plan_text.specs.PlanText.{plan_within}
use Rattle.relay_net.specs.Batches.{Due}
use Rattle.sccp_report.specs.Roles.{alone, role_of, as_due, StandsIn}
use Rattle.trace_text.specs.declared.line.Numbered.{Numbered}
use Rattle.sccp_work.specs.Ending.{Works}
use Rattle.sccp_replay.specs.Gathering.{joining_role}
use Rattle.sccp_work.specs.Limit.{within_limit}
use Rattle.sccp_work.specs.Moment.{Moment}
use Rattle.sccp_replay.specs.Replay.{Standing, Settled, later_file, judged_later, later_work, settle_line, batch_work, batch_printed}
use Rattle.sccp_replay.specs.Replay.{gathered, alone_work, line_work, lines_work}
use Rattle.sccp_replay.specs.Replayers.{settled_in}
use Rattle.sccp_replay.specs.Replaying.{EndsAs, SettlesTo, BatchGives, BatchStops}
use Rattle.sccp_work.specs.Work.{Work, judge, read_on}
use Rattle.sccp_replay.specs.declared.taking as taking
use Rattle.sccp_replay.specs.declared.taking.Place.TheVariants as placed
use Rattle.sccp_replay.specs.declared.settled as code
use Rattle.sccp_work.specs.declared.status.Status.{Status}
use Rattle.sccp_work.specs.declared.stop.Stop.{Stop}

-- the text of a later plan was read: what the line gives, at any moment
abbrev pub GivesPlanLine : Standing → ℕ → List ℕ → Result Network PlanFault → Standing → Settled → Type 0
GivesPlanLine at line name read at' s = (next : Standing → Settled → Work) (now : Moment)
    → EndsAs (later_work at line name read next) (next at' s) now now

-- a plan of the same relays was judged
abbrev pub JudgesLine : Standing → ℕ → List ℕ → Network → Standing → Settled → Type 0
JudgesLine at line name plan at' s = (next : Standing → Settled → Work) (now : Moment)
    → EndsAs (judge plan (λ verdict. judged_later at line name plan verdict next)) (next at' s) now now

-- its file was read
abbrev pub GivesPlanFile : Standing → ℕ → List ℕ → Result code.Settled.Settled Stop → Standing → Moment → Moment → Type 0
GivesPlanFile at line name (Ok s) at' first now = (next : Standing → Settled → Work)
    → EndsAs (within_limit (later_file at name) (λ octets. later_work at line name (plan_within at.first.limits octets) next))
    (next at' (settled_in s)) first now
GivesPlanFile at line name (Err stop) at' first now = (next : Standing → Settled → Work)
    → Works (within_limit (later_file at name) (λ octets. later_work at line name (plan_within at.first.limits octets) next)) (Err stop)
    first now

-- a line of a batch is settled
abbrev pub GivesLine : Standing → Numbered → Result code.Settled.Settled Stop → Standing → Moment → Moment → Type 0
GivesLine at line (Ok s) at' first now = (next : Standing → Settled → Work)
    → EndsAs (settle_line at line (role_of at.first line.line) next) (next at' (settled_in s)) first now
GivesLine at line (Err stop) at' first now = (next : Standing → Settled → Work)
    → Works (settle_line at line (role_of at.first line.line) next) (Err stop) first now

-- all lines of a batch are
abbrev pub GivesSettled : Standing → List Numbered → Result (List code.Settled.Settled) Stop → Standing → Moment → Moment → Type 0
GivesSettled at lines (Ok settled) at' first now = SettlesTo at lines at' (map settled_in settled) [] first now
GivesSettled at lines (Err stop) at' first now = BatchStops at lines (Err stop) first now

-- the text of a batch
abbrev pub GivesBatch : Standing → List Numbered → Result (List ℕ) Stop → Standing → Moment → Moment → Type 0
GivesBatch at lines (Ok text) at' first now = BatchGives at lines at' text first now
GivesBatch at lines (Err stop) at' first now = BatchStops at lines (Err stop) first now

-- a batch is done and its text written
abbrev pub WritesBatch : {T : Type 0} → Standing → List Numbered → Result T Stop → Standing → Moment → Moment → Type 0
WritesBatch at batch (Ok done) at' first now = (next : Standing → Work) → EndsAs (batch_printed at batch next) (next at') first now
WritesBatch at batch (Err stop) at' first now = (next : Standing → Work) → Works (batch_printed at batch next) (Err stop) first now

-- a line joins the batch that has begun
abbrev pub Gathers : {T : Type 0} → Standing → List Numbered → Numbered → Result T Stop → Standing → List Numbered → Moment → Moment
    → Type 0
Gathers at batch line (Ok done) at' batch' first now = (next : Standing → List Numbered → Work)
    → EndsAs (gathered at (batch ++ line ∷ []) next) (next at' batch') first now
Gathers at batch line (Err stop) at' batch' first now = (next : Standing → List Numbered → Work)
    → Works (gathered at (batch ++ line ∷ []) next) (Err stop) first now

-- a line ends it
abbrev pub StandsAlone : {T : Type 0} → Standing → List Numbered → Numbered → Option Due → Result T Stop → Standing → Moment → Moment
    → Type 0
StandsAlone at batch line d (Ok done) at' first now = (next : Standing → Work)
    → EndsAs (read_on (batch_work at batch (alone_work line d next))) (next at') first now
StandsAlone at batch line d (Err stop) at' first now = (next : Standing → Work)
    → Works (read_on (batch_work at batch (alone_work line d next))) (Err stop) first now

-- what a line of a trace is to the batch before it
abbrev pub IsPlaced : Network → Numbered → taking.Place.Place → Type 0
IsPlaced plan line (placed.Joins joining) = (joining_role joining ≡ role_of plan line.line) × StandsIn plan (joining_role joining)
IsPlaced plan line (placed.Alone due) = (alone (option_map as_due due) ≡ role_of plan line.line)
    × StandsIn plan (alone (option_map as_due due))

-- one more line of a trace
abbrev pub TakesLine : {T : Type 0} → Standing → List Numbered → Numbered → Result T Stop → Standing → List Numbered → Moment → Moment
    → Type 0
TakesLine at batch line (Ok done) at' batch' first now = (next : Standing → List Numbered → Work)
    → EndsAs (line_work at batch line (role_of at.first line.line) next) (next at' batch') first now
TakesLine at batch line (Err stop) at' batch' first now = (next : Standing → List Numbered → Work)
    → Works (line_work at batch line (role_of at.first line.line) next) (Err stop) first now

-- more of them, whatever lines follow
abbrev pub TakesLines : {T : Type 0} → Standing → List Numbered → List Numbered → Result T Stop → Standing → List Numbered → Moment
    → Moment → Type 0
TakesLines at batch lines (Ok done) at' batch' first now = (closing : Status × List ℕ) (more : List Numbered)
    → EndsAs (lines_work closing at batch (lines ++ more)) (lines_work closing at' batch' more) first now
TakesLines at batch lines (Err stop) at' batch' first now = (closing : Status × List ℕ) (more : List Numbered)
    → Works (lines_work closing at batch (lines ++ more)) (Err stop) first now
