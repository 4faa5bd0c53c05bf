-- What the SCCP management of a node does with an event (ITU-T Q.714 section 5). Profile: coordinated state change and
-- congestion change nothing, and what is prohibited is tested when the node's clock says so.
use Rattle.std.specs.Prelude.{◌≡◌, ℕ, ◌==◌, Bool, false, not, ◌&&◌, ◌||◌, if◌then◌else◌, List, [], ◌∷◌, Option, Some, None}
use Rattle.std.specs.List.{flat_map, list_any}
use Rattle.sccp_base.specs.declared.mark.Mark.{Mark}
use Rattle.sccp_base.specs.declared.mark.Mark.TheVariants as marks
use Rattle.sccp_base.specs.Marks.{point_of, holds, same_mark, IsAscending}
use Rattle.sccp_manage.specs.declared.status.StatusKind.{StatusKind}
use Rattle.sccp_manage.specs.declared.status.StatusKind.TheVariants as kinds
use Rattle.sccp_manage.specs.declared.status.StatusMessage.{StatusMessage}
use Rattle.sccp_manage.specs.declared.event.Event.{Event}
use Rattle.sccp_manage.specs.declared.event.Event.TheVariants as events
use Rattle.sccp_manage.specs.declared.sent.Sent.{Sent}
use Rattle.sccp_manage.specs.Statuses.{status, status_of, sent_to}
use Rattle.sccp_manage.specs.Markings.{with_marks, without_marks, IsOpenAt}

-- A node's own point code and subsystems, the concerned points, and what is prohibited. The concerned points are informed of
-- changes of the subsystems.
pub record Management : Type 0 where
  pub own : ℕ
  pub subsystems : List ℕ
  pub concerned : List ℕ
  pub marking : List Mark

-- what every event keeps: the marks are in order, and no node takes itself or its SCCP for prohibited
pub record IsManagement (m : Management) : Type 0 where
  pub ascending : IsAscending m.marking
  pub open_at_own : IsOpenAt m.own m.marking

-- ---- the rows of the table

-- what an event prohibits and allows, and the messages that it has sent, in order
pub record Row : Type 0 where
  pub prohibits : List Mark
  pub allows : Mark → Bool
  pub sends : List Sent

-- such a row
abbrev pub row_of : List Mark → (Mark → Bool) → List Sent → Row
row_of prohibits allows sends = record { prohibits = prohibits; allows = allows; sends = sends }

-- none is allowed
abbrev pub no_mark : Mark → Bool
no_mark mark = false

-- the marking stays as it was
abbrev pub sending : List Sent → Row
sending sends = row_of [] no_mark sends

-- nothing changes, and nothing is sent
abbrev pub as_before : Row
as_before = sending []

-- a subsystem is the node's, and a subsystem of the node is down
abbrev pub is_own : Management → ℕ → Bool
is_own m ssn = list_any (λ own. own == ssn) m.subsystems

abbrev pub is_down : Management → ℕ → Bool
is_down m ssn = holds m.marking (marks.Subsystem m.own ssn)

-- a status message to a point, if the point is not prohibited
abbrev pub sent_if_reached : List Mark → ℕ → StatusMessage → List Sent
sent_if_reached marking point s = if holds marking (marks.PointCode point) then [] else sent_to point s ∷ []

-- to each concerned point, in the written order
abbrev pub told : Management → StatusKind → ℕ → List Sent
told m kind ssn = flat_map (λ point. sent_if_reached m.marking point (status kind ssn m.own)) m.concerned

-- subsystem prohibited (SSP): for another point's subsystem, but not for management itself
abbrev pub on_prohibited : Management → ℕ → ℕ → Row
on_prohibited m pc ssn = if pc == m.own || ssn == 1 then as_before else row_of (marks.Subsystem pc ssn ∷ []) no_mark []

-- subsystem allowed (SSA): of management itself it says that the point's SCCP is there again
abbrev pub on_allowed : Management → ℕ → ℕ → Row
on_allowed m pc ssn =
    if pc == m.own
    then as_before
    else row_of [] (λ mark. same_mark (marks.Subsystem pc ssn) mark || (ssn == 1 && same_mark (marks.Sccp pc) mark)) []

-- subsystem status test (SST): answered if the subsystem is the node's own and is up, or is management itself
abbrev pub on_test : Management → ℕ → ℕ → ℕ → Row
on_test m from pc ssn =
    if pc == m.own && (ssn == 1 || (is_own m ssn && not (is_down m ssn)))
    then sending (sent_to from (status kinds.Allowed ssn m.own) ∷ [])
    else as_before

-- a status message of each kind; out-of-service requests and grants (SOR, SOG) and congestion (SSC) change nothing
abbrev pub on_kind : Management → ℕ → StatusKind → ℕ → ℕ → Row
on_kind m from kinds.Allowed pc ssn = on_allowed m pc ssn
on_kind m from kinds.Prohibited pc ssn = on_prohibited m pc ssn
on_kind m from kinds.Test pc ssn = on_test m from pc ssn
on_kind m from kinds.OutOfServiceRequest pc ssn = as_before
on_kind m from kinds.OutOfServiceGrant pc ssn = as_before
on_kind m from kinds.Congested pc ssn = as_before

-- data from a point; what is not a status message changes nothing
abbrev pub on_status : Management → ℕ → Option StatusMessage → Row
on_status m from None = as_before
on_status m from (Some s) = on_kind m from s.kind s.pc s.ssn

-- a subsystem of the node that is up goes down, or one that is down goes up
abbrev pub on_down : Management → ℕ → Row
on_down m ssn = if is_own m ssn && not (is_down m ssn) then row_of (marks.Subsystem m.own ssn ∷ []) no_mark (told m kinds.Prohibited ssn)
    else as_before

abbrev pub on_up : Management → ℕ → Row
on_up m ssn = if is_own m ssn && is_down m ssn then row_of [] (same_mark (marks.Subsystem m.own ssn)) (told m kinds.Allowed ssn)
    else as_before

-- the subsystem status test (SST) for a mark of another point: for its SCCP a test of management itself
abbrev pub test_of : ℕ → List Mark → Mark → List Sent
test_of own marking (marks.PointCode pc) = []
test_of own marking (marks.Sccp pc) = sent_if_reached marking pc (status kinds.Test 1 pc)
test_of own marking (marks.Subsystem pc ssn) = if pc == own then [] else sent_if_reached marking pc (status kinds.Test ssn pc)

-- A row for each event. Other points, their SCCPs and subsystems, and the node's own subsystems are prohibited and allowed;
-- the node's own point and its SCCP never are.
abbrev pub row : Management → Event → Row
row m (events.Status from payload) = on_status m from (status_of payload)
row m (events.Knock from ssn) = sending (sent_to from (status kinds.Prohibited ssn m.own) ∷ [])
row m (events.Pause pc) = if pc == m.own then as_before else row_of (marks.PointCode pc ∷ marks.Sccp pc ∷ []) no_mark []
row m (events.Resume pc) = if pc == m.own then as_before else row_of [] (λ mark. point_of mark == pc) []
row m (events.NoSccp pc) = if pc == m.own then as_before else row_of (marks.Sccp pc ∷ []) no_mark []
row m (events.Up ssn) = on_up m ssn
row m (events.Down ssn) = on_down m ssn
row m events.Tick = sending (flat_map (test_of m.own m.marking) m.marking)

-- ---- what a row leaves

-- the marking, with what is allowed taken out and then what is prohibited put in
unfoldable pub marked : List Mark → Row → List Mark
marked marking r = with_marks (without_marks r.allows marking) r.prohibits

-- the node after a row, and after an event
abbrev pub left : Management → Row → Management
left m r = record m { marking = marked m.marking r }

abbrev pub managed : Management → Event → Management
managed m event = left m (row m event)

-- the same node: its point code, its subsystems and the concerned points
abbrev pub IsNodeOf : Management → Management → Type 0
IsNodeOf before after = after ≡ record before { marking = after.marking }

-- a mark is held exactly if the row prohibits it, or it was held and the row does not allow it
abbrev pub IsMarked : List Mark → Row → List Mark → Type 0
IsMarked before r after = (mark : Mark) → holds after mark ≡ (holds r.prohibits mark || (not (r.allows mark) && holds before mark))
