-- how many messages are sent at one event
use Rattle.std.specs.Prelude.{ℕ, ◌==◌, ◌≤◌, ◌&&◌, not, Bool, true, false, List, [], ◌∷◌, length, if◌then◌else◌}
use Rattle.std.specs.List.{flat_map}
use Rattle.std.proofs.Common.{arith, length-append}
use Rattle.sccp_base.specs.declared.mark.Mark.{Mark}
use Rattle.sccp_base.specs.declared.mark.Mark.TheVariants as marks
use Rattle.sccp_base.specs.Marks.{holds, same_mark}
use Rattle.sccp_manage.specs.declared.event.Event.TheVariants as events
use Rattle.sccp_manage.specs.declared.status.StatusKind.{StatusKind}
use Rattle.sccp_manage.specs.declared.status.StatusKind.TheVariants as kinds
use Rattle.sccp_manage.specs.declared.status.StatusMessage.{StatusMessage}
use Rattle.sccp_manage.specs.Statuses.{status, sent_to}
use Rattle.sccp_manage.specs.Managing.{Management, as_before, is_down, is_own, no_mark, row, row_of, sent_if_reached, test_of, told}

few : {X Y : Type 0} (f : X → List Y) → ((x : X) → length (f x) ≤ 1) → (xs : List X) → length (flat_map f xs) ≤ length xs
few f one [] = omega arith
few f one (x ∷ xs) =
    let joined = length-append (f x) (flat_map f xs) in
    let first = one x in
    let rest = few f one xs in
    omega (arith, joined, first, rest)

few_reached : (marking : List Mark) (point : ℕ) (s : StatusMessage) → length (sent_if_reached marking point s) ≤ 1
few_reached marking point s = chosen (holds marking (marks.PointCode point))
  where
    chosen : (b : Bool) → length (if b then [] else sent_to point s ∷ []) ≤ 1
    chosen true = omega arith
    chosen false = omega arith

few_tests : (own : ℕ) (marking : List Mark) (mark : Mark) → length (test_of own marking mark) ≤ 1
few_tests own marking (marks.PointCode pc) = omega arith
few_tests own marking (marks.Sccp pc) = few_reached marking pc (status kinds.Test 1 pc)
few_tests own marking (marks.Subsystem pc ssn) = chosen (pc == own)
  where
    chosen : (b : Bool) → length (if b then [] else sent_if_reached marking pc (status kinds.Test ssn pc)) ≤ 1
    chosen true = omega arith
    chosen false = few_reached marking pc (status kinds.Test ssn pc)

few_told : (m : Management) (kind : StatusKind) (ssn : ℕ) → length (told m kind ssn) ≤ length m.concerned
few_told m kind ssn = few (λ point. sent_if_reached m.marking point (status kind ssn m.own))
    (λ point. few_reached m.marking point (status kind ssn m.own)) m.concerned

-- one at most about each mark, and one at most to each concerned point
pub few_at_tick : (m : Management) → length (row m events.Tick).sends ≤ length m.marking
few_at_tick m = few (test_of m.own m.marking) (few_tests m.own m.marking) m.marking

pub few_at_up : (m : Management) (ssn : ℕ) → length (row m (events.Up ssn)).sends ≤ length m.concerned
few_at_up m ssn = chosen (is_own m ssn && is_down m ssn)
  where
    chosen : (b : Bool) → length (if b then row_of [] (same_mark (marks.Subsystem m.own ssn)) (told m kinds.Allowed ssn)
        else as_before).sends ≤ length m.concerned
    chosen true = few_told m kinds.Allowed ssn
    chosen false = omega arith

pub few_at_down : (m : Management) (ssn : ℕ) → length (row m (events.Down ssn)).sends ≤ length m.concerned
few_at_down m ssn = chosen (is_own m ssn && not (is_down m ssn))
  where
    chosen : (b : Bool) → length (if b then row_of (marks.Subsystem m.own ssn ∷ []) no_mark (told m kinds.Prohibited ssn)
        else as_before).sends ≤ length m.concerned
    chosen true = few_told m kinds.Prohibited ssn
    chosen false = omega arith
