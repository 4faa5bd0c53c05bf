-- A file that is read in pieces, while the work that depends on it is done.
use Rattle.std.specs.Prelude.{◌≡◌, ℕ, List, Option, Some, None, Result}
use Rattle.sccp_work.specs.Ending.{Works}
use Rattle.sccp_work.specs.Moment.{Moment}
use Rattle.sccp_work.specs.Work.{Work}
use Rattle.sccp_work.specs.declared.status.Status.{Status}
use Rattle.sccp_work.specs.declared.stop.Stop.{Stop}

-- from here on the whole work ends as what is left of it does
abbrev pub EndsAs : Work → Work → Moment → Moment → Type 0
EndsAs whole left first now = (result : Result Status Stop) (after : Moment) → Works left result now after → Works whole result first after

-- what may still follow of a file: what is left of it, if that is known
abbrev pub MayCome : Option (List ℕ) → List ℕ → Type 0
MayCome None rest = Unit {0}
MayCome (Some octets) rest = octets ≡ rest

-- Whatever may still follow of the file, from here on the whole work ends as the work on what follows does.
abbrev pub GoesOn : Work → (List ℕ → Work) → Option (List ℕ) → Moment → Moment → Type 0
GoesOn whole next left first now = (rest : List ℕ) → MayCome left rest → EndsAs whole (next rest) first now
