-- What the calls give that judge one message after the other.
use Rattle.std.specs.Prelude.{◌≡◌, ℕ, Bool, List, [], ◌++◌, Option, Some, None, Result, Ok, Err}
use Rattle.capture_trace.specs.declared.ending.Ending.{Ending}
use Rattle.plan_model.specs.Network.{Network}
use Rattle.relay_watch.specs.Judging.{IsJudged}
use Rattle.relay_watch.specs.Kept.{Kept, nothing_kept}
use Rattle.relay_watch.specs.Runs.{AreJudged}
use Rattle.relay_watch.specs.Watching.{IsWatched, AreWatched}
use Rattle.relay_watch.specs.declared.event.Event.{Event}
use Rattle.relay_watch.specs.declared.line.Line.{Line}
use Rattle.watch_items.specs.Captures.{Heard, State, after_items, ahead}
use Rattle.watch_items.specs.Items.{events_in}
use Rattle.sccp_conform.specs.Reports.{refused_text, point_text, empty_text, text_of_items, report_text, status_of, heard_work}
use Rattle.watch_items.specs.declared.item.Item.{Item}
use Rattle.watch_items.specs.declared.item.Item.TheVariants.{Seen, Refused, OtherPoint, NoOctets, Nothing, Captured, Note}
use Rattle.sccp_io.specs.Files.{Contents}
use Rattle.sccp_work.specs.Ending.{Works}
use Rattle.sccp_work.specs.Judgement.{Judgement, IsJudgement}
use Rattle.sccp_work.specs.Moment.{Moment}
use Rattle.sccp_work.specs.Pieces.{EndsAs}
use Rattle.sccp_work.specs.Work.{Work, read_on}
use Rattle.sccp_work.specs.declared.status.Status.{Status}
use Rattle.sccp_work.specs.declared.stop.Stop.{Stop}
use Rattle.watch_text.specs.Lines.{line_text}

-- a message is judged, and the text of its line is appended, which has the number of its packet if it is of a capture
pub record PutsEvent (plan : Network) (packet : Option ℕ) (e : Event) (old new : Kept) (before after : List ℕ) : Type 0 where
  pub line : Line
  pub judged : IsJudged plan old.waiting e line new.waiting
  pub watched : IsWatched plan old e line new
  pub text_is : after ≡ before ++ line_text plan packet e line

-- of another item what is said of it is appended
abbrev pub PutsItem : Network → Item → Kept → Kept → List ℕ → List ℕ → Type 0
PutsItem plan (Seen e) old new before after = PutsEvent plan None e old new before after
PutsItem plan (Refused number fault) old new before after = (new ≡ old) × (after ≡ before ++ refused_text number fault)
PutsItem plan (OtherPoint number) old new before after = (new ≡ old) × (after ≡ before ++ point_text number)
PutsItem plan (NoOctets number) old new before after = (new ≡ old) × (after ≡ before ++ empty_text number)
PutsItem plan Nothing old new before after = (new ≡ old) × (after ≡ before)
PutsItem plan (Captured packet e) old new before after = PutsEvent plan (Some packet) e old new before after
PutsItem plan (Note note) old new before after = (new ≡ old) × (after ≡ before ++ note)

-- all items, in their order
pub record PutsItems (plan : Network) (items : List Item) (old new : Kept) (before after : List ℕ) : Type 0 where
  pub lines : List Line
  pub judged : AreJudged plan old.waiting (events_in items) lines new.waiting
  pub watched : AreWatched plan old (events_in items) lines new
  pub text_is : after ≡ before ++ text_of_items plan items lines

-- the text of a judgement on the items is appended, with the answer on these messages
pub record Reports (plan : Network) (items : List Item) (before after : List ℕ) (status : Status) : Type 0 where
  pub judgement : Judgement
  pub is : IsJudgement plan (events_in items) judgement
  pub status_is : status ≡ status_of judgement
  pub text_is : after ≡ before ++ report_text plan items judgement

-- ---- a file that arrives in pieces

-- What is kept of a file that was read in part, whatever it goes on with: its first items are judged, and their text is there. What the
-- file gives are these items, and then what is ahead.
pub record IsPartly (plan : Network) (whole : List ℕ → Heard) (reading : State) (kept : Kept) (text : List ℕ) : Type 0 where
  pub done : List Item
  pub puts : PutsItems plan done (nothing_kept plan) kept [] text
  pub goes_on : (rest : List ℕ) → whole rest ≡ after_items done (ahead reading rest)

-- it was read whole, and ended so
abbrev pub AreAll : Network → Heard → Ending → Kept → List ℕ → Type 0
AreAll plan h ending kept text = PutsItems plan h.items (nothing_kept plan) kept [] text × (ending ≡ h.ending)

-- any moment, with what these files show
abbrev pub with_files : {F : Type 0} → Moment → (F → Option Contents) → (F → Bool) → (F → ℕ) → F → Moment
with_files any contents sound faults files =
    record any { contents = contents files; sound = sound files; read_faults = faults files }

-- the work that is left of a capture: it is read on, and then its messages are judged
abbrev pub left_work : Network → Heard → Work
left_work plan h = read_on (heard_work plan h)

-- All was read that counts, and the work ends as that on what the file gives. Or the work stopped.
abbrev pub FeedsAll : {T : Type 0} → Network → Work → Result T Stop → State → Kept → List ℕ → Moment → Moment → Type 0
FeedsAll plan work (Ok done) reading kept text first now =
    (whole : List ℕ → Heard) × IsPartly plan whole reading kept text × EndsAs work (left_work plan (whole [])) first now
FeedsAll plan work (Err stop) reading kept text first now = Works work (Err stop) first now
