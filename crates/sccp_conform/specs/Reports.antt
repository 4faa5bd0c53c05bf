-- What is reported of a file: a line for each message of SCCP and for each thing that is not one, and last what the relays did in all.
use Rattle.std.specs.Prelude.{◌≡◌, ℕ, ◌==◌, ◌&&◌, nat_lt, not, Bool, if◌then◌else◌, List, [], ◌∷◌, ◌++◌, length, codes, decimal, Some, None}
use Rattle.std.specs.Prelude.{Result, Ok, Err}
use Rattle.capture_trace.specs.declared.ending.Ending.{Ending}
use Rattle.capture_trace.specs.declared.ending.Ending.TheVariants.{Whole, Cut, Damaged}
use Rattle.plan_model.specs.Limits.{standard}
use Rattle.plan_model.specs.Network.{Network}
use Rattle.relay_watch.specs.Kept.{summary_of}
use Rattle.relay_watch.specs.declared.line.Line.{Line}
use Rattle.watch_items.specs.Captures.{Heard}
use Rattle.watch_items.specs.Files.{heard_in}
use Rattle.watch_items.specs.Front.{is_capture}
use Rattle.watch_items.specs.Items.{events_in}
use Rattle.watch_items.specs.declared.item.Item.{Item}
use Rattle.watch_items.specs.declared.item.Item.TheVariants.{Seen, Refused, OtherPoint, NoOctets, Nothing, Captured, Note}
use Rattle.sccp_conform.specs.declared.report.Report.{Report}
use Rattle.sccp_report.specs.Limits.{too_long_line}
use Rattle.sccp_work.specs.Judgement.{Judgement, IsJudgement}
use Rattle.sccp_work.specs.LineFault.{bad_line}
use Rattle.sccp_work.specs.Questions.{judgement_of}
use Rattle.sccp_work.specs.Work.{Work, ask, answered, read, read_on}
use Rattle.sccp_work.specs.declared.status.Status.{Status}
use Rattle.sccp_work.specs.declared.status.Status.TheVariants.{Done, Differs, BadCapture, BadTrace, TooLong}
use Rattle.trace_text.specs.declared.line_fault.LineFault.{LineFault}
use Rattle.watch_text.specs.Lines.{line_text}
use Rattle.watch_text.specs.Summaries.{summary_text}

-- ---- what is said of a line without a message

unfoldable pub refused_text : ℕ → ℕ → List ℕ
refused_text number fault = codes "# line " ++ decimal number ++ codes " refused " ++ decimal fault ++ codes "\n"

unfoldable pub point_text : ℕ → List ℕ
point_text number = codes "# line " ++ decimal number ++ codes " point\n"

unfoldable pub empty_text : ℕ → List ℕ
empty_text number = codes "# line " ++ decimal number ++ codes " empty\n"

-- ---- the text

-- of an item before others, by the lines of the judgement on the messages among them
abbrev pub with_item : Network → Item → List Line → (List Line → List ℕ) → List ℕ
with_item plan (Seen e) [] more = []
with_item plan (Seen e) (line ∷ lines) more = line_text plan None e line ++ more lines
with_item plan (Refused number fault) lines more = refused_text number fault ++ more lines
with_item plan (OtherPoint number) lines more = point_text number ++ more lines
with_item plan (NoOctets number) lines more = empty_text number ++ more lines
with_item plan Nothing lines more = more lines
with_item plan (Captured packet e) [] more = []
with_item plan (Captured packet e) (line ∷ lines) more = line_text plan (Some packet) e line ++ more lines
with_item plan (Note note) lines more = note ++ more lines

-- each message has the next line of the judgement
unfoldable pub text_of_items : Network → List Item → List Line → List ℕ
text_of_items plan [] lines = []
text_of_items plan (item ∷ items) lines = with_item plan item lines (text_of_items plan items)

-- the whole text
abbrev pub report_text : Network → List Item → Judgement → List ℕ
report_text plan items j = text_of_items plan items j.lines ++ summary_text plan (summary_of j.left)

-- if a message is unexplained, the relays differ from the plan
abbrev pub status_for : ℕ → Status
status_for unexplained = if unexplained == 0 then Done else Differs

abbrev pub status_of : Judgement → Status
status_of j = status_for (summary_of j.left).unexplained

-- the answer on a file that ends so: a damaged capture is reported as such, whatever its messages are
abbrev pub answer_for : Ending → Status → Status
answer_for Whole status = status
answer_for Cut status = status
answer_for Damaged status = BadCapture

abbrev pub answer_of : Ending → Judgement → Status
answer_of ending j = answer_for ending (status_of j)

-- ---- the work

-- the messages are judged, and what is said of them is the answer
abbrev pub heard_work : Network → Heard → Work
heard_work plan h =
    ask (judgement_of plan (events_in h.items)) (λ j. answered (answer_of h.ending j, report_text plan h.items j))

abbrev pub work_on : Network → Result Heard LineFault → Work
work_on plan (Err fault) = answered (BadTrace, bad_line fault)
work_on plan (Ok h) = heard_work plan h

-- a text has more octets than a file may have that is no plan
abbrev pub is_long_text : List ℕ → Bool
is_long_text octets = not (is_capture octets) && nat_lt standard.octets (length octets)

-- of a file with these octets
abbrev pub octets_work : Network → List ℕ → Work
octets_work plan octets =
    if is_long_text octets then answered (TooLong, too_long_line standard) else work_on plan (heard_in octets)

-- The file is read in pieces, which may fail, and judged whole before anything is printed. A text has a limit, and a capture has none.
abbrev pub file_work : Network → List ℕ → Work
file_work plan name = read name (λ octets. read_on (octets_work plan octets))

-- ---- what the code gives

-- a judgement, its answer and its text
pub record IsReport (plan : Network) (h : Heard) (r : Report) : Type 0 where
  pub judgement : Judgement
  pub is : IsJudgement plan (events_in h.items) judgement
  pub status_is : r.status ≡ answer_of h.ending judgement
  pub text_is : r.text ≡ report_text plan h.items judgement

abbrev pub IsAnswerTo : Network → Result Heard LineFault → Report → Type 0
IsAnswerTo plan (Err fault) r = (r.status ≡ BadTrace) × (r.text ≡ bad_line fault)
IsAnswerTo plan (Ok h) r = IsReport plan h r
