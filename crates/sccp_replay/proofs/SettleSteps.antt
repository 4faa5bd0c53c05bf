-- The steps of the loop over the lines of a batch whose plan lines are settled, and what a batch gives.
use Rattle.std.proofs.Common.{ℕ, List, [], ◌∷◌, ◌++◌, Result}
use Rattle.sccp_report.specs.Roles.{role_of}
use Rattle.trace_text.specs.declared.line.Numbered.{Numbered}
use Rattle.sccp_work.specs.Ending.{Works}
use Rattle.sccp_work.specs.Moment.{Moment}
use Rattle.sccp_work.specs.Numbers.{AreNumbers}
use Rattle.sccp_replay.specs.Replay.{Standing, Settled, settle_line, settle, batch_of, told_at, batch_work}
use Rattle.sccp_replay.specs.Replaying.{EndsAs, SettlesTo, BatchGives, BatchStops}
use Rattle.sccp_work.specs.Work.{Work, serve}
use Rattle.sccp_work.specs.declared.status.Status.{Status}
use Rattle.sccp_work.specs.declared.stop.Stop.{Stop}
use Rattle.sccp_work.proofs.WorkLemmas.{Works-serve}

-- what a line gives is what the loop goes on with
abbrev pub LineGives : Standing → Numbered → Standing → Settled → Moment → Moment → Type 0
LineGives at line at' s before now = (next : Standing → Settled → Work)
    → EndsAs (settle_line at line (role_of at.first line.line) next) (next at' s) before now

-- one more line
pub one_settled : (at : Standing) (lines : List Numbered) (at' at'' : Standing) (ss : List Settled) (line : Numbered) (left : List Numbered)
    (s : Settled) (first before now : Moment)
    → SettlesTo at lines at' ss (line ∷ left) first before → LineGives at' line at'' s before now
    → SettlesTo at lines at'' (ss ++ s ∷ []) left first now
unfolding settle
one_settled at lines at' at'' ss line left s first before now all gives = λ next result after h.
    all next result after (gives (λ a t. settle a (ss ++ t ∷ []) left next) result after h)

-- all lines are settled, and the numbers are lawful
pub batch_settled : (at : Standing) (lines : List Numbered) (at' : Standing) (ss : List Settled) (numbers : List ℕ) (first now : Moment)
    → SettlesTo at lines at' ss [] first now → AreNumbers (batch_of at at' ss) numbers
    → BatchGives at lines (record at' { states = (told_at at' ss numbers).states }) (told_at at' ss numbers).text first now
unfolding settle batch_work
batch_settled at lines at' ss numbers first now all are = λ next result after h.
    let serves : Standing → List Settled
    → Work = λ a t. serve (batch_of at a t) (λ ns. next (record a { states = (told_at a t ns).states }) (told_at a t ns).text) in
    all serves result after (Works-serve (batch_of at at' ss)
    (λ ns. next (record at' { states = (told_at at' ss ns).states }) (told_at at' ss ns).text) numbers result now after are h)

-- a line at which the work ends
pub stopped_at : (at : Standing) (lines : List Numbered) (at' : Standing) (ss : List Settled) (line : Numbered) (left : List Numbered)
    (stopped : Result Status Stop) (first before now : Moment)
    → SettlesTo at lines at' ss (line ∷ left) first before
    → ((next : Standing → Settled → Work) → Works (settle_line at' line (role_of at'.first line.line) next) stopped before now)
    → BatchStops at lines stopped first now
unfolding settle batch_work
stopped_at at lines at' ss line left stopped first before now all stops = λ next.
    let serves : Standing → List Settled
    → Work = λ a t. serve (batch_of at a t) (λ ns. next (record a { states = (told_at a t ns).states }) (told_at a t ns).text) in
    all serves stopped now (stops (λ a t. settle a (ss ++ t ∷ []) left serves))
