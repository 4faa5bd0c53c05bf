-- The lines of a trace, one after the other, whatever follows them.
use Rattle.std.proofs.Common.{◌≡◌, ℕ, ◌+◌, List, [], ◌∷◌, ◌++◌, length, true, false, cond, Option, Some, None, Result, Ok, Err, refl, sym}
use Rattle.std.proofs.Common.{◌∙◌, ap, subst, append-nil, arith}
use Rattle.std.specs.Prelude.{OnOk, IfOk}
use Rattle.std.proofs.lemmas.List.{map-append}
use Rattle.std.specs.Io.KnownBytes.{IsAtEnd}
use Rattle.relay_net.specs.Batches.{Due}
use Rattle.sccp_report.specs.Events.{event_text}
use Rattle.sccp_report.specs.Roles.{alone, role_of}
use Rattle.trace_text.specs.Told.{ahead, only}
use Rattle.trace_text.specs.Told as reading
use Rattle.trace_text.specs.declared.fed.Fed.{Fed}
use Rattle.trace_text.specs.declared.line.Numbered.{Numbered}
use Rattle.trace_text.specs.declared.line_fault.LineFault.{LineFault}
use Rattle.sccp_work.specs.Ending.{IsCut, Works}
use Rattle.sccp_replay.specs.Gathering.{joining_role, line_in, lines_in}
use Rattle.sccp_work.specs.Moment.{Moment}
use Rattle.sccp_replay.specs.Replay.{Standing, is_full, done_alone, alone_work, batch_work, batch_printed, gathered, line_work, lines_work}
use Rattle.sccp_replay.specs.Replay.{closing_of}
use Rattle.sccp_replay.specs.Replaying.{EndsAs, BatchGives, BatchStops, MayCome, rest_work, work_behind, GoesOn}
use Rattle.sccp_replay.specs.Settling.{WritesBatch, Gathers, StandsAlone, TakesLine, TakesLines}
use Rattle.sccp_work.specs.Work.{Work, print, read_on, answered}
use Rattle.sccp_work.specs.Writing.{Writes}
use Rattle.sccp_replay.specs.declared.joined.Joined.{Joined}
use Rattle.sccp_replay.specs.declared.joined.Joining.{Joining}
use Rattle.sccp_replay.specs.declared.joined.Joining.TheVariants.{Routed, Later, Aside}
use Rattle.sccp_work.specs.declared.status.Status.{Status}
use Rattle.sccp_work.specs.declared.stop.Stop.{Stop}
use Rattle.sccp_work.specs.declared.stop.Stop.TheVariants.{Memory}
use Rattle.sccp_work.proofs.WorkLemmas.{Kept, Moved, Works-answered, Works-memory, Works-read_on, printed}

still : (m : Moment) → Moved m m
still m = record { contents = refl; sound = refl; read_faults = omega arith; taken = refl; write_faults = refl }

-- a batch, after which the trace is read on

pub batch_stopped : (at : Standing) (batch : List Numbered) (stop : Stop) (first now : Moment) → BatchStops at batch (Err stop) first now
    → (next : Standing → List ℕ → Work) → Works (read_on (batch_work at batch next)) (Err stop) first now
batch_stopped at batch stop first now stops next = Works-read_on (batch_work at batch next) (Err stop) first first now (still first)
    (λ s. refl) (stops next)

pub batch_went : (at at' : Standing) (batch : List Numbered) (text : List ℕ) (first mid : Moment) → BatchGives at batch at' text first mid
    → (next : Standing → List ℕ → Work) → EndsAs (read_on (batch_work at batch next)) (next at' text) first mid
batch_went at at' batch text first mid gives next = λ result after h.
    Works-read_on (batch_work at batch next) result first first after (still first) (λ s. refl) (gives next result after h)

pub batch_memory : (at at' : Standing) (batch : List Numbered) (text : List ℕ) (first mid : Moment) → BatchGives at batch at' text first mid
    → (next : Standing → List ℕ → Work) → Works (read_on (batch_work at batch next)) (Err Memory) first mid
batch_memory at at' batch text first mid gives next = batch_went at at' batch text first mid gives next (Err Memory) mid
    (Works-memory (next at' text) mid)

-- a full one is written
pub batch_written : (at at' : Standing) (batch : List Numbered) (text : List ℕ) (r : Result (Unit {0}) Stop) (first mid now : Moment)
    → BatchGives at batch at' text first mid
    → Writes text r mid.taken now.taken mid.write_faults now.write_faults → Kept mid now → WritesBatch at batch r at' first now
batch_written at at' batch text (Ok done) first mid now gives writes k = λ next result after h.
    batch_went at at' batch text first mid gives (λ a t. print t (next a)) result after
    (printed text (next at') (Ok done) mid now writes k result after h)
batch_written at at' batch text (Err stop) first mid now gives writes k = λ next.
    batch_went at at' batch text first mid gives (λ a t. print t (next a)) (Err stop) now
    (printed text (next at') (Err stop) mid now writes k)

-- a line that ends it is written with it
pub alone_written : (at mid_at at' : Standing) (batch : List Numbered) (line : Numbered) (d : Option Due) (text whole : List ℕ)
    (r : Result (Unit {0}) Stop) (first mid now : Moment) → BatchGives at batch mid_at text first mid
    → whole ≡ text ++ event_text mid_at.first line (done_alone mid_at d).outcomes
    → at' ≡ record mid_at { states = (done_alone mid_at d).states }
    → Writes whole r mid.taken now.taken mid.write_faults now.write_faults → Kept mid now → StandsAlone at batch line d r at' first now
alone_written at mid_at at' batch line d text whole (Ok done) first mid now gives spelt is writes k = λ next result after h.
    let left : Work = next (record mid_at { states = (done_alone mid_at d).states }) in
    let all = subst (λ t. Writes {T = Unit {0}} t (Ok done) mid.taken now.taken mid.write_faults now.write_faults) spelt writes in
    batch_went at mid_at batch text first mid gives (alone_work line d next) result after
    (printed (text ++ event_text mid_at.first line (done_alone mid_at d).outcomes) left (Ok done) mid now all k result after
    (subst (λ a. Works (next a) result now after) is h))
alone_written at mid_at at' batch line d text whole (Err stop) first mid now gives spelt is writes k = λ next.
    let left : Work = next (record mid_at { states = (done_alone mid_at d).states }) in
    let all = subst (λ t. Writes {T = Unit {0}} t (Err stop) mid.taken now.taken mid.write_faults now.write_faults) spelt writes in
    batch_went at mid_at batch text first mid gives (alone_work line d next) (Err stop) now
    (printed (text ++ event_text mid_at.first line (done_alone mid_at d).outcomes) left (Err stop) mid now all k)

-- ---- a line joins the batch that has begun

one_more : (batch whole : List Joined) (one : Joined) → whole ≡ batch ++ one ∷ [] → lines_in whole ≡ lines_in batch ++ one.line ∷ []
one_more batch whole one is = ap lines_in is ∙ map-append line_in batch (one ∷ [])

pub gathers_full : (at at' : Standing) (batch whole batch' : List Joined) (one : Joined) (r : Result (Unit {0}) Stop) (first now : Moment)
    → whole ≡ batch ++ one ∷ [] → true ≡ is_full (lines_in whole)
    → WritesBatch at (lines_in whole) r at' first now → OnOk r (batch' ≡ [])
    → Gathers at (lines_in batch) one.line r at' (lines_in batch') first now
gathers_full at at' batch whole batch' one (Ok done) first now is full writes none = λ next result after h.
    let given : Works (batch_printed at (lines_in whole) (λ a. next a [])) result first after =
    writes (λ a. next a []) result after (subst (λ b. Works (next at' (lines_in b)) result now after) none h) in
    subst (λ b. Works (gathered at b next) result first after) (one_more batch whole one is)
    (subst (λ v. Works (cond v (batch_printed at (lines_in whole) (λ a. next a []))
    (next at (lines_in whole))) result first after) full given)
gathers_full at at' batch whole batch' one (Err stop) first now is full writes none = λ next.
    subst (λ b. Works (gathered at b next) (Err stop) first now) (one_more batch whole one is)
    (subst (λ v. Works (cond v (batch_printed at (lines_in whole) (λ a. next a [])) (next at (lines_in whole))) (Err stop) first now) full
    (writes (λ a. next a [])))

pub gathers_more : (at : Standing) (batch whole : List Joined) (one : Joined) (m : Moment) → whole ≡ batch ++ one ∷ []
    → false ≡ is_full (lines_in whole)
    → Gathers {T = Unit {0}} at (lines_in batch) one.line (Ok tt) at (lines_in whole) m m
gathers_more at batch whole one m is few = λ next result after h.
    subst (λ b. Works (gathered at b next) result m after) (one_more batch whole one is)
    (subst (λ v. Works (cond v (batch_printed at (lines_in whole) (λ a. next a [])) (next at (lines_in whole))) result m after) few h)

-- ---- one line

joins : (at : Standing) (batch : List Numbered) (line : Numbered) (joining : Joining) (next : Standing → List Numbered → Work)
    → gathered at (batch ++ line ∷ []) next ≡ line_work at batch line (joining_role joining) next
joins at batch line (Routed x) next = refl
joins at batch line (Later name) next = refl
joins at batch line Aside next = refl

pub takes_gathered : (at at' : Standing) (batch batch' : List Numbered) (line : Numbered) (joining : Joining) (r : Result (Unit {0}) Stop)
    (first now : Moment) → joining_role joining ≡ role_of at.first line.line
    → Gathers at batch line r at' batch' first now → TakesLine at batch line r at' batch' first now
takes_gathered at at' batch batch' line joining (Ok done) first now e gathers = λ next result after h.
    subst (λ k. Works (line_work at batch line k next) result first after) e
    (subst (λ w. Works w result first after) (joins at batch line joining next) (gathers next result after h))
takes_gathered at at' batch batch' line joining (Err stop) first now e gathers = λ next.
    subst (λ k. Works (line_work at batch line k next) (Err stop) first now) e
    (subst (λ w. Works w (Err stop) first now) (joins at batch line joining next) (gathers next))

pub takes_alone : (at at' : Standing) (batch batch' : List Joined) (line : Numbered) (d : Option Due) (r : Result (Unit {0}) Stop)
    (first now : Moment) → alone d ≡ role_of at.first line.line
    → StandsAlone at (lines_in batch) line d r at' first now → OnOk r (batch' ≡ [])
    → TakesLine at (lines_in batch) line r at' (lines_in batch') first now
takes_alone at at' batch batch' line d (Ok done) first now e stands none = λ next result after h.
    subst (λ k. Works (line_work at (lines_in batch) line k next) result first after) e
    (stands (λ a. next a []) result after (subst (λ b. Works (next at' (lines_in b)) result now after) none h))
takes_alone at at' batch batch' line d (Err stop) first now e stands none = λ next.
    subst (λ k. Works (line_work at (lines_in batch) line k next) (Err stop) first now) e (stands (λ a. next a []))

-- by itself, whatever lines follow
pub one_taken : (at at' : Standing) (batch batch' : List Numbered) (line : Numbered) (r : Result (Unit {0}) Stop) (first now : Moment)
    → TakesLine at batch line r at' batch' first now
    → TakesLines at batch (line ∷ []) r at' batch' first now
unfolding lines_work
one_taken at at' batch batch' line (Ok done) first now takes = λ closing more. takes (λ a b. lines_work closing a b more)
one_taken at at' batch batch' line (Err stop) first now takes = λ closing more. takes (λ a b. lines_work closing a b more)

-- ---- more lines

-- the lines were taken, up to these
abbrev pub LinesLeft : Standing → List Numbered → List Numbered → Standing → List Numbered → List Numbered → Moment → Moment → Type 0
LinesLeft at batch lines at' batch' left first now = (closing : Status × List ℕ) (more : List Numbered)
    → EndsAs (lines_work closing at batch (lines ++ more)) (lines_work closing at' batch' (left ++ more)) first now

pub line_taken : (at at' at'' : Standing) (batch batch' batch'' lines left : List Numbered) (line : Numbered) (first mid now : Moment)
    → LinesLeft at batch lines at' batch' (line ∷ left) first mid
    → TakesLines {T = Unit {0}} at' batch' (line ∷ []) (Ok tt) at'' batch'' mid now → LinesLeft at batch lines at'' batch'' left first now
line_taken at at' at'' batch batch' batch'' lines left line first mid now all takes = λ closing more result after h.
    all closing more result after (takes closing (left ++ more) result after h)

pub line_stopped : (at at' at'' : Standing) (batch batch' batch'' lines left : List Numbered) (line : Numbered) (stop : Stop)
    (first mid now : Moment) → LinesLeft at batch lines at' batch' (line ∷ left) first mid
    → TakesLines {T = Unit {0}} at' batch' (line ∷ []) (Err stop) at'' batch'' mid now
    → TakesLines {T = Unit {0}} at batch lines (Err stop) at'' batch'' first now
line_stopped at at' at'' batch batch' batch'' lines left line stop first mid now all takes = λ closing more.
    all closing more (Err stop) now (takes closing (left ++ more))

-- ---- a piece of the trace

-- something may still follow
pub may_come : (left : Option (List ℕ)) → (rest : List ℕ) × MayCome left rest
may_come None = ([], tt)
may_come (Some octets) = (octets, refl)

pub may_end : (left : Option (List ℕ)) → IsAtEnd left → MayCome left []
may_end None end = tt
may_end (Some octets) end = end

pub told_taken : (work : Work) (count : ℕ) (at at' : Standing) (batch batch' lines : List Numbered) (reader : reading.Standing)
    (left : Option (List ℕ)) (first mid now : Moment)
    → GoesOn work count at batch lines reader left first mid → TakesLines {T = Unit {0}} at batch lines (Ok tt) at' batch' mid now
    → GoesOn work count at' batch' [] reader left first now
told_taken work count at at' batch batch' lines reader left first mid now all takes = λ rest may result after h.
    let fed : Fed = ahead reader true rest in
    all rest may result after (takes (closing_of (count + length fed.lines) fed.fault) fed.lines result after h)

pub told_stopped : (work : Work) (count : ℕ) (at at' : Standing) (batch batch' lines : List Numbered) (reader : reading.Standing)
    (left : Option (List ℕ)) (stop : Stop) (first mid now : Moment)
    → GoesOn work count at batch lines reader left first mid → TakesLines {T = Unit {0}} at batch lines (Err stop) at' batch' mid now
    → Works work (Err stop) first now
told_stopped work count at at' batch batch' lines reader left stop first mid now all takes =
    let may = may_come left in
    let fed : Fed = ahead reader true may.0 in
    all may.0 may.1 (Err stop) now (takes (closing_of (count + length fed.lines) fed.fault) fed.lines)

-- ---- the end

behind_nothing : (count : ℕ) (at : Standing) (batch : List Numbered) (fault : Option LineFault)
    → work_behind count at batch [] (only fault) ≡ lines_work (closing_of count fault) at batch []
behind_nothing count at batch fault =
    let zero_more : count + 0 ≡ count = omega arith in
    ap (λ n. lines_work (closing_of n fault) at batch []) zero_more

pub fault_ends : (work : Work) (count : ℕ) (at : Standing) (batch : List Numbered) (reader : reading.Standing) (left : Option (List ℕ))
    (fault : Option LineFault) (result : Result Status Stop) (first mid now : Moment)
    → GoesOn work count at batch [] reader left first mid → ((rest : List ℕ) → ahead reader true rest ≡ only fault)
    → Works (lines_work (closing_of count fault) at batch []) result mid now → Works work result first now
fault_ends work count at batch reader left fault result first mid now all stands h =
    let may = may_come left in
    all may.0 may.1 result now (subst (λ w. Works w result mid now) (sym (ap (work_behind count at batch []) (stands may.0)
    ∙ behind_nothing count at batch fault)) h)

-- the last lines were given and taken
pub last_taken : (count : ℕ) (at at' : Standing) (batch batch' : List Numbered) (reader : reading.Standing) (fed : Fed) (n : ℕ)
    (result : Result Status Stop) (first mid now : Moment) → fed ≡ ahead reader true []
    → TakesLines {T = Unit {0}} at batch fed.lines (Ok tt) at' batch' first mid → n ≡ count + length fed.lines
    → Works (lines_work (closing_of n fed.fault) at' batch' []) result mid now
    → Works (rest_work count at batch [] reader []) result first now
last_taken count at at' batch batch' reader fed n result first mid now is takes counted h =
    let closing : Status × List ℕ = closing_of (count + length fed.lines) fed.fault in
    let rest : Works (lines_work closing at batch (fed.lines ++ [])) result first now =
    takes closing [] result now (subst (λ k. Works (lines_work (closing_of k fed.fault) at' batch' []) result mid now) counted h) in
    subst (λ w. Works w result first now) (ap (work_behind count at batch []) is)
    (subst (λ ls. Works (lines_work closing at batch ls) result first now) (append-nil fed.lines) rest)

pub last_stopped : (count : ℕ) (at at' : Standing) (batch batch' : List Numbered) (reader : reading.Standing) (fed : Fed) (stop : Stop)
    (first now : Moment) → fed ≡ ahead reader true []
    → TakesLines {T = Unit {0}} at batch fed.lines (Err stop) at' batch' first now
    → Works (rest_work count at batch [] reader []) (Err stop) first now
last_stopped count at at' batch batch' reader fed stop first now is takes =
    let closing : Status × List ℕ = closing_of (count + length fed.lines) fed.fault in
    subst (λ w. Works w (Err stop) first now) (ap (work_behind count at batch []) is)
    (subst (λ ls. Works (lines_work closing at batch ls) (Err stop) first now) (append-nil fed.lines) (takes closing []))

closing_own : (count : ℕ) (fault : Option LineFault) → IsCut (closing_of count fault).0 → ⊥
closing_own count None cut = cut
closing_own count (Some fault) cut = cut

-- the last batch is written with the last line
pub closing_written : (at at' : Standing) (batch : List Numbered) (text whole : List ℕ) (count : ℕ) (fault : Option LineFault)
    (status : Status) (r : Result Status Stop) (first mid now : Moment) → BatchGives at batch at' text first mid
    → whole ≡ text ++ (closing_of count fault).1 → status ≡ (closing_of count fault).0
    → Writes whole r mid.taken now.taken mid.write_faults now.write_faults → IfOk r (λ s. s ≡ status) → Kept mid now
    → Works (lines_work (closing_of count fault) at batch []) r first now
unfolding lines_work
closing_written at at' batch text whole count fault status r first mid now gives spelt is writes answer k =
    let closing : Status × List ℕ = closing_of count fault in
    let all = subst (λ t. Writes t r mid.taken now.taken mid.write_faults now.write_faults) spelt writes in
    batch_went at at' batch text first mid gives (λ a t. answered (closing.0, t ++ closing.1)) r now
    (Works-answered (closing.0, text ++ closing.1) r mid now (closing_own count fault) all
    (subst (λ s. IfOk r (λ t. t ≡ s)) is answer) k.contents k.sound k.read_faults)

pub closing_stopped : (at : Standing) (batch : List Numbered) (count : ℕ) (fault : Option LineFault) (stop : Stop) (first now : Moment)
    → BatchStops at batch (Err stop) first now → Works (lines_work (closing_of count fault) at batch []) (Err stop) first now
unfolding lines_work
closing_stopped at batch count fault stop first now stops = batch_stopped at batch stop first now stops
    (λ a t. answered ((closing_of count fault).0, t ++ (closing_of count fault).1))

pub closing_memory : (at at' : Standing) (batch : List Numbered) (text : List ℕ) (count : ℕ) (fault : Option LineFault) (first mid : Moment)
    → BatchGives at batch at' text first mid → Works (lines_work (closing_of count fault) at batch []) (Err Memory) first mid
unfolding lines_work
closing_memory at at' batch text count fault first mid gives = batch_memory at at' batch text first mid gives
    (λ a t. answered ((closing_of count fault).0, t ++ (closing_of count fault).1))

-- ---- want of memory, by a name that the code's hints can have

pub works_memory : (work : Work) (m : Moment) → Works work (Err Memory) m m
works_memory work m = Works-memory work m
