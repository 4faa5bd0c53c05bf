-- A skipped line adds nothing to a batch, so a batch may leave it out.
use Rattle.std.proofs.Common.{◌≡◌, ℕ, List, [], ◌∷◌, ◌++◌, length, true, false, cond, Ok, refl, sym, ◌∙◌, ap, subst, append-nil}
use Rattle.std.proofs.Common.{append_assoc}
use Rattle.std.proofs.Math.Path.{fun_ext}
use Rattle.std.proofs.lemmas.List.Elements.{filter-append, filter_map-append}
use Rattle.std.specs.List.{filter_map}
use Rattle.std.specs.Prelude.{nat_le}
use Rattle.relay_net.specs.Batches.{applied_after}
use Rattle.relay_net.specs.States.{Applied, State, markings_of}
use Rattle.relay_net.specs.declared.travelled.Journey.{Journey}
use Rattle.sccp_base.specs.declared.mark.Mark.{Mark}
use Rattle.sccp_report.specs.Events.{event_line, line_words}
use Rattle.sccp_report.specs.Roles.{Role, routed, later, aside, alone, role_of}
use Rattle.sccp_report.specs.Served.{served_text}
use Rattle.trace_text.specs.declared.line.Line.{Line}
use Rattle.trace_text.specs.declared.line.Line.TheVariants.{Msg, Pause, Resume, NoSccp, Up, Down, Tick, Plan, Fence, Skip}
use Rattle.trace_text.specs.declared.line.Numbered.{Numbered}
use Rattle.sccp_work.specs.Ending.{Works}
use Rattle.sccp_replay.specs.Gathering.{IsBegun, has_message, is_skipped, lines_in}
use Rattle.sccp_work.specs.Moment.{Moment}
use Rattle.sccp_replay.specs.Replay.{Standing, Settled, prints, routes, Told, after_text, accepted, accepted_before, alone_work, batch_of}
use Rattle.sccp_replay.specs.Replay.{batch_printed, batch_work, gathered, is_full, journey_by, line_work, lines_work, settle, settle_line}
use Rattle.sccp_replay.specs.Replay.{tell, told_at}
use Rattle.sccp_replay.specs.Settling.{TakesLines}
use Rattle.sccp_work.specs.Work.{Work, answered, print, read_on, serve}
use Rattle.sccp_replay.specs.declared.joined.Joined.{Joined}
use Rattle.sccp_work.specs.declared.status.Status.{Status}

-- a skipped line of that number
abbrev pub skipped : ℕ → Numbered
skipped number = record { number = number; line = Skip }

-- ---- a settled line that prints nothing

nothing_told : (at : Standing) (markings : List (List Mark)) (states : List State) (front back : List Settled) (numbers : List ℕ)
    → tell at markings states (front ++ prints [] ∷ back) numbers ≡ tell at markings states (front ++ back) numbers
unfolding tell
nothing_told at markings states [] back numbers = refl
nothing_told at markings states (prints text ∷ front) back numbers =
    ap (after_text text) (nothing_told at markings states front back numbers)
nothing_told at markings states (routes line x before ∷ front) back [] = refl
nothing_told at markings states (routes line x before ∷ front) back (number ∷ numbers) =
    let j : Journey = journey_by at markings x number in
    let a : Applied = applied_after at.first states x j in
    ap (after_text (served_text at.first line number j a.outcomes)) (nothing_told at markings a.states front back numbers)

nothing_before : (front back : List Settled) → filter_map accepted_before (front ++ prints [] ∷ back)
    ≡ filter_map accepted_before (front ++ back)
nothing_before front back = filter_map-append accepted_before front (prints [] ∷ back) ∙ sym (filter_map-append accepted_before front back)

-- what follows the settling of a batch does not see it
abbrev pub Overlooks : (Standing → List Settled → Work) → Type 0
Overlooks next = (at : Standing) (front back : List Settled) → next at (front ++ prints [] ∷ back) ≡ next at (front ++ back)

-- what a batch goes on with when its lines are settled
abbrev pub served_with : Standing → (Standing → List ℕ → Work) → Standing → List Settled → Work
served_with at next at' settled =
    serve (batch_of at at' settled) (λ numbers. next (record at' { states = (told_at at' settled numbers).states })
    (told_at at' settled numbers).text)

overlooks : (at : Standing) (next : Standing → List ℕ → Work) → Overlooks (served_with at next)
overlooks at next at' front back =
    let some : List Settled = front ++ prints [] ∷ back in
    let f : List ℕ → Work = λ numbers. next (record at' { states = (told_at at' some numbers).states }) (told_at at' some numbers).text in
    let g : List ℕ → Work = λ numbers. next (record at' { states = (told_at at' (front ++ back) numbers).states })
    (told_at at' (front ++ back) numbers).text in
    let same : f ≡ g = fun_ext (λ numbers. ap (λ (t : Told). next (record at' { states = t.states }) t.text)
    (nothing_told at' (markings_of at'.states) at'.states front back numbers)) in
    ap (λ before. serve (record { workers = at.workers; before = before; first = accepted at; last = accepted at' }) f)
    (nothing_before front back)
    ∙ ap (serve (batch_of at at' (front ++ back))) same

-- ---- a batch

nothing_done : (at : Standing) (front back : List Settled) (lines : List Numbered) (next : Standing → List Settled → Work) → Overlooks next
    → settle at (front ++ prints [] ∷ back) lines next ≡ settle at (front ++ back) lines next
unfolding settle
nothing_done at front back [] next over = over at front back
nothing_done at front back (line ∷ lines) next over =
    let f : Standing → Settled → Work = λ at' s. settle at' ((front ++ prints [] ∷ back) ++ s ∷ []) lines next in
    let g : Standing → Settled → Work = λ at' s. settle at' ((front ++ back) ++ s ∷ []) lines next in
    let same : f ≡ g =
    fun_ext (λ at'. fun_ext (λ s.
    ap (λ done. settle at' done lines next) (append_assoc front (prints [] ∷ back) (s ∷ []))
    ∙ nothing_done at' front (back ++ s ∷ []) lines next over
    ∙ sym (ap (λ done. settle at' done lines next) (append_assoc front back (s ∷ []))))) in
    ap (settle_line at line (role_of at.first line.line)) same

skipped_first : (at : Standing) (done : List Settled) (number : ℕ) (lines : List Numbered) (next : Standing → List Settled → Work)
    → Overlooks next
    → settle at done (skipped number ∷ lines) next ≡ settle at done lines next
unfolding settle event_line line_words
skipped_first at done number lines next over = nothing_done at done [] lines next over ∙ ap (λ d. settle at d lines next) (append-nil done)

skipped_within : (at : Standing) (done : List Settled) (front : List Numbered) (number : ℕ) (back : List Numbered) (next : Standing
    → List Settled → Work) → Overlooks next
    → settle at done (front ++ skipped number ∷ back) next ≡ settle at done (front ++ back) next
unfolding settle
skipped_within at done [] number back next over = skipped_first at done number back next over
skipped_within at done (line ∷ front) number back next over =
    let f : Standing → Settled → Work = λ at' s. settle at' (done ++ s ∷ []) (front ++ skipped number ∷ back) next in
    let g : Standing → Settled → Work = λ at' s. settle at' (done ++ s ∷ []) (front ++ back) next in
    let same : f ≡ g = fun_ext (λ at'. fun_ext (λ s. skipped_within at' (done ++ s ∷ []) front number back next over)) in
    ap (settle_line at line (role_of at.first line.line)) same

pub same_batch : (at : Standing) (front : List Numbered) (number : ℕ) (back : List Numbered) (next : Standing → List ℕ → Work)
    → batch_work at (front ++ skipped number ∷ back) next ≡ batch_work at (front ++ back) next
unfolding batch_work
same_batch at front number back next = skipped_within at [] front number back (served_with at next) (overlooks at next)

-- the lines after a batch that has begun

still_full : (front : List Numbered) (number : ℕ) (back : List Numbered)
    → is_full (front ++ skipped number ∷ back) ≡ is_full (front ++ back)
still_full front number back =
    ap (λ messages. nat_le 1024 (length messages)) (filter-append has_message front (skipped number ∷ back)
    ∙ sym (filter-append has_message front back))

-- what follows does not see a skipped line of the batch
abbrev pub OverlooksLine : (Standing → List Numbered → Work) → Standing → List Numbered → ℕ → Type 0
OverlooksLine next at front number = (back : List Numbered) → next at (front ++ skipped number ∷ back) ≡ next at (front ++ back)

same_gathered : (at : Standing) (front : List Numbered) (number : ℕ) (back : List Numbered) (next : Standing → List Numbered → Work)
    → OverlooksLine next at front number
    → gathered at (front ++ skipped number ∷ back) next ≡ gathered at (front ++ back) next
same_gathered at front number back next over =
    let some : List Numbered = front ++ skipped number ∷ back in
    let left : List Numbered = front ++ back in
    ap (λ full. cond full (batch_printed at some (λ at'. next at' [])) (next at some)) (still_full front number back)
    ∙ ap (λ work. cond (is_full left) work (next at some))
    (ap read_on (same_batch at front number back (λ at' text. print text (next at' []))))
    ∙ ap (λ work. cond (is_full left) (batch_printed at left (λ at'. next at' [])) work) (over back)

same_joined : (at : Standing) (front : List Numbered) (number : ℕ) (back : List Numbered) (line : Numbered) (next : Standing → List Numbered
    → Work) → OverlooksLine next at front number
    → gathered at ((front ++ skipped number ∷ back) ++ line ∷ []) next ≡ gathered at ((front ++ back) ++ line ∷ []) next
same_joined at front number back line next over =
    ap (λ batch. gathered at batch next) (append_assoc front (skipped number ∷ back) (line ∷ []))
    ∙ same_gathered at front number (back ++ line ∷ []) next over
    ∙ sym (ap (λ batch. gathered at batch next) (append_assoc front back (line ∷ [])))

same_line : (at : Standing) (front : List Numbered) (number : ℕ) (back : List Numbered) (line : Numbered) (role : Role) (next : Standing
    → List Numbered → Work) → OverlooksLine next at front number
    → line_work at (front ++ skipped number ∷ back) line role next ≡ line_work at (front ++ back) line role next
same_line at front number back line (alone d) next over =
    ap read_on (same_batch at front number back (alone_work line d (λ at'. next at' [])))
same_line at front number back line (routed x) next over = same_joined at front number back line next over
same_line at front number back line (later name) next over = same_joined at front number back line next over
same_line at front number back line aside next over = same_joined at front number back line next over

pub same_lines : (closing : Status × List ℕ) (lines : List Numbered) (at : Standing) (front : List Numbered) (number : ℕ)
    (back : List Numbered)
    → lines_work closing at (front ++ skipped number ∷ back) lines ≡ lines_work closing at (front ++ back) lines
unfolding lines_work
same_lines closing [] at front number back = ap read_on (same_batch at front number back
    (λ at' text. answered (closing.0, text ++ closing.1)))
same_lines closing (line ∷ lines) at front number back =
    same_line at front number back line (role_of at.first line.line) (λ at' batch'. lines_work closing at' batch' lines)
    (λ more. same_lines closing lines at front number more)

-- a skipped line leaves a batch that has begun as it is
pub same_batch_goes_on : (closing : Status × List ℕ) (at : Standing) (batch : List Numbered) (number : ℕ) (lines : List Numbered)
    → is_full batch ≡ false
    → lines_work closing at batch (skipped number ∷ lines) ≡ lines_work closing at batch lines
unfolding lines_work
same_batch_goes_on closing at batch number lines few =
    let next : Standing → List Numbered → Work = λ at' batch'. lines_work closing at' batch' lines in
    same_gathered at batch number [] next (λ back. same_lines closing lines at batch number back)
    ∙ ap (λ b. gathered at b next) (append-nil batch)
    ∙ ap (λ full. cond full (batch_printed at batch (λ at'. next at' [])) (next at batch)) few

-- ---- as the code knows it

is_skip : (line : Line) → true ≡ is_skipped line → line ≡ Skip
is_skip (Msg node origin octets) e = absurd cc
is_skip (Pause node pc) e = absurd cc
is_skip (Resume node pc) e = absurd cc
is_skip (NoSccp node pc) e = absurd cc
is_skip (Up node ssn) e = absurd cc
is_skip (Down node ssn) e = absurd cc
is_skip (Tick node) e = absurd cc
is_skip (Plan file) e = absurd cc
is_skip Fence e = absurd cc
is_skip Skip e = refl

pub skipped_taken : (at : Standing) (batch : List Joined) (line : Numbered) (m : Moment) → IsBegun at.first batch
    → true ≡ is_skipped line.line
    → TakesLines {T = Unit {0}} at (lines_in batch) (line ∷ []) (Ok tt) at (lines_in batch) m m
skipped_taken at batch line m begun skips = λ closing more result after h.
    let is : line ≡ skipped line.number = ap (λ l. record line { line = l }) (is_skip line.line skips) in
    subst (λ l. Works (lines_work closing at (lines_in batch) (l ∷ more)) result m after) (sym is)
    (subst (λ work. Works work result m after) (sym (same_batch_goes_on closing at (lines_in batch) line.number more begun.few)) h)
