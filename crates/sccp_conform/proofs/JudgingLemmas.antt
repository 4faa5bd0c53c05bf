-- Items whose text is appended one after the other.
use Rattle.std.proofs.Common.{◌≡◌, ℕ, suc, ◌+◌, ◌<◌, ◌≤◌, List, [], ◌∷◌, ◌++◌, length, drop, get_or, refl, sym, ◌∙◌, ap, subst}
use Rattle.std.proofs.Common.{append_assoc}
use Rattle.std.proofs.Common.{append-nil, arith, drop-cons, Option, Some, None, Result, Ok, Err}
use Rattle.std.specs.Prelude.{IfOk, OnOk}
use Rattle.std.proofs.Math.ListN.{drop_of_length-le}
use Rattle.plan_model.specs.Network.{Network}
use Rattle.relay_watch.specs.Kept.{Kept, nothing_kept, summary_of}
use Rattle.relay_watch.specs.Runs.{AreJudged}
use Rattle.relay_watch.specs.Watching.{AreWatched}
use Rattle.relay_watch.specs.declared.event.Event.{Event}
use Rattle.relay_watch.specs.declared.line.Line.{Line}
use Rattle.watch_items.specs.Items.{events_in}
use Rattle.sccp_conform.specs.Reports.{refused_text, point_text, empty_text, text_of_items, status_for}
use Rattle.sccp_conform.specs.Steps.{PutsEvent, PutsItem, PutsItems, Reports}
use Rattle.watch_items.specs.declared.item.Item.{Item}
use Rattle.watch_items.specs.declared.item.Item.TheVariants.{Seen, Refused, OtherPoint, NoOctets, Nothing, Captured, Note}
use Rattle.sccp_work.specs.Judgement.{Judgement, IsJudgement}
use Rattle.sccp_work.specs.declared.status.Status.{Status}
use Rattle.watch_text.specs.Lines.{line_text}
use Rattle.watch_text.specs.Summaries.{summary_text}

-- However the items that are left are judged, their text after this one is that of all items after the text before them.
abbrev pub GoesOn : Network → List Item → Kept → List ℕ → List Item → Kept → List ℕ → Type 0
GoesOn plan all start before left now text =
    (lines : List Line) (new : Kept) → AreJudged plan now.waiting (events_in left) lines new.waiting
    → AreWatched plan now (events_in left) lines new → PutsItems plan all start new before (text ++ text_of_items plan left lines)

pub begun : (plan : Network) (all : List Item) (start : Kept) (before : List ℕ) → GoesOn plan all start before all start before
begun plan all start before = λ lines new judged watched. record { lines = lines; judged = judged; watched = watched; text_is = refl }

-- the same with a text between
abbrev WithNote : Network → List Item → Kept → List ℕ → List Item → Kept → List ℕ → List ℕ → Type 0
WithNote plan all start before left now text note =
    (lines : List Line) (new : Kept) → AreJudged plan now.waiting (events_in left) lines new.waiting
    → AreWatched plan now (events_in left) lines new → PutsItems plan all start new before (text ++ (note ++ text_of_items plan left lines))

noted : (plan : Network) (all : List Item) (start : Kept) (before : List ℕ) (left : List Item) (now next : Kept) (text after note : List ℕ)
    → WithNote plan all start before left now text note → next ≡ now → after ≡ text ++ note → GoesOn plan all start before left next after
noted plan all start before left now next text after note h same spelt = λ lines new judged watched.
    let rest : List ℕ = text_of_items plan left lines in
    subst (PutsItems plan all start new before) (sym (append_assoc text note rest) ∙ ap (λ t. t ++ rest) (sym spelt))
    (h lines new (subst (λ k. AreJudged plan k.waiting (events_in left) lines new.waiting) same judged)
    (subst (λ k. AreWatched plan k (events_in left) lines new) same watched))

-- the same with the line of a message between
judged : (plan : Network) (all : List Item) (start : Kept) (before : List ℕ) (packet : Option ℕ) (e : Event) (left : List Item)
    (now next : Kept) (text after : List ℕ)
    → ((lines : List Line) (line : Line) (new : Kept) → AreJudged plan now.waiting (e ∷ events_in left) (line ∷ lines) new.waiting
    → AreWatched plan now (e ∷ events_in left) (line ∷ lines) new
    → PutsItems plan all start new before (text ++ (line_text plan packet e line ++ text_of_items plan left lines)))
    → PutsEvent plan packet e now next text after → GoesOn plan all start before left next after
judged plan all start before packet e left now next text after h p = λ lines new judged watched.
    let rest : List ℕ = text_of_items plan left lines in
    let note : List ℕ = line_text plan packet e p.line in
    subst (PutsItems plan all start new before) (sym (append_assoc text note rest) ∙ ap (λ t. t ++ rest) (sym p.text_is))
    (h lines p.line new (next.waiting, p.judged, judged) (next, p.watched, watched))

turn : (plan : Network) (all : List Item) (start : Kept) (before : List ℕ) (item : Item) (left : List Item) (now next : Kept)
    (text after : List ℕ) → GoesOn plan all start before (item ∷ left) now text → PutsItem plan item now next text after
    → GoesOn plan all start before left next after
unfolding events_in text_of_items
turn plan all start before (Seen e) left now next text after h p =
    judged plan all start before None e left now next text after (λ lines line. h (line ∷ lines)) p
turn plan all start before (Refused number fault) left now next text after h p =
    noted plan all start before left now next text after (refused_text number fault) h p.0 p.1
turn plan all start before (OtherPoint number) left now next text after h p =
    noted plan all start before left now next text after (point_text number) h p.0 p.1
turn plan all start before (NoOctets number) left now next text after h p =
    noted plan all start before left now next text after (empty_text number) h p.0 p.1
turn plan all start before Nothing left now next text after h p =
    noted plan all start before left now next text after [] h p.0 (p.1 ∙ sym (append-nil text))
turn plan all start before (Captured packet e) left now next text after h p =
    judged plan all start before (Some packet) e left now next text after (λ lines line. h (line ∷ lines)) p
turn plan all start before (Note note) left now next text after h p =
    noted plan all start before left now next text after note h p.0 p.1

-- the same, as the code has it
pub turned : (plan : Network) (xs : List Item) (start : Kept) (before : List ℕ) (i : ℕ) (x : Item) (now next : Kept) (text after : List ℕ)
    → i < length xs → x ≡ get_or xs i x → GoesOn plan xs start before (drop i xs) now text → PutsItem plan x now next text after
    → GoesOn plan xs start before (drop (i + 1) xs) next after
turned plan xs start before i x now next text after lt at h p =
    let here : drop i xs ≡ x ∷ drop (suc i) xs = drop-cons xs i x lt ∙ ap (λ y. y ∷ drop (suc i) xs) (sym at) in
    let further : suc i ≡ i + 1 = omega arith in
    subst (λ k. GoesOn plan xs start before (drop k xs) next after) further
    (turn plan xs start before x (drop (suc i) xs) now next text after (subst (λ ys. GoesOn plan xs start before ys now text) here h) p)

nothing : (plan : Network) (all : List Item) (start : Kept) (before : List ℕ) (now : Kept) (text : List ℕ)
    → GoesOn plan all start before [] now text → PutsItems plan all start now before text
unfolding events_in text_of_items
nothing plan all start before now text h = subst (PutsItems plan all start now before) (append-nil text) (h [] now refl refl)

-- nothing is left
pub done : (plan : Network) (xs : List Item) (start : Kept) (before : List ℕ) (i : ℕ) (now : Kept) (text : List ℕ) → length xs ≤ i
    → GoesOn plan xs start before (drop i xs) now text → PutsItems plan xs start now before text
done plan xs start before i now text le h =
    nothing plan xs start before now text (subst (λ ys. GoesOn plan xs start before ys now text) (drop_of_length-le xs le) h)

-- what is said of all judgements
abbrev pub Vouched : Type 0
Vouched = (plan : Network) (events : List Event) (j : Judgement) → AreJudged plan [] events j.lines j.left.waiting
    → AreWatched plan (nothing_kept plan) events j.lines j.left → IsJudgement plan events j

-- the last lines are put after the text of all items
pub reported : {F : Type 0} (r : Result Status F) (plan : Network) (items : List Item) (start left : Kept) (before text after : List ℕ)
    → Vouched → start ≡ nothing_kept plan → PutsItems plan items start left before text
    → OnOk r (after ≡ text ++ summary_text plan (summary_of left))
    → IfOk r (λ s. s ≡ status_for (summary_of left).unexplained) → IfOk r (λ s. Reports plan items before after s)
reported (Err fault) plan items start left before text after vouch first h spelt is = tt
reported (Ok status) plan items start left before text after vouch first h spelt is =
    let last : List ℕ = summary_text plan (summary_of left) in
    let j : Judgement = record { lines = h.lines; left = left } in
    record {
      judgement = j;
      is = vouch plan (events_in items) j (subst (λ k. AreJudged plan k.waiting (events_in items) h.lines left.waiting) first h.judged)
          (subst (λ k. AreWatched plan k (events_in items) h.lines left) first h.watched);
      status_is = is;
      text_is = spelt ∙ ap (λ t. t ++ last) h.text_is ∙ append_assoc before (text_of_items plan items h.lines) last;
    }
