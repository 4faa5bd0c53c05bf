-- Items that are judged after others.
use Rattle.std.proofs.Common.{◌≡◌, ℕ, List, [], ◌∷◌, ◌++◌, Some, None, append_assoc, refl, sym, ◌∙◌, ap, subst}
use Rattle.plan_model.specs.Network.{Network}
use Rattle.relay_watch.specs.Kept.{Kept}
use Rattle.relay_watch.specs.Runs.{AreJudged}
use Rattle.relay_watch.specs.Watching.{AreWatched}
use Rattle.relay_watch.specs.declared.event.Event.{Event}
use Rattle.relay_watch.specs.declared.line.Line.{Line}
use Rattle.relay_watch.specs.declared.waiting.Waiting.{Waiting}
use Rattle.sccp_conform.specs.Reports.{refused_text, point_text, empty_text, text_of_items}
use Rattle.sccp_conform.specs.Steps.{PutsItems}
use Rattle.watch_items.specs.Items.{events_in}
use Rattle.watch_items.specs.declared.item.Item.{Item}
use Rattle.watch_items.specs.declared.item.Item.TheVariants.{Seen, Refused, OtherPoint, NoOctets, Nothing, Captured, Note}
use Rattle.watch_text.specs.Lines.{line_text}

events_append : (xs ys : List Item) → events_in (xs ++ ys) ≡ events_in xs ++ events_in ys
unfolding events_in
events_append [] ys = refl
events_append (Seen e ∷ xs) ys = ap (λ (es : List Event). e ∷ es) (events_append xs ys)
events_append (Refused number fault ∷ xs) ys = events_append xs ys
events_append (OtherPoint number ∷ xs) ys = events_append xs ys
events_append (NoOctets number ∷ xs) ys = events_append xs ys
events_append (Nothing ∷ xs) ys = events_append xs ys
events_append (Captured packet e ∷ xs) ys = ap (λ (es : List Event). e ∷ es) (events_append xs ys)
events_append (Note note ∷ xs) ys = events_append xs ys

judged_append : (plan : Network) (old mid new : List Waiting) (es fs : List Event) (ls ms : List Line) → AreJudged plan old es ls mid
    → AreJudged plan mid fs ms new → AreJudged plan old (es ++ fs) (ls ++ ms) new
judged_append plan old mid new [] fs [] ms h k = subst (λ w. AreJudged plan w fs ms new) h k
judged_append plan old mid new [] fs (line ∷ ls) ms h k = absurd h
judged_append plan old mid new (e ∷ es) fs [] ms h k = absurd h
judged_append plan old mid new (e ∷ es) fs (line ∷ ls) ms h k = (h.0, h.1, judged_append plan h.0 mid new es fs ls ms h.2 k)

watched_append : (plan : Network) (old mid new : Kept) (es fs : List Event) (ls ms : List Line) → AreWatched plan old es ls mid
    → AreWatched plan mid fs ms new → AreWatched plan old (es ++ fs) (ls ++ ms) new
watched_append plan old mid new [] fs [] ms h k = subst (λ w. AreWatched plan w fs ms new) h k
watched_append plan old mid new [] fs (line ∷ ls) ms h k = absurd h
watched_append plan old mid new (e ∷ es) fs [] ms h k = absurd h
watched_append plan old mid new (e ∷ es) fs (line ∷ ls) ms h k = (h.0, h.1, watched_append plan h.0 mid new es fs ls ms h.2 k)

-- a text before those of two lists of items
after : (plan : Network) (xs ys : List Item) (ls ms : List Line) (note : List ℕ)
    → text_of_items plan (xs ++ ys) (ls ++ ms) ≡ text_of_items plan xs ls ++ text_of_items plan ys ms
    → note ++ text_of_items plan (xs ++ ys) (ls ++ ms) ≡ (note ++ text_of_items plan xs ls) ++ text_of_items plan ys ms
after plan xs ys ls ms note e =
    ap (λ text. note ++ text) e ∙ sym (append_assoc note (text_of_items plan xs ls) (text_of_items plan ys ms))

text_append : (plan : Network) (old new : List Waiting) (xs ys : List Item) (ls ms : List Line) → AreJudged plan old (events_in xs) ls new
    → text_of_items plan (xs ++ ys) (ls ++ ms) ≡ text_of_items plan xs ls ++ text_of_items plan ys ms
unfolding events_in text_of_items
text_append plan old new [] ys [] ms h = refl
text_append plan old new [] ys (line ∷ ls) ms h = absurd h
text_append plan old new (Seen e ∷ xs) ys [] ms h = absurd h
text_append plan old new (Seen e ∷ xs) ys (line ∷ ls) ms h =
    after plan xs ys ls ms (line_text plan None e line) (text_append plan h.0 new xs ys ls ms h.2)
text_append plan old new (Refused number fault ∷ xs) ys ls ms h =
    after plan xs ys ls ms (refused_text number fault) (text_append plan old new xs ys ls ms h)
text_append plan old new (OtherPoint number ∷ xs) ys ls ms h =
    after plan xs ys ls ms (point_text number) (text_append plan old new xs ys ls ms h)
text_append plan old new (NoOctets number ∷ xs) ys ls ms h =
    after plan xs ys ls ms (empty_text number) (text_append plan old new xs ys ls ms h)
text_append plan old new (Nothing ∷ xs) ys ls ms h = text_append plan old new xs ys ls ms h
text_append plan old new (Captured packet e ∷ xs) ys [] ms h = absurd h
text_append plan old new (Captured packet e ∷ xs) ys (line ∷ ls) ms h =
    after plan xs ys ls ms (line_text plan (Some packet) e line) (text_append plan h.0 new xs ys ls ms h.2)
text_append plan old new (Note note ∷ xs) ys ls ms h = after plan xs ys ls ms note (text_append plan old new xs ys ls ms h)

-- nothing yet
pub none : (plan : Network) (kept : Kept) (text : List ℕ) → text ≡ [] → PutsItems plan [] kept kept [] text
unfolding events_in text_of_items
none plan kept text e = record { lines = []; judged = refl; watched = refl; text_is = e }

-- these items, and then those
pub joined : (plan : Network) (xs ys : List Item) (old mid new : Kept) (before between behind : List ℕ)
    → PutsItems plan xs old mid before between → PutsItems plan ys mid new between behind → PutsItems plan (xs ++ ys) old new before behind
joined plan xs ys old mid new before between behind p q = record {
  lines = p.lines ++ q.lines;
  judged = subst (λ es. AreJudged plan old.waiting es (p.lines ++ q.lines) new.waiting) (sym (events_append xs ys))
      (judged_append plan old.waiting mid.waiting new.waiting (events_in xs) (events_in ys) p.lines q.lines p.judged q.judged);
  watched = subst (λ es. AreWatched plan old es (p.lines ++ q.lines) new) (sym (events_append xs ys))
      (watched_append plan old mid new (events_in xs) (events_in ys) p.lines q.lines p.watched q.watched);
  text_is = q.text_is ∙ ap (λ t. t ++ text_of_items plan ys q.lines) p.text_is
      ∙ append_assoc before (text_of_items plan xs p.lines) (text_of_items plan ys q.lines)
      ∙ ap (λ t. before ++ t) (sym (text_append plan old.waiting mid.waiting xs ys p.lines q.lines p.judged));
}
