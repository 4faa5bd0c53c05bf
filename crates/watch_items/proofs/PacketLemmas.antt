-- Packets whose items are listed one after the other, and a file that goes on after them.
use Rattle.std.proofs.Common.{◌≡◌, ℕ, suc, ◌+◌, ◌<◌, ◌≤◌, Bool, true, List, [], ◌∷◌, ◌++◌, length, map, drop, get_or, Option, refl}
use Rattle.std.proofs.Common.{sym, ◌∙◌, ap, subst, append_assoc, append-nil, arith, drop-cons}
use Rattle.std.specs.Prelude.{is_some}
use Rattle.std.proofs.Math.ListN.{drop_of_length-le}
use Rattle.capture_file.proofs.ReaderLemmas.{ahead-fault}
use Rattle.capture_file.specs.Packets.{Captured, Told, only, with_front}
use Rattle.capture_file.specs.Standings as reading
use Rattle.capture_file.specs.Views.{captured}
use Rattle.capture_file.specs.declared.file_fault.FileFault.{FileFault}
use Rattle.capture_file.specs.declared.held.Held.{Held}
use Rattle.capture_trace.specs.Traced.{Standing, beginning, ending_of}
use Rattle.capture_trace.specs.declared.ending.Ending.{Ending}
use Rattle.watch_items.specs.Captures.{Heard, State, after_items, after_packets, ahead, heard, heard_from, items_of_packets}
use Rattle.watch_items.specs.Captures.{last_item, taken}
use Rattle.watch_items.specs.Steps.{Feeds}
use Rattle.watch_items.specs.declared.item.Item.{Item}

-- What is there, and what is left to be listed, is what was there before and all. So is what is kept.
pub record Goes (items : List Item) (s : Standing) (left : List Captured) (before : List Item) (s0 : Standing) (all : List Captured)
    : Type 0 where
  pub now : after_packets left s ≡ after_packets all s0
  pub items_are : items ++ items_of_packets left s ≡ before ++ items_of_packets all s0

turn : (packet : Captured) (left : List Captured) (items before : List Item) (s s0 : Standing) (all : List Captured)
    → Goes items s (packet ∷ left) before s0 all → Goes (items ++ (taken s packet).items) (taken s packet).now left before s0 all
unfolding after_packets items_of_packets
turn packet left items before s s0 all h = record {
  now = h.now;
  items_are = append_assoc items (taken s packet).items (items_of_packets left (taken s packet).now) ∙ h.items_are;
}

-- the same, as the code has it
pub turned : (xs : List Held) (i : ℕ) (x : Held) (items new before : List Item) (s s' s0 : Standing) (all : List Captured)
    → i < length xs → x ≡ get_or xs i x → Goes items s (map captured (drop i xs)) before s0 all → s' ≡ (taken s (captured x)).now
    → new ≡ items ++ (taken s (captured x)).items → Goes new s' (map captured (drop (i + 1) xs)) before s0 all
turned xs i x items new before s s' s0 all lt at h is listed =
    let here : drop i xs ≡ x ∷ drop (suc i) xs = drop-cons xs i x lt ∙ ap (λ y. y ∷ drop (suc i) xs) (sym at) in
    let next : suc i ≡ i + 1 = omega arith in
    rw (is, listed)
    (subst (λ k. Goes (items ++ (taken s (captured x)).items) (taken s (captured x)).now (map captured (drop k xs)) before s0 all) next
    (turn (captured x) (map captured (drop (suc i) xs)) items before s s0 all
    (subst (λ ys. Goes items s (map captured ys) before s0 all) here h)))

nothing : (items before : List Item) (s s0 : Standing) (all : List Captured) → Goes items s [] before s0 all
    → (s ≡ after_packets all s0) × (items ≡ before ++ items_of_packets all s0)
unfolding after_packets items_of_packets
nothing items before s s0 all h = (h.now, sym (append-nil items) ∙ h.items_are)

-- nothing is left
pub done : (xs : List Held) (i : ℕ) (items before : List Item) (s s0 : Standing) (all : List Captured) → length xs ≤ i
    → Goes items s (map captured (drop i xs)) before s0 all → (s ≡ after_packets all s0) × (items ≡ before ++ items_of_packets all s0)
done xs i items before s s0 all le h =
    nothing items before s s0 all
    (subst (λ (ys : List Held). Goes items s (map captured ys) before s0 all) (drop_of_length-le xs le) h)

-- ---- what a file gives after packets

abbrev pub ends_so : Ending → List Item → Heard
ends_so ending items = record { items = items; ending = ending }

after_front : (packets : List Captured) (told : Told) (s : Standing)
    → heard_from s (with_front packets told) ≡ after_items (items_of_packets packets s) (heard_from (after_packets packets s) told)
unfolding after_packets items_of_packets
after_front [] told s = refl
after_front (packet ∷ packets) told s =
    let here : List Item = (taken s packet).items in
    let next : Standing = (taken s packet).now in
    let more : List Captured = packets ++ told.packets in
    let later : Heard = heard_from (after_packets packets next) told in
    ap (ends_so (ending_of told.fault))
    (append_assoc here (items_of_packets more next) (last_item (after_packets more next) told.fault ∷ []))
    ∙ ap (after_items here) (after_front packets told next)
    ∙ ap (ends_so (ending_of told.fault)) (sym (append_assoc here (items_of_packets packets next) later.items))

-- a piece was taken
pub fed : (old new : State) (piece : List ℕ) (packets : List Captured) (before after : List Item)
    → ((whole : Bool) (rest : List ℕ)
    → reading.ahead old.reader whole (piece ++ rest) ≡ with_front packets (reading.ahead new.reader whole rest))
    → new.now ≡ after_packets packets old.now → after ≡ before ++ items_of_packets packets old.now → Feeds old piece before after new
unfolding ahead
fed old new piece packets before after goes is listed = record {
  more = items_of_packets packets old.now;
  appended = listed;
  goes_on = λ rest. ap (heard_from old.now) (goes true rest)
      ∙ after_front packets (reading.ahead new.reader true rest) old.now
      ∙ ap (λ s. after_items (items_of_packets packets old.now) (heard_from s (reading.ahead new.reader true rest))) (sym is);
}

-- what cannot be read ends the file
pub stops_at : (s : State) (fault : Option FileFault) → s.reader.fault ≡ fault → true ≡ is_some fault → (rest : List ℕ)
    → ahead s rest ≡ ahead s []
unfolding ahead
stops_at s fault is some rest = ap (heard_from s.now) (only_fault rest ∙ sym (only_fault [])) where
  only_fault : (rest : List ℕ) → reading.ahead s.reader true rest ≡ only s.reader.fault
  only_fault rest = ahead-fault s.reader.fault s.reader true rest (some ∙ ap is_some (sym is))

-- nothing more follows
pub at_end : (s : State) (fault : Option FileFault) → only fault ≡ reading.ahead s.reader true []
    → ahead s [] ≡ ends_so (ending_of fault) (last_item s.now fault ∷ [])
unfolding ahead after_packets items_of_packets
at_end s fault is = ap (heard_from s.now) (sym is)

pub at_beginning : (s : State) → s.reader ≡ reading.beginning → s.now ≡ beginning → (octets : List ℕ)
    → ahead s octets ≡ heard octets
unfolding ahead
at_beginning s is none octets = rw (is, none) refl
