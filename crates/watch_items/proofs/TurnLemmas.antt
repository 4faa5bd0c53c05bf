-- One more thing of a packet.
use Rattle.std.proofs.Common.{◌≡◌, ℕ, suc, ◌+◌, ◌<◌, ◌≤◌, List, [], ◌∷◌, ◌++◌, length, map, drop, get_or, sym, ◌∙◌}
use Rattle.std.proofs.Common.{subst, append_assoc, append-nil, add-one, drop-cons}
use Rattle.std.proofs.Math.ListN.{drop_of_length-le}
use Rattle.packet_layers.specs.declared.found.Found.{Found}
use Rattle.packet_layers.specs.Values.{Carried, found_as}
use Rattle.user_messages.specs.Gathering.{Gathered}
use Rattle.capture_trace.specs.declared.counts.Counts.{Counts}
use Rattle.capture_trace.specs.Traced.{Standing, standing}
use Rattle.watch_items.specs.Captures.{Listed, after_step, all_found, counts_after, item_of_entry}
use Rattle.watch_items.specs.Entries.{Step, found_step}
use Rattle.watch_items.specs.declared.entry.Entry.{Entry}
use Rattle.watch_items.specs.declared.item.Item.{Item}

-- what is ahead, after the items that are there, is all, after the items that were there before
pub record Goes (items : List Item) (ahead : Listed) (before : List Item) (all : Listed) : Type 0 where
  pub now : ahead.now ≡ all.now
  pub items_are : items ++ ahead.items ≡ before ++ all.items

-- after a step
pub turn : (found : Carried) (more : List Carried) (s : Standing) (items before : List Item) (all : Listed)
    → Goes items (all_found (found ∷ more) s) before all
    → Goes (items ++ item_of_entry (counts_after s.counts (found_step s.counts.packets s.gathered found).entry)
    (found_step s.counts.packets s.gathered found).entry ∷ [])
    (all_found more (after_step s.counts (found_step s.counts.packets s.gathered found))) before all
unfolding all_found
turn found more s items before all h =
    let step : Step = found_step s.counts.packets s.gathered found in
    let later : Listed = all_found more (after_step s.counts step) in record {
      now = h.now;
      items_are = append_assoc items (item_of_entry (counts_after s.counts step.entry) step.entry ∷ []) later.items ∙ h.items_are;
    }

-- the same, as the code has it
pub turned : (xs : List Found) (i : ℕ) (d : Found) (entry : Entry) (counts after : Counts) (gathered kept : Gathered)
    (items new before : List Item) (all : Listed)
    → i < length xs → Goes items (all_found (map found_as (drop i xs)) (standing counts gathered)) before all
    → kept ≡ (found_step counts.packets gathered (found_as (get_or xs i d))).gathered
    → entry ≡ (found_step counts.packets gathered (found_as (get_or xs i d))).entry → after ≡ counts_after counts entry
    → new ≡ items ++ item_of_entry (counts_after counts entry) entry ∷ []
    → Goes new (all_found (map found_as (drop (i + 1) xs)) (standing after kept)) before all
turned xs i d entry counts after gathered kept items new before all lt h k e a n =
    let from : Goes items (all_found (found_as (get_or xs i d) ∷ map found_as (drop (suc i) xs)) (standing counts gathered)) before all =
    subst (λ (ys : List Found). Goes items (all_found (map found_as ys) (standing counts gathered)) before all) (drop-cons xs i d lt) h in
    rw (n, a, e, k, add-one) (turn (found_as (get_or xs i d)) (map found_as (drop (suc i) xs)) (standing counts gathered) items before all
    from)

nothing : (s : Standing) (items before : List Item) (all : Listed) → Goes items (all_found [] s) before all
    → (s ≡ all.now) × (items ≡ before ++ all.items)
unfolding all_found
nothing s items before all h = (h.now, sym (append-nil items) ∙ h.items_are)

-- nothing is ahead
pub done : (xs : List Found) (i : ℕ) (s : Standing) (items before : List Item) (all : Listed) → length xs ≤ i
    → Goes items (all_found (map found_as (drop i xs)) s) before all → (s ≡ all.now) × (items ≡ before ++ all.items)
done xs i s items before all le h =
    nothing s items before all
    (subst (λ (ys : List Found). Goes items (all_found (map found_as ys) s) before all) (drop_of_length-le xs le) h)
