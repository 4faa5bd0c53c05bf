-- One more thing of a packet.
use Rattle.std.proofs.Common.{◌≡◌, ℕ, suc, ◌+◌, ◌<◌, ◌≤◌, List, [], ◌∷◌, ◌++◌, length, map, drop, get_or, Option, Some, None, refl, sym}
use Rattle.std.proofs.Common.{◌∙◌}
use Rattle.std.proofs.Common.{ap, subst, append_assoc, add-one, drop-cons}
use Rattle.std.proofs.Math.ListN.{drop_of_length-le}
use Rattle.std.proofs.lemmas.List.{append-nil}
use Rattle.plan_model.specs.Network.{Network}
use Rattle.packet_layers.specs.declared.found.Found.{Found}
use Rattle.packet_layers.specs.Values.{Carried, found_as}
use Rattle.user_messages.specs.Gathering.{Gathered}
use Rattle.capture_trace.specs.declared.counts.Counts.{Counts}
use Rattle.capture_trace.specs.declared.kind.Kind.{Kind}
use Rattle.capture_trace.specs.Items.{Step, counted, found_step}
use Rattle.capture_trace.specs.Traced.{Standing, Reported, standing, after_step, with_line, all_found}
use Rattle.capture_trace.specs.Words.{text_of, text_of_lines}

-- what is ahead, after the text that is there, is all, after the text that was there before
pub record Goes (text : List ℕ) (ahead : Reported) (before : List ℕ) (all : Reported) : Type 0 where
  pub now : ahead.now ≡ all.now
  pub lines : text ++ text_of_lines ahead.lines ≡ before ++ text_of_lines all.lines

pub text_with_line : (line : Option (List ℕ)) (lines : List (List ℕ))
    → text_of_lines (with_line line lines) ≡ text_of line ++ text_of_lines lines
unfolding text_of_lines
text_with_line None lines = refl
text_with_line (Some line) lines = refl

-- after a step
pub turn : (plan : Network) (found : Carried) (more : List Carried) (s : Standing) (text before : List ℕ) (all : Reported)
    → Goes text (all_found plan (found ∷ more) s) before all
    → Goes (text ++ text_of (found_step plan s.counts.packets s.gathered found).item.line)
    (all_found plan more (after_step s.counts (found_step plan s.counts.packets s.gathered found))) before all
unfolding all_found
turn plan found more s text before all h =
    let step : Step = found_step plan s.counts.packets s.gathered found in
    let later : Reported = all_found plan more (after_step s.counts step) in record {
      now = h.now;
      lines = append_assoc text (text_of step.item.line) (text_of_lines later.lines)
          ∙ ap (λ t. text ++ t) (sym (text_with_line step.item.line later.lines)) ∙ h.lines;
    }

-- the same, as the code has it
pub turned : (plan : Network) (xs : List Found) (i : ℕ) (d : Found) (kind : Kind) (counts after : Counts) (gathered kept : Gathered)
    (text new before : List ℕ) (all : Reported)
    → i < length xs → Goes text (all_found plan (map found_as (drop i xs)) (standing counts gathered)) before all
    → kept ≡ (found_step plan counts.packets gathered (found_as (get_or xs i d))).gathered
    → kind ≡ (found_step plan counts.packets gathered (found_as (get_or xs i d))).item.kind → after ≡ counted kind counts
    → new ≡ text ++ text_of (found_step plan counts.packets gathered (found_as (get_or xs i d))).item.line
    → Goes new (all_found plan (map found_as (drop (i + 1) xs)) (standing after kept)) before all
turned plan xs i d kind counts after gathered kept text new before all lt h k e a n =
    let from : Goes text (all_found plan (found_as (get_or xs i d) ∷ map found_as (drop (suc i) xs))
    (standing counts gathered)) before all =
    subst (λ (ys : List Found). Goes text (all_found plan (map found_as ys) (standing counts gathered)) before all)
    (drop-cons xs i d lt) h in
    rw (k, a, e, n, add-one) (turn plan (found_as (get_or xs i d)) (map found_as (drop (suc i) xs))
    (standing counts gathered) text before all from)

nothing : (plan : Network) (s : Standing) (text before : List ℕ) (all : Reported) → Goes text (all_found plan [] s) before all
    → (s ≡ all.now) × (text ≡ before ++ text_of_lines all.lines)
unfolding all_found text_of_lines
nothing plan s text before all h = (h.now, sym (append-nil text) ∙ h.lines)

-- nothing is ahead
pub done : (plan : Network) (xs : List Found) (i : ℕ) (s : Standing) (text before : List ℕ) (all : Reported) → length xs ≤ i
    → Goes text (all_found plan (map found_as (drop i xs)) s) before all → (s ≡ all.now) × (text ≡ before ++ text_of_lines all.lines)
done plan xs i s text before all le h =
    nothing plan s text before all
    (subst (λ (ys : List Found). Goes text (all_found plan (map found_as ys) s) before all) (drop_of_length-le xs le) h)
