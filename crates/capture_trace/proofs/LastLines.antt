-- The text of the last lines.
use Rattle.std.proofs.Common.{◌≡◌, ℕ, List, [], ◌∷◌, ◌++◌, length, Option, sym, ◌∙◌, ap, append_assoc}
use Rattle.std.specs.List.{flat_map}
use Rattle.std.proofs.lemmas.Grind.{flat_map-append}
use Rattle.std.proofs.lemmas.List.{append-nil}
use Rattle.std.proofs.lemmas.List.Folds.{flat_map-map}
use Rattle.capture_file.specs.declared.file_fault.FileFault.{FileFault}
use Rattle.user_messages.specs.Gathering.{Received}
use Rattle.capture_trace.specs.declared.counts.Counts.{Counts}
use Rattle.capture_trace.specs.Traced.{last_lines, fault_lines, alone_lines, alone_line, counts_at_end}
use Rattle.capture_trace.specs.Words.{ended, end_line, text_of_lines}

last_text : (c : Counts) (fault : Option FileFault) (waiting : List Received)
    → text_of_lines (last_lines c fault waiting) ≡ text_of_lines (fault_lines fault)
    ++ (flat_map (λ r. ended (alone_line r.place)) waiting ++ ended (end_line (counts_at_end c fault (length waiting))))
unfolding text_of_lines last_lines
last_text c fault waiting =
    let last : List ℕ = end_line (counts_at_end c fault (length waiting)) in
    flat_map-append ended (fault_lines fault) (alone_lines waiting ++ last ∷ [])
    ∙ ap (λ t. flat_map ended (fault_lines fault) ++ t)
    (flat_map-append ended (alone_lines waiting) (last ∷ [])
    ∙ ap (λ t. t ++ (ended last ++ [])) (flat_map-map ended (λ r. alone_line r.place) waiting)
    ∙ ap (λ t. flat_map (λ r. ended (alone_line r.place)) waiting ++ t) (append-nil (ended last)))

-- the three parts, one after another
pub all_parts : (c counts : Counts) (fault : Option FileFault) (waiting : List Received) (before first second third : List ℕ)
    → first ≡ before ++ text_of_lines (fault_lines fault) → second ≡ first ++ flat_map (λ r. ended (alone_line r.place)) waiting
    → counts ≡ counts_at_end c fault (length waiting) → third ≡ second ++ ended (end_line counts)
    → third ≡ before ++ text_of_lines (last_lines c fault waiting)
all_parts c counts fault waiting before first second third a b e d =
    let front : List ℕ = text_of_lines (fault_lines fault) in
    let middle : List ℕ = flat_map (λ r. ended (alone_line r.place)) waiting in
    let back : List ℕ = ended (end_line (counts_at_end c fault (length waiting))) in
    let joined : third ≡ ((before ++ front) ++ middle) ++ back = d ∙ ap (λ (k : Counts). second ++ ended (end_line k)) e
    ∙ ap (λ t. t ++ back) (b ∙ ap (λ t. t ++ middle) a) in
    joined ∙ append_assoc (before ++ front) middle back ∙ append_assoc before front (middle ++ back)
    ∙ ap (λ t. before ++ t) (sym (last_text c fault waiting))
