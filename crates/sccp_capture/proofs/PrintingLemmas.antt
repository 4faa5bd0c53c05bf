-- What the work on a capture file prints: the lines of the whole capture, or a front of them.
use Rattle.std.proofs.Common.{◌≡◌, ℕ, List, [], ◌∷◌, ◌++◌, Option, refl, sym, ◌∙◌, ap, append-nil, append_assoc, inl, inr}
use Rattle.std.proofs.lemmas.Grind.{flat_map-append}
use Rattle.capture_file.specs.Packets.{Captured}
use Rattle.capture_file.specs.declared.file_fault.FileFault.{FileFault}
use Rattle.capture_trace.specs.Traced.{Standing, ending_of, last_lines, lines_after, taken}
use Rattle.capture_trace.specs.Words.{ended, text_of_lines}
use Rattle.plan_model.specs.Network.{Network}
use Rattle.sccp_capture.specs.Printing.{status_of, packets_work}
use Rattle.sccp_io.specs.Files.{Contents}
use Rattle.sccp_work.specs.Work.{Ends, ComesToReading, HasFiles}
use Rattle.sccp_work.specs.declared.status.Status.{Status}

text_append : (xs ys : List (List ℕ)) → text_of_lines (xs ++ ys) ≡ text_of_lines xs ++ text_of_lines ys
unfolding text_of_lines
text_append xs ys = flat_map-append ended xs ys

text_nothing : text_of_lines [] ≡ []
unfolding text_of_lines
text_nothing = refl

-- the work ends with the answer of the capture, after all lines
pub ends_are : (k : Option Contents) (plan : Network) (fault : Option FileFault) (packets : List Captured) (s : Standing)
    (status : Status) (text : List ℕ) → Ends k (packets_work plan fault packets s) status text
    → (status ≡ status_of (ending_of fault)) × (text ≡ text_of_lines (lines_after plan packets fault s))
unfolding packets_work lines_after
ends_are k plan fault [] s status text h =
    let last : List ℕ = text_of_lines (last_lines s.counts fault s.gathered.waiting) in
    (h.2.0, h.1 ∙ ap (λ t. last ++ t) h.2.1 ∙ append-nil last)
ends_are k plan fault (packet ∷ packets) s status text h =
    let lines : List (List ℕ) = (taken plan s packet).lines in
    let later : List (List ℕ) = lines_after plan packets fault (taken plan s packet).now in
    let rest = ends_are k plan fault packets (taken plan s packet).now status h.0 h.2 in
    (rest.0, h.1 ∙ ap (λ t. text_of_lines lines ++ t) rest.1 ∙ sym (text_append lines later))

-- before each reading there is a front of the lines
pub reads_are : (k : Option Contents) (plan : Network) (fault : Option FileFault) (packets : List Captured) (s : Standing)
    (text : List ℕ) → ComesToReading k (packets_work plan fault packets s) text
    → (front more : List (List ℕ)) × (lines_after plan packets fault s ≡ front ++ more) × (text ≡ text_of_lines front)
unfolding packets_work lines_after
reads_are k plan fault [] s text (inl none) = ([], last_lines s.counts fault s.gathered.waiting, refl, none ∙ sym text_nothing)
reads_are k plan fault [] s text (inr e) = absurd e.2
reads_are k plan fault (packet ∷ packets) s text (inl none) =
    ([], lines_after plan (packet ∷ packets) fault s, refl, none ∙ sym text_nothing)
reads_are k plan fault (packet ∷ packets) s text (inr e) =
    let lines : List (List ℕ) = (taken plan s packet).lines in
    let rest = reads_are k plan fault packets (taken plan s packet).now e.0 e.2 in (
      lines ++ rest.0,
      rest.1,
      ap (λ l. lines ++ l) rest.2 ∙ sym (append_assoc lines rest.0 rest.1),
      e.1 ∙ ap (λ t. text_of_lines lines ++ t) rest.3 ∙ sym (text_append lines rest.0),
    )

-- no other file is read
pub has_files : (c : Contents) (plan : Network) (fault : Option FileFault) (packets : List Captured) (s : Standing)
    → HasFiles c (packets_work plan fault packets s)
unfolding packets_work
has_files c plan fault [] s = tt
has_files c plan fault (packet ∷ packets) s = has_files c plan fault packets (taken plan s packet).now
