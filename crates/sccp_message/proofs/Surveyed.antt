-- Of canonical octets, only the whole is a message.
use Rattle.std.proofs.Common.{◌≡◌, ℕ, ◌+◌, ◌≤◌, List, length, take, Option, Some, None, Result, Ok, Err, refl, sym, ap, subst, ◌∙◌}
use Rattle.std.proofs.Common.{zero-add, arith}
use Rattle.std.specs.Prelude.{IfOk, slice_get}
use Rattle.std.specs.Result.{result_err}
use Rattle.std.proofs.lemmas.List.{take_all}
use Rattle.std.proofs.lemmas.List.FromFn.{length-map-range_with_len, get_or-map-range_with_len}
use Rattle.std.proofs.lemmas.Option.{slice_get-get_or}
use Rattle.sccp_layout.specs.Parts.{HasParts}
use Rattle.sccp_layout.proofs.Cuts.{cut_has_no_parts}
use Rattle.sccp_message.specs.declared.message.Message.{Message}
use Rattle.sccp_message.specs.declared.fault.DecodeFault.{DecodeFault}
use Rattle.sccp_message.specs.Reading.{reading, first_fault}
use Rattle.sccp_message.specs.Survey.{fault_of_cut, surveyed, IsWholeAlone}
use Rattle.sccp_message.specs.Written.{parts_from, Canonical}
use Rattle.sccp_message.proofs.Laws.{message_takes, message_again}
use Rattle.sccp_message.proofs.Made.{reads_named}
use Rattle.sccp_message.proofs.Octets.{octets_at}
use Rattle.sccp_message.proofs.Writing.{typed, fits_of}

surveyed_at : (b : List ℕ) (n : ℕ) → n ≤ length b → slice_get (surveyed b) n ≡ Some (first_fault (take n b))
surveyed_at b n le =
    slice_get-get_or (surveyed b) n None (omega (arith, length-map-range_with_len (fault_of_cut b) 0 (length b + 1)))
    ∙ ap Some (get_or-map-range_with_len (fault_of_cut b) 0 (length b + 1) n n None (omega arith) (zero-add n))

read_of : (r : Result Message DecodeFault) → result_err r ≡ None → (m : Message) × (r ≡ Ok m)
read_of (Ok m) e = (m, refl)
read_of (Err f) e = absurd cc

cut_is_whole : (b : List ℕ) (n : ℕ) → Canonical b → first_fault (take n b) ≡ None → length b ≤ n
cut_is_whole b n c none =
    let m = c.message in
    let t = typed m in
    let read = read_of (reading (take n b)) none in
    let cut = message_takes (take n b) read.0 read.1 in
    let whole = c.same ∙ octets_at m in
    let less = cut_has_no_parts t.type.layout (parts_from m) cut.parts n (rw t.of_type refl) (fits_of m t) (reads_named b m c.reads)
    (subst (λ (x : List ℕ). HasParts (take n x) cut.parts) whole cut.has_parts) in
    omega (arith, less, ap length whole)

whole_is_read : (b : List ℕ) → Canonical b → first_fault (take (length b) b) ≡ None
whole_is_read b c = ap first_fault (take_all (length b) b (omega arith)) ∙ ap result_err (message_again b c.message c.reads)

abbrev some : Option DecodeFault → Option (Option DecodeFault)
some fault = Some fault

same_fault : (e f : Option DecodeFault) → some e ≡ some f → e ≡ f
same_fault e f h = cc

pub answer_whole_alone : {E : Type 0} (b : List ℕ) (r : Result (List (Option DecodeFault)) E) → IfOk r (λ faults. faults ≡ surveyed b)
    → IfOk r (λ faults. Canonical b → IsWholeAlone b faults)
answer_whole_alone b (Err e) h = tt
answer_whole_alone b (Ok faults) h = λ c n le.
    let at : slice_get faults n ≡ some (first_fault (take n b)) = ap (λ (x : List (Option DecodeFault)). slice_get x n) h
    ∙ surveyed_at b n le in (
      λ none. let less = cut_is_whole b n c (same_fault (first_fault (take n b)) None (sym at ∙ none)) in omega (arith, le, less),
      λ same. at ∙ ap some (ap (λ (k : ℕ). first_fault (take k b)) same ∙ whole_is_read b c),
    )
