-- How many lines and octets a reader can be fed before it reports a fault.
use Rattle.std.proofs.Common.{◌≡◌, ◌<◌, ◌≤◌, ◌+◌, ◌*◌, ℕ, List, [], ◌∷◌, ◌++◌, length, Bool, true, false, cond, Option, Some, None, Result}
use Rattle.std.proofs.Common.{Ok, Err, refl, ◌∙◌, ap, arith, ltb, length-append}
use Rattle.std.specs.Prelude.{◌||◌}
use Rattle.std.specs.List.{slice_split, onto_first, count_by}
use Rattle.std.proofs.lemmas.Bool.{ltb-false}
use Rattle.std.proofs.lemmas.List.Splits.{length-slice_split}
use Rattle.trace_text.specs.Lines.{TextLine, text_line, is_line_feed, lines_of_parts, lines_of, limit_of, held, content_of}
use Rattle.trace_text.specs.Told.{HasRead, numbered, numbered_content, and_then, only, told, told_lines, with_front}
use Rattle.trace_text.specs.Told as reading
use Rattle.trace_text.specs.declared.fed.Fed.{Fed}
use Rattle.trace_text.specs.declared.line.Numbered.{Numbered}
use Rattle.trace_text.specs.declared.line_fault.LineFault.{LineFault}
use Rattle.sccp_replay.specs.Replaying.{FeedsOn, HasFed, IsFed}

-- a line that is given breaks no limit

first_kept : (a : Bool) (x : LineFault) (limit : Option LineFault) (number : ℕ) (line : TextLine) (l : Numbered)
    → numbered_content number (held (cond a (Some x) limit) line) ≡ Ok l → a ≡ false
first_kept true x limit number line l e = absurd cc
first_kept false x limit number line l e = refl

both_kept : (a b : Bool) (x y : LineFault) (number : ℕ) (line : TextLine) (l : Numbered)
    → numbered_content number (held (cond a (Some x) (cond b (Some y) None)) line) ≡ Ok l → b ≡ false
both_kept true b x y number line l e = absurd cc
both_kept false true x y number line l e = absurd cc
both_kept false false x y number line l e = refl

both_none : (a b : Bool) (x y : LineFault) → cond a (Some x) (cond b (Some y) None) ≡ None → b ≡ false
both_none true b x y e = absurd cc
both_none false true x y e = absurd cc
both_none false false x y e = refl

among_lines : (number : ℕ) (line : TextLine) (l : Numbered) → numbered number line ≡ Ok l → number ≤ 1000000
unfolding content_of
among_lines number line l e = ltb-false 1000000 number (first_kept (ltb 1000000 number) _ _ number line l e)

short_line : (number : ℕ) (line : TextLine) (l : Numbered) → numbered number line ≡ Ok l → length line.octets ≤ 8192
unfolding content_of
short_line number line l e = ltb-false 8192 (length line.octets)
    (both_kept (ltb 1000000 number) (ltb 8192 (length line.octets)) _ _ number line l e)

short_rest : (number size : ℕ) → limit_of number size ≡ None → size ≤ 8192
short_rest number size e = ltb-false 8192 size (both_none (ltb 1000000 number) (ltb 8192 size) _ _ e)

-- how many lines are given

one_more : (number : ℕ) (line : TextLine) (r : Result Numbered LineFault) (rest : Fed) → numbered number line ≡ r → number ≤ 1000001
    → (number + 1 ≤ 1000001 → number + 1 + length rest.lines ≤ 1000001) → number + length (and_then r rest).lines ≤ 1000001
one_more number line (Ok l) rest e le behind =
    let few : number ≤ 1000000 = among_lines number line l e in
    let more : number + 1 + length rest.lines ≤ 1000001 = behind (omega (arith, few)) in
    omega (arith, more, length-append (l ∷ []) rest.lines)
one_more number line (Err fault) rest e le behind = omega (arith, le)

one_or_none : (whole : Bool) (number : ℕ) (line : TextLine) (rest : Fed) → number ≤ 1000001
    → (number + 1 ≤ 1000001 → number + 1 + length rest.lines ≤ 1000001)
    → number + length (cond whole (and_then (numbered number line) rest) (only (limit_of number (length line.octets)))).lines ≤ 1000001
one_or_none true number line rest le behind = one_more number line (numbered number line) rest refl le behind
one_or_none false number line rest le behind = omega (arith, le)

few_lines : (whole : Bool) (number : ℕ) (lines : List TextLine) → number ≤ 1000001
    → number + length (told_lines whole number lines).lines ≤ 1000001
few_lines whole number [] le = omega (arith, le)
few_lines whole number (line ∷ lines) le = one_or_none (line.ended || whole) number line (told_lines whole (number + 1) lines) le
    (λ more. few_lines whole (number + 1) lines more)

few_told : (whole : Bool) (text : List ℕ) → length (told whole text).lines ≤ 1000000
few_told whole text =
    let few : 1 + length (told_lines whole 1 (lines_of text)).lines ≤ 1000001 = few_lines whole 1 (lines_of text) (omega arith) in
    omega (arith, few)

-- ---- how many octets they have

-- with the line feed after each part
abbrev pub octets_in : List (List ℕ) → ℕ
octets_in [] = 0
octets_in (part ∷ parts) = length part + 1 + octets_in parts

onto : (octet : ℕ) (parts : List (List ℕ)) (n : ℕ) → length parts ≡ n + 1 → octets_in (onto_first octet parts) ≡ octets_in parts + 1
onto octet [] n e = absurd (omega (arith, e))
onto octet (part ∷ parts) n e = omega arith

cut_or_not : (b : Bool) (octet n : ℕ) (parts : List (List ℕ)) → length parts ≡ n + 1
    → octets_in (cond b ([] ∷ parts) (onto_first octet parts)) ≡ octets_in parts + 1
cut_or_not true octet n parts e = omega arith
cut_or_not false octet n parts e = onto octet parts n e

octets_cut : (text : List ℕ) → octets_in (slice_split is_line_feed text) ≡ length text + 1
octets_cut [] = refl
octets_cut (octet ∷ text) =
    let parts : List (List ℕ) = slice_split is_line_feed text in
    let one : octets_in (cond (is_line_feed octet) ([] ∷ parts) (onto_first octet parts)) ≡ octets_in parts + 1 =
    cut_or_not (is_line_feed octet) octet (count_by is_line_feed text) parts (length-slice_split is_line_feed text) in
    omega (arith, one, octets_cut text)

part_short : (number : ℕ) (part : List ℕ) (r : Result Numbered LineFault) (rest : Fed) (n : ℕ) → numbered number (text_line part true) ≡ r
    → (and_then r rest).fault ≡ None
    → (rest.fault ≡ None → n ≤ 8193 * length rest.lines + 8193) → length part + 1 + n ≤ 8193 * length (and_then r rest).lines + 8193
part_short number part (Ok l) rest n e none behind =
    let short : length part ≤ 8192 = short_line number (text_line part true) l e in
    let more : n ≤ 8193 * length rest.lines + 8193 = behind none in
    omega (arith, short, more, length-append (l ∷ []) rest.lines)
part_short number part (Err fault) rest n e none behind = absurd cc

parts_short : (number : ℕ) (parts : List (List ℕ)) → (told_lines false number (lines_of_parts parts)).fault ≡ None
    → octets_in parts ≤ 8193 * length (told_lines false number (lines_of_parts parts)).lines + 8193
parts_short number [] none = omega arith
parts_short number ([] ∷ []) none = omega arith
parts_short number ((octet ∷ octets) ∷ []) none =
    let short : length (octet ∷ octets) ≤ 8192 = short_rest number (length (octet ∷ octets)) none in
    omega (arith, short)
parts_short number (part ∷ next ∷ parts) none =
    part_short number part (numbered number (text_line part true)) (told_lines false (number + 1) (lines_of_parts (next ∷ parts)))
    (octets_in (next ∷ parts)) refl none
    (λ more. parts_short (number + 1) (next ∷ parts) more)

text_short : (text : List ℕ) → (told false text).fault ≡ None → length text ≤ 8193 * length (told false text).lines + 8192
text_short text none =
    let parts : octets_in (slice_split is_line_feed text) ≤ 8193 * length (told false text).lines + 8193 =
    parts_short 1 (slice_split is_line_feed text) none in
    omega (arith, parts, octets_cut text)

-- ---- a reader

told_count : (whole : Bool) (count : ℕ) (text all : List ℕ) (fed : Fed) → count ≡ length (told false text).lines
    → told whole all ≡ with_front (told false text).lines fed → count + length fed.lines ≡ length (told whole all).lines
told_count whole count text all fed counted is =
    let same : length (told whole all).lines ≡ length ((told false text).lines ++ fed.lines) = ap (λ (f : Fed). length f.lines) is in
    omega (arith, counted, same, length-append (told false text).lines fed.lines)

-- before the first piece
pub nothing_fed : (reader : reading.Standing) → HasRead reader [] → IsFed reader 0 0
nothing_fed reader read = ([], record { read = read; lines = refl; sound = refl; long = omega arith })

-- a piece was fed
pub few_fed : (reader reader' : reading.Standing) (count pieces : ℕ) (piece : List ℕ) (fed : Fed) → IsFed reader count pieces
    → FeedsOn reader reader' piece fed → count + length fed.lines ≤ 1000000
few_fed reader reader' count pieces piece fed is goes =
    let all : List ℕ = is.0 ++ piece in
    omega (arith, told_count false count is.0 all fed is.1.lines (goes is.0 is.1.read).1, few_told false all)

-- and it reported no fault
pub fed_on : (reader reader' : reading.Standing) (count n pieces : ℕ) (piece : List ℕ) (fed : Fed) → IsFed reader count pieces
    → FeedsOn reader reader' piece fed → 0 < length piece → fed.fault ≡ None
    → n ≡ count + length fed.lines → IsFed reader' n (pieces + 1)
fed_on reader reader' count n pieces piece fed is goes some none e =
    let text : List ℕ = is.0 in
    let has : HasFed reader count pieces text = is.1 in
    let long = has.long in (
      text ++ piece,
      record {
        read = (goes text has.read).0;
        lines = e ∙ told_count false count text (text ++ piece) fed has.lines (goes text has.read).1;
        sound = ap (λ (f : Fed). f.fault) (goes text has.read).1 ∙ none;
        long = omega (arith, some, long, length-append text piece);
      },
    )

-- the end was reported
pub last_few : (reader : reading.Standing) (count : ℕ) (fed : Fed) → IsFed reader count 0
    → ((text : List ℕ) → HasRead reader text → told true text ≡ with_front (told false text).lines fed) → count + length fed.lines ≤ 1000000
last_few reader count fed is goes =
    omega (arith, told_count true count is.0 is.0 fed is.1.lines (goes is.0 is.1.read), few_told true is.0)

-- however many pieces were fed
pub any_fed : (reader : reading.Standing) (count pieces : ℕ) → IsFed reader count pieces → IsFed reader count 0
any_fed reader count pieces is = (is.0, record { read = is.1.read; lines = is.1.lines; sound = is.1.sound; long = omega arith })

-- the pieces stay below the limit of the loop over them
pub fed_short : (reader : reading.Standing) (count pieces : ℕ) → IsFed reader count pieces → pieces < 8200000000
fed_short reader count pieces is =
    let long = is.1.long in
    let counted = is.1.lines in
    omega (arith, long, counted, text_short is.0 is.1.sound, few_told false is.0)
