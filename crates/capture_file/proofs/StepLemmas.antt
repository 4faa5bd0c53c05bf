-- The rest of a block, which is passed over in any parts.
use Rattle.std.proofs.Common.{◌≡◌, ◌<◌, ◌≤◌, ◌+◌, ◌-◌, ℕ, zero, suc, List, [], ◌++◌, length, drop, get_or, Bool, true, false, refl, sym}
use Rattle.std.proofs.Common.{◌∙◌, ap, inl, inr}
use Rattle.std.proofs.Common.{arith, length-append}
use Rattle.std.specs.Prelude.{◌==◌, ◌⊎◌, None, min}
use Rattle.std.proofs.Math.Dec.{eqb-suc-zero}
use Rattle.std.proofs.lemmas.Bool.{lt-ltb, le-ltb, cases_lt}
use Rattle.std.proofs.lemmas.List.{get_or-drop, length-drop, drop-drop, drop-append-le}
use Rattle.capture_file.specs.Numbers.{number_4}
use Rattle.capture_file.specs.Packets.{Captured, Told, only, with_front}
use Rattle.capture_file.specs.Units.{At, FileStart, Record, Block, Rest, Step, Takes, Needs, Fails, unit}
use Rattle.capture_file.specs.Steps.{rest_step, step_at}
use Rattle.capture_file.specs.Told.{told_of}
use Rattle.capture_file.specs.declared.order.Order.{Order}
use Rattle.capture_file.specs.declared.order.Order.TheVariants.{Big, Little}
use Rattle.capture_file.specs.declared.section.Section.{Section}
use Rattle.capture_file.specs.declared.file_fault.FileFault.{FileFault}
use Rattle.capture_file.specs.declared.file_fault.FileFault.TheVariants.{Damaged}
use Rattle.capture_file.specs.declared.file_fault.Damage.TheVariants.{End}
use Rattle.capture_file.proofs.ToldLemmas.{told-takes, told-needs, told-fails, told-takes-more}

index-drop : (b : List ℕ) (n left k : ℕ) → n ≤ left → get_or (drop n b) (left - n + k) 0 ≡ get_or b (left + k) 0
index-drop b n left k le =
    get_or-drop n b (left - n + k) 0 ∙ ap (λ i. get_or b i 0) (let same : n + (left - n + k) ≡ left + k = omega arith in same)

first-drop : (b : List ℕ) (n left : ℕ) → n ≤ left → get_or (drop n b) (left - n) 0 ≡ get_or b left 0
first-drop b n left le =
    get_or-drop n b (left - n) 0 ∙ ap (λ i. get_or b i 0) (let same : n + (left - n) ≡ left = omega arith in same)

pub number_4-drop : (order : Order) (b : List ℕ) (n left : ℕ) → n ≤ left → number_4 order (drop n b) (left - n) ≡ number_4 order b left
number_4-drop Big b n left le =
    rw (first-drop b n left le, index-drop b n left 1 le, index-drop b n left 2 le, index-drop b n left 3 le) refl
number_4-drop Little b n left le =
    rw (first-drop b n left le, index-drop b n left 1 le, index-drop b n left 2 le, index-drop b n left 3 le) refl

-- ---- the unit of a rest

pub rest-few : (s : Section) (left size start place : ℕ) (b : List ℕ) → length b < left + 4 → unit (Rest s left size start) place b ≡ Needs
unfolding unit
rest-few s left size start place b few = rw (lt-ltb (length b) (left + 4) few) refl

pub rest-read : (s : Section) (left size start place : ℕ) (b : List ℕ) → left + 4 ≤ length b → (number_4 s.order b left == size) ≡ true
    → unit (Rest s left size start) place b ≡ Takes [] (left + 4) (Block s)
unfolding unit
rest-read s left size start place b le e = rw (le-ltb (length b) (left + 4) le, e) refl

pub rest-differs : (s : Section) (left size start place : ℕ) (b : List ℕ) → left + 4 ≤ length b → (number_4 s.order b left == size) ≡ false
    → unit (Rest s left size start) place b ≡ Fails (Damaged start End)
unfolding unit
rest-differs s left size start place b le e = rw (le-ltb (length b) (left + 4) le, e) refl

rest-same : (whole : Bool) (s : Section) (left size start place : ℕ) (b : List ℕ) (n : ℕ) (equal : Bool) → n ≤ length b → n ≤ left
    → left + 4 ≤ length b → (number_4 s.order b left == size) ≡ equal
    → told_of whole (Rest s left size start) place b ≡ told_of whole (Rest s (left - n) size start) (place + n) (drop n b)
rest-same whole s left size start place b n true in_b in_left enough e =
    let places : place + (left + 4) ≡ place + n + (left - n + 4) = omega arith in
    let used : n + (left - n + 4) ≡ left + 4 = omega arith in
    let after : drop (left - n + 4) (drop n b) ≡ drop (left + 4) b = drop-drop (left - n + 4) n b ∙ ap (λ i. drop i b) used in
    let there : (number_4 s.order (drop n b) (left - n) == size) ≡ true = ap (λ v. v == size) (number_4-drop s.order b n left in_left)
    ∙ e in
    told-takes whole (Rest s left size start) place b [] (left + 4) (Block s) (rest-read s left size start place b enough e)
    ∙ ap (λ p. with_front [] (told_of whole (Block s) p (drop (left + 4) b))) places
    ∙ ap (λ l. with_front [] (told_of whole (Block s) (place + n + (left - n + 4)) l)) (sym after)
    ∙ sym (told-takes whole (Rest s (left - n) size start) (place + n) (drop n b) [] (left - n + 4) (Block s)
    (rest-read s (left - n) size start (place + n) (drop n b) (omega (arith, length-drop n b)) there))
rest-same whole s left size start place b n false in_b in_left enough e =
    let there : (number_4 s.order (drop n b) (left - n) == size) ≡ false = ap (λ v. v == size) (number_4-drop s.order b n left in_left)
    ∙ e in
    told-fails whole (Rest s left size start) place b (Damaged start End) (rest-differs s left size start place b enough e)
    ∙ sym (told-fails whole (Rest s (left - n) size start) (place + n) (drop n b) (Damaged start End)
    (rest-differs s (left - n) size start (place + n) (drop n b) (omega (arith, length-drop n b)) there))

rest-by : (whole : Bool) (s : Section) (left size start place : ℕ) (b : List ℕ) (n : ℕ) → n ≤ length b → n ≤ left
    → (length b < left + 4) ⊎ (left + 4 ≤ length b)
    → told_of whole (Rest s left size start) place b ≡ told_of whole (Rest s (left - n) size start) (place + n) (drop n b)
rest-by whole s left size start place b n in_b in_left (inl few) =
    told-needs whole (Rest s left size start) place b (rest-few s left size start place b few)
    ∙ sym (told-needs whole (Rest s (left - n) size start) (place + n) (drop n b)
    (rest-few s (left - n) size start (place + n) (drop n b) (omega (arith, length-drop n b))))
rest-by whole s left size start place b n in_b in_left (inr enough) =
    rest-same whole s left size start place b n (number_4 s.order b left == size) in_b in_left enough refl

-- some octets of the rest of a block were passed over
rest-passed : (whole : Bool) (s : Section) (left size start place : ℕ) (b : List ℕ) (n : ℕ) → n ≤ length b → n ≤ left
    → told_of whole (Rest s left size start) place b ≡ told_of whole (Rest s (left - n) size start) (place + n) (drop n b)
rest-passed whole s left size start place b n in_b in_left =
    rest-by whole s left size start place b n in_b in_left (cases_lt (length b) (left + 4))

-- ---- each step

abbrev follows : Bool → ℕ → List ℕ → List ℕ → Step → Told
follows whole place b more (Takes packets used after) = with_front packets (told_of whole after (place + used) (drop used b ++ more))
follows whole place b more Needs = only None
follows whole place b more (Fails fault) = only None

rest-takes : (whole : Bool) (s : Section) (left size start place : ℕ) (b more : List ℕ) (packets : List Captured) (used : ℕ) (after : At)
    (arrived : ℕ) → arrived ≤ left → arrived ≤ length b → rest_step arrived s left size start place b ≡ Takes packets used after
    → told_of whole (Rest s left size start) place (b ++ more)
    ≡ with_front packets (told_of whole after (place + used) (drop used b ++ more))
rest-takes whole s left size start place b more packets used after zero in_left in_b e =
    told-takes-more whole (Rest s left size start) place b more packets used after e
rest-takes whole s left size start place b more packets used after (suc n) in_left in_b e =
    let taken : Takes [] (suc n) (Rest s (left - suc n) size start) ≡ Takes packets used after = rw eqb-suc-zero at e in
    rest-passed whole s left size start place (b ++ more) (suc n) (omega (arith, length-append b more)) in_left
    ∙ ap (told_of whole (Rest s (left - suc n) size start) (place + suc n)) (drop-append-le (suc n) b more in_b)
    ∙ ap (follows whole place b more) taken

-- what was taken, and what is reported after it
pub step-takes : (whole : Bool) (at : At) (place : ℕ) (b more : List ℕ) (packets : List Captured) (used : ℕ) (after : At)
    → step_at at place b ≡ Takes packets used after
    → told_of whole at place (b ++ more) ≡ with_front packets (told_of whole after (place + used) (drop used b ++ more))
unfolding step_at
step-takes whole FileStart place b more packets used after e = told-takes-more whole FileStart place b more packets used after e
step-takes whole (Record order link) place b more packets used after e =
    told-takes-more whole (Record order link) place b more packets used after e
step-takes whole (Block s) place b more packets used after e = told-takes-more whole (Block s) place b more packets used after e
step-takes whole (Rest s left size start) place b more packets used after e =
    rest-takes whole s left size start place b more packets used after (min left (length b)) (omega arith) (omega arith) e

rest-needs : (s : Section) (left size start place : ℕ) (b : List ℕ) (arrived : ℕ) → rest_step arrived s left size start place b ≡ Needs
    → unit (Rest s left size start) place b ≡ Needs
rest-needs s left size start place b zero e = e
rest-needs s left size start place b (suc n) e =
    let taken : Takes [] (suc n) (Rest s (left - suc n) size start) ≡ Needs = rw eqb-suc-zero at e in cc

pub step-needs : (at : At) (place : ℕ) (b : List ℕ) → step_at at place b ≡ Needs → unit at place b ≡ Needs
unfolding step_at
step-needs FileStart place b e = e
step-needs (Record order link) place b e = e
step-needs (Block s) place b e = e
step-needs (Rest s left size start) place b e = rest-needs s left size start place b (min left (length b)) e

rest-fails : (s : Section) (left size start place : ℕ) (b : List ℕ) (fault : FileFault) (arrived : ℕ)
    → rest_step arrived s left size start place b ≡ Fails fault → unit (Rest s left size start) place b ≡ Fails fault
rest-fails s left size start place b fault zero e = e
rest-fails s left size start place b fault (suc n) e =
    let taken : Takes [] (suc n) (Rest s (left - suc n) size start) ≡ Fails fault = rw eqb-suc-zero at e in cc

pub step-fails : (at : At) (place : ℕ) (b : List ℕ) (fault : FileFault) → step_at at place b ≡ Fails fault → unit at place b ≡ Fails fault
unfolding step_at
step-fails FileStart place b fault e = e
step-fails (Record order link) place b fault e = e
step-fails (Block s) place b fault e = e
step-fails (Rest s left size start) place b fault e = rest-fails s left size start place b fault (min left (length b)) e
