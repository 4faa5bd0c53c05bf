-- What is reported of octets, unit by unit.
use Rattle.std.proofs.Common.{◌≡◌, ◌<◌, ◌≤◌, ◌+◌, ℕ, zero, suc, List, [], ◌∷◌, ◌++◌, length, drop, Bool, Option, Some, refl, sym, ◌∙◌, ap}
use Rattle.std.proofs.Common.{append_assoc, arith}
use Rattle.std.proofs.lemmas.List.{append-nil, length-drop, drop-append-le}
use Rattle.capture_file.specs.Packets.{Captured, Told, only, with_front}
use Rattle.capture_file.specs.Units.{At, Step, Takes, Needs, Fails, unit}
use Rattle.capture_file.specs.Told.{ending, told_by, told_from, told_of}
use Rattle.capture_file.specs.declared.file_fault.FileFault.{FileFault}
use Rattle.capture_file.proofs.UnitLemmas.{unit-stays, IsWithin, unit-within, unit-nothing}

pub with_front-twice : (front back : List Captured) (told : Told)
    → with_front front (with_front back told) ≡ with_front (front ++ back) told
with_front-twice front back told = λ i. record { packets = sym (append_assoc front back told.packets) i; fault = told.fault }

pub with_front-only : (front : List Captured) (fault : Option FileFault)
    → with_front front (only fault) ≡ record { packets = front; fault = fault }
with_front-only front fault = λ i. record { packets = append-nil front i; fault = fault }

-- ---- the number of units

told-nothing : (units : ℕ) (whole : Bool) (at : At) (place : ℕ) (b : List ℕ) → length b ≤ 0
    → told_from units whole at place b ≡ ending whole at place b
unfolding told_from
told-nothing zero whole at place b none = refl
told-nothing (suc units) whole at place [] none = ap (told_by (told_from units whole) whole at place []) (unit-nothing at place)
told-nothing (suc units) whole at place (x ∷ xs) none = absurd (omega arith)

abbrev Same : ℕ → ℕ → Bool → Type 0
Same n m whole = (at : At) (place : ℕ) (b : List ℕ) → length b ≤ n → length b ≤ m
    → told_from n whole at place b ≡ told_from m whole at place b

same-by : (n m : ℕ) (whole : Bool) (at : At) (place : ℕ) (b : List ℕ) (step : Step) → IsWithin (length b) step → length b ≤ suc n
    → length b ≤ suc m
    → Same n m whole → told_by (told_from n whole) whole at place b step ≡ told_by (told_from m whole) whole at place b step
same-by n m whole at place b (Takes packets used after) within few some each =
    ap (with_front packets) (each after (place + used) (drop used b) (omega (arith, length-drop used b, within.0))
    (omega (arith, length-drop used b, within.0)))
same-by n m whole at place b Needs within few some each = refl
same-by n m whole at place b (Fails fault) within few some each = refl

-- any number of units that is not below the number of octets gives the same
told-enough : (n m : ℕ) (whole : Bool) → Same n m whole
unfolding told_from
told-enough zero m whole at place b few some = sym (told-nothing m whole at place b few)
told-enough (suc n) zero whole at place b few some = told-nothing (suc n) whole at place b some
told-enough (suc n) (suc m) whole at place b few some =
    same-by n m whole at place b (unit at place b) (unit-within at place b) few some (told-enough n m whole)

-- what is reported is decided by the unit at the front
told-unit : (whole : Bool) (at : At) (place : ℕ) (b : List ℕ) (step : Step) → unit at place b ≡ step
    → told_of whole at place b ≡ told_by (told_from (length b) whole) whole at place b step
unfolding told_from
told-unit whole at place b step e =
    told-enough (length b) (suc (length b)) whole at place b (omega arith) (omega arith)
    ∙ ap (told_by (told_from (length b) whole) whole at place b) e

pub told-takes : (whole : Bool) (at : At) (place : ℕ) (b : List ℕ) (packets : List Captured) (used : ℕ) (after : At)
    → unit at place b ≡ Takes packets used after
    → told_of whole at place b ≡ with_front packets (told_of whole after (place + used) (drop used b))
told-takes whole at place b packets used after e =
    told-unit whole at place b (Takes packets used after) e
    ∙ ap (with_front packets) (told-enough (length b) (length (drop used b)) whole after (place + used) (drop used b)
    (omega (arith, length-drop used b)) (omega arith))

pub told-needs : (whole : Bool) (at : At) (place : ℕ) (b : List ℕ) → unit at place b ≡ Needs
    → told_of whole at place b ≡ ending whole at place b
told-needs whole at place b e = told-unit whole at place b Needs e

pub told-fails : (whole : Bool) (at : At) (place : ℕ) (b : List ℕ) (fault : FileFault) → unit at place b ≡ Fails fault
    → told_of whole at place b ≡ only (Some fault)
told-fails whole at place b fault e = told-unit whole at place b (Fails fault) e

-- ---- whatever follows

pub told-takes-more : (whole : Bool) (at : At) (place : ℕ) (b more : List ℕ) (packets : List Captured) (used : ℕ) (after : At)
    → unit at place b ≡ Takes packets used after
    → told_of whole at place (b ++ more) ≡ with_front packets (told_of whole after (place + used) (drop used b ++ more))
told-takes-more whole at place b more packets used after e =
    let stays : unit at place (b ++ more) ≡ Takes packets used after = rw e at (unit-stays at place b more) in
    let within : (0 < used) × (used ≤ length b) = rw e at (unit-within at place b) in
    told-takes whole at place (b ++ more) packets used after stays
    ∙ ap (λ l. with_front packets (told_of whole after (place + used) l)) (drop-append-le used b more within.1)

pub told-fails-more : (whole : Bool) (at : At) (place : ℕ) (b more : List ℕ) (fault : FileFault) → unit at place b ≡ Fails fault
    → told_of whole at place (b ++ more) ≡ only (Some fault)
told-fails-more whole at place b more fault e =
    let stays : unit at place (b ++ more) ≡ Fails fault = rw e at (unit-stays at place b more) in
    told-fails whole at place (b ++ more) fault stays
