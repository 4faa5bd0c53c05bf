-- What the beginning of a file gives.
use Rattle.std.proofs.Common.{◌≡◌, ℕ, zero, suc, ◌+◌, ◌<◌, ◌≤◌, Bool, false, List, [], ◌∷◌, ◌++◌, length, drop, refl, sym, ◌∙◌}
use Rattle.std.proofs.Common.{ap}
use Rattle.std.proofs.Common.{arith}
use Rattle.std.proofs.lemmas.List.{length-drop}
use Rattle.capture_file.specs.Packets.{Captured, Told, with_front}
use Rattle.capture_file.specs.Units.{At, FileStart, Step, Takes, Needs, Fails, unit}
use Rattle.capture_file.specs.Told.{told, told_of}
use Rattle.capture_file.proofs.UnitLemmas.{unit-within, unit-nothing}
use Rattle.capture_file.proofs.ToldLemmas.{told-takes, told-needs, told-fails, told-takes-more, with_front-twice}

abbrev Begins : Bool → At → ℕ → List ℕ → List ℕ → Type 0
Begins whole at place b rest =
    (after : Told) × (told_of whole at place (b ++ rest) ≡ with_front (told_of false at place b).packets after)

nothing : (whole : Bool) (at : At) (place : ℕ) (b rest : List ℕ) → (told_of false at place b).packets ≡ [] → Begins whole at place b rest
nothing whole at place b rest e =
    (told_of whole at place (b ++ rest), ap (λ (ps : List Captured). with_front ps (told_of whole at place (b ++ rest))) (sym e))

begins-by : (n : ℕ) (whole : Bool) (rest : List ℕ)
    → ((at : At) (place : ℕ) (b : List ℕ) → length b ≤ n → Begins whole at place b rest)
    → (at : At) (place : ℕ) (b : List ℕ) → length b ≤ suc n → (step : Step) → unit at place b ≡ step → Begins whole at place b rest
begins-by n whole rest later at place b few Needs e =
    nothing whole at place b rest (ap (λ (t : Told). t.packets) (told-needs false at place b e))
begins-by n whole rest later at place b few (Fails fault) e =
    nothing whole at place b rest (ap (λ (t : Told). t.packets) (told-fails false at place b fault e))
begins-by n whole rest later at place b few (Takes packets used after) e =
    let within : (0 < used) × (used ≤ length b) = rw e at (unit-within at place b) in
    let more = later after (place + used) (drop used b) (omega (arith, few, length-drop used b, within.0, within.1)) in (
      more.0,
      told-takes-more whole at place b rest packets used after e
          ∙ ap (with_front packets) more.1
          ∙ with_front-twice packets (told_of false after (place + used) (drop used b)).packets more.0
          ∙ ap (λ (t : Told). with_front t.packets more.0) (sym (told-takes false at place b packets used after e)),
    )

begins : (most : ℕ) (whole : Bool) (rest : List ℕ) (at : At) (place : ℕ) (b : List ℕ) → length b ≤ most → Begins whole at place b rest
begins zero whole rest at place [] few =
    nothing whole at place [] rest (ap (λ (t : Told). t.packets) (told-needs false at place [] (unit-nothing at place)))
begins zero whole rest at place (x ∷ xs) few = absurd (omega arith)
begins (suc n) whole rest at place b few = begins-by n whole rest (begins n whole rest) at place b few (unit at place b) refl

pub first-given : (whole : Bool) (b rest : List ℕ) → (after : Told) × (told whole (b ++ rest) ≡ with_front (told false b).packets after)
first-given whole b rest = begins (length b) whole rest FileStart 0 b (omega arith)
