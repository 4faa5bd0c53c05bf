-- Whether marks of a point are among ascending marks.
use Rattle.std.specs.Prelude.{◌≡◌, ℕ, ◌<◌, ◌≤◌, true, false, List, length, refl, Some, slice_get}
use Rattle.std.specs.List.{list_any}
use Rattle.std.specs.declared.cmp.Ordering.TheVariants.{Less, Greater}
use Rattle.std.proofs.Common.{arith, sym, ◌∙◌, ap, get_or, ⊎_elim}
use Rattle.std.proofs.lemmas.Bool.{cases_lt, eq-eqb}
use Rattle.std.proofs.lemmas.Bool.Decides.{nat_tests}
use Rattle.std.proofs.lemmas.List.Folds.{list_any_none, list_any-from_Any}
use Rattle.std.proofs.lemmas.Option.{get_or_from_slice_get, slice_get_within}
use Rattle.sccp_base.specs.declared.mark.Mark.{Mark}
use Rattle.sccp_base.specs.declared.mark.Mark.TheVariants.{PointCode, Sccp, Subsystem}
use Rattle.sccp_base.specs.Marks.{is_at, mark_cmp, IsAscending, IsAt, BelongsAt}

-- a mark below that of a point is at another point
below_point : (mark : Mark) (point : ℕ) → mark_cmp mark (PointCode point) ≡ Less → is_at point mark ≡ false
below_point (PointCode a) point = grind (arith, nat_tests)
below_point (Sccp a) point = grind (arith, nat_tests)
below_point (Subsystem a s) point = grind (arith, nat_tests)

-- so is a mark above one that is above that of the point, and at another one
above_point : (first mark : Mark) (point : ℕ) → mark_cmp first (PointCode point) ≡ Greater → is_at point first ≡ false
    → mark_cmp first mark ≡ Less → is_at point mark ≡ false
above_point first mark point above apart less = grind (arith, nat_tests)

-- the point's own mark is held
pub held_at : (marks : List Mark) (point place : ℕ) → IsAt marks (PointCode point) place → list_any (is_at point) marks ≡ true
held_at marks point place at =
    list_any-from_Any (is_at point) marks (place, PointCode point, at.inside, at.same (PointCode point), eq-eqb point point refl)

-- the point's own mark is not held, and this is the one at its place
pub next_at : (marks : List Mark) (point place : ℕ) (next : Mark) → IsAscending marks → BelongsAt marks (PointCode point) place
    → slice_get marks place ≡ Some next → list_any (is_at point) marks ≡ is_at point next
next_at marks point place next ascending at e =
    elim (is_at point next) as (λ b. is_at point next ≡ b → list_any (is_at point) marks ≡ b) [
      | true ↦ λ here. list_any-from_Any (is_at point) marks (
        place,
        next,
        slice_get_within marks place next e,
        get_or_from_slice_get marks place next next e,
        here,
      )
      | false ↦ λ apart. list_any_none (is_at point) marks (λ k d lt. ⊎_elim
          (λ (below : k < place). below_point (get_or marks k d) point (at.below k d (omega arith) below))
          (λ (above : place ≤ k). ⊎_elim
          (λ (after : place < k). above_point next (get_or marks k d) point
          (ap (λ (m : Mark). mark_cmp m (PointCode point)) (sym (get_or_from_slice_get marks place next d e))
          ∙ at.above place d (omega arith) (slice_get_within marks place next e)) apart
          (ap (λ (m : Mark). mark_cmp m (get_or marks k d)) (sym (get_or_from_slice_get marks place next d e))
          ∙ ascending place k d after lt))
          (λ (le : k ≤ place). let same : k ≡ place = omega arith in
          ap (λ (i : ℕ). is_at point (get_or marks i d)) same
          ∙ ap (is_at point) (get_or_from_slice_get marks place next d e) ∙ apart)
          (cases_lt place k))
          (cases_lt k place))
    ] refl

-- all marks are below that of the point
pub none_at : (marks : List Mark) (point place : ℕ) → BelongsAt marks (PointCode point) place → length marks ≤ place
    → list_any (is_at point) marks ≡ false
none_at marks point place at size =
    list_any_none (is_at point) marks (λ k d lt. below_point (get_or marks k d) point
    (at.below k d (omega arith) (omega (arith, lt, size))))
