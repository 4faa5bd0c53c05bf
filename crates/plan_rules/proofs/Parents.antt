-- One more place of the order gets its parent.
use Rattle.std.proofs.Common.{◌≡◌, ℕ, ◌+◌, List, [], ◌∷◌, ◌++◌, length, Option, None, sym, subst, arith, inl, inr, slice_index_or}
use Rattle.std.proofs.Math.ListN.{get_or-append}
use Rattle.std.proofs.Math.Seq.{get_or-append_seam}
use Rattle.std.proofs.lemmas.Bool.{cases_lt}
use Rattle.std.proofs.lemmas.List.{length-append}
use Rattle.plan_rules.specs.Rule.{Rule}
use Rattle.plan_rules.specs.Order.{titles_in, IsNearest, AreParents}

pub parents_more : (table : List Rule) (order : List ℕ) (parents : List (Option ℕ)) (place : ℕ) (parent : Option ℕ) → length parents ≡ place
    → AreParents table order parents → IsNearest table order place (titles_in table order place) parent
    → AreParents table order (parents ++ parent ∷ [])
parents_more table order parents place parent count before here = λ k lt.
    elim (cases_lt k (length parents)) [
      | inl inside ↦ subst (IsNearest table order k (titles_in table order k)) (sym (get_or-append parents (parent ∷ []) None k inside))
          (before k inside)
      | inr past ↦
          let size : length (parents ++ parent ∷ []) ≡ length parents + 1 = length-append parents (parent ∷ []) in
          let last : place ≡ k = omega (arith, lt, size, past, count) in
          let seam : slice_index_or (parents ++ parent ∷ []) place None ≡ parent =
          subst (λ n. slice_index_or (parents ++ parent ∷ []) n None ≡ parent) count (get_or-append_seam parents parent [] None) in
          subst (λ n. IsNearest table order n (titles_in table order n) (slice_index_or (parents ++ parent ∷ []) n None)) last
          (subst (IsNearest table order place (titles_in table order place)) (sym seam) here)
    ]
