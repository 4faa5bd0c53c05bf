-- A mark for each own reference of a list of sections.
use Rattle.std.specs.Prelude.{ℕ, ◌≡◌, ◌+◌, ◌-◌, ◌<◌, ◌≤◌, Bool, false, not, cond, ◌==◌, List, ◌∷◌, length, filter, slice_index, refl}
use Rattle.std.specs.List.{list_any, range_with_len}
use Rattle.std.proofs.Common.{zero, suc, sym, ◌∙◌, ap, subst, get_or, arith}
use Rattle.sccp_couple.specs.declared.section.Section.{Section}
use Rattle.sccp_couple.specs.Marked.{is_unmarked}
use Rattle.sccp_couple.specs.Sections.{is_unused, first_new, second_new}
use Rattle.sccp_couple.proofs.Fresh.{searched}

-- each mark says whether its number is the own reference of one of the sections
abbrev pub AreMarked : List Bool → List Section → Type 0
AreMarked marks sections = (n : ℕ) → n < length marks → get_or marks n false ≡ list_any (λ s. s.own == n) sections

-- a range is filtered alike by tests that agree on it
filter_alike : (p q : ℕ → Bool) (a n : ℕ) → ((k : ℕ) → a ≤ k → k < a + n → p k ≡ q k)
    → filter p (range_with_len a n) ≡ filter q (range_with_len a n)
filter_alike p q a zero h = refl
filter_alike p q a (suc n) h =
    let e : p a ≡ q a = h a (omega arith) (omega arith) in
    let rest : filter p (range_with_len (a + 1) n) ≡ filter q (range_with_len (a + 1) n) =
    filter_alike p q (a + 1) n (λ k le lt. h k (omega (arith, le)) (omega (arith, lt))) in
    ap (λ b. cond b (a ∷ filter p (range_with_len (a + 1) n)) (filter p (range_with_len (a + 1) n))) e
    ∙ ap (λ (t : List ℕ). cond (q a) (a ∷ t) t) rest

-- the numbers without a mark are the unused ones
pub unmarked_are : (marks : List Bool) (l : List Section) (a n : ℕ) → AreMarked marks l → a + n ≤ length marks
    → filter (is_unmarked marks) (range_with_len a n) ≡ filter (is_unused l) (range_with_len a n)
unmarked_are marks l a n marked within = filter_alike (is_unmarked marks) (is_unused l) a n
    (λ k le lt. ap not (marked k (omega (arith, lt, within))))

-- the two smallest numbers without a mark, looked up one after the other
pub record Searches (marks : List Bool) (l : List Section) : Type 0 where
  pub some : 0 < length (filter (is_unmarked marks) (range_with_len 1 (length l + 2)))
  pub first : slice_index (filter (is_unmarked marks) (range_with_len 1 (length l + 2))) 0 ≡ first_new l
  pub within : first_new l ≤ length l + 2
  pub left : 0 < length (filter (is_unmarked marks) (range_with_len (first_new l + 1) ((length l + 2) - first_new l)))
  pub next : slice_index (filter (is_unmarked marks) (range_with_len (first_new l + 1) ((length l + 2) - first_new l))) 0 ≡ second_new l

pub searches : (marks : List Bool) (l : List Section) → AreMarked marks l → length l + 3 ≤ length marks → Searches marks l
searches marks l marked room =
    let s = searched l in
    let a = unmarked_are marks l 1 (length l + 2) marked (omega (arith, room)) in
    let b = unmarked_are marks l (first_new l + 1) ((length l + 2) - first_new l) marked (omega (arith, room, s.within)) in
    record {
      some = subst (λ (xs : List ℕ). 0 < length xs) (sym a) s.some;
      first = ap (λ (xs : List ℕ). slice_index xs 0) a;
      within = s.within;
      left = subst (λ (xs : List ℕ). 0 < length xs) (sym b) s.left;
      next = ap (λ (xs : List ℕ). slice_index xs 0) b ∙ s.next;
    }
