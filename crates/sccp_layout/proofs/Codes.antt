-- The table of the types of message has each code from 01 to 14 hexadecimal once.
use Rattle.std.proofs.Common.{◌≡◌, ◌≢◌, ℕ, zero, suc, ◌+◌, List, [], ◌∷◌, length, Option, Some, refl, sym, subst, ◌∙◌, add-zero, arith}
use Rattle.std.specs.Prelude.{map, slice_get}
use Rattle.std.specs.List.{range_with_len}
use Rattle.std.proofs.lemmas.Bool.{ne_eqb, eq-eqb}
use Rattle.sccp_layout.specs.Table.{Row, rows, codes, row_in, row}

-- The row at a place of a table whose codes count up. It is the row that its code finds.
record Finds (rs : List Row) (a i : ℕ) (r : Row) : Type 0 where
  code : r.code ≡ a + i
  found : row_in rs r.code ≡ Some r

finds_first : (r : Row) (rs : List Row) (a : ℕ) → r.code ≡ a → Finds (r ∷ rs) a 0 r
finds_first r rs a e = record { code = e ∙ sym (add-zero a); found = rw (eq-eqb r.code r.code refl) refl }

finds_later : (q : Row) (rs : List Row) (a i : ℕ) (r : Row) → q.code ≡ a → Finds rs (a + 1) i r → Finds (q ∷ rs) a (suc i) r
finds_later q rs a i r e later =
    let other : r.code ≢ q.code = λ same. omega (arith, later.code, e, same) in
    record { code = omega (arith, later.code); found = rw (ne_eqb r.code q.code other) later.found }

first_is : (x y : ℕ) (xs ys : List ℕ) → x ∷ xs ≡ y ∷ ys → (x ≡ y) × (xs ≡ ys)
first_is x y xs ys e = (cc, cc)

same_row : (q r : Row) → (let some : Row → Option Row = λ x. Some x in some q ≡ some r) → q ≡ r
same_row q r e = cc

finds : (rs : List Row) (a i : ℕ) (r : Row) → map (λ r. r.code) rs ≡ range_with_len a (length rs) → slice_get rs i ≡ Some r → Finds rs a i r
finds [] a i r e at = absurd cc
finds (q ∷ rs) a zero r e at =
    let f = first_is q.code a (map (λ r. r.code) rs) (range_with_len (a + 1) (length rs)) e in
    subst (Finds (q ∷ rs) a 0) (same_row q r at) (finds_first q rs a f.0)
finds (q ∷ rs) a (suc i) r e at =
    let f = first_is q.code a (map (λ r. r.code) rs) (range_with_len (a + 1) (length rs)) e in
    finds_later q rs a i r f.0 (finds rs (a + 1) i r f.1 at)

-- each row is the one that its code finds
pub row-own_code : (i : ℕ) (r : Row) → slice_get rows i ≡ Some r → (r.code ≡ 1 + i) × (row r.code ≡ Some r)
row-own_code i r at = let f = finds rows 1 i r codes at in (f.code, f.found)
