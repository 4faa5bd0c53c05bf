-- DT1 that are before each CC with their DLR
use Rattle.std.specs.Prelude.{ℕ, ◌≡◌, ◌<◌, Bool, true, false, cond, List, [], ◌∷◌, ◌++◌, length, filter, Option, Some, None, refl}
use Rattle.std.specs.List.{cons_option}
use Rattle.std.proofs.Common.{sym, ◌∙◌, ap, arith}
use Rattle.std.proofs.lemmas.Bool.{eqb-true, eq-eqb}
use Rattle.sccp_message.specs.declared.message.Message.{Message}
use Rattle.sccp_message.specs.declared.message.Message.TheVariants as messages
use Rattle.sccp_couple.specs.Events.{Piece, Data, data_of}
use Rattle.couple_chain.specs.Line.{piece_if_for, pieces_for}
use Rattle.couple_chain.proofs.Counts.{number, has_dlr, carries, answers, no_pieces}
use Rattle.couple_chain.proofs.Holds.{early, early_of}

early_of_nothing : (b : Bool) → early_of b [] ≡ []
early_of_nothing true = refl
early_of_nothing false = refl

pub early_none : (q : ℕ) (xs : List Message) → number (carries q) xs ≡ 0 → early q xs ≡ []
early_none q [] h = refl
early_none q (x ∷ xs) h =
    elim (carries q x) as (λ b. carries q x ≡ b → length (cond b (x ∷ filter (carries q) xs) (filter (carries q) xs)) ≡ 0
    → early q (x ∷ xs) ≡ []) [
      | true ↦ λ e k. absurd (omega arith)
      | false ↦ λ e k.
          let alone : number (carries q) (x ∷ []) ≡ 0 = ap (λ (b : Bool). length (cond b (x ∷ []) [])) e in
          ap (λ (l : List Piece). early_of (answers q x) (l ++ early q xs)) (no_pieces q (x ∷ []) alone)
          ∙ ap (early_of (answers q x)) (early_none q xs k) ∙ early_of_nothing (answers q x)
    ] refl h

pub early_quiet : (q : ℕ) (xs ys : List Message) → number (carries q) ys ≡ 0 → early q (xs ++ ys) ≡ early q xs
early_quiet q [] ys h = early_none q ys h
early_quiet q (x ∷ xs) ys h = ap (λ (l : List Piece). early_of (answers q x) (pieces_for (Some q) (x ∷ []) ++ l)) (early_quiet q xs ys h)

pub early_more : (q : ℕ) (xs ys : List Message) → 0 < number (answers q) xs → early q (xs ++ ys) ≡ early q xs
early_more q [] ys h = absurd (omega arith)
early_more q (x ∷ xs) ys h =
    elim (answers q x) as (λ b. 0 < length (cond b (x ∷ filter (answers q) xs) (filter (answers q) xs))
    → early_of b (pieces_for (Some q) (x ∷ []) ++ early q (xs ++ ys)) ≡ early_of b (pieces_for (Some q) (x ∷ []) ++ early q xs)) [
      | true ↦ λ k. refl
      | false ↦ λ k. ap (λ (l : List Piece). pieces_for (Some q) (x ∷ []) ++ l) (early_more q xs ys k)
    ] h

-- a DT1 with the DLR
pub carries_is : (q : ℕ) (m : Message) → carries q m ≡ true → (d : Data) × (data_of m ≡ Some d) × (d.dlr ≡ q)
carries_is q m h = go (data_of m) h
  where
    go : (o : Option Data) → has_dlr q o ≡ true → (d : Data) × (o ≡ Some d) × (d.dlr ≡ q)
    go None k = absurd (cc)
    go (Some d) k = (d, refl, eqb-true d.dlr q k)

pub carries_piece : (q : ℕ) (m : Message) → carries q m ≡ true → (p : Piece) × (pieces_for (Some q) (m ∷ []) ≡ p ∷ [])
carries_piece q m h =
    let d = carries_is q m h in
    (d.0.piece, go q (data_of m) d.0 d.1 d.2)
  where
    go : (q : ℕ) (o : Option Data) (d : Data) → o ≡ Some d → d.dlr ≡ q → cons_option (piece_if_for (Some q) o) [] ≡ d.piece ∷ []
    go q o d e f = ap (λ (x : Option Data). cons_option (piece_if_for (Some q) x) []) e
        ∙ ap (λ (b : Bool). cons_option (cond b (Some d.piece) None) []) (eq-eqb q d.dlr (sym f))

pub carries_no_answer : (q n : ℕ) (m : Message) → carries q m ≡ true → answers n m ≡ false
carries_no_answer q n (messages.Cc dlr slr class params) h = absurd (cc)
carries_no_answer q n _ h = refl

pub early_first : (q : ℕ) (xs : List Message) (m : Message) (rest : List Message) → number (answers q) xs ≡ 0 → carries q m ≡ true
    → early q ((xs ++ m ∷ []) ++ rest) ≡ [] → ⊥
early_first q [] m rest h c e =
    let p = carries_piece q m c in
    let k : p.0 ∷ early q rest ≡ [] =
    sym (ap (λ (b : Bool). early_of b (pieces_for (Some q) (m ∷ []) ++ early q rest)) (carries_no_answer q q m c)
    ∙ ap (λ (l : List Piece). l ++ early q rest) p.1) ∙ e in
    not_empty p.0 (early q rest) k
  where
    not_empty : (x : Piece) (xs : List Piece) → x ∷ xs ≡ [] → ⊥
    not_empty x xs h = cc
early_first q (x ∷ xs) m rest h c e =
    elim (answers q x) as (λ b. length (cond b (x ∷ filter (answers q) xs) (filter (answers q) xs)) ≡ 0
    → early_of b (pieces_for (Some q) (x ∷ []) ++ early q ((xs ++ m ∷ []) ++ rest)) ≡ [] → ⊥) [
      | true ↦ λ k f. absurd (omega arith)
      | false ↦ λ k f. early_first q xs m rest k c (behind (pieces_for (Some q) (x ∷ [])) (early q ((xs ++ m ∷ []) ++ rest)) f)
    ] h e
  where
    behind : (a b : List Piece) → a ++ b ≡ [] → b ≡ []
    behind [] b h = h
    behind (y ∷ ys) b h = absurd (cc)
