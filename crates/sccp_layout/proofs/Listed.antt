-- Reading the parameters one after another, as a loop does.
use Rattle.std.proofs.Common.{◌≡◌, ◌≢◌, ℕ, zero, suc, ◌+◌, ◌-◌, ◌<◌, ◌≤◌, false, cond, eqb, List, [], ◌∷◌, ◌++◌, length, get_or, Option}
use Rattle.std.proofs.Common.{Some, None, refl, sym, ap, ◌∙◌, append_assoc, arith}
use Rattle.std.specs.Prelude.{option_map, option_and_then}
use Rattle.std.proofs.lemmas.Bool.{le-leb, lt-leb, ne_eqb}
use Rattle.std.proofs.lemmas.List.{append-nil}
use Rattle.sccp_layout.specs.Parameter.{Parameter, parameter}
use Rattle.sccp_layout.specs.Places.{contents, listed_below}

-- the parameters listed before, and then those still to be listed
abbrev pub with_front : List Parameter → Option (List Parameter) → Option (List Parameter)
with_front front read = option_map (λ ps. front ++ ps) read

regroup : (front : List Parameter) (p : Parameter) (read : Option (List Parameter))
    → with_front front (option_map (λ ps. p ∷ ps) read) ≡ with_front (front ++ p ∷ []) read
regroup front p (Some ps) = ap Some (sym (append_assoc front (p ∷ []) ps))
regroup front p None = refl

pub past_end : (most : ℕ) (b : List ℕ) (p : ℕ) → length b ≤ p → listed_below most b p ≡ None
past_end zero b p le = refl
past_end (suc most) b p le = rw (le-leb (length b) p le) refl

pub one : (most : ℕ) (b : List ℕ) (p : ℕ) → p < length b → listed_below (suc most) b p
    ≡ cond (eqb (get_or b p 0) 0) (Some []) (option_and_then
    (λ octets. option_map (λ ps. parameter (get_or b p 0) octets ∷ ps) (listed_below most b (p + 2 + length octets)))
    (contents false b (p + 1)))
one most b p lt = rw (lt-leb (length b) p lt) refl

pub at_end : (most : ℕ) (b : List ℕ) (p : ℕ) → 0 < most → p < length b → get_or b p 0 ≡ 0 → listed_below most b p ≡ Some []
at_end zero b p some lt e = absurd (omega arith)
at_end (suc most) b p some lt e = one most b p lt ∙ rw e refl

pub cut_off : (most : ℕ) (b : List ℕ) (p : ℕ) → p < length b → get_or b p 0 ≢ 0 → contents false b (p + 1) ≡ None
    → listed_below most b p ≡ None
cut_off zero b p lt ne e = refl
cut_off (suc most) b p lt ne e = one most b p lt ∙ rw (ne_eqb (get_or b p 0) 0 ne, e) refl

pub goes_on : (front : List Parameter) (most i : ℕ) (b : List ℕ) (p : ℕ) (octets : List ℕ) (total : Option (List Parameter)) → i < most
    → p < length b → get_or b p 0 ≢ 0 → contents false b (p + 1) ≡ Some octets
    → with_front front (listed_below (most - i) b p) ≡ total
    → with_front (front ++ parameter (get_or b p 0) octets ∷ []) (listed_below (most - (i + 1)) b (p + 2 + length octets)) ≡ total
goes_on front most i b p octets total less lt ne e so_far =
    let k : most - i ≡ suc (most - (i + 1)) = omega arith in
    let step : listed_below (suc (most - (i + 1))) b p ≡ option_map (λ ps. parameter (get_or b p 0) octets ∷ ps)
    (listed_below (most - (i + 1)) b (p + 2 + length octets)) =
    one (most - (i + 1)) b p lt ∙ rw (ne_eqb (get_or b p 0) 0 ne, e) refl in
    sym (regroup front (parameter (get_or b p 0) octets) (listed_below (most - (i + 1)) b (p + 2 + length octets)))
    ∙ sym (ap (with_front front) (ap (λ (n : ℕ). listed_below n b p) k ∙ step)) ∙ so_far

pub is_none : (front : List Parameter) (read total : Option (List Parameter)) → with_front front read ≡ total → read ≡ None → total ≡ None
is_none front read total so_far e = sym so_far ∙ ap (with_front front) e

pub is_some : (front : List Parameter) (read total : Option (List Parameter)) → with_front front read ≡ total → read ≡ Some []
    → total ≡ Some front
is_some front read total so_far e = sym so_far ∙ ap (with_front front) e ∙ ap Some (append-nil front)
