-- Keys are ordered as the titles that they begin.
use Rattle.std.specs.Prelude.{ℕ, ◌≡◌, false, List, Option, Some, None, refl}
use Rattle.std.specs.Ordering.{nat_cmp, ordering_then, ordering_reverse, is_le}
use Rattle.std.specs.Option.{option_cmp}
use Rattle.std.specs.Cmp.Lexicographic.{slice_cmp, nat_list_cmp_total}
use Rattle.std.specs.declared.cmp.Ordering.{Ordering}
use Rattle.std.specs.declared.cmp.Ordering.TheVariants.{Less, Equal, Greater}
use Rattle.std.proofs.Common.{sym, ◌∙◌, ap, arith}
use Rattle.std.proofs.lemmas.Bool.Decides.{nat_tests}
use Rattle.std.proofs.lemmas.Cmp.{same_from_slice_cmp, tied_itself}
use Rattle.std.proofs.lemmas.Map.Lookups.{exact_bytes}
use Rattle.plan_rules.specs.declared.row_key.RowKey.{RowKey}
use Rattle.plan_rules.specs.Order.{ssn_rank, up_to}
use Rattle.plan_rules.specs.Keys.{key_cmp, key_titles}

-- a subsystem number or none is ordered by its rank
ssn_ordered : (a b : Option ℕ) → option_cmp nat_cmp a b ≡ nat_cmp (ssn_rank a) (ssn_rank b)
ssn_ordered None None = refl
ssn_ordered None (Some y) = grind (arith, nat_tests)
ssn_ordered (Some x) None = grind (arith, nat_tests)
ssn_ordered (Some x) (Some y) = grind (arith, nat_tests)

-- four numbers and then the rest, compared as two parts and one after the other
four_then : (k t p n rest : Ordering) → ordering_then (ordering_then k (ordering_then t (ordering_then p n))) rest
    ≡ ordering_then k (ordering_then t (ordering_then p (ordering_then n rest)))
four_then Less t p n rest = refl
four_then Greater t p n rest = refl
four_then Equal Less p n rest = refl
four_then Equal Greater p n rest = refl
four_then Equal Equal Less n rest = refl
four_then Equal Equal Greater n rest = refl
four_then Equal Equal Equal n rest = refl

pub key_as_titles : (a b : RowKey) → key_cmp a b ≡ slice_cmp nat_cmp (key_titles a) (key_titles b)
key_as_titles a b =
    let k : Ordering = nat_cmp a.selector.kind b.selector.kind in
    let t : Ordering = nat_cmp a.selector.translation b.selector.translation in
    let p : Ordering = nat_cmp a.selector.plan b.selector.plan in
    let n : Ordering = nat_cmp a.selector.nature b.selector.nature in
    let digits : Ordering = slice_cmp nat_cmp a.prefix b.prefix in
    four_then k t p n (ordering_then (option_cmp nat_cmp a.ssn b.ssn) digits)
    ∙ ap (λ (o : Ordering). ordering_then k (ordering_then t (ordering_then p (ordering_then n (ordering_then o digits)))))
    (ssn_ordered a.ssn b.ssn)

up_to_cmp : (a b : List ℕ) → is_le (slice_cmp nat_cmp a b) ≡ up_to a b
up_to_cmp a b = same_from_slice_cmp nat_cmp is_le up_to refl (λ _ _. refl) (λ _ _. refl) (λ x y xs ys o h. grind (arith, nat_tests)) a b
    (slice_cmp nat_cmp a b) refl

-- of a key that is before another, the titles are below
pub key_below : (a b : RowKey) → key_cmp a b ≡ Less → up_to (key_titles b) (key_titles a) ≡ false
key_below a b less =
    sym (up_to_cmp (key_titles b) (key_titles a)) ∙ ap is_le (nat_list_cmp_total.antisymm (key_titles b) (key_titles a)
    ∙ ap ordering_reverse (sym (key_as_titles a b) ∙ less))

-- keys are equal exactly if their titles are
pub key_same : (a b : RowKey) → key_titles a ≡ key_titles b → key_cmp a b ≡ Equal
key_same a b e = key_as_titles a b ∙ ap (slice_cmp nat_cmp (key_titles a)) (sym e) ∙ tied_itself nat_list_cmp_total (key_titles a)

pub same_key : (a b : RowKey) → key_cmp a b ≡ Equal → key_titles a ≡ key_titles b
same_key a b e = exact_bytes (key_titles a) (key_titles b) (sym (key_as_titles a b) ∙ e)
