-- equality of classes by their fields, and tables that find a class by it
use Rattle.std.specs.Prelude.{ℕ, ◌≡◌, ◌≢◌, Bool, true, false, ◌&&◌, ◌==◌, nat_eq, List, [], ◌∷◌, Option, Some, if◌then◌else◌, cond, refl}
use Rattle.std.specs.Bool.{Decides}
use Rattle.std.specs.List.{AllPairs, IsDistinct}
use Rattle.std.specs.Option.{MatchOption}
use Rattle.std.specs.Ordering.{nat_cmp, is_eq}
use Rattle.std.specs.Cmp.{both_tied, unsigned_ties}
use Rattle.std.specs.Cmp.Lexicographic.{pointwise, slice_cmp, texts_ties}
use Rattle.std.specs.Map.{lookup, set_value}
use Rattle.std.proofs.Common.{sym, ◌∙◌, ap, subst}
use Rattle.std.proofs.lemmas.Map.Made.{AllPairs-from_IsDistinct}
use Rattle.sccp_base.specs.Selector.{Numbers}
use Rattle.plan_classes.specs.Titles.{Titles}
use Rattle.plan_rules.specs.Keys.{selector_cmp}
use Rattle.plan_classes.proofs.Ordered.{same_class}
use Rattle.plan_check.specs.Ranking.{rank_in, class_cmp}
use Rattle.plan_check.proofs.Orders.{own_class}

abbrev pub equal_selector : Numbers → Numbers → Bool
equal_selector a b = a.kind == b.kind && (a.translation == b.translation && (a.plan == b.plan && a.nature == b.nature))

abbrev pub equal_class : Titles → Titles → Bool
equal_class a b = a.cover == b.cover && (a.node == b.node && (equal_selector a.selector b.selector && (a.ssn == b.ssn
    && (pointwise nat_eq a.known b.known && (a.least == b.least && a.most == b.most)))))

selector_ties : (a b : Numbers) → equal_selector a b ≡ is_eq (selector_cmp a b)
selector_ties a b =
    both_tied _ _ (nat_cmp a.kind b.kind) _ (unsigned_ties a.kind b.kind)
    (both_tied _ _ (nat_cmp a.translation b.translation) _ (unsigned_ties a.translation b.translation)
    (both_tied _ _ (nat_cmp a.plan b.plan) (nat_cmp a.nature b.nature) (unsigned_ties a.plan b.plan) (unsigned_ties a.nature b.nature)))

-- classes are equal by their fields exactly if they compare as equal
pub class_ties : (a b : Titles) → equal_class a b ≡ is_eq (class_cmp a b)
class_ties a b =
    both_tied _ _ (nat_cmp a.cover b.cover) _ (unsigned_ties a.cover b.cover)
    (both_tied _ _ (nat_cmp a.node b.node) _ (unsigned_ties a.node b.node)
    (both_tied _ _ (selector_cmp a.selector b.selector) _ (selector_ties a.selector b.selector)
    (both_tied _ _ (nat_cmp a.ssn b.ssn) _ (unsigned_ties a.ssn b.ssn)
    (both_tied _ _ (slice_cmp nat_cmp a.known b.known) _ (texts_ties a.known b.known)
    (both_tied _ _ (nat_cmp a.least b.least) (nat_cmp a.most b.most) (unsigned_ties a.least b.least) (unsigned_ties a.most b.most))))))

-- so a table that finds a class by its fields has the ranks of one in order
pub rank_is : (ranks : List (Titles × ℕ)) (c : Titles) → lookup (equal_class c) ranks ≡ rank_in ranks c
rank_is ranks c = ap (λ (test : Titles → Bool). lookup test ranks) (λ i d. class_ties c d i)

equal_decides : (a b : Titles) → Decides (equal_class a b) (a ≡ b)
equal_decides a b = (
  λ e. same_class a b (sym (class_ties a b) ∙ e),
  λ e. subst (λ (d : Titles). equal_class a d ≡ true) e (class_ties a a ∙ own_class a),
)

pub classes_differ : (cs : List Titles) → IsDistinct equal_class cs → AllPairs (λ c d. c ≢ d) cs
classes_differ cs h = AllPairs-from_IsDistinct equal_decides cs h

pub put_at : (old new : List (Titles × ℕ)) (class : Titles) (rank : ℕ)
    → ((q : Titles) → lookup (equal_class q) new ≡ cond (equal_class class q) (Some rank) (lookup (equal_class q) old))
    → (q : Titles) → rank_in new q ≡ (if is_eq (class_cmp class q) then Some rank else rank_in old q)
put_at old new class rank puts q =
    sym (rank_is new q) ∙ puts q ∙ ap (λ (b : Bool). cond b (Some rank) (lookup (equal_class q) old)) (class_ties class q)
    ∙ ap (λ (o : Option ℕ). cond (is_eq (class_cmp class q)) (Some rank) o) (rank_is old q)

-- what is said of the entries after a value took another one's place
pub replaced : (o : Option ℕ) (s : ℕ) (P Q : Type 0) → o ≡ Some s → MatchOption o P (λ _. Q) → Q
replaced o s P Q e h = subst (λ (o : Option ℕ). MatchOption o P (λ _. Q)) e h

-- the last of two values is the one that is kept
pub set_twice : (test : Titles → Bool) (ranks : List (Titles × ℕ)) (r s : ℕ)
    → set_value test (set_value test ranks r) s ≡ set_value test ranks s
set_twice test [] r s = refl
set_twice test (e ∷ es) r s =
    elim (test e.0) as (λ b. test e.0 ≡ b → set_value test (cond b ((e.0, r) ∷ es) (e ∷ set_value test es r)) s
    ≡ cond b ((e.0, s) ∷ es) (e ∷ set_value test es s)) [
      | true ↦ λ h. ap (λ (b : Bool). cond b ((e.0, s) ∷ es) ((e.0, r) ∷ set_value test es s)) h
      | false ↦ λ h. ap (λ (b : Bool). cond b ((e.0, s) ∷ set_value test es r) (e ∷ set_value test (set_value test es r) s)) h
          ∙ ap (λ (xs : List (Titles × ℕ)). e ∷ xs) (set_twice test es r s)
    ] refl
