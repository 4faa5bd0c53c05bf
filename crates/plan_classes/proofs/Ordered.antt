-- the orders of selectors and of classes are total, and what ties in them is equal
use Rattle.std.specs.Prelude.{◌≡◌, true, refl}
use Rattle.std.specs.Ordering.{nat_cmp, ordering_then, is_eq}
use Rattle.std.specs.declared.cmp.Ordering.{Ordering}
use Rattle.std.specs.declared.cmp.Ordering.TheVariants.{Less, Equal, Greater}
use Rattle.std.specs.Cmp.{IsTotalOrder, then_total, on_total, nat_cmp_total}
use Rattle.std.specs.Cmp.Lexicographic.{slice_cmp, nat_list_cmp_total}
use Rattle.std.proofs.lemmas.Bool.{false≢true}
use Rattle.std.proofs.lemmas.Map.Lookups.{exact_unsigned, exact_bytes}
use Rattle.sccp_base.specs.Selector.{Numbers}
use Rattle.plan_classes.specs.Titles.{Titles}
use Rattle.plan_rules.specs.Keys.{selector_cmp}
use Rattle.plan_classes.specs.Order.{class_cmp}

pub selector_total : IsTotalOrder selector_cmp
selector_total =
    then_total (on_total (λ (s : Numbers). s.kind) nat_cmp_total) (then_total (on_total (λ (s : Numbers). s.translation) nat_cmp_total)
    (then_total (on_total (λ (s : Numbers). s.plan) nat_cmp_total) (on_total (λ (s : Numbers). s.nature) nat_cmp_total)))

pub class_total : IsTotalOrder class_cmp
class_total =
    then_total (on_total (λ (c : Titles). c.cover) nat_cmp_total) (then_total (on_total (λ (c : Titles). c.node) nat_cmp_total)
    (then_total (on_total (λ (c : Titles). c.selector) selector_total) (then_total (on_total (λ (c : Titles). c.ssn) nat_cmp_total)
    (then_total (on_total (λ (c : Titles). c.known) nat_list_cmp_total) (then_total (on_total (λ (c : Titles). c.least) nat_cmp_total)
    (on_total (λ (c : Titles). c.most) nat_cmp_total))))))

-- two orders, one after the other, tie exactly if both do
pub both_equal : (o p : Ordering) → ordering_then o p ≡ Equal → (o ≡ Equal) × (p ≡ Equal)
both_equal Less p e = absurd (cc)
both_equal Equal p e = (refl, e)
both_equal Greater p e = absurd (cc)

pub same_selector : (a b : Numbers) → selector_cmp a b ≡ Equal → a ≡ b
same_selector a b e =
    let k = both_equal (nat_cmp a.kind b.kind) _ e in
    let t = both_equal (nat_cmp a.translation b.translation) _ k.1 in
    let p = both_equal (nat_cmp a.plan b.plan) _ t.1 in
    λ i. record {
      kind = exact_unsigned a.kind b.kind k.0 i;
      translation = exact_unsigned a.translation b.translation t.0 i;
      plan = exact_unsigned a.plan b.plan p.0 i;
      nature = exact_unsigned a.nature b.nature p.1 i;
    }

pub is_equal : (o : Ordering) → is_eq o ≡ true → o ≡ Equal
is_equal Less e = absurd (false≢true e)
is_equal Equal e = refl
is_equal Greater e = absurd (false≢true e)

pub same_class : (a b : Titles) → is_eq (class_cmp a b) ≡ true → a ≡ b
same_class a b h =
    let e1 = both_equal (nat_cmp a.cover b.cover) _ (is_equal (class_cmp a b) h) in
    let e2 = both_equal (nat_cmp a.node b.node) _ e1.1 in
    let e3 = both_equal (selector_cmp a.selector b.selector) _ e2.1 in
    let e4 = both_equal (nat_cmp a.ssn b.ssn) _ e3.1 in
    let e5 = both_equal (slice_cmp nat_cmp a.known b.known) _ e4.1 in
    let e6 = both_equal (nat_cmp a.least b.least) _ e5.1 in
    λ i. record {
      cover = exact_unsigned a.cover b.cover e1.0 i;
      node = exact_unsigned a.node b.node e2.0 i;
      selector = same_selector a.selector b.selector e3.0 i;
      ssn = exact_unsigned a.ssn b.ssn e4.0 i;
      known = exact_bytes a.known b.known e5.0 i;
      least = exact_unsigned a.least b.least e6.0 i;
      most = exact_unsigned a.most b.most e6.1 i;
    }
