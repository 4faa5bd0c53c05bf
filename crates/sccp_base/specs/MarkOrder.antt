-- The order of marks is a total one, and its ties are equal marks.
use Rattle.std.specs.Prelude.{◌≡◌}
use Rattle.std.specs.Ordering.{eq_by_cmp}
use Rattle.std.specs.Cmp.{IsTotalOrder, IsEquivalence, then_total, on_total, nat_cmp_total, eq_by_cmp_equiv}
use Rattle.std.proofs.Common.{arith, sym, ◌∙◌}
use Rattle.std.proofs.lemmas.Bool.Decides.{nat_tests}
use Rattle.sccp_base.specs.declared.mark.Mark.{Mark}
use Rattle.sccp_base.specs.declared.mark.Mark.TheVariants.{PointCode, Sccp, Subsystem}
use Rattle.sccp_base.specs.Marks.{point_of, place_at_point, mark_cmp, same_mark}

-- the order of marks is total
pub mark_cmp_total : IsTotalOrder mark_cmp
mark_cmp_total = then_total (on_total point_of nat_cmp_total) (on_total place_at_point nat_cmp_total)

-- two marks are the same if the order ties them
pub same_mark_agrees : (a b : Mark) → same_mark a b ≡ eq_by_cmp mark_cmp a b
same_mark_agrees (PointCode a) (PointCode b) = grind (arith, nat_tests)
same_mark_agrees (Sccp a) (Sccp b) = grind (arith, nat_tests)
same_mark_agrees (Subsystem a s) (Subsystem b t) = grind (arith, nat_tests)
same_mark_agrees (PointCode a) (Sccp b) = grind (arith, nat_tests)
same_mark_agrees (PointCode a) (Subsystem b t) = grind (arith, nat_tests)
same_mark_agrees (Sccp a) (PointCode b) = grind (arith, nat_tests)
same_mark_agrees (Sccp a) (Subsystem b t) = grind (arith, nat_tests)
same_mark_agrees (Subsystem a s) (PointCode b) = grind (arith, nat_tests)
same_mark_agrees (Subsystem a s) (Sccp b) = grind (arith, nat_tests)

-- to be the same mark is an equivalence
pub same_mark_equiv : IsEquivalence same_mark
same_mark_equiv =
    let ties = eq_by_cmp_equiv mark_cmp_total in
    record {
      refl = λ a. same_mark_agrees a a ∙ ties.refl a;
      symm = λ a b. same_mark_agrees a b ∙ ties.symm a b ∙ sym (same_mark_agrees b a);
      congr = λ a b c h. same_mark_agrees a c ∙ ties.congr a b c (sym (same_mark_agrees a b) ∙ h) ∙ sym (same_mark_agrees b c);
    }
