use Rattle.std.proofs.Common.{ℕ, ◌≡◌, ◌+◌, ◌-◌, ◌<◌, ◌≤◌, ◌∙◌, length, filter, slice_index, arith, sym, ap, subst}
use Rattle.std.specs.List.{range_with_len}
use Rattle.sccp_couple.specs.Marked.{is_unmarked}
use Rattle.sccp_couple.specs.Sections.{first_new}
use Rattle.sccp_couple.proofs.OwnMarks.{searches}
use Rattle.sccp_couple.proofs.references.new_by_marks.Goals as goal

pub least_unmarked-near-requires-clause-some : goal.least_unmarked-near-requires-clause-some
least_unmarked-near-requires-clause-some c =
    let few = c.requires.few in let count = c.requires.count in let same = c.mark_own.ensures.count in
    (searches c.mark_own.new.marks c.args.sections.now c.mark_own.ensures.marks (omega arith)).some

pub overflow_sub-count : goal.overflow_sub-count
overflow_sub-count c =
    let few = c.requires.few in let count = c.requires.count in let same = c.mark_own.ensures.count in
    let s = searches c.mark_own.new.marks c.args.sections.now c.mark_own.ensures.marks (omega arith) in
    let number_is : c.value-number.result ≡ first_new c.args.sections.now = c.value-number.ensures.same ∙ c.least_unmarked-near.ensures
    ∙ s.first in
    subst (λ (n : ℕ). n ≤ length c.args.sections.now + 2) (sym number_is) s.within

pub least_unmarked-far-requires-clause-marks : goal.least_unmarked-far-requires-clause-marks
least_unmarked-far-requires-clause-marks c =
    let few = c.requires.few in let count = c.requires.count in let same = c.mark_own.ensures.count in
    let s = searches c.mark_own.new.marks c.args.sections.now c.mark_own.ensures.marks (omega arith) in
    let number_is : c.value-number.result ≡ first_new c.args.sections.now = c.value-number.ensures.same ∙ c.least_unmarked-near.ensures
    ∙ s.first in
    let within : c.value-number.result ≤ length c.args.sections.now + 2 = subst (λ (n : ℕ). n ≤ length c.args.sections.now + 2)
    (sym number_is) s.within in
    omega arith

pub least_unmarked-far-requires-clause-some : goal.least_unmarked-far-requires-clause-some
least_unmarked-far-requires-clause-some c =
    let few = c.requires.few in let count = c.requires.count in let same = c.mark_own.ensures.count in
    let s = searches c.mark_own.new.marks c.args.sections.now c.mark_own.ensures.marks (omega arith) in
    let number_is : c.value-number.result ≡ first_new c.args.sections.now = c.value-number.ensures.same ∙ c.least_unmarked-near.ensures
    ∙ s.first in
    subst (λ (n : ℕ). 0 < length (filter (is_unmarked c.mark_own.new.marks)
    (range_with_len (n + 1) ((length c.args.sections.now + 2) - n)))) (sym number_is) s.left

pub returns-clause-near : goal.returns-clause-near
returns-clause-near c =
    let few = c.requires.few in let count = c.requires.count in let same = c.mark_own.ensures.count in
    c.least_unmarked-near.ensures ∙ (searches c.mark_own.new.marks c.args.sections.now c.mark_own.ensures.marks (omega arith)).first

pub returns-clause-far : goal.returns-clause-far
returns-clause-far c =
    let few = c.requires.few in let count = c.requires.count in let same = c.mark_own.ensures.count in
    let s = searches c.mark_own.new.marks c.args.sections.now c.mark_own.ensures.marks (omega arith) in
    let number_is : c.value-number.result ≡ first_new c.args.sections.now = c.value-number.ensures.same ∙ c.least_unmarked-near.ensures
    ∙ s.first in
    c.least_unmarked-far.ensures
    ∙ ap (λ (n : ℕ). slice_index (filter (is_unmarked c.mark_own.new.marks)
    (range_with_len (n + 1) ((length c.args.sections.now + 2) - n))) 0) number_is
    ∙ s.next
