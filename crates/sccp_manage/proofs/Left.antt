-- What a row leaves of a marking, for the forms that rows have.
use Rattle.std.specs.Prelude.{◌≡◌, ℕ, ◌==◌, Bool, true, not, ◌&&◌, ◌||◌, List, [], refl, Result, Ok, Err, OnOk, OnErr}
use Rattle.std.proofs.Common.{◌∙◌, ap, sym}
use Rattle.std.proofs.lemmas.Bool.{cond-false, not-true}
use Rattle.sccp_base.specs.declared.mark.Mark.{Mark}
use Rattle.sccp_base.specs.declared.mark.Mark.TheVariants.{Sccp, Subsystem}
use Rattle.sccp_base.specs.Marks.{same_mark}
use Rattle.sccp_manage.specs.declared.sent.Sent.{Sent}
use Rattle.sccp_manage.specs.Markings.{with_marks, without_marks}
use Rattle.sccp_manage.specs.declared.event.Event.{Event}
use Rattle.sccp_manage.specs.Managing.{Management, row_of, as_before, no_mark, marked, left, managed, row, on_allowed, IsMarked, IsNodeOf}
use Rattle.sccp_manage.proofs.Changes.{without_none, without_twice, is_marked}

pub left_as_it_was : (marking : List Mark) (sends : List Sent) → marked marking (row_of [] no_mark sends) ≡ marking
unfolding marked
left_as_it_was marking sends = without_none marking

pub left_with : (marking marks : List Mark) (sends : List Sent) → marked marking (row_of marks no_mark sends) ≡ with_marks marking marks
unfolding marked
left_with marking marks sends = ap (λ ms. with_marks ms marks) (without_none marking)

pub left_without : (marking : List Mark) (allows : Mark → Bool) (sends : List Sent)
    → marked marking (row_of [] allows sends) ≡ without_marks allows marking
unfolding marked
left_without marking allows sends = refl

-- management itself is allowed: the mark of its subsystem, and that of the SCCP
pub left_allowed : (m : Management) (pc ssn : ℕ) → true ≡ not (pc == m.own) → ssn ≡ 1
    → left m (on_allowed m pc ssn) ≡ record m {
      marking = without_marks (same_mark (Sccp pc))
          (without_marks (same_mark (Subsystem pc ssn)) m.marking);
    }
left_allowed m pc ssn other one =
    let allows : Mark → Bool = λ mark. same_mark (Subsystem pc ssn) mark || (ssn == 1 && same_mark (Sccp pc) mark) in
    let both : without_marks allows m.marking ≡ without_marks (same_mark (Sccp pc))
    (without_marks (same_mark (Subsystem pc ssn)) m.marking) =
    (λ i. without_marks (λ mark. same_mark (Subsystem pc ssn) mark || (one i == 1 && same_mark (Sccp pc) mark)) m.marking)
    ∙ sym (without_twice (same_mark (Sccp pc)) (same_mark (Subsystem pc ssn)) m.marking) in
    ap (left m) (cond-false (pc == m.own) as_before (row_of [] allows []) (not-true (pc == m.own) (sym other)))
    ∙ (λ i. record m { marking = (left_without m.marking allows [] ∙ both) i })

-- if the answer is Ok, each mark is held as the row says
pub marked_so : {A E : Type 0} (r : Result A E) (m n : Management) (event : Event) → OnOk r (n ≡ managed m event)
    → OnOk r (IsMarked m.marking (row m event) n.marking)
marked_so (Ok x) m n event e = rw e (is_marked m.marking (row m event))
marked_so (Err x) m n event e = tt

-- whatever the answer, the node is the same
pub node_stays : {A E : Type 0} (r : Result A E) (m n : Management) (event : Event) → OnOk r (n ≡ managed m event) → OnErr r (n ≡ m)
    → IsNodeOf m n
node_stays (Ok x) m n event e f = rw e refl
node_stays (Err x) m n event e f = rw f refl
