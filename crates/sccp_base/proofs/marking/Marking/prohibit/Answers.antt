use Rattle.std.proofs.Common.{◌∙◌, ap, subst, List, sym, ◌≡◌}
use Rattle.std.specs.List.{insert}
use Rattle.sccp_base.specs.declared.mark.Mark.{Mark}
use Rattle.sccp_base.specs.Marks.{holds, IsMarking, IsAt, BelongsAt}
use Rattle.sccp_base.proofs.MarkPlaces.{holds-insert, holds-at, held_more, marking_insert}
use Rattle.sccp_base.proofs.marking.Marking.prohibit.Goals as goal

pub invariant_of-self : goal.invariant_of-self
invariant_of-self c =
    let at : BelongsAt c.self.inside.marks.items c.args.mark c.in-Err.place =
    subst (λ (marks : List Mark). BelongsAt marks c.args.mark c.in-Err.place) c.deref.ensures.value (c.in-Err.ensures) in
    subst IsMarking (sym c.in_ok-insert.ensures.items)
    (marking_insert c.self.inside.marks.items c.args.mark c.in-Err.place c.vouch.ensures c.self.invariant at)

pub returns-in_ok-insert-clause-ok : goal.returns-in_ok-insert-clause-ok
returns-in_ok-insert-clause-ok c = λ other.
    ap (λ (marks : List Mark). holds marks other) (c.in_ok-insert.ensures.items
    ∙ ap (λ (marks : List Mark). insert marks c.in-Err.place c.args.mark) c.self.view_is)
    ∙ holds-insert c.args.self.now c.args.mark other c.in-Err.place

pub returns-in_default-clause-ok : goal.returns-in_default-clause-ok
returns-in_default-clause-ok c = λ other.
    let is : c.deref.result.now ≡ c.args.self.now = c.deref.ensures.value ∙ c.self.view_is in
    held_more c.args.self.now c.args.mark other (holds-at c.args.self.now c.args.mark c.in_default.field-0
    (subst (λ (marks : List Mark). IsAt marks c.args.mark c.in_default.field-0) is (c.in_default.ensures)))
