use Rattle.std.proofs.Common.{◌∙◌, ap, subst, List, sym, ◌≡◌}
use Rattle.std.specs.List.{remove}
use Rattle.sccp_base.specs.declared.mark.Mark.{Mark}
use Rattle.sccp_base.specs.Marks.{holds, IsAscending, IsMarking, IsAt, BelongsAt}
use Rattle.sccp_base.proofs.MarkPlaces.{holds-remove, holds-none, held_less, marking_remove}
use Rattle.sccp_base.proofs.marking.Marking.allow.Goals as goal

pub invariant_of-self : goal.invariant_of-self
invariant_of-self c =
    let at : IsAt c.self.inside.marks.items c.args.mark c.in-Ok.place =
    subst (λ (marks : List Mark). IsAt marks c.args.mark c.in-Ok.place) c.deref.ensures.value (c.in-Ok.ensures) in
    subst IsMarking (sym c.remove.ensures.items) (marking_remove c.self.inside.marks.items c.in-Ok.place at.inside c.self.invariant)

pub returns-in-Ok : goal.returns-in-Ok
returns-in-Ok c = λ other.
    let is : c.deref.result.now ≡ c.args.self.now = c.deref.ensures.value ∙ c.self.view_is in
    let ascending : IsAscending c.args.self.now = subst IsAscending c.self.view_is c.self.invariant.ascending in
    ap (λ (marks : List Mark). holds marks other) (c.remove.ensures.items
    ∙ ap (λ (marks : List Mark). remove marks c.in-Ok.place) c.self.view_is)
    ∙ holds-remove c.args.self.now c.args.mark other c.in-Ok.place ascending
    (subst (λ (marks : List Mark). IsAt marks c.args.mark c.in-Ok.place) is (c.in-Ok.ensures))

pub returns-in_default : goal.returns-in_default
returns-in_default c = λ other.
    let is : c.deref.result.now ≡ c.args.self.now = c.deref.ensures.value ∙ c.self.view_is in
    held_less c.args.self.now c.args.mark other (holds-none c.args.self.now c.args.mark c.in_default.field-0
    (subst (λ (marks : List Mark). BelongsAt marks c.args.mark c.in_default.field-0) is (c.in_default.ensures)))
