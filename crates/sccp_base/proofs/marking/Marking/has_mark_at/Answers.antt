use Rattle.std.proofs.Common.{ℕ, ◌==◌, sym, ◌∙◌, ap, subst, refl, length}
use Rattle.std.specs.List.{list_any}
use Rattle.std.proofs.lemmas.Option.{slice_get_read}
use Rattle.sccp_base.specs.Marks.{is_at, IsAscending}
use Rattle.sccp_base.proofs.MarkPoints.{held_at, next_at, none_at}
use Rattle.sccp_base.proofs.marking.Marking.has_mark_at.Goals as goal

pub returns-in-Ok : goal.returns-in-Ok
returns-in-Ok c =
    sym (held_at c.marks-held.result.now c.args.point c.in-Ok.field-0 c.in-Ok.ensures)
    ∙ ap (list_any (is_at c.args.point)) c.marks-held.ensures.marks

pub returns-in-Some : goal.returns-in-Some
returns-in-Some c =
    let held = c.marks-held.result.now in
    let there = slice_get_read held (length held) c.in-Err.place c.in-Some.mark.now refl c.in-Some.ensures.lookup.3.0
    c.in-Some.ensures.lookup.1 in
    c.eq.ensures ∙ ap (λ (n : ℕ). n == c.args.point) c.point.ensures
    ∙ sym (next_at held c.args.point c.in-Err.place c.in-Some.mark.now
    (subst IsAscending (sym c.marks-held.ensures.marks) c.marks-held.ensures.ascending) c.in-Err.ensures there)
    ∙ ap (list_any (is_at c.args.point)) c.marks-held.ensures.marks

pub returns-in-None : goal.returns-in-None
returns-in-None c =
    sym (none_at c.marks-held.result.now c.args.point c.in-Err.place c.in-Err.ensures c.in-None.ensures.lookup.3)
    ∙ ap (list_any (is_at c.args.point)) c.marks-held.ensures.marks
