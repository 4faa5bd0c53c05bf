use Rattle.std.proofs.Common.{ℕ, ◌≡◌, Some, length, sym, subst, refl}
use Rattle.std.proofs.lemmas.Bool.{eqb-true, ltb-true}
use Rattle.std.proofs.lemmas.Option.{slice_get_read}
use Rattle.sccp_couple.specs.Sections.{section_at}
use Rattle.sccp_couple.proofs.Lookups.{at_place}
use Rattle.sccp_couple.proofs.finding.section_here.Goals as goal

pub returns-then-eq : goal.returns-then-eq
returns-then-eq c =
    let xs = c.args.sections.now in
    let s = c.in_ok-section.field-0.now in
    let at = c.in_ok-section.ensures.lookup in
    let read = slice_get_read xs (length xs) c.args.place s refl (ltb-true c.args.place (length xs) (sym at.0)) at.1 in
    subst (λ (n : ℕ). section_at xs n ≡ Some s) (eqb-true s.own c.args.own (sym c.if-eq.ensures))
    (at_place xs c.args.place s c.requires read)
