use Rattle.std.proofs.Common.{◌≡◌, ◌∙◌, ℕ, List, Result, Ok, Err, ap, subst}
use Rattle.std.specs.Bool.{MatchBool}
use Rattle.std.specs.Prelude.{⊤, if◌then◌else◌}
use Rattle.std.proofs.lemmas.Result.{err_from_is_err_and}
use Rattle.sccp_base.specs.Answers.{◌>>=◌}
use Rattle.sccp_base.specs.Bits.{bit, bits}
use Rattle.sccp_address.specs.declared.address.Address.{Address}
use Rattle.sccp_address.specs.declared.address.Title.{Title}
use Rattle.sccp_address.specs.declared.fault.AddressFault.{AddressFault}
use Rattle.sccp_address.specs.Faults.{is_memory}
use Rattle.sccp_address.specs.Reading.{field_at, point_code, first_of, title_at}
use Rattle.sccp_address.proofs.Steps.{fails, fails_behind}
use Rattle.sccp_address.proofs.reading.behind_pc.Goals as goal

abbrev made : ℕ → List ℕ → List ℕ → Title → Result Address AddressFault
made i pc ssn title = Ok (record { national = bit i 8; by_ssn = bit i 7; pc = point_code pc; ssn = first_of ssn; title = title })

abbrev behind : ℕ → List ℕ → List ℕ × List ℕ → Result Address AddressFault
behind i pc ssn = title_at (bits i 3 6) ssn.1 >>= λ title. made i pc ssn.0 title

pub returns-in_err-ssn : goal.returns-in_err-ssn
returns-in_err-ssn c =
    let p = err_from_is_err_and c.from_residual.result c.from_residual.ensures.1 in
    rw (p.1, p.2) (fails (is_memory c.in_err-ssn.field-0.0) c.in_err-ssn.field-0.0
    (field_at (if bit c.args.indicator 2 then 1 else 0) c.args.octets.now) (behind c.args.indicator c.args.pc.now) c.in_err-ssn.ensures)

pub returns-in_err-title : goal.returns-in_err-title
returns-in_err-title c =
    let p = err_from_is_err_and c.from_residual-in_err-title.result c.from_residual-in_err-title.ensures.1 in
    let fault : AddressFault = c.in_err-title.field-0.0 in
    let title : MatchBool (is_memory fault) ⊤ (title_at (bits c.args.indicator 3 6) c.in_ok-ssn.rest.now ≡ Err fault) =
    subst (λ (kind : ℕ). MatchBool (is_memory fault) ⊤ (title_at kind c.in_ok-ssn.rest.now
    ≡ Err fault)) c.kind_of.ensures c.in_err-title.ensures in
    rw (p.1, p.2) (
    fails_behind (is_memory fault) fault (field_at (if bit c.args.indicator 2 then 1 else 0) c.args.octets.now)
    (c.in_ok-ssn.ssn.now, c.in_ok-ssn.rest.now) (behind c.args.indicator c.args.pc.now) c.in_ok-ssn.ensures
    (fails (is_memory fault) fault (title_at (bits c.args.indicator 3 6) c.in_ok-ssn.rest.now)
    (made c.args.indicator c.args.pc.now c.in_ok-ssn.ssn.now) title)
    )

pub returns : goal.returns
returns c =
    let title : title_at (bits c.args.indicator 3 6) c.in_ok-ssn.rest.now ≡ Ok c.in_ok-title.title =
    subst (λ (kind : ℕ). title_at kind c.in_ok-ssn.rest.now ≡ Ok c.in_ok-title.title) c.kind_of.ensures c.in_ok-title.ensures in
    rw (c.is_set.ensures, c.is_set-2.ensures, c.pc_of.ensures, c.ssn_of.ensures) (
    ap (λ (r : Result (List ℕ × List ℕ) AddressFault). r >>= behind c.args.indicator c.args.pc.now) c.in_ok-ssn.ensures
    ∙ ap (λ (r : Result Title AddressFault). r >>= made c.args.indicator c.args.pc.now c.in_ok-ssn.ssn.now) title
    )
