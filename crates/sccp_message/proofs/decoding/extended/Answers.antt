use Rattle.std.proofs.Common.{◌≡◌, true, [], ◌∷◌, sym, ◌∙◌}
use Rattle.std.proofs.lemmas.Result.{err_from_is_err_and}
use Rattle.sccp_message.specs.Kinds.{is_extended}
use Rattle.sccp_message.proofs.Carrying.{extended_in, extended_fits, fails, unit_made}
use Rattle.sccp_message.proofs.decoding.extended.Goals as goal

pub returns-in_err-carried : goal.returns-in_err-carried
returns-in_err-carried c =
    let is : is_extended c.args.code ≡ true = cc in
    let p = err_from_is_err_and c.from_residual.result c.from_residual.ensures.1 in
    rw (p.1, p.2, extended_in c.args.code c.args.fixed.now c.args.variable.now c.args.params is)
    (fails _ _ _ _ c.in_err-carried.ensures.addresses)

pub returns-in_err-carried-2 : goal.returns-in_err-carried-2
returns-in_err-carried-2 c =
    let is : is_extended c.args.code ≡ true = cc in
    let p = err_from_is_err_and c.from_residual-in_err-carried-2.result c.from_residual-in_err-carried-2.ensures.1 in
    rw (p.1, p.2, extended_in c.args.code c.args.fixed.now c.args.variable.now c.args.params is, c.in_ok-carried.ensures.addresses)
    (fails _ _ _ _ c.in_err-carried-2.ensures.params)

pub returns : goal.returns
returns c =
    let is : is_extended c.args.code ≡ true = cc in
    let fits = extended_fits c.args.code c.args.fixed.now c.args.variable.now c.args.params is c.requires in
    let same : c.in_ok-carried-2.carried ≡ c.in_ok-carried.carried = c.in_ok-carried-2.ensures.carried in
    extended_in c.args.code c.args.fixed.now c.args.variable.now c.args.params is
    ∙ unit_made (0x10 ∷ 0x12 ∷ []) c.args.code c.args.fixed.now c.args.variable.now c.args.params c.in_ok-carried-2.params _ _ _ _
    fits.1 c.in_ok-carried.ensures.addresses c.in_ok-carried.ensures.payload c.in_ok-carried-2.ensures.params
    (rw (sym same) c.extended_of.ensures)
