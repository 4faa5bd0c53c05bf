use Rattle.std.proofs.Common.{◌≡◌, true, [], ◌∷◌, refl, sym, ◌∙◌, ap}
use Rattle.std.proofs.lemmas.Result.{err_from_is_err_and}
use Rattle.sccp_message.specs.Kinds.{is_plain}
use Rattle.sccp_message.specs.Messages.{message_of}
use Rattle.sccp_message.proofs.Carrying.{plain_in, plain_fits, fails, unit_made}
use Rattle.sccp_message.proofs.decoding.plain.Goals as goal

pub returns-in_err-carried : goal.returns-in_err-carried
returns-in_err-carried c =
    let is : is_plain c.args.code ≡ true = cc in
    let p = err_from_is_err_and c.from_residual.result c.from_residual.ensures.1 in
    rw (p.1, p.2, plain_in c.args.code c.args.fixed.now c.args.variable.now c.args.params is)
    (fails _ _ _ _ c.in_err-carried.ensures.addresses)

pub returns : goal.returns
returns c =
    let is : is_plain c.args.code ≡ true = cc in
    let fits = plain_fits c.args.code c.args.fixed.now c.args.variable.now c.args.params is c.requires in
    plain_in c.args.code c.args.fixed.now c.args.variable.now c.args.params is
    ∙ unit_made [] c.args.code c.args.fixed.now c.args.variable.now c.args.params c.args.params _ _ _ _ fits.1
    c.in_ok-carried.ensures.addresses c.in_ok-carried.ensures.payload refl (c.plain_of.ensures
    ∙ ap (message_of c.args.code c.args.fixed.now (c.in_ok-carried.carried.called ∷ c.in_ok-carried.carried.calling
    ∷ []) c.in_ok-carried.carried.payload) (sym fits.2))
