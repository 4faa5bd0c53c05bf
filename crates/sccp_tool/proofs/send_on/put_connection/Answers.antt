use Rattle.std.proofs.Common.{◌≡◌, ◌++◌, OnOk, ◌∙◌, ap, subst}
use Rattle.sccp_tool.specs.SendOn.{connection_line, first_line, type_line}
use Rattle.sccp_tool.proofs.SendOnLemmas.{connection_shown}
use Rattle.sccp_tool.proofs.send_on.put_connection.Goals as goal

pub returns : goal.returns
returns c m is e =
    let line : type_line c.first_line.result.now ≡ connection_line m =
    ap type_line (c.first_line.ensures ∙ ap first_line (c.as_slice.ensures ∙ c.in_ok-shown.ensures))
    ∙ connection_shown c.args.octets.now m is e in
    subst (λ l. OnOk c.put_type.result (c.put_type.new.text ≡ c.args.text.now ++ l)) line c.put_type.ensures
