use Rattle.std.proofs.Common.{◌≡◌, ◌++◌, OnOk, List, ℕ, ◌∙◌, ap, subst, append_assoc}
use Rattle.std.specs.Prelude.{codes}
use Rattle.sccp_tool.specs.SendOn.{type_line}
use Rattle.sccp_tool.proofs.send_on.put_type.Goals as goal

pub returns : goal.returns
unfolding type_line
returns c =
    let old : List ℕ = c.args.text.now in
    let name : List ℕ = c.args.name.now in
    let line : c.put-2.new.self ++ codes "\n" ≡ old ++ type_line name =
    ap (λ t. t ++ codes "\n") (c.in_ok-put-2.ensures ∙ ap (λ t. t ++ name) c.in_ok-put.ensures
    ∙ append_assoc old (codes "connection ") name)
    ∙ append_assoc old (codes "connection " ++ name) (codes "\n") in
    subst (λ t. OnOk c.put-3.result (c.put-3.new.self ≡ t)) line c.put-3.ensures
