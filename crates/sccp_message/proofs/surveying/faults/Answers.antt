use Rattle.std.proofs.Common.{◌≡◌, ◌++◌, ◌∷◌, [], ap, sym, ◌∙◌, zero-add}
use Rattle.std.proofs.lemmas.List.FromFn.{map-range_with_len_more}
use Rattle.sccp_message.specs.Survey.{fault_of_cut}
use Rattle.sccp_message.proofs.surveying.faults.Goals as goal

pub loop-n-preserved : goal.loop-n-preserved
loop-n-preserved c =
    let f = fault_of_cut c.args.octets.now in
    let here : c.in_ok-fault_of.field-0 ≡ f c.loop-n.n = c.in_ok-fault_of.ensures in
    c.in_ok-push.ensures.ok
    ∙ ap (λ fault. c.loop-n.faults ++ fault ∷ []) here
    ∙ ap (λ faults. faults ++ f c.loop-n.n ∷ []) c.loop-n.invariant
    ∙ sym (map-range_with_len_more f 0 c.loop-n.n c.loop-n.n (zero-add c.loop-n.n))
