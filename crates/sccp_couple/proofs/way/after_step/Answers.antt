use Rattle.std.proofs.Common.{ℕ, ◌≤◌, ◌∙◌, sym, ap, subst, length, Option}
use Rattle.std.specs.Prelude.{IsSomeAnd}
use Rattle.sccp_address.specs.declared.address.Address.{Address}
use Rattle.sccp_address.specs.Written.{written}
use Rattle.plan_model.specs.declared.hop.Step.{Step}
use Rattle.sccp_scrc.specs.Next.{onward_address}
use Rattle.sccp_couple.proofs.Counting.{place_room}
use Rattle.sccp_couple.proofs.way.after_step.Goals as goal

pub onward-requires-in-Ended-clause-called : goal.onward-requires-in-Ended-clause-called
onward-requires-in-Ended-clause-called c =
    subst (λ (o : Option Address). IsSomeAnd o (λ a. length (written a) ≤ 21))
    (sym (c.onward_address-in-Ended.ensures ∙ ap (λ (s : Step). onward_address s c.args.request.now.called.now) c.in-Ended.is))
    (place_room c.args.request.now.called.now c.args.control.now.node c.in-Ended.ssn c.args.spot.now c.requires.spot
    (subst (λ (n : ℕ). n ≤ 32) c.len-count-in-Ended.ensures.value c.len-count-in-Ended.ensures.limit))
