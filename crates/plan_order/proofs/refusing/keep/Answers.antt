use Rattle.std.specs.Prelude.{◌++◌, ◌∷◌, [], List, refl}
use Rattle.std.proofs.Common.{◌∙◌, ap}
use Rattle.std.proofs.lemmas.Result.{on_ok_weaker}
use Rattle.plan_order.specs.declared.held.Held.{Held}
use Rattle.plan_order.specs.declared.known.Known.{Known}
use Rattle.plan_order.specs.Refusing.{held_of}
use Rattle.plan_order.proofs.Fitting.{known_refusal}
use Rattle.plan_order.proofs.refusing.keep.Goals as goal

pub returns-clause-known : goal.returns-clause-known
returns-clause-known c =
    let before : Known = c.args.known.now in
    let after : Known = record { dead = before.dead; refusals = c.push.new.self; wide = before.wide } in
    on_ok_weaker c.push.result
    (λ is. known_refusal c.args.plans.now.old.now c.args.plans.now.new.now before after (held_of c.args.hops.now)
    (is ∙ ap (λ (refusal : List Held). before.refusals ++ refusal ∷ []) c.in_ok-refusal.ensures) refl refl c.requires.refuses
    c.requires.known) c.push.ensures.ok
