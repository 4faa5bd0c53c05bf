use Rattle.std.proofs.Common.{rules, ◌≡◌, false, List, ◌∙◌, ap, sym}
use Rattle.couple_chain.specs.declared.happening.Happening.{Happening}
use Rattle.chain_world.specs.Kept.{kept, network_of, world_of}
use Rattle.chain_world.specs.Offering.{fault_of}
use Rattle.chain_call.proofs.Offered.{accepted, refused}
use Rattle.chain_call.proofs.course.put.Goals as goal

pub returns-in-Ok : goal.returns-in-Ok
returns-in-Ok c =
    let w = c.args.world.now in
    c.in-Ok.ensures.ok
    ∙ ap (λ (h : List Happening). kept w.plan h) (accepted
    (fault_of (network_of w.plan)
    (world_of w) c.args.from c.args.to c.args.message.now) c.args.from c.args.to c.args.message.now w.history c.in-Ok.ensures.answer)

pub returns-else-is_memory : goal.returns-else-is_memory
returns-else-is_memory c =
    let w = c.args.world.now in
    let other : c.is_memory.result ≡ false = search rules in
    c.in-Err.ensures.err
    ∙ ap (λ (h : List Happening). kept w.plan h) (refused
    (fault_of (network_of w.plan)
    (world_of w) c.args.from c.args.to c.args.message.now) c.in-Err.fault c.args.from c.args.to c.args.message.now w.history
    c.in-Err.ensures.answer (sym c.is_memory.ensures ∙ other))
