use Rattle.std.proofs.Common.{◌≤◌, All, map, sum, length, ap, sym, subst, ◌∙◌, List, arith}
use Rattle.couple_chain.specs.Relays.{Relaying}
use Rattle.chain_world.specs.Kept.{Kept, network_of, world_of}
use Rattle.chain_world.specs.Running.{sections_of}
use Rattle.chain_world.proofs.Asked.{sections_by, few_sections}
use Rattle.chain_world.proofs.world.World.sections.Goals as goal

pub returns : goal.returns
returns c =
    c.sections_in.ensures
    ∙ ap (λ (rs : List Relaying). sum (map (λ (r : Relaying). length r.sections) rs)) c.as_slice.ensures.value
    ∙ sections_by c.self.inside.plan c.self.inside.relays.items c.self.inside.links.items c.self.inside.history.items c.self.invariant
    ∙ ap (λ (k : Kept). sections_of (network_of k.plan) (world_of k)) c.self.view_is

pub sections_in-requires-clause-few : goal.sections_in-requires-clause-few
sections_in-requires-clause-few c =
    let a = c.self.invariant.count in
    let b = c.self.invariant.is_plan.node_places in
    let d = ap length c.as_slice.ensures.value in
    omega (arith, a, b, d)

pub sections_in-requires-clause-each : goal.sections_in-requires-clause-each
sections_in-requires-clause-each c =
    subst (All (λ (r : Relaying). length r.sections ≤ 4096)) (sym c.as_slice.ensures.value)
    (few_sections c.self.inside.plan c.self.inside.relays.items c.self.inside.links.items c.self.inside.history.items c.self.invariant)
