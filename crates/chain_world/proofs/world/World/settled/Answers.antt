use Rattle.std.proofs.Common.{◌≡◌, Bool, true, ap, sym, subst, ◌∙◌, List}
use Rattle.std.specs.Prelude.{◌↔◌, not}
use Rattle.std.specs.List.{list_all}
use Rattle.couple_chain.specs.Line.{IsSettled}
use Rattle.chain_world.specs.declared.link.Link.{Link}
use Rattle.chain_world.specs.Kept.{Kept, world_of}
use Rattle.chain_world.specs.Running.{holds_on}
use Rattle.chain_world.proofs.Asked.{settled_by}
use Rattle.chain_world.proofs.world.World.settled.Goals as goal

pub returns : goal.returns
returns c =
    subst (λ (b : Bool). (b ≡ true) ↔ IsSettled (world_of c.args.self.now))
    (sym (c.are_idle.ensures ∙ ap (λ (ls : List Link). list_all (λ l. not (holds_on ls l)) ls) c.as_slice.ensures.value))
    (subst (λ (k : Kept). (list_all (λ l. not (holds_on c.self.inside.links.items l)) c.self.inside.links.items ≡ true)
    ↔ IsSettled (world_of k)) c.self.view_is
    (settled_by c.self.inside.plan c.self.inside.relays.items c.self.inside.links.items c.self.inside.history.items c.self.invariant))
