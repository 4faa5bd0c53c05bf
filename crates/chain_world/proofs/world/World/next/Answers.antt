use Rattle.std.proofs.Common.{◌≡◌, List, Option, Some, None, IfSome, IfNone, refl, ap, sym, subst, ◌∙◌}
use Rattle.couple_chain.specs.Line.{IsSettled}
use Rattle.couple_chain.specs.World.{IsNextLink}
use Rattle.chain_world.specs.declared.link.Link.{Link}
use Rattle.chain_world.specs.Kept.{Kept, world_of}
use Rattle.chain_world.specs.Running.{best_of}
use Rattle.chain_world.proofs.Asked.{next_by, none_next, settled_none}
use Rattle.chain_world.proofs.world.World.next.Goals as goal

if_some : {A : Type 0} {P : A → Type 0} (o : Option A) → ((x : A) → o ≡ Some x → P x) → IfSome o P
if_some None f = tt
if_some (Some x) f = f x refl

if_none : {A : Type 0} {P : Type 0} (o : Option A) → (o ≡ None → P) → IfNone o P
if_none None f = f refl
if_none (Some x) f = tt

found : (c : goal.After-least) → c.least.result ≡ best_of c.self.inside.links.items None c.self.inside.links.items
found c = c.least.ensures ∙ ap (λ (ls : List Link). best_of ls None ls) c.as_slice.ensures.value

pub returns-clause-some : goal.returns-clause-some
returns-clause-some c =
    if_some c.least.result
    (λ p e. subst (λ (k : Kept). IsNextLink (world_of k) p.0 p.1) c.self.view_is
    (next_by c.self.inside.plan c.self.inside.relays.items c.self.inside.links.items c.self.inside.history.items c.self.invariant p
    (sym (found c) ∙ e)))

pub returns-clause-none : goal.returns-clause-none
returns-clause-none c =
    if_none c.least.result
    (λ e. subst (λ (k : Kept). IsSettled (world_of k)) c.self.view_is
    (none_next c.self.inside.plan c.self.inside.relays.items c.self.inside.links.items c.self.inside.history.items c.self.invariant
    (sym (found c) ∙ e)))

pub returns-clause-settled : goal.returns-clause-settled
returns-clause-settled c = λ settled.
    found c ∙ settled_none c.self.inside.plan c.self.inside.relays.items c.self.inside.links.items c.self.inside.history.items
    c.self.invariant (subst (λ (k : Kept). IsSettled (world_of k)) (sym c.self.view_is) settled)
