use Rattle.std.proofs.Common.{◌≡◌, ◌∙◌, ap, sym, subst, Option, IfSome, List, ℕ, slice_get}
use Rattle.sccp_message.specs.declared.message.Message.{Message}
use Rattle.sccp_message.specs.Reading.{reading}
use Rattle.sccp_couple.specs.Sending.{HasShortParts}
use Rattle.couple_chain.specs.World.{after}
use Rattle.chain_world.specs.declared.link.Link.{Link}
use Rattle.chain_world.specs.Kept.{Kept, network_of, world_of}
use Rattle.chain_world.specs.Links.{octets_on, gone_from}
use Rattle.chain_world.specs.Offering.{if_read}
use Rattle.chain_world.specs.Running.{oldest_of}
use Rattle.chain_world.proofs.Happens.{IsOldest, oldest_there}
use Rattle.chain_world.proofs.Values.{ok_then}
use Rattle.chain_world.proofs.world.World.oldest.Goals as goal

there : (c : goal.After-read) → IsOldest ((world_of c.args.self.now).waiting c.args.from c.args.to) c.as_slice-in-Some.result.now
there c =
    subst (λ (k : Kept). IsOldest ((world_of k).waiting c.args.from c.args.to) c.as_slice-in-Some.result.now) c.self.view_is
    (subst (IsOldest ((after (network_of c.self.inside.plan) c.self.inside.history.items).waiting c.args.from c.args.to))
    (sym c.as_slice-in-Some.ensures)
    (oldest_there c.self.inside.plan c.self.inside.relays.items c.self.inside.links.items c.self.inside.history.items c.args.from
    c.args.to c.in-Some.octets.now c.self.invariant
    (ap (λ (links : List Link). slice_get (octets_on links c.args.from c.args.to) (gone_from links c.args.from c.args.to))
    (sym c.as_slice.ensures.value) ∙ sym c.in-Some.ensures)))

some_is : (waiting : List Message) (octets : List ℕ) (m : Option Message) → IsOldest waiting octets → m ≡ if_read (reading octets)
    → m ≡ oldest_of waiting
some_is waiting octets m is e = e ∙ ap if_read is.reads ∙ sym (ap oldest_of is.waiting_is)

some_short : (waiting : List Message) (octets : List ℕ) (m : Option Message) → IsOldest waiting octets → m ≡ if_read (reading octets)
    → IfSome m HasShortParts
some_short waiting octets m is e = subst (λ (o : Option Message). IfSome o HasShortParts) (sym (e ∙ ap if_read is.reads)) is.fit.short

pub returns-in-Some-clause-value : goal.returns-in-Some-clause-value
returns-in-Some-clause-value c = ok_then c.read.result (λ m e. some_is
    ((world_of c.args.self.now).waiting c.args.from c.args.to) c.as_slice-in-Some.result.now m (there c) e) c.read.ensures.value

pub returns-in-Some-clause-short : goal.returns-in-Some-clause-short
returns-in-Some-clause-short c = ok_then c.read.result (λ m e. some_short
    ((world_of c.args.self.now).waiting c.args.from c.args.to) c.as_slice-in-Some.result.now m (there c) e) c.read.ensures.value
