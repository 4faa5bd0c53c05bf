use Rattle.std.proofs.Common.{[], ◌∷◌, ◌++◌, ◌∙◌, ap, refl, List, ℕ}
use Rattle.chain_world.specs.declared.link.Link.{Link}
use Rattle.chain_world.specs.Links.{octets_on, gone_from}
use Rattle.chain_world.proofs.Stored.{begun_octets, begun_gone}
use Rattle.chain_world.proofs.link.begin.Goals as goal

pub returns-clause-ok : goal.returns-clause-ok
returns-clause-ok c = λ a b.
    ap (λ (ls : List Link). octets_on ls a b) c.in_ok-push-2.ensures.items
    ∙ begun_octets c.args.links.now.items _ c.args.from c.args.to c.args.message c.requires refl refl (c.in_ok-push.ensures.items
    ∙ ap (λ (os : List (List ℕ)). os ++ c.args.message ∷ []) c.new-octets.ensures.items) a b

pub returns-clause-gone : goal.returns-clause-gone
returns-clause-gone c = λ a b.
    ap (λ (ls : List Link). gone_from ls a b) c.in_ok-push-2.ensures.items
    ∙ begun_gone c.args.links.now.items _ c.args.from c.args.to c.requires refl refl refl a b
