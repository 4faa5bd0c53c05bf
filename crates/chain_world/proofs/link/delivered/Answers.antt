use Rattle.std.proofs.Common.{◌≡◌, [], List, ℕ, ap, sym, ◌∙◌, position, Some, take}
use Rattle.chain_world.specs.declared.link.Link.{Link}
use Rattle.chain_world.specs.Links.{octets_on, gone_from, is_link}
use Rattle.chain_world.proofs.Stored.{found_link, nothing_found}
use Rattle.chain_world.proofs.link.delivered.Goals as goal

pub returns-in-Some : goal.returns-in-Some
returns-in-Some c =
    let links : List Link = c.args.links.now in
    let d : Link = c.index-links-place.result in
    let at : position (is_link c.args.from c.args.to) links ≡ Some c.in-Some.place = sym c.place_of.ensures ∙ c.in-Some.is in
    let octets : octets_on links c.args.from c.args.to ≡ d.octets.items =
    found_link (λ (l : Link). l.octets.items) [] links c.in-Some.place d c.args.from c.args.to at
    ∙ ap (λ (l : Link). l.octets.items) (sym c.index-links-place.is) in
    let gone : gone_from links c.args.from c.args.to ≡ d.gone =
    found_link (λ (l : Link). l.gone) 0 links c.in-Some.place d c.args.from c.args.to at
    ∙ ap (λ (l : Link). l.gone) (sym c.index-links-place.is) in
    c.gone_of.ensures ∙ sym (ap (λ (n : ℕ). take n d.octets.items) gone)
    ∙ sym (ap (λ (os : List (List ℕ)). take (gone_from links c.args.from c.args.to) os) octets)

pub returns-in-None : goal.returns-in-None
returns-in-None c =
    let none = sym c.place_of.ensures ∙ c.in-None.is in
    sym
    (ap (λ (os : List (List ℕ)). take (gone_from c.args.links.now c.args.from c.args.to) os)
    (nothing_found (λ (l : Link). l.octets.items) [] c.args.links.now c.args.from c.args.to none)
    ∙ ap (λ (n : ℕ). take {A = List ℕ} n []) (nothing_found (λ (l : Link). l.gone) 0 c.args.links.now c.args.from c.args.to none))
