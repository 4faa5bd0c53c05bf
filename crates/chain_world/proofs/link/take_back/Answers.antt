use Rattle.std.proofs.Common.{◌≡◌, [], ap, sym, ◌∙◌, List, position, Some}
use Rattle.chain_world.specs.declared.link.Link.{Link}
use Rattle.chain_world.specs.Links.{octets_on, is_link}
use Rattle.chain_world.proofs.Stored.{set_link, found_link, is_found, unset, nothing_found, no_message}
use Rattle.chain_world.proofs.link.take_back.Goals as goal

pub returns-in-Some-clause-octets : goal.returns-in-Some-clause-octets
returns-in-Some-clause-octets c = λ rest last is a b.
    let links : List Link = c.args.links.now.items in
    let d : Link = c.index_mut.result.now in
    let at : position (is_link c.args.from c.args.to) links ≡ Some c.in-Some.place = ap (position (is_link c.args.from c.args.to))
    (sym c.as_slice.ensures.value) ∙ sym c.in-Some.ensures in
    let it = is_found links c.in-Some.place d c.drop_last.new.link c.args.from c.args.to at (c.drop_last.ensures.from
    ∙ ap (λ (l : Link). l.from) c.index_mut.ensures.value) (c.drop_last.ensures.to
    ∙ ap (λ (l : Link). l.to) c.index_mut.ensures.value) in
    let before : octets_on links c.args.from c.args.to ≡ d.octets.items =
    found_link (λ (l : Link). l.octets.items) [] links c.in-Some.place d c.args.from c.args.to at
    ∙ ap (λ (l : Link). l.octets.items) (sym c.index_mut.ensures.value) in
    set_link (λ (l : Link). l.octets.items) [] links c.in-Some.place c.drop_last.new.link c.args.from c.args.to rest at it
    (c.drop_last.ensures.octets rest last (sym before ∙ is)) a b

pub returns-in-Some-clause-gone : goal.returns-in-Some-clause-gone
returns-in-Some-clause-gone c =
    let links : List Link = c.args.links.now.items in
    let d : Link = c.index_mut.result.now in
    let at : position (is_link c.args.from c.args.to) links ≡ Some c.in-Some.place = ap (position (is_link c.args.from c.args.to))
    (sym c.as_slice.ensures.value) ∙ sym c.in-Some.ensures in
    let it = is_found links c.in-Some.place d c.drop_last.new.link c.args.from c.args.to at (c.drop_last.ensures.from
    ∙ ap (λ (l : Link). l.from) c.index_mut.ensures.value) (c.drop_last.ensures.to
    ∙ ap (λ (l : Link). l.to) c.index_mut.ensures.value) in
    unset (λ (l : Link). l.gone) 0 links c.in-Some.place c.drop_last.new.link c.args.from c.args.to at it
    (c.drop_last.ensures.gone ∙ sym (found_link (λ (l : Link). l.gone) 0 links c.in-Some.place d c.args.from c.args.to at
    ∙ ap (λ (l : Link). l.gone) (sym c.index_mut.ensures.value)))

pub returns-in_default-clause-octets : goal.returns-in_default-clause-octets
returns-in_default-clause-octets c = λ rest last is a b.
    let none = ap (position (is_link c.args.from c.args.to)) (sym c.as_slice.ensures.value) ∙ sym c.place_of.ensures ∙ c.in_default.is in
    absurd (no_message rest last (sym (nothing_found (λ (l : Link). l.octets.items) [] c.args.links.now.items c.args.from c.args.to none)
    ∙ is))
