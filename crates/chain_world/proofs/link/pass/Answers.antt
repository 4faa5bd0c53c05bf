use Rattle.std.proofs.Common.{◌≡◌, [], ◌+◌, ap, sym, subst, ◌∙◌, List, ℕ, position, Some, ◌<◌, length, arith}
use Rattle.chain_world.specs.declared.link.Link.{Link}
use Rattle.chain_world.specs.Links.{octets_on, gone_from, is_link}
use Rattle.chain_world.proofs.Stored.{set_link, found_link, is_found, unset, nothing_found}
use Rattle.chain_world.proofs.link.pass.Goals as goal

pub pass_one-requires : goal.pass_one-requires
pass_one-requires c =
    let links : List Link = c.args.links.now.items in
    let d : Link = c.index_mut.result.now in
    let at : position (is_link c.args.from c.args.to) links ≡ Some c.in-Some.place = ap (position (is_link c.args.from c.args.to))
    (sym c.as_slice.ensures.value) ∙ sym c.in-Some.ensures in
    let octets : octets_on links c.args.from c.args.to ≡ d.octets.items =
    found_link (λ (l : Link). l.octets.items) [] links c.in-Some.place d c.args.from c.args.to at
    ∙ ap (λ (l : Link). l.octets.items) (sym c.index_mut.ensures.value) in
    let gone : gone_from links c.args.from c.args.to ≡ d.gone =
    found_link (λ (l : Link). l.gone) 0 links c.in-Some.place d c.args.from c.args.to at
    ∙ ap (λ (l : Link). l.gone) (sym c.index_mut.ensures.value) in
    subst (λ (n : ℕ). n < length d.octets.items) gone (subst (λ (os : List (List ℕ)). gone_from links c.args.from c.args.to
    < length os) octets c.requires)

pub returns-in-Some-clause-octets : goal.returns-in-Some-clause-octets
returns-in-Some-clause-octets c =
    let links : List Link = c.args.links.now.items in
    let d : Link = c.index_mut.result.now in
    let at : position (is_link c.args.from c.args.to) links ≡ Some c.in-Some.place = ap (position (is_link c.args.from c.args.to))
    (sym c.as_slice.ensures.value) ∙ sym c.in-Some.ensures in
    let it = is_found links c.in-Some.place d c.pass_one.new.link c.args.from c.args.to at (c.pass_one.ensures.from
    ∙ ap (λ (l : Link). l.from) c.index_mut.ensures.value) (c.pass_one.ensures.to
    ∙ ap (λ (l : Link). l.to) c.index_mut.ensures.value) in
    unset (λ (l : Link). l.octets.items) [] links c.in-Some.place c.pass_one.new.link c.args.from c.args.to at it
    (c.pass_one.ensures.octets ∙ sym (found_link (λ (l : Link). l.octets.items) [] links c.in-Some.place d c.args.from c.args.to at
    ∙ ap (λ (l : Link). l.octets.items) (sym c.index_mut.ensures.value)))

pub returns-in-Some-clause-gone : goal.returns-in-Some-clause-gone
returns-in-Some-clause-gone c =
    let links : List Link = c.args.links.now.items in
    let d : Link = c.index_mut.result.now in
    let at : position (is_link c.args.from c.args.to) links ≡ Some c.in-Some.place = ap (position (is_link c.args.from c.args.to))
    (sym c.as_slice.ensures.value) ∙ sym c.in-Some.ensures in
    let it = is_found links c.in-Some.place d c.pass_one.new.link c.args.from c.args.to at (c.pass_one.ensures.from
    ∙ ap (λ (l : Link). l.from) c.index_mut.ensures.value) (c.pass_one.ensures.to
    ∙ ap (λ (l : Link). l.to) c.index_mut.ensures.value) in
    set_link (λ (l : Link). l.gone) 0 links c.in-Some.place c.pass_one.new.link c.args.from c.args.to
    (gone_from links c.args.from c.args.to + 1) at it
    (c.pass_one.ensures.gone ∙ ap (λ (n : ℕ). n + 1) (sym
    (found_link (λ (l : Link). l.gone) 0 links c.in-Some.place d c.args.from c.args.to at
    ∙ ap (λ (l : Link). l.gone) (sym c.index_mut.ensures.value))))

pub returns-in_default-clause-gone : goal.returns-in_default-clause-gone
returns-in_default-clause-gone c =
    let none = ap (position (is_link c.args.from c.args.to)) (sym c.as_slice.ensures.value) ∙ sym c.place_of.ensures ∙ c.in_default.is in
    let empty = ap length (nothing_found (λ (l : Link). l.octets.items) [] c.args.links.now.items c.args.from c.args.to none) in
    absurd (let some = c.requires in omega arith)
