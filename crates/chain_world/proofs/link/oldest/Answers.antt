use Rattle.std.proofs.Common.{◌≡◌, [], List, ℕ, ap, sym, ◌∙◌, position, Some, slice_get}
use Rattle.std.specs.Option.{option_copied}
use Rattle.chain_world.specs.declared.link.Link.{Link}
use Rattle.chain_world.specs.Links.{octets_on, gone_from, is_link}
use Rattle.chain_world.proofs.Stored.{found_link, nothing_found}
use Rattle.chain_world.proofs.link.oldest.Goals as goal

pub returns-in_err-place : goal.returns-in_err-place
returns-in_err-place c =
    ap option_copied c.from_residual.ensures
    ∙ sym (ap (λ (os : List (List ℕ)). slice_get os (gone_from c.args.links.now c.args.from c.args.to))
    (nothing_found (λ (l : Link). l.octets.items) [] c.args.links.now c.args.from c.args.to (sym c.place_of.ensures
    ∙ c.in_err-place.was)))

pub returns : goal.returns
returns c =
    let links : List Link = c.args.links.now in
    let d : Link = c.index-links-place.result in
    let at : position (is_link c.args.from c.args.to) links ≡ Some c.in_ok-place.place = sym c.place_of.ensures ∙ c.in_ok-place.was in
    let octets : octets_on links c.args.from c.args.to ≡ d.octets.items =
    found_link (λ (l : Link). l.octets.items) [] links c.in_ok-place.place d c.args.from c.args.to at
    ∙ ap (λ (l : Link). l.octets.items) (sym c.index-links-place.is) in
    let gone : gone_from links c.args.from c.args.to ≡ d.gone =
    found_link (λ (l : Link). l.gone) 0 links c.in_ok-place.place d c.args.from c.args.to at
    ∙ ap (λ (l : Link). l.gone) (sym c.index-links-place.is) in
    let here : option_copied c.message_at.result ≡ slice_get d.octets.items d.gone = c.message_at.ensures
    ∙ ap (λ (os : List (List ℕ)). slice_get os d.gone) c.as_slice.ensures.value in
    here ∙ sym (ap (λ (n : ℕ). slice_get d.octets.items n) gone)
    ∙ sym (ap (λ (os : List (List ℕ)). slice_get os (gone_from links c.args.from c.args.to)) octets)
