use Rattle.std.proofs.Common.{◌≡◌, [], ◌∷◌, ◌++◌, OnOk, OnErr, Result, Ok, Err, ap, sym, ◌∙◌, List, ℕ, position, Some}
use Rattle.chain_world.specs.declared.link.Link.{Link}
use Rattle.chain_world.specs.Links.{octets_on, is_link}
use Rattle.chain_world.proofs.Stored.{set_link, found_link, is_found, unset}
use Rattle.chain_world.proofs.link.put.Goals as goal

on_ok : {A E : Type 0} {P Q : Type 0} (r : Result A E) → (P → Q) → OnOk r P → OnOk r Q
on_ok (Ok x) f p = f p
on_ok (Err e) f p = p

on_err : {A E : Type 0} {P Q : Type 0} (r : Result A E) → (P → Q) → OnErr r P → OnErr r Q
on_err (Ok x) f p = p
on_err (Err e) f p = f p

pub returns-in-Some-clause-ok : goal.returns-in-Some-clause-ok
returns-in-Some-clause-ok c =
    let links : List Link = c.args.links.now.items in
    let d : Link = c.index_mut.result.now in
    let at : position (is_link c.args.from c.args.to) links ≡ Some c.in-Some.place = ap (position (is_link c.args.from c.args.to))
    (sym c.as_slice.ensures.value) ∙ sym c.in-Some.ensures in
    let it = is_found links c.in-Some.place d c.put_on.new.link c.args.from c.args.to at (c.put_on.ensures.from
    ∙ ap (λ (l : Link). l.from) c.index_mut.ensures.value) (c.put_on.ensures.to ∙ ap (λ (l : Link). l.to) c.index_mut.ensures.value) in
    let before : octets_on links c.args.from c.args.to ≡ d.octets.items =
    found_link (λ (l : Link). l.octets.items) [] links c.in-Some.place d c.args.from c.args.to at
    ∙ ap (λ (l : Link). l.octets.items) (sym c.index_mut.ensures.value) in
    on_ok c.put_on.result
    (λ pushed. set_link (λ (l : Link). l.octets.items) [] links c.in-Some.place c.put_on.new.link c.args.from c.args.to
    (octets_on links c.args.from c.args.to ++ c.args.octets ∷ []) at it (pushed
    ∙ ap (λ (m : List (List ℕ)). m ++ c.args.octets ∷ []) (sym before)))
    c.put_on.ensures.ok

pub returns-in-Some-clause-err : goal.returns-in-Some-clause-err
returns-in-Some-clause-err c =
    let links : List Link = c.args.links.now.items in
    let d : Link = c.index_mut.result.now in
    let at : position (is_link c.args.from c.args.to) links ≡ Some c.in-Some.place = ap (position (is_link c.args.from c.args.to))
    (sym c.as_slice.ensures.value) ∙ sym c.in-Some.ensures in
    let it = is_found links c.in-Some.place d c.put_on.new.link c.args.from c.args.to at (c.put_on.ensures.from
    ∙ ap (λ (l : Link). l.from) c.index_mut.ensures.value) (c.put_on.ensures.to ∙ ap (λ (l : Link). l.to) c.index_mut.ensures.value) in
    let before : octets_on links c.args.from c.args.to ≡ d.octets.items =
    found_link (λ (l : Link). l.octets.items) [] links c.in-Some.place d c.args.from c.args.to at
    ∙ ap (λ (l : Link). l.octets.items) (sym c.index_mut.ensures.value) in
    on_err c.put_on.result (λ kept. unset (λ (l : Link). l.octets.items)
    [] links c.in-Some.place c.put_on.new.link c.args.from c.args.to at it (kept ∙ sym before)) c.put_on.ensures.err

pub returns-in-Some-clause-gone : goal.returns-in-Some-clause-gone
returns-in-Some-clause-gone c =
    let links : List Link = c.args.links.now.items in
    let d : Link = c.index_mut.result.now in
    let at : position (is_link c.args.from c.args.to) links ≡ Some c.in-Some.place = ap (position (is_link c.args.from c.args.to))
    (sym c.as_slice.ensures.value) ∙ sym c.in-Some.ensures in
    let it = is_found links c.in-Some.place d c.put_on.new.link c.args.from c.args.to at (c.put_on.ensures.from
    ∙ ap (λ (l : Link). l.from) c.index_mut.ensures.value) (c.put_on.ensures.to ∙ ap (λ (l : Link). l.to) c.index_mut.ensures.value) in
    unset (λ (l : Link). l.gone) 0 links c.in-Some.place c.put_on.new.link c.args.from c.args.to at it
    (c.put_on.ensures.gone ∙ sym (found_link (λ (l : Link). l.gone) 0 links c.in-Some.place d c.args.from c.args.to at
    ∙ ap (λ (l : Link). l.gone) (sym c.index_mut.ensures.value)))

pub begin-requires : goal.begin-requires
begin-requires c = ap (position (is_link c.args.from c.args.to)) (sym c.as_slice.ensures.value) ∙ sym c.in-None.ensures
