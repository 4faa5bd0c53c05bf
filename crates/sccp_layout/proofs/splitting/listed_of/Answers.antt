use Rattle.std.proofs.Common.{◌≡◌, ◌++◌, ◌∷◌, [], ◌-◌, ◌+◌, length, get_or, ap, refl, sym, ◌∙◌, arith, Some, false}
use Rattle.std.specs.Option.{option_copied}
use Rattle.sccp_layout.specs.Parameter.{parameter}
use Rattle.sccp_layout.specs.Places.{contents, listed_below, listed}
use Rattle.sccp_layout.proofs.Listed.{past_end, at_end, goes_on, is_none, is_some}
use Rattle.sccp_layout.proofs.splitting.listed_of.Goals as goal

pub returns-then-octets-place : goal.returns-then-octets-place
returns-then-octets-place c =
    let b = c.args.octets.now in
    rw (is_none c.loop.params (listed_below (length b - c.loop.counter) b c.loop.place) (listed b c.args.at) c.loop.invariant
    (past_end (length b - c.loop.counter) b c.loop.place c.if-octets-place.true)) refl

pub returns-then-name-eq0 : goal.returns-then-name-eq0
returns-then-name-eq0 c =
    let b = c.args.octets.now in
    rw (is_some c.loop.params (listed_below (length b - c.loop.counter) b c.loop.place) (listed b c.args.at) c.loop.invariant
    (at_end (length b - c.loop.counter) b c.loop.place (omega arith) c.if-octets-place.false c.if-name-eq0.true)) refl

pub loop-preserved : goal.loop-preserved
loop-preserved c =
    let b = c.args.octets.now in
    let name = get_or b c.loop.place 0 in
    let octets = c.in_ok-contents.contents.now in
    let read : contents false b (c.loop.place + 1) ≡ Some octets = sym c.contents_of.ensures
    ∙ ap option_copied c.in_ok-contents.ensures.ok_part in
    let made = rw c.unwrap.ensures at c.new.ensures in
    let copied = c.from_vec-copy.ensures ∙ c.in_ok-from_slice.ensures.items in
    let pushed : c.push.new.self ≡ c.loop.params ++ parameter name octets ∷ [] =
    c.in_ok-push.ensures.ok ∙ ap (λ p. c.loop.params ++ p ∷ []) (made.1 ∙ ap (parameter name) copied) in
    let place : c.loop.place + (2 + length octets) ≡ c.loop.place + 2 + length octets = omega arith in
    rw (pushed, place) (goes_on c.loop.params (length b) c.loop.counter b c.loop.place octets (listed b c.args.at)
    (omega arith) c.if-octets-place.false c.if-name-eq0.false read c.loop.invariant)
