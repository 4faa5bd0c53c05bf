use Rattle.std.proofs.Common.{◌≡◌, ◌-◌, ◌++◌, [], List, ℕ, length, take, drop, sym, ◌∙◌, ap, arith}
use Rattle.std.proofs.lemmas.List.{append-nil, take_rest}
use Rattle.capture_file.proofs.PieceLemmas.{going-joined, front-twice, room-joined, taken-joined, goes-same, goes-further, takes-needs}
use Rattle.capture_file.proofs.PieceLemmas.{kept-needs, kept-fails, stands-unfinished, takes-fails, takes-ends, stands-nothing, stands-ends}
use Rattle.capture_file.specs.Views.{at_of}
use Rattle.capture_file.proofs.pieces.take_piece.Goals as goal

here : (taken : ℕ) (octets kept : List ℕ) → octets ≡ kept → take (length octets - taken) (drop taken octets) ≡ drop taken kept
here taken octets kept e = take_rest octets taken ∙ ap (drop taken) e

pub joined-preserved : goal.joined-preserved
joined-preserved c =
    let at_unit = here c.joined.taken c.deref.result.now c.fill.new.kept.items c.deref.ensures.value in record {
      going = going-joined [] _ _ _ _ _ _ _ _ c.fill.new.kept.items _ _ c.joined.taken _ _ _ _ c.joined.invariant.going
          c.in_ok-rest.ensures.joined
          (sym c.in-Read.ensures.exact) at_unit c.in_ok-put_joined-in-Read.ensures
          (ap (at_of c.in-Read.read.next) c.in_ok-change-in-Read.ensures);
      front = front-twice _ _ _ c.in_ok-rest.ensures.front c.joined.invariant.front;
      taken = taken-joined _ _ _ _
          (omega (arith, c.joined.invariant.taken, c.in_ok-rest.ensures.longer)) at_unit c.in-Read.ensures.progress.1;
      room = room-joined _ _ _ _ _ _ _ _ c.joined.invariant.room c.in_ok-rest.ensures.joined at_unit c.in-Read.ensures.progress.1;
    }

pub returns-in-Unfinished-clause-takes : goal.returns-in-Unfinished-clause-takes
returns-in-Unfinished-clause-takes c =
    let kept : List ℕ = c.fill.new.kept.items in
    let at_unit = here c.joined.taken c.deref.result.now kept c.deref.ensures.value in
    let needs = kept-needs _ _ _ _ at_unit c.in-Unfinished.ensures.exact in
    let all : drop c.joined.taken kept ≡ drop c.joined.taken kept ++ c.in_ok-rest.rest.now =
    sym (append-nil (drop c.joined.taken kept)) ∙ ap (λ l. drop c.joined.taken kept ++ l) (sym (c.in_ok-rest.ensures.used_up needs)) in
    takes-needs _ _ _ _ _ _ _ (drop c.joined.taken kept) _
    (goes-same [] _ _ _ _ _ _ _ _ c.joined.invariant.going (all
    ∙ c.in_ok-rest.ensures.joined)) needs c.in_ok-drop_front-in-Unfinished.ensures.ok

pub returns-in-Unfinished-clause-stands : goal.returns-in-Unfinished-clause-stands
returns-in-Unfinished-clause-stands c =
    let kept : List ℕ = c.fill.new.kept.items in
    let at_unit = here c.joined.taken c.deref.result.now kept c.deref.ensures.value in
    stands-unfinished _ _ _ (drop c.joined.taken kept) _ _ at_unit c.in-Unfinished.ensures.exact c.in-Unfinished.ensures.progress
    c.in_ok-drop_front-in-Unfinished.ensures.ok

pub returns-in-Refused-clause-takes : goal.returns-in-Refused-clause-takes
returns-in-Refused-clause-takes c =
    let kept : List ℕ = c.fill.new.kept.items in
    let at_unit = here c.joined.taken c.deref.result.now kept c.deref.ensures.value in
    takes-fails _ _ _ _ _ _ _ (drop c.joined.taken kept) c.in_ok-rest.rest.now _ _
    (goes-same [] _ _ _ _ _ _ _ _ c.joined.invariant.going c.in_ok-rest.ensures.joined)
    (kept-fails _ _ _ _ _ at_unit c.in-Refused.ensures.exact)

pub returns-in-Refused-clause-stands : goal.returns-in-Refused-clause-stands
returns-in-Refused-clause-stands c = stands-nothing _ _ _ _ c.clear.ensures.items

pub returns-clause-takes : goal.returns-clause-takes
returns-clause-takes c =
    takes-ends _ _ _ _ _ _ _ _ _ _
    (goes-further _ _ _ _ _ _ c.joined.taken c.joined.kept.items _ _ _ _ _ c.joined.invariant.going
    (omega arith) c.in_ok-progress.ensures.goes_on)
    c.in_ok-progress.ensures.ends (c.in_ok-kept.ensures.items ∙ c.left.ensures)

pub returns-clause-stands : goal.returns-clause-stands
returns-clause-stands c =
    stands-ends _ _ _ _ _ c.in_ok-progress.ensures.ends c.in_ok-progress.ensures.short (c.in_ok-kept.ensures.items ∙ c.left.ensures)
