use Rattle.std.proofs.Common.{◌≡◌, ◌<◌, List, length, subst, sym}
use Rattle.std.specs.Prelude.{IfSome, option_map, slice_get}
use Rattle.sccp_message.specs.Reading.{reading}
use Rattle.std.specs.Option.{option_and_then, option_to_list}
use Rattle.std.proofs.Common.{◌++◌}
use Rattle.relay_watch.specs.Arrivals.{AreWaiting, ended}
use Rattle.relay_watch.specs.Judging.{IsSaid}
use Rattle.relay_watch.specs.Keepings.{kept_in}
use Rattle.relay_watch.specs.Kept.{Kept, answered, remembered}
use Rattle.relay_watch.specs.Settling.{IsSettled}
use Rattle.relay_watch.specs.Whys.{AreAnswered}
use Rattle.relay_watch.specs.declared.answered.Answered.{Answered}
use Rattle.relay_watch.specs.declared.waiting.Waiting.{Waiting}
use Rattle.relay_watch.proofs.Left.{place_inside, still_waiting}
use Rattle.relay_watch.proofs.Watched.{watched, still_answered, all_waiting}
use Rattle.relay_watch.proofs.judging.step.Goals as goal

pub settled-requires-clause-inside : goal.settled-requires-clause-inside
settled-requires-clause-inside c =
    subst (λ (ws : List Waiting). IfSome c.in_ok-judged.judged.place (λ p. p < length ws)) (sym c.in_ok-make_room.ensures.waiting)
    (place_inside c.args.plan.now c.args.kept.now.waiting.items c.args.kept.now.answered.items c.args.event.now
    (reading c.args.event.now.octets) c.in_ok-judged.judged
    (subst (λ (ws : List Waiting). IsSaid c.args.plan.now ws c.args.kept.now.answered.items c.args.event.now
    (reading c.args.event.now.octets) c.in_ok-judged.judged) c.as_slice.ensures.value
    (subst (λ (xs : List Answered). IsSaid c.args.plan.now c.as_slice.result.now xs c.args.event.now
    (reading c.args.event.now.octets) c.in_ok-judged.judged) c.as_slice-2.ensures.value c.in_ok-judged.ensures.said)))

pub returns-clause-watched : goal.returns-clause-watched
returns-clause-watched c =
    let said : IsSaid c.args.plan.now c.args.kept.now.waiting.items c.args.kept.now.answered.items c.args.event.now
    (reading c.args.event.now.octets) c.in_ok-judged.judged =
    subst (λ (ws : List Waiting). IsSaid c.args.plan.now ws c.args.kept.now.answered.items c.args.event.now
    (reading c.args.event.now.octets) c.in_ok-judged.judged) c.as_slice.ensures.value
    (subst (λ (xs : List Answered). IsSaid c.args.plan.now c.as_slice.result.now xs c.args.event.now
    (reading c.args.event.now.octets) c.in_ok-judged.judged) c.as_slice-2.ensures.value c.in_ok-judged.ensures.said) in
    let same : kept_in c.make_room.new.kept ≡ kept_in c.args.kept.now =
    λ i. record {
      waiting = c.in_ok-make_room.ensures.waiting i;
      answered = c.in_ok-make_room.ensures.answered i;
      named = c.in_ok-make_room.ensures.named i;
      relays = c.in_ok-make_room.ensures.relays i;
      events = c.in_ok-make_room.ensures.events i;
      unexplained = c.in_ok-make_room.ensures.unexplained i;
    } in
    watched c.args.plan.now (kept_in c.args.kept.now) c.args.event.now c.in_ok-judged.judged c.settled.result
    (kept_in c.settled.new.kept) c.requires.waiting said
    (subst (λ (k : Kept). IsSettled c.args.plan.now c.args.event.now k c.in_ok-judged.judged c.settled.result (kept_in c.settled.new.kept))
    same c.settled.ensures)

pub returns-clause-waiting : goal.returns-clause-waiting
returns-clause-waiting c =
    let said : IsSaid c.args.plan.now c.args.kept.now.waiting.items c.args.kept.now.answered.items c.args.event.now
    (reading c.args.event.now.octets) c.in_ok-judged.judged =
    subst (λ (ws : List Waiting). IsSaid c.args.plan.now ws c.args.kept.now.answered.items c.args.event.now
    (reading c.args.event.now.octets) c.in_ok-judged.judged) c.as_slice.ensures.value
    (subst (λ (xs : List Answered). IsSaid c.args.plan.now c.as_slice.result.now xs c.args.event.now
    (reading c.args.event.now.octets) c.in_ok-judged.judged) c.as_slice-2.ensures.value c.in_ok-judged.ensures.said) in
    subst AreWaiting (sym c.settled.ensures.waiting_is)
    (subst (λ (ws : List Waiting). AreWaiting (ended (ws ++ option_to_list c.in_ok-judged.judged.begins) c.in_ok-judged.judged.place))
    (sym c.in_ok-make_room.ensures.waiting)
    (still_waiting c.args.kept.now.waiting.items c.in_ok-judged.judged.place c.in_ok-judged.judged.begins c.requires.waiting
    (place_inside c.args.plan.now c.args.kept.now.waiting.items c.args.kept.now.answered.items c.args.event.now
    (reading c.args.event.now.octets) c.in_ok-judged.judged said) c.in_ok-judged.ensures.kept))

pub returns-clause-answered : goal.returns-clause-answered
returns-clause-answered c =
    subst AreAnswered (sym c.settled.ensures.answered_is)
    (subst (λ (ws : List Waiting). AreAnswered (remembered (c.make_room.new.kept.answered.items ++ option_to_list
    (option_map (answered c.args.event.now.number)
    (option_and_then (slice_get (ws ++ option_to_list c.in_ok-judged.judged.begins)) c.in_ok-judged.judged.place)))))
    (sym c.in_ok-make_room.ensures.waiting)
    (subst (λ (xs : List Answered). AreAnswered (remembered (xs ++ option_to_list
    (option_map (answered c.args.event.now.number)
    (option_and_then (slice_get (c.args.kept.now.waiting.items ++ option_to_list c.in_ok-judged.judged.begins))
    c.in_ok-judged.judged.place)))))
    (sym c.in_ok-make_room.ensures.answered)
    (still_answered (c.args.kept.now.waiting.items ++ option_to_list c.in_ok-judged.judged.begins) c.args.kept.now.answered.items
    c.args.event.now.number c.in_ok-judged.judged.place
    (all_waiting c.args.kept.now.waiting.items c.in_ok-judged.judged.begins c.requires.waiting.each c.in_ok-judged.ensures.kept)
    c.requires.answered)))
