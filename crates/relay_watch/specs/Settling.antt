-- What the code keeps after what is said of an event.
use Rattle.std.specs.Prelude.{◌≡◌, ◌++◌, option_map, slice_get}
use Rattle.std.specs.Option.{option_and_then, option_to_list}
use Rattle.plan_model.specs.Network.{Network}
use Rattle.relay_watch.specs.Arrivals.{source, target, ended, given_if}
use Rattle.relay_watch.specs.Kept as keeping
use Rattle.relay_watch.specs.Kept.{Kept}
use Rattle.relay_watch.specs.declared.event.Event.{Event}
use Rattle.relay_watch.specs.declared.judged.Judged.{Judged}
use Rattle.relay_watch.specs.declared.line.Line.{Line}

pub record IsSettled (plan : Network) (e : Event) (old : Kept) (j : Judged) (line : Line) (new : Kept) : Type 0 where
  pub verdict_is : line.verdict ≡ j.verdict
  pub given_is : line.given_up ≡ given_if (old.waiting ++ option_to_list j.begins) j.place
  pub unanswered_is : line.unanswered ≡ keeping.unanswered_if (keeping.with_named old.named (keeping.named_in j.verdict)) line.given_up
  pub waiting_is : new.waiting ≡ ended (old.waiting ++ option_to_list j.begins) j.place
  pub answered_is : new.answered ≡ keeping.remembered (old.answered ++ option_to_list (option_map (keeping.answered e.number)
      (option_and_then (slice_get (old.waiting ++ option_to_list j.begins)) j.place)))
  pub named_is : new.named ≡ keeping.left_named old.named j.verdict line.given_up
  pub relays_are : new.relays ≡ keeping.counted_unanswered
      (keeping.changed (keeping.arrived j.other) (target plan e) (keeping.changed (keeping.sent j.verdict) (source plan e) old.relays))
      line.unanswered
  pub events_are : new.events ≡ keeping.one_more old.events
  pub unexplained_are : new.unexplained ≡ keeping.one_more_if (keeping.is_unexplained j.verdict) old.unexplained
