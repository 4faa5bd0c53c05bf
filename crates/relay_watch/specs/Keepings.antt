-- What is kept, as the code keeps it.
use Rattle.std.specs.Prelude.{◌<◌}
use Rattle.std.specs.Vec.{vec_len, vec_capacity}
use Rattle.relay_watch.specs.Kept.{Kept}
use Rattle.relay_watch.specs.declared.keeping.Keeping.{Keeping}

abbrev pub kept_in : Keeping → Kept
kept_in k = record {
  waiting = k.waiting.items;
  answered = k.answered.items;
  named = k.named.items;
  relays = k.relays.items;
  events = k.events;
  unexplained = k.unexplained;
}

-- there is room for one more arrival that waits, that was answered, and that is named
pub record HasRoom (k : Keeping) : Type 0 where
  pub waiting : vec_len k.waiting < vec_capacity k.waiting
  pub answered : vec_len k.answered < vec_capacity k.answered
  pub named : vec_len k.named < vec_capacity k.named
