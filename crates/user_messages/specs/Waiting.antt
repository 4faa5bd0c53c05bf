-- The chunks that wait, as one arrives or as others of their message do.
use Rattle.std.specs.Prelude.{List, length, drop, filter, not, nat_le, slice_get, if◌then◌else◌, Option, None, option_map}
use Rattle.std.specs.List.{list_any}
use Rattle.user_messages.specs.declared.key.Key.{Key}
use Rattle.user_messages.specs.declared.place.Place.{Place}
use Rattle.user_messages.specs.Chunks.{key_of, same_key}
use Rattle.user_messages.specs.Gathering.{Received}

-- those whose keys are none of these
abbrev pub without_keys : List Key → List Received → List Received
without_keys keys waiting = filter (λ d. not (list_any (same_key (key_of d.chunk)) keys)) waiting

-- if more than 256 wait, the first of them is given up: its place
unfoldable pub given_up : List Received → Option Place
given_up waiting = if nat_le (length waiting) 256 then None else option_map (λ d. d.place) (slice_get waiting 0)

-- and those that still wait
unfoldable pub shortened : List Received → List Received
shortened waiting = if nat_le (length waiting) 256 then waiting else drop 1 waiting
