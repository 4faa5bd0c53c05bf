-- Messages that differ from what the plan has its relays send.
use Rattle.std.specs.Prelude.{Bool, List}
use Rattle.std.specs.List.{list_any}
use Rattle.relay_watch.specs.Kept.{is_unexplained}
use Rattle.relay_watch.specs.declared.line.Line.{Line}

-- a message is unexplained
abbrev pub differs : List Line → Bool
differs lines = list_any (λ line. is_unexplained line.verdict) lines
