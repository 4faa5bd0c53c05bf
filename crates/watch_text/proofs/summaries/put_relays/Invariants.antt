use Rattle.std.proofs.Common.{◌≡◌, ◌++◌, drop}
use Rattle.watch_text.specs.Summaries.{relay_lines}
use Rattle.watch_text.proofs.summaries.put_relays.Given as goal

-- the lines so far and those of the relays that are left
abbrev pub invariant-loop-node : goal.invariant-loop-node
invariant-loop-node l = l.text ++ relay_lines l.plan l.node (drop l.node l.relays) ≡ l.initial.text ++ relay_lines l.plan 0 l.relays
