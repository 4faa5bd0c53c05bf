use Rattle.std.proofs.Common.{◌≡◌, ◌++◌, take}
use Rattle.std.specs.List.{flat_map}
use Rattle.order_report.specs.Orders.{stuck_text}
use Rattle.order_report.proofs.stuck.put_stuck_relays.Given as goal

abbrev pub invariant-loop-relay : goal.invariant-loop-relay
invariant-loop-relay l = l.text ≡ l.initial.text ++ flat_map (stuck_text l.plan) (take l.relay-index l.stuck)
