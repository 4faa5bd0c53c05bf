use Rattle.std.proofs.Common.{◌≡◌, drop}
use Rattle.sccp_message.specs.Fields.{first_unread}
use Rattle.sccp_message.proofs.params.test.Given as goal

abbrev pub invariant-loop-name : goal.invariant-loop-name
invariant-loop-name l = first_unread (drop l.name-index l.names) l.params ≡ first_unread l.names l.params
