use Rattle.std.proofs.Common.{subst}
use Rattle.sccp_message.specs.Written.{Sound}
use Rattle.long_segments.proofs.Shorter.{sound_reads}
use Rattle.long_segments.proofs.sending.segments_of.Goals as goal

pub send_message-requires : goal.send_message-requires
send_message-requires c = sound_reads c.in-Ludt.class c.in-Ludt.hops c.in-Ludt.called c.in-Ludt.calling c.in-Ludt.payload c.in-Ludt.params
    (subst Sound c.in-Ludt.is c.in-Ok.ensures.sound)
