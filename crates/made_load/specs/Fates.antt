-- How a journey ends, as far as it is counted.
use Rattle.relay_net.specs.declared.end.End.{End}
use Rattle.relay_net.specs.declared.end.End.TheVariants as ends
use Rattle.made_load.specs.declared.fate.Fate.{Fate}
use Rattle.made_load.specs.declared.fate.Fate.TheVariants.{Ended, Returned, Other}

abbrev pub fate_of : End → Fate
fate_of (ends.Ended pc ssn octets) = Ended
fate_of (ends.Returned cause marks) = Returned
fate_of (ends.Local ssn message) = Other
fate_of (ends.Connection message) = Other
fate_of (ends.Management message) = Other
fate_of (ends.Undecodable fault) = Other
fate_of ends.Cut = Other
