-- The journey of a job under an accepted plan.
use Rattle.std.specs.Prelude.{List}
use Rattle.plan_check.specs.Verified.{Verified}
use Rattle.relay_net.specs.Journeys.{journey}
use Rattle.relay_net.specs.States.{State, markings_of}
use Rattle.relay_net.specs.declared.job.Job.{Job}
use Rattle.relay_net.specs.declared.travelled.Journey.{Journey}

-- the journey over all its relays, each with the markings of its state
abbrev pub journey_under : Verified → List State → Job → Journey
journey_under plan states job = journey plan.plan (markings_of states) job.entry job.origin job.octets
