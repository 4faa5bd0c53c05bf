-- What printed lines determine.
use Rattle.std.specs.Prelude.{ℕ, ◌≡◌, ◌<◌, ◌^◌, List}
use Rattle.plan_check.specs.Verified.{Verified}
use Rattle.plan_model.specs.Network.{Network}
use Rattle.plan_verify.specs.Lawful.{IsLawful}
use Rattle.plan_verify.specs.declared.verdict.Verdict.TheVariants.{Accepted}
use Rattle.relay_net.specs.declared.outcome.Outcome.{Outcome}
use Rattle.relay_net.specs.declared.travelled.Journey.{Journey}
use Rattle.sccp_report.specs.Served.{served_text}

-- a plan has one bound: two lawful verdicts that accept it have the same
abbrev pub HaveOneBound : Type 0
HaveOneBound = (plan : Network) (a b : Verified) → IsLawful plan (Accepted a) → IsLawful plan (Accepted b) → a.bound ≡ b.bound

-- Two texts of messages that are routed are the same only if their lines and their plans have the same numbers, whatever the plans of
-- the names, the journeys and the outcomes.
abbrev pub LinesTellNumbers : Type 0
LinesTellNumbers =
    (p q : Network) (line other number more : ℕ) (j k : Journey) (us vs : List Outcome) → line < 2 ^ 64 → other < 2 ^ 64 → number < 2 ^ 64
    → more < 2 ^ 64 → served_text p line number j us ≡ served_text q other more k vs → (line ≡ other) × (number ≡ more)
