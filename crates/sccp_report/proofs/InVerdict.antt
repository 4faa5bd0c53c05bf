-- The routes that a verdict shows stay within its plan.
use Rattle.std.specs.Prelude.{ℕ, ◌≡◌, ◌<◌, ◌≤◌, length, slice_get}
use Rattle.std.specs.List.{All}
use Rattle.std.proofs.Common.{sym, subst, arith}
use Rattle.std.proofs.lemmas.Option.{slice_get_within, get_or_from_slice_get}
use Rattle.plan_model.specs.declared.spot.Spot.{Spot}
use Rattle.plan_model.specs.Network.{Network, IsPlan}
use Rattle.plan_model.specs.Covered.{Covers, Covered}
use Rattle.plan_model.specs.Verdicts.{HasSpot}
use Rattle.plan_check.specs.Verified.{Verified, IsVerified}
use Rattle.plan_check.proofs.Covering.{covered_node}
use Rattle.plan_check.proofs.Soundness.{some_of}
use Rattle.plan_verify.specs.declared.verdict.Verdict.{Verdict}
use Rattle.plan_verify.specs.declared.verdict.Verdict.TheVariants.{Accepted, Refused, TooWide}
use Rattle.plan_verify.specs.declared.witness.Witness.{Witness}
use Rattle.plan_verify.specs.Witnesses.{IsWitness}
use Rattle.plan_verify.specs.Lawful.{IsLawful}
use Rattle.sccp_report.specs.Hops.{IsHopIn}
use Rattle.sccp_report.specs.Verdicts.{HasHopsIn}
use Rattle.sccp_report.proofs.InPlan.{route_in}

-- the longest route of an accepted plan begins at one of its nodes
pub longest_begins : (plan : Network) (v : Verified) → IsPlan plan → IsVerified v → v.plan ≡ plan → v.longest.spot.node < length plan.nodes
longest_begins plan v is holds same = covered_node plan v.longest.spot is (subst (λ p. Covered p v.longest.spot) same holds.tight.covered)

-- so does a route of a title that a cover has
pub has_node : (plan : Network) (number : ℕ) (spot : Spot) → IsPlan plan → HasSpot plan number spot → spot.node < length plan.nodes
has_node plan number spot is has =
    let at = some_of (slice_get plan.covers number) (λ c. Covers c spot) has in
    covered_node plan spot is
    (number, at.0, slice_get_within plan.covers number at.0 at.1, get_or_from_slice_get plan.covers number at.0 at.0 at.1, at.2)

witness_in : (plan : Network) (w : Witness) → IsPlan plan → IsWitness plan w
    → All (IsHopIn plan) w.hops × (length w.hops ≤ length w.markings)
witness_in plan w is shows = (
  subst (All (IsHopIn plan)) (sym shows.bad.is_route)
      (route_in plan w.spot w.markings is (has_node plan w.cover w.spot is shows.bad.covered)),
  omega (arith, shows.bad.each),
)

-- the hops that a verdict shows are in the plan that it is true of
pub lawful_in : (plan : Network) (v : Verdict) → IsPlan plan → IsLawful plan v → HasHopsIn plan v
lawful_in plan (Accepted accepted) is lawful = tt
lawful_in plan (Refused same w) is lawful = witness_in plan w is lawful
lawful_in plan (TooWide same) is lawful = tt
