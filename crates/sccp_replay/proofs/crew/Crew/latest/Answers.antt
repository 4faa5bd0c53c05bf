use Rattle.std.proofs.Common.{◌≡◌, [], length, drop, refl, subst}
use Rattle.live_plan.specs.Entries.{entry_plan}
use Rattle.live_plan.specs.Tellers.{plans_of}
use Rattle.sccp_replay.specs.Replay.{latest}
use Rattle.sccp_replay.specs.Routings.{routing, standing}
use Rattle.sccp_replay.proofs.ReplayerLemmas.{last_plan}
use Rattle.sccp_replay.proofs.crew.Crew.latest.Goals as goal

pub returns : goal.returns
returns c =
    let plans = plans_of c.self.inside.teller in
    subst (λ r. c.latest.result.now.plan ≡ latest (standing r [])) c.self.view_is
    (last_plan (routing (length c.self.inside.workers) (entry_plan c.self.inside.first) (drop 1 plans)) [] plans
    (length plans) c.latest.result.now c.self.invariant.0.begins refl c.latest.ensures)
