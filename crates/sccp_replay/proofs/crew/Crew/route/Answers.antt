use Rattle.std.proofs.Common.{length, ◌∙◌, sym, ap, subst}
use Rattle.live_plan.specs.Entries.{entry_plan}
use Rattle.live_plan.specs.Plans.{HaveNodes}
use Rattle.live_plan.specs.Tellers.{plans_of}
use Rattle.sccp_replay.specs.Routings.{Routing, ArePlans, ahead, standing}
use Rattle.sccp_replay.proofs.CrewSteps.{all_last, coming_nodes, crew_at, crew_entries, crew_served, crew_stays}
use Rattle.sccp_replay.proofs.crew.Crew.route.Goals as goal

pub serve_jobs-requires-clause-entries : goal.serve_jobs-requires-clause-entries
serve_jobs-requires-clause-entries g c κs within =
    crew_entries c.args.self.now.first.plan c.self.inside.teller.nodes c.args.settled.now c.in_ok-jobs.jobs (c.self.invariant.0.nodes_are
    ∙ ap (λ (r : Routing). length r.first.plan.nodes) c.self.view_is) c.in_ok-jobs.ensures c.requires.fits.fits

pub serve_jobs-requires-clause-nodes : goal.serve_jobs-requires-clause-nodes
serve_jobs-requires-clause-nodes g c κs within =
    subst (λ n. HaveNodes n c.args.coming) (sym (c.self.invariant.0.nodes_are
    ∙ ap (λ (r : Routing). length r.first.plan.nodes) c.self.view_is))
    (coming_nodes (length c.args.self.now.first.plan.nodes) c.args.self.now.later c.args.coming c.requires.plans.alike)

pub invariant_of-self : goal.invariant_of-self
invariant_of-self g c =
    let e = c.serve_jobs.ensures in (
      crew_stays (plans_of c.self.inside.teller)
          (plans_of c.serve_jobs.new.teller) c.args.coming c.self.inside.teller.nodes c.serve_jobs.new.teller.nodes
          (length c.self.inside.workers) (length c.serve_jobs.new.workers) (entry_plan c.self.inside.first) c.self.invariant.0
          (subst (λ (r : Routing). ArePlans r.first.plan (ahead (standing r c.args.states.now) c.args.coming).later)
          (sym c.self.view_is) c.requires.plans) e.begins e.within e.nodes e.lasts.long,
      all_last c.self.inside.workers c.serve_jobs.new.workers
          (λ w. w.place.nodes) c.self.inside.teller.nodes c.serve_jobs.new.teller.nodes e.nodes e.lasts.long
          (λ i d lt. (e.lasts.each i d lt).nodes) c.self.invariant.1,
    )

pub returns-clause-plans : goal.returns-clause-plans
returns-clause-plans g c =
    let e = c.serve_jobs.ensures in
    (crew_stays (plans_of c.self.inside.teller)
    (plans_of c.serve_jobs.new.teller) c.args.coming c.self.inside.teller.nodes c.serve_jobs.new.teller.nodes
    (length c.self.inside.workers) (length c.serve_jobs.new.workers) (entry_plan c.self.inside.first) c.self.invariant.0
    (subst (λ (r : Routing). ArePlans r.first.plan (ahead (standing r c.args.states.now) c.args.coming).later)
    (sym c.self.view_is) c.requires.plans) e.begins e.within e.nodes e.lasts.long).plans_are

pub returns-clause-at : goal.returns-clause-at
returns-clause-at g c =
    crew_at c.serve_jobs.result (plans_of c.self.inside.teller) (plans_of c.serve_jobs.new.teller) c.args.coming
    (length c.self.inside.workers) (length c.serve_jobs.new.workers) (entry_plan c.self.inside.first) c.args.states.now c.args.self.now
    c.self.invariant.0.begins c.self.view_is c.serve_jobs.ensures.lasts.long c.serve_jobs.ensures.published

pub returns-clause-served : goal.returns-clause-served
returns-clause-served g c =
    crew_served c.serve_jobs.result (plans_of c.self.inside.teller) (plans_of c.serve_jobs.new.teller) c.args.coming
    (length c.self.inside.workers)
    (entry_plan c.self.inside.first) c.args.states.now c.args.self.now c.args.settled.now c.in_ok-jobs.jobs
    c.self.invariant.0.several c.self.invariant.0.begins c.self.view_is c.serve_jobs.ensures.published c.in_ok-jobs.ensures c.requires.plans
    c.requires.fits.fits c.serve_jobs.ensures.served
