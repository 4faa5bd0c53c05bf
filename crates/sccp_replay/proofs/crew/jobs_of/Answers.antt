use Rattle.std.proofs.Common.{◌≡◌, ◌+◌, ◌++◌, ◌∙◌, List, drop, length, map, sym, subst, append-nil, arith}
use Rattle.std.proofs.lemmas.List.{drop_all}
use Rattle.relay_net.specs.declared.job.Job.{Job}
use Rattle.sccp_replay.specs.Replayers.{jobs_from, settled_in}
use Rattle.sccp_replay.proofs.BatchSteps.{dropped}
use Rattle.sccp_replay.proofs.CrewSteps.{job_added, one_job}
use Rattle.sccp_replay.proofs.crew.jobs_of.Goals as goal

pub loop-one-preserved : goal.loop-one-preserved
loop-one-preserved c =
    let jobs : List Job = c.loop-one.jobs in
    let few = c.loop-one.invariant.few in
    record {
      jobs = job_added jobs c.add_job.new.jobs (settled_in c.one-item.result)
          (map settled_in (drop (c.loop-one.one-index + 1) c.args.settled.now)) c.in_ok-add_job.ensures
          ∙ subst (λ l. jobs ++ jobs_from (length jobs) (map settled_in l) ≡ jobs_from 0 (map settled_in c.args.settled.now))
          (dropped c.args.settled.now c.loop-one.one-index c.one-item.result c.loop-one-test.true c.one-item.is)
          c.loop-one.invariant.jobs;
      few = omega (arith, few, one_job jobs c.add_job.new.jobs (settled_in c.one-item.result) c.in_ok-add_job.ensures);
    }

pub returns : goal.returns
returns c =
    let jobs : List Job = c.loop-one.jobs in
    sym (append-nil jobs) ∙ subst (λ l. jobs ++ jobs_from (length jobs) (map settled_in l)
    ≡ jobs_from 0 (map settled_in c.args.settled.now))
    (drop_all c.loop-one.one-index c.args.settled.now c.loop-one-test.false) c.loop-one.invariant.jobs
