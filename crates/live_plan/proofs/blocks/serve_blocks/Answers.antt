use Rattle.std.proofs.Common.{◌≡◌, ◌≤◌, ◌++◌, List, drop, length, map, take, ap, ◌∙◌, subst, sym}
use Rattle.relay_net.specs.declared.job.Job.{Job}
use Rattle.relay_net.specs.declared.served.Served.{Served}
use Rattle.live_plan.specs.Blocks.{answer_in}
use Rattle.live_plan.proofs.Joined.{all_of_them, no_more_than}
use Rattle.live_plan.proofs.blocks.serve_blocks.Goals as goal

pub split_at-requires : goal.split_at-requires
split_at-requires g c =
    let answer : Job → Served = answer_in c.args.setting.now in
    let answers : List Served = c.in_ok-answers.answers.items in
    let first : answers ≡ map answer (take (length answers) c.args.jobs.now) = c.in_ok-answers.ensures answer c.args.jobs.now
    (c.in_ok-all_blocks.ensures answer c.args.jobs.now c.in_ok-lanes.ensures) in
    let count : c.len.result ≡ length answers = c.len.ensures ∙ c.in_ok-answers.answers.ok.0 in
    subst (λ n. n ≤ length c.args.jobs.now) (sym count) (no_more_than answer c.args.jobs.now answers first)

pub returns : goal.returns
returns g c =
    let answer : Job → Served = answer_in c.args.setting.now in
    let jobs = c.args.jobs.now in
    let answers : List Served = c.in_ok-answers.answers.items in
    let first : answers ≡ map answer (take (length answers) jobs) =
    c.in_ok-answers.ensures answer jobs (c.in_ok-all_blocks.ensures answer jobs c.in_ok-lanes.ensures) in
    let count : c.len.result ≡ length answers = c.len.ensures ∙ c.in_ok-answers.answers.ok.0 in
    let left : c.split_at.result.1.now ≡ drop (length answers) jobs = c.split_at.ensures.back ∙ ap (λ n. drop n jobs) count in
    let rest : c.into_vec.result.items ≡ map answer (drop (length answers) jobs) = c.into_vec.ensures ∙ c.in_ok-rest.ensures
    ∙ ap (map answer) left in
    c.from_vec.ensures ∙ c.in_ok-append.ensures.items ∙ ap (λ (l : List Served). answers ++ l) rest ∙ all_of_them answer jobs answers first
