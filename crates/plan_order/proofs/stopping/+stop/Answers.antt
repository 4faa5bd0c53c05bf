use Rattle.std.specs.Prelude.{ℕ, ◌≡◌, ◌++◌, ◌∷◌, [], List, Option}
use Rattle.std.proofs.Common.{◌∙◌, sym, ap, subst, arith}
use Rattle.plan_order.specs.declared.safe_step.SafeStep.{SafeStep}
use Rattle.plan_order.specs.Sets.{AreStepSets}
use Rattle.plan_order.specs.Steps.{AreSteps, IsStep, sets_of}
use Rattle.plan_order.specs.Searching.{without, IsFirst}
use Rattle.plan_order.proofs.Pushed.{steps_push, relays_push, relays_of}
use Rattle.plan_order.proofs.Refusals.{sets_more}
use Rattle.plan_order.proofs.Splitting.{split_to, fewer_to}
use Rattle.plan_order.proofs.stopping.+stop.Goals as goal

pub stop_after-stop_at-requires : goal.stop_after-stop_at-requires
stop_after-stop_at-requires t c =
    let old = c.args.plans.now.old.now in
    let new = c.args.plans.now.new.now in
    let further : c.as_slice-3.result.now ≡ c.args.done.now ++ c.args.step.nodes =
    c.as_slice-3.ensures ∙ c.in_ok-further.ensures ∙ ap (λ (s : List ℕ). c.args.done.now ++ s) c.as_slice.ensures in
    let rest : c.as_slice-4.result.now ≡ without c.args.left.now c.args.step.nodes =
    c.as_slice-4.ensures ∙ c.in_ok-rest.ensures ∙ ap (λ (s : List ℕ). without c.args.left.now s) c.as_slice-2.ensures in
    let fewer = fewer_to c.args.left.now c.args.step.nodes c.as_slice-4.result.now rest c.requires.step.among c.requires.step.some in
    let pushed : c.push.new.self ≡ c.args.steps ++ c.args.step ∷ [] = c.in_ok-push.ensures.ok in (
      omega (arith, fewer),
      (
        c.requires.same,
        (
          c.requires.none,
          (
            split_to old new c.args.done.now c.args.left.now c.args.step.nodes c.as_slice-3.result.now c.as_slice-4.result.now further rest
                c.requires.split c.requires.step.among,
            (
              subst (AreSteps old new []) (sym pushed)
                  (steps_push old new [] c.args.steps c.args.step c.requires.steps
                  (subst (λ (s : List ℕ). IsStep old new s c.args.step) (sym c.requires.done) c.requires.step.safe)),
              (
                ap relays_of pushed ∙ relays_push c.args.steps c.args.step ∙ ap (λ (s : List ℕ). s ++ c.args.step.nodes) c.requires.done
                    ∙ sym further,
                subst (λ (s : List SafeStep). AreStepSets (sets_of s)) (sym pushed)
                    (sets_more old new c.args.done.now c.args.left.now c.args.steps c.args.step c.requires.split c.requires.done
                    c.requires.step c.requires.sets),
              ),
            ),
          ),
        ),
      ),
    )

pub stop_at-stuck_here-requires-clause-refused : goal.stop_at-stuck_here-requires-clause-refused
stop_at-stuck_here-requires-clause-refused t c =
    subst (λ (o : Option SafeStep). IsFirst c.args.plans.now.old.now c.args.plans.now.new.now c.args.done.now c.args.left.now
    c.first_safe.new.known o) c.in-None.is c.in_ok-first.ensures.first c.if-known.false
