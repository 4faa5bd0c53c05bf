use Rattle.std.specs.Prelude.{ℕ, ◌≡◌, ◌++◌, ◌∷◌, List, Option}
use Rattle.std.specs.List.{All, Any}
use Rattle.std.proofs.Common.{◌∙◌, sym, ap, subst, arith, get_or, take_all}
use Rattle.std.proofs.lemmas.Result.{IfOk-weaker}
use Rattle.plan_order.specs.declared.safe_step.SafeStep.{SafeStep}
use Rattle.plan_order.specs.declared.found.Found.{Found}
use Rattle.plan_order.specs.declared.found.Found.TheVariants.{Steps}
use Rattle.plan_order.specs.Sets.{SameSet}
use Rattle.plan_order.specs.Orders.{IsDeadEnd}
use Rattle.plan_order.specs.Searching.{without, IsFirst, IsClosed, IsWayOn, IsFound, IsFoundIf}
use Rattle.plan_order.proofs.Members.{all_more}
use Rattle.plan_order.proofs.Findings.{known_dead, way_front, dead_if_closed, dead_if_refused}
use Rattle.plan_order.proofs.Splitting.{split_to, fewer_to}
use Rattle.plan_order.proofs.seeking.+seek.Goals as goal

pub seek-returns-then-is_dead-clause-found : goal.seek-returns-then-is_dead-clause-found
seek-returns-then-is_dead-clause-found t c =
    known_dead c.args.plans.now.old.now c.args.plans.now.new.now c.args.known.now c.args.done.now c.requires.same c.requires.known
    (subst (Any (λ (set : List ℕ). SameSet set c.args.done.now)) c.as_slice.ensures (c.is_dead.ensures.0 c.if-is_dead.true))

pub seek_by-seek-requires : goal.seek_by-seek-requires
seek_by-seek-requires t c =
    let further : c.as_slice-3.result.now ≡ c.args.done.now ++ c.args.step.nodes =
    c.as_slice-3.ensures ∙ c.in_ok-further.ensures ∙ ap (λ (s : List ℕ). c.args.done.now ++ s) c.as_slice.ensures in
    let rest : c.as_slice-4.result.now ≡ without c.args.left.now c.args.step.nodes =
    c.as_slice-4.ensures ∙ c.in_ok-rest.ensures ∙ ap (λ (s : List ℕ). without c.args.left.now s) c.as_slice-2.ensures in
    let fewer = fewer_to c.args.left.now c.args.step.nodes c.as_slice-4.result.now rest c.requires.step.among c.requires.step.some in (
      omega (arith, fewer),
      (
        c.requires.same,
        (
          split_to c.args.plans.now.old.now c.args.plans.now.new.now c.args.done.now c.args.left.now c.args.step.nodes
              c.as_slice-3.result.now c.as_slice-4.result.now further rest c.requires.split c.requires.step.among,
          c.requires.known,
        ),
      ),
    )

pub seek_by-returns-in-Steps-clause-found : goal.seek_by-returns-in-Steps-clause-found
seek_by-returns-in-Steps-clause-found t c =
    let old = c.args.plans.now.old.now in
    let new = c.args.plans.now.new.now in
    let done = c.args.done.now in
    let left = c.args.left.now in
    let step = c.args.step in
    let steps = c.in-Steps.steps in
    let further : c.as_slice-3.result.now ≡ done ++ step.nodes =
    c.as_slice-3.ensures ∙ c.in_ok-further.ensures ∙ ap (λ (s : List ℕ). done ++ s) c.as_slice.ensures in
    let rest : c.as_slice-4.result.now ≡ without left step.nodes =
    c.as_slice-4.ensures ∙ c.in_ok-rest.ensures ∙ ap (λ (s : List ℕ). without left s) c.as_slice-2.ensures in
    let found : IsWayOn old new c.as_slice-3.result.now c.as_slice-4.result.now steps =
    subst (λ (f : Found). IsFound old new c.as_slice-3.result.now c.as_slice-4.result.now c.seek.new.known f) c.in-Steps.is
    c.in_ok-steps.ensures.found in
    let way : IsWayOn old new (done ++ step.nodes) (without left step.nodes) steps =
    subst (λ (d : List ℕ). IsWayOn old new d (without left step.nodes) steps) further
    (subst (λ (r : List ℕ). IsWayOn old new c.as_slice-3.result.now r steps) rest found) in
    IfOk-weaker c.in_front.result (λ (f : Found). f ≡ Steps (step ∷ steps))
    (λ (f : Found). IsFoundIf old new done left (IsDeadEnd old new (done ++ step.nodes)) c.seek.new.known f)
    (λ f is. subst (λ (g : Found). IsFoundIf old new done left (IsDeadEnd old new (done ++ step.nodes)) c.seek.new.known g) (sym is)
    (way_front old new done left step steps c.requires.step way)) c.in_front.ensures

pub seek_parts-end_here-requires-clause-dead : goal.seek_parts-end_here-requires-clause-dead
seek_parts-end_here-requires-clause-dead t c =
    λ h. dead_if_refused c.args.plans.now.old.now c.args.plans.now.new.now c.args.done.now c.args.left.now c.requires.same
    c.requires.split c.requires.some
    (subst (λ (o : Option SafeStep). IsFirst c.args.plans.now.old.now c.args.plans.now.new.now c.args.done.now c.args.left.now
    c.first_safe.new.known o) c.in-None.is c.in_ok-first.ensures.first h)

pub seek_each-loop-node-preserved : goal.seek_each-loop-node-preserved
seek_each-loop-node-preserved t c =
    let old = c.args.plans.now.old.now in
    let new = c.args.plans.now.new.now in
    let done = c.args.done.now in
    let left = c.args.left.now in
    let i = c.loop-node.node-index in
    record {
      known = c.in_ok-steps.ensures.known;
      narrow = λ h. c.loop-node.invariant.narrow (c.in_ok-steps.ensures.narrow h);
      closed = λ h. all_more (IsClosed old new done) left i c.loop-node-test.true
          (c.loop-node.invariant.closed (c.in_ok-steps.ensures.narrow h))
          (subst (λ (f : Found). IsFoundIf old new done left (IsClosed old new done (get_or left i 0)) c.seek_one.new.known f)
          c.in-Nowhere.is c.in_ok-steps.ensures.found h);
    }

pub seek_each-end_here-requires-clause-dead : goal.seek_each-end_here-requires-clause-dead
seek_each-end_here-requires-clause-dead t c =
    λ h. dead_if_closed c.args.plans.now.old.now c.args.plans.now.new.now c.args.done.now c.args.left.now c.requires.same
    c.requires.split c.requires.some
    (subst (λ (s : List ℕ). All (IsClosed c.args.plans.now.old.now c.args.plans.now.new.now c.args.done.now) s)
    (take_all c.loop-node.node-index c.args.left.now c.loop-node-test.false) (c.loop-node.invariant.closed h))
