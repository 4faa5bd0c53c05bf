use Rattle.std.proofs.Common.{◌≡◌, false, take, ◌∷◌, []}
use Rattle.std.specs.List.{All}
use Rattle.plan_order.specs.Steps.{IsSafeStep}
use Rattle.plan_order.specs.Searching.{IsKnown}
use Rattle.plan_order.proofs.growing.first_safe.Given as goal

-- none of the relays so far is a safe step, if no step was too wide
abbrev pub invariant-loop-node : goal.invariant-loop-node
invariant-loop-node l = record {
  known : IsKnown l.plans.old.now l.plans.new.now l.known;
  narrow : l.known.wide ≡ false → l.fn.known.wide ≡ false;
  refused : l.known.wide ≡ false
      → All (λ node. IsSafeStep l.plans.old.now l.plans.new.now l.done (node ∷ []) → ⊥) (take l.node-index l.left);
}
