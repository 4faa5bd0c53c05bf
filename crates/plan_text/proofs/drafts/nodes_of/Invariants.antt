use Rattle.std.proofs.Common.{◌≡◌, length}
use Rattle.std.specs.List.{All}
use Rattle.sccp_base.proofs.AllOk.{with_front}
use Rattle.plan_model.specs.Network.{IsNode}
use Rattle.plan_text.specs.Tabled.{node_of, nodes_of}
use Rattle.plan_text.proofs.EachOk.{ahead}
use Rattle.plan_text.proofs.drafts.nodes_of.Given as goal

-- the nodes so far, then those that follow, are what the drafts make
abbrev pub invariant-loop-draft : goal.invariant-loop-draft
invariant-loop-draft l = record {
  value : with_front l.nodes (ahead (λ d. d) node_of (length l.yielded) l.fn.drafts) ≡ nodes_of l.fn.drafts;
  place : l.i ≡ length l.yielded;
  sound : All IsNode l.nodes;
}
