use Rattle.std.proofs.Common.{◌≡◌, length, map}
use Rattle.sccp_base.proofs.AllOk.{with_front}
use Rattle.toml.specs.View.{view}
use Rattle.plan_text.specs.Drafts.{draft_of}
use Rattle.plan_text.specs.EachOk.{each_ok}
use Rattle.plan_text.proofs.EachOk.{ahead}
use Rattle.plan_text.proofs.drafts.drafts_of.Given as goal

-- the nodes so far, then those that follow, are what is read
abbrev pub invariant-loop-i : goal.invariant-loop-i
invariant-loop-i l = record {
  value : with_front l.read (ahead view (draft_of (map view l.names)) l.i l.nodes)
      ≡ each_ok (draft_of (map view l.names)) 0 (map view l.nodes);
  count : length l.read ≡ l.i;
}
