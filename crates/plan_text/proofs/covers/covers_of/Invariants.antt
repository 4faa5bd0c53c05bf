use Rattle.std.proofs.Common.{◌≡◌, map}
use Rattle.std.specs.List.{All}
use Rattle.sccp_base.proofs.AllOk.{with_front}
use Rattle.toml.specs.View.{view}
use Rattle.plan_model.specs.Faults.{HasFewDigits}
use Rattle.plan_text.specs.Covers.{cover_of, covers_of}
use Rattle.plan_text.proofs.EachOk.{ahead}
use Rattle.plan_text.proofs.covers.covers_of.Given as goal

-- the covers so far, then those that follow, are what is read
abbrev pub invariant-loop-i : goal.invariant-loop-i
invariant-loop-i l = record {
  value : with_front l.read (ahead view (cover_of (map view l.names)) l.i l.covers) ≡ covers_of (map view l.names) (map view l.covers);
  few : All HasFewDigits l.read;
}
