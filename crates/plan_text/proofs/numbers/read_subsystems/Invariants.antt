use Rattle.std.proofs.Common.{◌≡◌, map}
use Rattle.std.specs.List.{All}
use Rattle.sccp_base.proofs.AllOk.{with_front}
use Rattle.toml.specs.View.{view}
use Rattle.plan_model.specs.Network.{IsSubsystem}
use Rattle.plan_text.specs.EachOk.{each_ok}
use Rattle.plan_text.specs.Drafts.{subsystem_at}
use Rattle.plan_text.proofs.EachOk.{ahead}
use Rattle.plan_text.proofs.numbers.read_subsystems.Given as goal

-- the numbers so far, then those that follow, are what is read
abbrev pub invariant-loop-value : goal.invariant-loop-value
invariant-loop-value l = record {
  value : with_front l.read (ahead view (subsystem_at l.place) l.value-index l.values)
      ≡ each_ok (subsystem_at l.place) 0 (map view l.values);
  sound : All IsSubsystem l.read;
}
