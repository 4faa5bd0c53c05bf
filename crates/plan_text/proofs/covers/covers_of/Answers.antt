use Rattle.std.proofs.Common.{sym, map}
use Rattle.std.proofs.lemmas.List.Elements.{All-push, All-same}
use Rattle.toml.specs.View.{view}
use Rattle.plan_model.specs.Faults.{HasFewDigits}
use Rattle.plan_text.specs.Covers.{cover_of, covers_of}
use Rattle.plan_text.proofs.EachOk.{goes_on}
use Rattle.plan_text.proofs.covers.covers_of.Goals as goal

pub loop-i-preserved : goal.loop-i-preserved
loop-i-preserved c =
    let nodes = map view c.args.names.now in
    record {
      value = rw c.in_ok-put.ensures.ok
          (goes_on view (cover_of nodes) c.loop-i.read c.args.covers.now c.loop-i.i c.index-covers-i.result c.in_ok-next.next
          (covers_of nodes (map view c.args.covers.now)) c.loop-i-test.true
          (sym c.index-covers-i.is) c.in_ok-next.ensures.value c.loop-i.invariant.value);
      few = All-same HasFewDigits _ _ c.in_ok-put.ensures.ok
          (All-push HasFewDigits c.loop-i.read c.in_ok-next.next c.loop-i.invariant.few c.in_ok-next.ensures.few);
    }
