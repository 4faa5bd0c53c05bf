use Rattle.std.proofs.Common.{◌∷◌, [], sym, ap, map, length, arith, length-append}
use Rattle.toml.specs.View.{view}
use Rattle.plan_text.specs.Drafts.{draft_of}
use Rattle.plan_text.specs.EachOk.{each_ok}
use Rattle.plan_text.proofs.EachOk.{goes_on}
use Rattle.plan_text.proofs.drafts.drafts_of.Goals as goal

pub loop-i-preserved : goal.loop-i-preserved
loop-i-preserved c =
    let read = draft_of (map view c.args.names.now) in
    record {
      value = rw c.in_ok-put.ensures.ok
          (goes_on view read c.loop-i.read c.args.nodes.now c.loop-i.i c.index-nodes-i.result c.in_ok-next.next
          (each_ok read 0 (map view c.args.nodes.now)) c.loop-i-test.true
          (sym c.index-nodes-i.is) c.in_ok-next.ensures c.loop-i.invariant.value);
      count = omega (
        arith,
        ap length c.in_ok-put.ensures.ok,
        length-append c.loop-i.read
            (c.in_ok-next.next ∷ []),
        c.loop-i.invariant.count,
      );
    }
