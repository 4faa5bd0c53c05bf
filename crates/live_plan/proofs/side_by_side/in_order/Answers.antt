use Rattle.std.proofs.Common.{◌<◌, length}
use native.Mathlib.Omega.{arith}
use Rattle.std.proofs.lemmas.List.{get_or_default}
use Rattle.std.specs.Fork.{ChangesAt}
use Rattle.live_plan.proofs.Halves.{each_more}
use Rattle.live_plan.proofs.side_by_side.in_order.Goals as goal

pub loop-k-preserved : goal.loop-k-preserved
loop-k-preserved g c =
    let room : c.loop-k.k < length c.loop-k.items = omega arith in
    each_more (ChangesAt g.F.Fn c.args.f.now) c.args.base c.loop-k.k c.args.items.now c.loop-k.items _ c.one.new.item room
    c.loop-k.invariant.0 c.loop-k.invariant.1 (λ d. get_or_default c.loop-k.items c.loop-k.k d _ room) c.one.ensures

pub returns : goal.returns
returns g c = record { each = λ k d l. c.loop-k.invariant.1 k d (omega arith) }
