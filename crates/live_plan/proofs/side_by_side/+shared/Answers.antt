use native.Mathlib.Omega.{arith}
use Rattle.std.specs.Fork.{AcceptsAt, ChangesAt}
use Rattle.live_plan.proofs.Halves.{each_behind, each_of_both}
use Rattle.live_plan.proofs.side_by_side.+shared.Goals as goal

pub shared_out-beside-requires-clause-others : goal.shared_out-beside-requires-clause-others
shared_out-beside-requires-clause-others g t c κs within =
    let cut = c.split_at_mut-first.ensures in
    each_behind (AcceptsAt g.F.Fn c.args.f.now) c.args.base c.args.share c.args.items.now _ _ cut.value cut.front_len c.requires.accepts

pub shared_out-returns : goal.shared_out-returns
shared_out-returns g t c =
    let cut = c.split_at_mut-first.ensures in
    record {
      each = each_of_both
          (ChangesAt g.F.Fn c.args.f.now) c.args.base c.args.share c.args.items.now _ _ c.beside.new.first c.beside.new.others cut.value
          cut.front_len (omega arith) c.beside.ensures.first.each c.beside.ensures.others.each;
    }
