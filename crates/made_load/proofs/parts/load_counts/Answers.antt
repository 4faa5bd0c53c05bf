use Rattle.std.proofs.Common.{rules, ◌≡◌, arith}
use Rattle.made_load.specs.Loads.{counts_of_part}
use Rattle.made_load.proofs.Parting.{has_room, goes_on, ends}
use Rattle.made_load.proofs.parts.load_counts.Goals as goal

pub join-requires : goal.join-requires
join-requires g c =
    let more : c.in-Ok.more ≡ counts_of_part c.args.number c.args.size c.parts_for-parts.result c.loop-part.part = search rules in
    record {
      room = has_room c.args.number c.args.size c.parts_for-parts.result c.loop-part.part c.loop-part.counts c.in-Ok.more
          (omega arith) (omega arith) c.loop-part.invariant more;
    }

pub loop-part-preserved : goal.loop-part-preserved
loop-part-preserved g c =
    let more : c.in-Ok.more ≡ counts_of_part c.args.number c.args.size c.parts_for-parts.result c.loop-part.part = search rules in
    goes_on c.args.number c.args.size c.parts_for-parts.result c.loop-part.part c.loop-part.counts c.in-Ok.more c.join.new.self
    (omega arith) c.join.ensures c.loop-part.invariant more

pub returns : goal.returns
returns g c = ends c.args.number c.args.size c.parts_for-parts.result c.loop-part.part c.loop-part.counts (omega arith)
    (omega arith) c.loop-part.invariant
