use Rattle.std.proofs.Common.{◌≡◌, ◌+◌, refl, subst, slice_index_or}
use native.Mathlib.Omega.{arith}
use Rattle.std.specs.Fork.{ChangesAt}
use Rattle.live_plan.proofs.side_by_side.for_each_beside.Goals as goal

pub returns : goal.returns
returns g c i d l =
    let place : 0 + i ≡ i = omega arith in (
      refl,
      subst (λ at. ChangesAt g.F.Fn c.args.f.now at (slice_index_or c.args.items.now i d)
          (slice_index_or c.shared_out.new.items i d)) place (c.shared_out.ensures.each i d l),
    )
