use Rattle.std.proofs.Common.{◌≡◌, ◌<◌, ◌*◌, ◌-◌, cond, length, arith, sym, refl}
use Rattle.std.proofs.lemmas.List.{take_more}
use Rattle.sccp_base.specs.Bcd.{halves, unpacked}
use Rattle.sccp_base.proofs.Halves.{length-halves, length-unpacked, in_places, too_many, bool_byte_is}
use Rattle.sccp_base.proofs.LaidOut.{IsLaidOut-empty}
use Rattle.sccp_base.proofs.digits.Digits.unpack.Goals as goal

pub returns-then-len-gt32 : goal.returns-then-len-gt32
returns-then-len-gt32 c =
    let many : 32 < length (unpacked c.args.octets.now c.args.odd) =
    omega (arith, length-unpacked c.args.octets.now c.args.odd, bool_byte_is c.args.odd) in
    sym (too_many (unpacked c.args.octets.now c.args.odd) _ many)

pub invariant_of-digits : goal.invariant_of-digits
invariant_of-digits c = IsLaidOut-empty

pub loop-place-preserved : goal.loop-place-preserved
loop-place-preserved c =
    let hs = halves c.args.octets.now in
    let inside : c.loop-place.place < length hs = omega (arith, length-halves c.args.octets.now) in
    rw (c.push.ensures, c.loop-place.invariant, c.half_at.ensures.same) (sym (take_more hs c.loop-place.place 0 inside))

pub returns : goal.returns
returns c =
    let os = c.args.octets.now in
    let hs = halves os in
    let done : c.loop-place.place ≡ 2 * length os - cond c.args.odd 1 0 = omega (arith, bool_byte_is c.args.odd) in
    rw (
      in_places (unpacked os c.args.odd) _
          (omega (arith, length-unpacked os c.args.odd, bool_byte_is c.args.odd)),
      c.loop-place.invariant,
      done,
    ) refl
