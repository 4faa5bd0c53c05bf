use Rattle.std.proofs.Common.{◌≡◌, ◌∷◌, [], ℕ, length, arith, Ok, sym, ap, length-append, ◌<◌, Option}
use Rattle.std.specs.List.{range_with_len}
use Rattle.std.specs.Option.{ok_or}
use Rattle.sccp_base.specs.declared.digits_fault.DigitsFault.TheVariants.{NotDigit}
use Rattle.sccp_base.specs.Answers.{all_ok}
use Rattle.sccp_base.specs.DigitText.{digit_at}
use Rattle.sccp_base.proofs.AllOk.{goes_on}
use Rattle.sccp_base.proofs.LaidOut.{IsLaidOut-empty}
use Rattle.sccp_base.proofs.digits.Digits.parse.Goals as goal

pub invariant_of-digits : goal.invariant_of-digits
invariant_of-digits c = IsLaidOut-empty

pub loop-place-preserved : goal.loop-place-preserved
loop-place-preserved c =
    let text = c.args.text.now in
    let inside : c.loop-place.place < length text = omega arith in
    let taken : digit_at text c.loop-place.place ≡ Ok c.in-Some.half = ap (λ (o : Option ℕ). ok_or o (NotDigit c.loop-place.place))
    (sym c.in-Some.ensures.value) in
    record {
      whole = rw c.push.ensures (goes_on (digit_at text) c.loop-place.digits (length text) c.loop-place.place c.in-Some.half
          (all_ok (digit_at text) (range_with_len 0 (length text))) inside taken c.loop-place.invariant.whole);
      count = rw c.push.ensures (omega (arith, length-append c.loop-place.digits (c.in-Some.half ∷ []), c.loop-place.invariant.count));
    }
