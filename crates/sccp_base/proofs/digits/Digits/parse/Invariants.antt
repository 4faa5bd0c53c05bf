use Rattle.std.proofs.Common.{◌≡◌, ◌-◌, length}
use Rattle.std.specs.List.{range_with_len}
use Rattle.sccp_base.specs.Answers.{all_ok}
use Rattle.sccp_base.specs.DigitText.{digit_at}
use Rattle.sccp_base.proofs.AllOk.{with_front}
use Rattle.sccp_base.proofs.digits.Digits.parse.Given as goal

-- the digits so far, and then those that follow, are the digits of the whole text
abbrev pub invariant-loop-place : goal.invariant-loop-place
invariant-loop-place l = record {
  whole : with_front l.digits (all_ok (digit_at l.text) (range_with_len l.place (length l.text - l.place)))
      ≡ all_ok (digit_at l.text) (range_with_len 0 (length l.text));
  count : length l.digits ≡ l.place;
}
