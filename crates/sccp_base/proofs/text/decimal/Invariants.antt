use Rattle.std.proofs.Common.{◌≡◌, ◌<◌, ◌^◌, take, true}
use Rattle.std.specs.List.{list_all}
use Rattle.std.specs.Char.{is_ascii_digit}
use Rattle.sccp_base.specs.Text.{spelled}
use Rattle.sccp_base.proofs.text.decimal.Given as goal

abbrev pub invariant-loop-octet : goal.invariant-loop-octet
invariant-loop-octet l = record {
  value : l.value ≡ spelled (take l.octet-index l.text);
  digits : list_all is_ascii_digit (take l.octet-index l.text) ≡ true;
  small : l.value < 10 ^ l.octet-index;
}
