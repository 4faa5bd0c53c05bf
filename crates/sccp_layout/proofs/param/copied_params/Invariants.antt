use Rattle.std.proofs.Common.{◌≡◌, take}
use Rattle.sccp_layout.proofs.param.copied_params.Given as goal

abbrev pub invariant-loop-param : goal.invariant-loop-param
invariant-loop-param l = l.copy ≡ take l.param-index l.param-items
