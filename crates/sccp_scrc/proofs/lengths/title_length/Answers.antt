use Rattle.std.proofs.Common.{◌≤◌, length, ◌+◌, arith, sym, subst}
use Rattle.std.proofs.lemmas.Grind.{div_ceil_times}
use Rattle.sccp_address.specs.declared.address.Title.{Title}
use Rattle.sccp_address.specs.Written.{title_octets}
use Rattle.sccp_scrc.proofs.Fits.{global_enough}
use Rattle.sccp_scrc.proofs.lengths.title_length.Goals as goal

pub returns-in-Global-clause-enough : goal.returns-in-Global-clause-enough
returns-in-Global-clause-enough c = λ few.
    let halved = (div_ceil_times c.len.result 2 (omega arith)).0 in
    subst (λ (t : Title). length (title_octets t) ≤ 3 + c.div_ceil.result) (sym c.in-Global.is)
    (global_enough c.in-Global.selector c.in-Global.digits c.div_ceil.result
    (omega (arith, c.div_ceil.ensures, c.len.ensures.value, halved)))
