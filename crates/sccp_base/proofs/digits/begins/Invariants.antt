use Rattle.std.specs.Prelude.{◌≡◌, drop, nat_eq}
use Rattle.std.specs.Cmp.Lexicographic.{pointwise}
use Rattle.sccp_base.proofs.digits.begins.Given as goal

-- the digits after the place begin as the whole lists do
abbrev pub invariant-loop-i : goal.invariant-loop-i
invariant-loop-i l = record { rest : pointwise nat_eq (drop l.i l.prefix) (drop l.i l.front) ≡ pointwise nat_eq l.prefix l.front }
