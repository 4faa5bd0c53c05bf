use Rattle.std.proofs.Common.{◌≤◌, ◌+◌, arith}
use Rattle.plan_margin.proofs.Margins.{not_fewer, stopped_at_all}
use Rattle.plan_margin.proofs.laws.margins_are_one.Goals as goal

pub returns-clause-number : goal.returns-clause-number
returns-clause-number c = λ plan kinds number losses others a b x y.
    let one : y.0 ≤ x.0 = not_fewer plan kinds number x.0 y.0 a x.3 y.2 in
    let two : x.0 ≤ y.0 = not_fewer plan kinds number y.0 x.0 b y.3 x.2 in
    omega (arith, one, two)

pub returns-clause-survives : goal.returns-clause-survives
returns-clause-survives c = λ plan kinds number losses others a x y.
    let one : others + 1 ≤ x.0 = not_fewer plan kinds number x.0 (others + 1) a x.3 y in
    omega (arith, one)

pub returns-clause-any : goal.returns-clause-any
returns-clause-any c = λ plan kinds number losses others a x y. stopped_at_all plan kinds number x.0 a x.3 y
