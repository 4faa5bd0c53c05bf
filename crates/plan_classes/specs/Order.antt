-- The order of classes.
use Rattle.std.specs.Ordering.{nat_cmp, ordering_then}
use Rattle.std.specs.declared.cmp.Ordering.{Ordering}
use Rattle.std.specs.Cmp.Lexicographic.{slice_cmp}
use Rattle.plan_rules.specs.Keys.{selector_cmp}
use Rattle.plan_classes.specs.Titles.{Titles}

-- by the fields, in the order in which they are written; digits as lists
abbrev pub class_cmp : Titles → Titles → Ordering
class_cmp a b =
    ordering_then (nat_cmp a.cover b.cover) (ordering_then (nat_cmp a.node b.node)
    (ordering_then (selector_cmp a.selector b.selector)
    (ordering_then (nat_cmp a.ssn b.ssn) (ordering_then (slice_cmp nat_cmp a.known b.known)
    (ordering_then (nat_cmp a.least b.least) (nat_cmp a.most b.most))))))
