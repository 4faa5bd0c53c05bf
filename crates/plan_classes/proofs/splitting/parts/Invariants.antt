use Rattle.std.proofs.Common.{◌≡◌, ◌++◌, [], ◌∷◌, map}
use Rattle.std.specs.Prelude.{◌==◌, if◌then◌else◌}
use Rattle.std.specs.List.{range_with_len}
use Rattle.plan_classes.specs.Titles.{closed, extended}
use Rattle.plan_classes.proofs.splitting.parts.Given as goal

-- the parts so far
abbrev pub invariant-loop-digit : goal.invariant-loop-digit
invariant-loop-digit l = l.parts ≡ (if l.class.least == 0 then closed l.class ∷ [] else [])
    ++ map (extended l.class) (range_with_len 0 l.digit)
