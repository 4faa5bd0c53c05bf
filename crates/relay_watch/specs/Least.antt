-- The conditions under which a relay sends what is explained.
use Rattle.std.specs.Prelude.{if◌then◌else◌, ℕ, List, [], ◌∷◌}
use Rattle.std.specs.List.{flat_map, zip}
use Rattle.plan_model.specs.Network.{Network}
use Rattle.relay_ways.specs.declared.condition.Condition.{Condition}
use Rattle.relay_ways.specs.declared.explanation.Explanation.{Explanation}
use Rattle.relay_watch.specs.Totals.{is_from}
use Rattle.relay_watch.specs.declared.event.Event.{Event}
use Rattle.relay_watch.specs.declared.line.Line.{Line}
use Rattle.relay_watch.specs.declared.verdict.Verdict.{Verdict}
use Rattle.relay_watch.specs.declared.verdict.Verdict.TheVariants.{Explained}

-- the condition of the first way that a line gives
abbrev pub first_condition : List Explanation → List Condition
first_condition [] = []
first_condition (w ∷ ws) = w.condition ∷ []

abbrev pub told_of : Verdict → List Condition
told_of (Explained by ways) = first_condition ways
told_of v = []

-- the conditions of all explained messages that the relay at this place sent, each by its first way, in their order
abbrev pub told_conditions : Network → ℕ → List Event → List Line → List Condition
told_conditions plan node events lines =
    flat_map (λ m. if is_from plan node m.0 then told_of m.1.verdict else []) (zip events lines)
