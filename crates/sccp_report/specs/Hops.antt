-- The printed text of a route: a line for each hop.
use Rattle.std.specs.Prelude.{ℕ, ◌<◌, List, [], ◌∷◌, ◌++◌, length, codes, decimal, slice_get}
use Rattle.std.specs.List.{flat_map}
use Rattle.std.specs.Option.{option_map_or}
use Rattle.sccp_base.specs.declared.mark.Mark.{Mark}
use Rattle.sccp_base.specs.declared.mark.Mark.TheVariants.{PointCode, Sccp, Subsystem}
use Rattle.plan_model.specs.declared.hop.Hop.{Hop}
use Rattle.plan_model.specs.declared.hop.Step.{Step}
use Rattle.plan_model.specs.declared.hop.Step.TheVariants.{Sent, Ended, Blocked, NoRow, Overgrown}
use Rattle.plan_model.specs.declared.spot.Spot.{Spot}
use Rattle.plan_model.specs.Network.{Network}
use Rattle.plan_model.specs.Routes.{StaysIn}
use Rattle.sccp_report.specs.Values.{numbered, digits_text, point_code_text, selector_text}

-- a subsystem at a point
unfoldable pub destination_text : ℕ → ℕ → List ℕ
destination_text pc ssn = point_code_text pc ++ codes "/" ++ decimal ssn

-- what is prohibited, and at which point
unfoldable pub mark_text : Mark → List ℕ
mark_text (PointCode pc) = codes "point:" ++ point_code_text pc
mark_text (Sccp pc) = codes "sccp:" ++ point_code_text pc
mark_text (Subsystem pc ssn) = codes "subsystem:" ++ destination_text pc ssn

unfoldable pub next_mark_text : Mark → List ℕ
next_mark_text mark = codes "," ++ mark_text mark

-- the prohibited marks with commas between them
unfoldable pub marks_text : List Mark → List ℕ
marks_text [] = codes "none"
marks_text (mark ∷ marks) = mark_text mark ++ flat_map next_mark_text marks

-- the name of a node of the plan
unfoldable pub node_text : Network → ℕ → List ℕ
node_text plan node = option_map_or (λ n. n.name) (slice_get plan.nodes node) []

-- a title at a node
unfoldable pub spot_text : Network → Spot → List ℕ
spot_text plan spot =
    codes "at " ++ node_text plan spot.node ++ codes " " ++ selector_text spot.selector ++ numbered (codes " ") spot.ssn ++ codes " "
    ++ digits_text spot.digits

-- the place of the target that was taken, from 0
unfoldable pub target_text : ℕ → List ℕ
target_text place = numbered (codes " target ") place

-- what happens to the title there
unfoldable pub step_text : Network → Step → List ℕ
step_text plan (Sent next place) = codes " sent " ++ node_text plan next.node ++ target_text place
step_text plan (Ended pc ssn place) = codes " ended " ++ destination_text pc ssn ++ target_text place
step_text plan (Blocked cause marks) = numbered (codes " blocked ") cause
step_text plan (NoRow cause) = numbered (codes " no row ") cause
step_text plan Overgrown = codes " overgrown"

-- a hop under a marking
unfoldable pub hop_line : Network → Hop → List Mark → List ℕ
hop_line plan hop marking = spot_text plan hop.spot ++ codes " held " ++ marks_text marking ++ step_text plan hop.step ++ codes "\n"

-- the hops in their order, each under its own marking
abbrev pub hops_text : Network → List Hop → List (List Mark) → List ℕ
hops_text plan [] markings = []
hops_text plan (hop ∷ hops) [] = []
hops_text plan (hop ∷ hops) (marking ∷ markings) = hop_line plan hop marking ++ hops_text plan hops markings

-- the title is at a node of the plan, and is sent to one if at all
pub record IsHopIn (plan : Network) (hop : Hop) : Type 0 where
  pub here : hop.spot.node < length plan.nodes
  pub next : StaysIn plan hop.step
