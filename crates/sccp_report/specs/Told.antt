-- What a printed text determines: a point code's text its number, and a route's text its hops and prohibited marks. That of a mixed
-- route also gives the plan that each relay held.
use Rattle.std.specs.Prelude.{ℕ, ◌≡◌, ◌<◌, ◌^◌, List, [], length, take, Option, Some, None}
use Rattle.std.specs.List.{All}
use Rattle.sccp_base.specs.declared.mark.Mark.{Mark}
use Rattle.sccp_base.specs.Names.{IsName}
use Rattle.plan_model.specs.declared.spot.Spot.{Spot}
use Rattle.plan_model.specs.Covered.{Covered}
use Rattle.plan_model.specs.Network.{Network, IsPlan}
use Rattle.plan_model.specs.Routes.{route}
use Rattle.plan_model.specs.SameNodes.{SameNodes}
use Rattle.plan_model.specs.Spots.{IsInRange}
use Rattle.plan_change.specs.declared.answer.Change.{Change}
use Rattle.plan_change.specs.declared.answer.Change.TheVariants.{Kept, Broken, TooWide}
use Rattle.plan_change.specs.declared.mixed_hop.MixedHop.{MixedHop}
use Rattle.plan_change.specs.declared.turn.Turn.{Turn}
use Rattle.plan_change.specs.Changes.{IsLawfulChange}
use Rattle.plan_change.specs.Mixture.{mixed, tagged, HaveMarkings, IsMixedInRange}
use Rattle.sccp_report.specs.Values.{point_code_text}
use Rattle.sccp_report.specs.Hops.{hops_text}
use Rattle.sccp_report.specs.Changes.{mixed_hops_text}

-- no two numbers of up to 64 bits have the same text as point codes, not even numbers that are none
abbrev pub TextTellsPointCode : Type 0
TextTellsPointCode = (a b : ℕ) → a < 2 ^ 64 → b < 2 ^ 64 → point_code_text a ≡ point_code_text b → a ≡ b

-- Two routes of a plan that are printed alike, with numbers in range, are the same hops under the same markings.
-- The plan's nodes have names, as those of every plan have that is built.
abbrev pub TextTellsRoute : Type 0
TextTellsRoute =
    (plan : Network) (s t : Spot) (ms ns : List (List Mark)) → IsPlan plan → All (λ node. IsName node.name) plan.nodes → IsInRange plan s ms
    → IsInRange plan t ns
    → hops_text plan (route plan s ms) ms ≡ hops_text plan (route plan t ns) ns
    → (route plan s ms ≡ route plan t ns) × (take (length (route plan s ms)) ms ≡ take (length (route plan t ns)) ns)

-- the mixed route of a title that the old plan covers is in range under every markings
abbrev pub MixedRoutesAreInRange : Type 0
MixedRoutesAreInRange = (old new : Network) (s : Spot) (turns : List Turn) → IsPlan old → IsPlan new → SameNodes old new → Covered old s
    → HaveMarkings turns → IsMixedInRange old new s turns

-- the hops of the mixed route of a spot, each with the plan that its relay held
abbrev pub hops_of : Network → Network → Spot → List Turn → List MixedHop
hops_of old new s turns = tagged (mixed old new s turns) turns

-- Two mixed routes of two plans of the same nodes that are printed alike, with numbers in range, are the same hops under the same
-- turns.
abbrev pub TextTellsMixedRoute : Type 0
TextTellsMixedRoute =
    (old new : Network) (s t : Spot) (us vs : List Turn) → IsPlan old → IsPlan new → SameNodes old new
    → All (λ node. IsName node.name) old.nodes → IsMixedInRange old new s us → IsMixedInRange old new t vs
    → mixed_hops_text old (hops_of old new s us) us ≡ mixed_hops_text old (hops_of old new t vs) vs
    → (hops_of old new s us ≡ hops_of old new t vs)
    × (take (length (hops_of old new s us)) us ≡ take (length (hops_of old new t vs)) vs)

-- The hops and the turns of the mixed route that an answer shows. It shows none if the plans are too wide, or if no title is covered by
-- both.
abbrev pub longest_hops : Network → Network → Option Spot → List Turn → List MixedHop
longest_hops old new None turns = []
longest_hops old new (Some spot) turns = hops_of old new spot turns

abbrev pub shown_hops : Network → Network → Change → List MixedHop
shown_hops old new (Kept bound spot turns) = longest_hops old new spot turns
shown_hops old new (Broken i j spot turns hops kind) = hops
shown_hops old new TooWide = []

abbrev pub shown_turns : Change → List Turn
shown_turns (Kept bound spot turns) = turns
shown_turns (Broken i j spot turns hops kind) = turns
shown_turns TooWide = []

-- Two lawful answers on two plans whose mixed routes are printed alike show the same hops under the same turns.
abbrev pub TextTellsChange : Type 0
TextTellsChange =
    (old new : Network) (c d : Change) → IsPlan old → IsPlan new → SameNodes old new → All (λ node. IsName node.name) old.nodes
    → IsLawfulChange old new c → IsLawfulChange old new d
    → mixed_hops_text old (shown_hops old new c) (shown_turns c) ≡ mixed_hops_text old (shown_hops old new d) (shown_turns d)
    → (shown_hops old new c ≡ shown_hops old new d) × (shown_turns c ≡ shown_turns d)
