-- The text of a mixed route gives each title, what was held prohibited there, and which plan the relay held.
use Rattle.std.specs.Prelude.{ℕ, List, [], ◌∷◌, ◌++◌, length, take, Option, Some, None}
use Rattle.std.specs.List.{All}
use Rattle.std.proofs.Common.{◌≡◌, refl, sym, subst, ◌∙◌, ap, arith, append_assoc}
use Rattle.std.proofs.lemmas.List.Elements.{All-head, All-tail}
use Rattle.sccp_base.specs.Marks.{IsMark, IsMarking}
use Rattle.sccp_base.specs.Names.{IsName}
use Rattle.sccp_base.specs.declared.mark.Mark.{Mark}
use Rattle.plan_model.specs.Network.{Network, IsPlan}
use Rattle.plan_model.specs.Next.{next_of}
use Rattle.plan_model.specs.Routes.{onward, StaysIn}
use Rattle.plan_model.specs.SameNodes.{SameNodes}
use Rattle.plan_model.specs.Spots.{IsSpotOf}
use Rattle.plan_model.specs.declared.hop.Hop.{Hop}
use Rattle.plan_model.specs.declared.spot.Spot.{Spot}
use Rattle.plan_mixed.specs.declared.which.Which.{Which}
use Rattle.plan_mixed.specs.declared.which.Which.TheVariants.{Old, New}
use Rattle.plan_change.proofs.Ranges.{in_range_under}
use Rattle.plan_change.proofs.Verdicts.{same_length}
use Rattle.plan_change.specs.Changes.{IsLawfulChange}
use Rattle.plan_change.specs.declared.answer.Change.{Change}
use Rattle.plan_change.specs.declared.answer.Change.TheVariants.{Kept, Broken, TooWide}
use Rattle.plan_change.specs.declared.mixed_hop.MixedHop.{MixedHop}
use Rattle.plan_change.specs.declared.turn.Turn.{Turn}
use Rattle.plan_change.specs.Mixture.{made, mixed, tagged, HaveMarkings, IsMixedInRange}
use Rattle.sccp_report.proofs.HopsTold.{line_parts}
use Rattle.sccp_report.proofs.InMixture.{stays_in}
use Rattle.sccp_report.proofs.Parted.{first_same, rest_same}
use Rattle.sccp_report.specs.Changes.{mixed_hop_line, mixed_hops_text, which_words}
use Rattle.sccp_report.specs.Hops.{hop_line}
use Rattle.sccp_report.specs.Told.{MixedRoutesAreInRange, TextTellsMixedRoute, TextTellsChange, hops_of, shown_hops, shown_turns}

pub mixed_in_range : MixedRoutesAreInRange
mixed_in_range old new s turns is also same covered marked =
    in_range_under [] old new s turns is also (same_length old new same) covered marked

-- ---- hops that happen

-- a hop of the two plans under a turn
record IsHopAt (old new : Network) (hop : MixedHop) (turn : Turn) : Type 0 where
  which : hop.which ≡ turn.which
  spot : IsSpotOf old hop.hop.spot
  marks : All IsMark turn.marking
  stays : StaysIn old hop.hop.step
  does : hop.hop.step ≡ made old new turn hop.hop.spot

-- each hop under the turn at its place
abbrev AreHopsAt : Network → Network → List MixedHop → List Turn → Type 0
AreHopsAt old new [] turns = Unit {0}
AreHopsAt old new (hop ∷ hops) [] = ⊥
AreHopsAt old new (hop ∷ hops) (turn ∷ turns) = IsHopAt old new hop turn × AreHopsAt old new hops turns

mixed_at : (old new : Network) (s : Spot) (turns : List Turn) → IsPlan old → IsPlan new → length old.nodes ≡ length new.nodes
    → HaveMarkings turns → All (λ (hop : Hop). IsSpotOf old hop.spot) (mixed old new s turns)
    → AreHopsAt old new (tagged (mixed old new s turns) turns) turns
mixed_at old new s [] is also same marked spots = tt
mixed_at old new s (turn ∷ turns) is also same marked spots =
    let hop : Hop = record { spot = s; step = made old new turn s } in
    let rest : List Hop = onward (next_of (made old new turn s)) (λ next. mixed old new next turns) in (
      record {
        which = refl;
        spot = All-head (λ (h : Hop). IsSpotOf old h.spot) hop rest spots;
        marks = (All-head (λ (t : Turn). IsMarking t.marking) turn turns marked).real;
        stays = stays_in old new s turn is also same;
        does = refl;
      },
      by (λ next. mixed_at old new next turns is also same) (next_of (made old new turn s))
          (All-tail (λ (t : Turn). IsMarking t.marking) turn turns marked)
          (All-tail (λ (h : Hop). IsSpotOf old h.spot) hop rest spots),
    )
  where
    by : ((next : Spot) → HaveMarkings turns → All (λ (hop : Hop). IsSpotOf old hop.spot) (mixed old new next turns)
        → AreHopsAt old new (tagged (mixed old new next turns) turns) turns)
        → (o : Option Spot) → HaveMarkings turns
        → All (λ (hop : Hop). IsSpotOf old hop.spot) (onward o (λ next. mixed old new next turns))
        → AreHopsAt old new (tagged (onward o (λ next. mixed old new next turns)) turns) turns
    by later None marks all = tt
    by later (Some next) marks all = later next marks all

-- ---- a line, and what follows it

which_parted : (a b : Which) (r s : List ℕ) → which_words a ++ r ≡ which_words b ++ s → (a ≡ b) × (r ≡ s)
unfolding which_words
which_parted Old Old r s e = (refl, rest_same 32 32 _ _ (rest_same 100 100 _ _ (rest_same 108 108 _ _ (rest_same 111 111 _ _ e))))
which_parted Old New r s e = absurd (let first = first_same 111 110 _ _ e in omega (arith, first))
which_parted New Old r s e = absurd (let first = first_same 110 111 _ _ e in omega (arith, first))
which_parted New New r s e = (refl, rest_same 32 32 _ _ (rest_same 119 119 _ _ (rest_same 101 101 _ _ (rest_same 110 110 _ _ e))))

line_more : (plan : Network) (hop : MixedHop) (marking : List Mark) (r : List ℕ)
    → mixed_hop_line plan hop marking ++ r ≡ which_words hop.which ++ (hop_line plan hop.hop marking ++ r)
unfolding mixed_hop_line
line_more plan hop marking r = append_assoc (which_words hop.which) (hop_line plan hop.hop marking) r

some_which : (which : Which) (r : List ℕ) → which_words which ++ r ≡ [] → ⊥
unfolding which_words
some_which Old r e = omega (arith, ap length e)
some_which New r e = omega (arith, ap length e)

some_mixed_line : (plan : Network) (hop : MixedHop) (m : List Mark) (r : List ℕ) → mixed_hop_line plan hop m ++ r ≡ [] → ⊥
some_mixed_line plan hop m r e = some_which hop.which (hop_line plan hop.hop m ++ r) (sym (line_more plan hop m r) ∙ e)

line_parted : (old new : Network) (hop other : MixedHop) (t u : Turn) (r s : List ℕ) → IsPlan old
    → All (λ node. IsName node.name) old.nodes → IsHopAt old new hop t → IsHopAt old new other u
    → mixed_hop_line old hop t.marking ++ r ≡ mixed_hop_line old other u.marking ++ s → (hop ≡ other) × (t ≡ u) × (r ≡ s)
line_parted old new hop other t u r s is names h k e =
    let first = which_parted hop.which other.which (hop_line old hop.hop t.marking ++ r) (hop_line old other.hop u.marking ++ s)
    (sym (line_more old hop t.marking r) ∙ e ∙ line_more old other u.marking s) in
    let parts = line_parts old hop.hop other.hop t.marking u.marking r s is names h.spot k.spot h.marks k.marks h.stays k.stays first.1 in
    let turned : t.which ≡ u.which = sym h.which ∙ first.0 ∙ k.which in
    let turns : t ≡ u = λ i. record { which = turned i; marking = parts.1 i } in
    let does : hop.hop.step ≡ other.hop.step = h.does ∙ (λ i. made old new (turns i) (parts.0 i)) ∙ sym k.does in
    ((λ i. record { which = first.0 i; hop = record { spot = parts.0 i; step = does i } }), turns, parts.2)

text_tells_hops : (old new : Network) (hops others : List MixedHop) (us vs : List Turn) → IsPlan old
    → All (λ node. IsName node.name) old.nodes → AreHopsAt old new hops us → AreHopsAt old new others vs
    → mixed_hops_text old hops us ≡ mixed_hops_text old others vs → (hops ≡ others) × (take (length hops) us ≡ take (length others) vs)
text_tells_hops old new [] [] us vs is names h k e = (refl, refl)
text_tells_hops old new [] (other ∷ others) us [] is names h k e = absurd k
text_tells_hops old new [] (other ∷ others) us (v ∷ vs) is names h k e =
    absurd (some_mixed_line old other v.marking (mixed_hops_text old others vs) (sym e))
text_tells_hops old new (hop ∷ hops) others [] vs is names h k e = absurd h
text_tells_hops old new (hop ∷ hops) [] (u ∷ us) vs is names h k e =
    absurd (some_mixed_line old hop u.marking (mixed_hops_text old hops us) e)
text_tells_hops old new (hop ∷ hops) (other ∷ others) (u ∷ us) [] is names h k e = absurd k
text_tells_hops old new (hop ∷ hops) (other ∷ others) (u ∷ us) (v ∷ vs) is names h k e =
    let first = line_parted old new hop other u v (mixed_hops_text old hops us) (mixed_hops_text old others vs) is names h.0 k.0 e in
    let more = text_tells_hops old new hops others us vs is names h.1 k.1 first.2 in
    ((λ i. first.0 i ∷ more.0 i), (λ i. first.1 i ∷ more.1 i))

pub text_tells_mixed_route : TextTellsMixedRoute
text_tells_mixed_route old new s t us vs is also same names h k e =
    let long = same_length old new same in
    text_tells_hops old new (tagged (mixed old new s us) us) (tagged (mixed old new t vs) vs) us vs is names
    (mixed_at old new s us is also long h.markings h.spots) (mixed_at old new t vs is also long k.markings k.spots) e

-- ---- what a lawful answer shows

-- with a turn for each hop of the route there is one for each hop that is shown
tags_each : (hops : List Hop) (turns : List Turn) → length hops ≡ length turns → length (tagged hops turns) ≡ length turns
tags_each [] turns each = each
tags_each (hop ∷ hops) [] each = refl
tags_each (hop ∷ hops) (turn ∷ turns) each = let h = tags_each hops turns (omega (arith, each)) in omega (arith, h)

-- the hops that are shown are hops of the two plans, with a turn for each
record IsShownAt (old new : Network) (hops : List MixedHop) (turns : List Turn) : Type 0 where
  each : length hops ≡ length turns
  at : AreHopsAt old new hops turns

route_shown : (old new : Network) (s : Spot) (turns : List Turn) → IsPlan old → IsPlan new → SameNodes old new
    → length (mixed old new s turns) ≡ length turns → IsMixedInRange old new s turns → IsShownAt old new (hops_of old new s turns) turns
route_shown old new s turns is also same each range = record {
  each = tags_each (mixed old new s turns) turns each;
  at = mixed_at old new s turns is also (same_length old new same) range.markings range.spots;
}

change_shown : (old new : Network) (change : Change) → IsPlan old → IsPlan new → SameNodes old new → IsLawfulChange old new change
    → IsShownAt old new (shown_hops old new change) (shown_turns change)
change_shown old new (Kept bound None turns) is also same lawful = record { each = sym (ap length lawful.2.1); at = tt }
change_shown old new (Kept bound (Some spot) turns) is also same lawful =
    let (tight, range) = lawful.2 in route_shown old new spot turns is also same (tight.hops ∙ sym tight.count) range
change_shown old new (Broken i j spot turns hops kind) is also same (bad, range) =
    subst (λ (hs : List MixedHop). IsShownAt old new hs turns) (sym bad.is_route)
    (route_shown old new spot turns is also same bad.each range)
change_shown old new TooWide is also same lawful = record { each = refl; at = tt }

-- a list of which as many are taken as it has
whole : (hops : List MixedHop) (turns : List Turn) → length hops ≡ length turns → take (length hops) turns ≡ turns
whole [] [] each = refl
whole [] (turn ∷ turns) each = absurd (omega (arith, each))
whole (hop ∷ hops) [] each = refl
whole (hop ∷ hops) (turn ∷ turns) each = ap (λ (ts : List Turn). turn ∷ ts) (whole hops turns (omega (arith, each)))

pub text_tells_change : TextTellsChange
text_tells_change old new c d is also same names lawful true e =
    let h = change_shown old new c is also same lawful in
    let k = change_shown old new d is also same true in
    let told = text_tells_hops old new (shown_hops old new c) (shown_hops old new d) (shown_turns c) (shown_turns d)
    is names h.at k.at e in (
      told.0,
      sym (whole (shown_hops old new c) (shown_turns c) h.each) ∙ told.1 ∙ whole (shown_hops old new d) (shown_turns d) k.each,
    )
