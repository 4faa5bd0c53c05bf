-- routes while relays may hold other plans
use Rattle.std.specs.Prelude.{ℕ, ◌≡◌, ◌≤◌, ◌⊎◌, List, [], ◌∷◌, length, Option, Some, None, IsSomeAnd, refl}
use Rattle.std.specs.List.{All}
use Rattle.std.proofs.Common.{suc, sym, ◌∙◌, ap, subst, inl, inr, arith}
use Rattle.sccp_base.specs.declared.mark.Mark.{Mark}
use Rattle.plan_model.specs.declared.spot.Spot.{Spot}
use Rattle.plan_model.specs.declared.hop.Step.{Step}
use Rattle.plan_model.specs.declared.hop.Hop.{Hop}
use Rattle.plan_model.specs.declared.kind.Kind.{Kind}
use Rattle.plan_model.specs.Network.{Network}
use Rattle.plan_model.specs.Next.{next_of}
use Rattle.plan_model.specs.Steps.{step}
use Rattle.plan_model.specs.Routes.{onward}
use Rattle.plan_model.specs.Verdicts.{last, MayEnd, EndsBadly}
use Rattle.plan_mixed.specs.declared.which.Which.{Which}
use Rattle.plan_mixed.specs.declared.which.Which.TheVariants.{Old, New}
use Rattle.plan_mixed.specs.declared.holding.Holding.{Holding}
use Rattle.plan_mixed.specs.Holdings.{chosen, may_hold, MayHold}
use Rattle.plan_mixed.specs.Mixed.{held}
use Rattle.plan_change.specs.declared.mixed_hop.MixedHop.{MixedHop}
use Rattle.plan_change.specs.declared.turn.Turn.{Turn}
use Rattle.plan_change.specs.Mixture.{made_under, mixed_under, tagged_under, BothAllow, SafeUnder, BadUnder, made, BothSafe}
use Rattle.plan_change.specs.Holdings.{DoSame, LetsMore, FitsHop}
use Rattle.plan_change.proofs.SafeMixtures.{safe_not_bad_under}
use Rattle.plan_change.proofs.Verdicts.{settled}

-- what follows a step is the same if it is the same from each next spot
pub onward_same : (o : Option Spot) (f g : Spot → List Hop) → ((next : Spot) → o ≡ Some next → f next ≡ g next) → onward o f ≡ onward o g
onward_same None f g h = refl
onward_same (Some next) f g h = h next refl

-- if both plans do the same, it does not matter which is held
pub any_held : (old new : Network) (spot : Spot) (marking : List Mark) → step old spot marking ≡ step new spot marking → (v w : Which)
    → step (held old new v) spot marking ≡ step (held old new w) spot marking
any_held old new spot marking same Old Old = refl
any_held old new spot marking same Old New = same
any_held old new spot marking same New Old = sym same
any_held old new spot marking same New New = refl

-- a turn under the list that lets relays hold more, for a turn under the other one
as_turn : (old new : Network) (more fewer : List Holding) → LetsMore old new more fewer → (spot : Spot) (turn : Turn)
    → (t : Turn) × (made_under more old new t spot ≡ made_under fewer old new turn spot)
as_turn old new more fewer lets spot turn = by (lets spot.node which (settled (may_hold fewer spot.node) turn.which))
  where
    which : Which
    which = chosen (may_hold fewer spot.node) turn.which

    by : MayHold more spot.node which ⊎ DoSame old new spot.node
        → (t : Turn) × (made_under more old new t spot ≡ made_under fewer old new turn spot)
    by (inl holds) = (
      record { which = which; marking = turn.marking },
      ap (λ (w : Which). step (held old new w) spot turn.marking) holds,
    )
    by (inr same) = (
      turn,
      any_held old new spot turn.marking (same spot turn.marking refl)
          (chosen (may_hold more spot.node) turn.which) which,
    )

-- turns under the list that lets relays hold more, which give the same route
pub as_turns : (old new : Network) (more fewer : List Holding) → LetsMore old new more fewer → (turns : List Turn) (spot : Spot)
    → (ts : List Turn) × (length ts ≡ length turns) × (mixed_under more old new spot ts ≡ mixed_under fewer old new spot turns)
as_turns old new more fewer lets [] spot = ([], refl, refl)
as_turns old new more fewer lets (turn ∷ turns) spot =
    by (as_turns old new more fewer lets turns) (next_of (made_under fewer old new turn spot)) refl
  where
    first : (t : Turn) × (made_under more old new t spot ≡ made_under fewer old new turn spot)
    first = as_turn old new more fewer lets spot turn

    joined : (ts : List Turn)
        → ((next : Spot) → next_of (made_under fewer old new turn spot) ≡ Some next
        → mixed_under more old new next ts ≡ mixed_under fewer old new next turns)
        → mixed_under more old new spot (first.0 ∷ ts) ≡ mixed_under fewer old new spot (turn ∷ turns)
    joined ts rest =
        ap (λ (x : Step). (let h : Hop = record { spot = spot; step = x } in h)
        ∷ onward (next_of x) (λ next. mixed_under more old new next ts))
        first.1
        ∙ ap (λ (hs : List Hop). (let h : Hop = record { spot = spot; step = made_under fewer old new turn spot } in h) ∷ hs)
        (onward_same (next_of (made_under fewer old new turn spot)) (λ next. mixed_under more old new next ts)
        (λ next. mixed_under fewer old new next turns) rest)

    by : ((next : Spot)
        → (ts : List Turn) × (length ts ≡ length turns) × (mixed_under more old new next ts ≡ mixed_under fewer old new next turns))
        → (o : Option Spot) → next_of (made_under fewer old new turn spot) ≡ o
        → (ts : List Turn) × (length ts ≡ length (turn ∷ turns))
        × (mixed_under more old new spot ts ≡ mixed_under fewer old new spot (turn ∷ turns))
    by later None ends = (
      first.0 ∷ turns,
      refl,
      joined turns (λ next on. absurd (let h : None ≡ Some next = sym ends ∙ on in cc)),
    )
    by later (Some there) on =
        let rest = later there in (
          first.0 ∷ rest.0,
          ap suc rest.1,
          joined rest.0 (λ next also. subst
              (λ (s : Spot). mixed_under more old new s rest.0 ≡ mixed_under fewer old new s turns)
              (let h : Some there ≡ Some next = sym on ∙ also in let e : there ≡ next = cc in e) rest.2),
        )

-- Fewer holdings: a mixture that is safe is safe if relays may hold less, also if a relay at which both plans do the same holds another.
pub safe_for_fewer : (old new : Network) (more fewer : List Holding) (bound : ℕ) → LetsMore old new more fewer
    → SafeUnder more old new bound
    → SafeUnder fewer old new bound
safe_for_fewer old new more fewer bound lets safe spot turns old_covered new_covered size =
    let found = as_turns old new more fewer lets turns spot in
    subst (λ (hops : List Hop). IsSomeAnd (last hops) (MayEnd (BothAllow old new spot))) found.2
    (safe spot found.0 old_covered new_covered (found.1 ∙ size))

-- a mixed route has no more hops than turns
pub tags_short : (may : List Holding) (hops : List Hop) (turns : List Turn) → length (tagged_under may hops turns) ≤ length turns
tags_short may [] turns = omega arith
tags_short may (hop ∷ hops) [] = omega arith
tags_short may (hop ∷ hops) (turn ∷ turns) = let h = tags_short may hops turns in omega (arith, h)

-- nor has a bad one
pub bad_short : (old new : Network) (may : List Holding) (i j : ℕ) (spot : Spot) (turns : List Turn) (hops : List MixedHop) (kind : Kind)
    → BadUnder may old new i j spot turns hops kind → length hops ≤ length turns
bad_short old new may i j spot turns hops kind bad =
    subst (λ (hs : List MixedHop). length hs ≤ length turns) (sym bad.is_route)
    (tags_short may (mixed_under may old new spot turns) turns)

-- turns under other holdings that give the same hops, with the same plans
record Refitted (old new : Network) (may also : List Holding) (spot : Spot) (turns : List Turn) : Type 0 where
  others : List Turn
  size : length others ≡ length turns
  route : mixed_under also old new spot others ≡ mixed_under may old new spot turns
  tags : tagged_under also (mixed_under also old new spot others) others
      ≡ tagged_under may (mixed_under may old new spot turns) turns

tag_same : (v w : Which) (h k : Hop) (xs ys : List MixedHop) → v ≡ w → h ≡ k → xs ≡ ys
    → (let m : MixedHop = record { which = v; hop = h } in m) ∷ xs ≡ record { which = w; hop = k } ∷ ys
tag_same v w h k xs ys a b c = rw a (rw b (rw c refl))

refitted : (old new : Network) (may also : List Holding) (turns : List Turn) (spot : Spot)
    → All (FitsHop also) (tagged_under may (mixed_under may old new spot turns) turns) → Refitted old new may also spot turns
refitted old new may also [] spot fits = record { others = []; size = refl; route = refl; tags = refl }
refitted old new may also (turn ∷ turns) spot fits =
    by (refitted old new may also turns) (next_of (made_under may old new turn spot)) refl
    (λ k d lt. fits (suc k) d (omega (arith, lt)))
  where
    which : Which
    which = chosen (may_hold may spot.node) turn.which

    holds : MayHold also spot.node which
    holds = fits 0 (record { which = which; hop = record { spot = spot; step = made_under may old new turn spot } }) (omega arith)

    first : Turn
    first = record { which = which; marking = turn.marking }

    same : made_under also old new first spot ≡ made_under may old new turn spot
    same = ap (λ (w : Which). step (held old new w) spot turn.marking) holds

    hop : Step → Hop
    hop x = record { spot = spot; step = x }

    -- the hops after the first, which begin at the next spot, if there is one
    joined : (o : Option Spot) (others : List Turn) → next_of (made_under may old new turn spot) ≡ o → length others ≡ length turns
        → onward o (λ next. mixed_under also old new next others) ≡ onward o (λ next. mixed_under may old new next turns)
        → tagged_under also (onward o (λ next. mixed_under also old new next others)) others
        ≡ tagged_under may (onward o (λ next. mixed_under may old new next turns)) turns → Refitted old new may also spot (turn ∷ turns)
    joined o others is size route tags =
        record {
          others = first ∷ others;
          size = ap suc size;
          route = ap (λ (x : Step). hop x ∷ onward (next_of x) (λ next. mixed_under also old new next others)) same
              ∙ ap (λ (hs : List Hop). hop (made_under may old new turn spot) ∷ hs)
              (subst (λ (p : Option Spot). onward p (λ next. mixed_under also old new next others)
              ≡ onward p (λ next. mixed_under may old new next turns)) (sym is) route);
          tags = tag_same (chosen (may_hold also spot.node) which) which (hop (made_under also old new first spot))
              (hop (made_under may old new turn spot))
              (tagged_under also (onward (next_of (made_under also old new first spot))
              (λ next. mixed_under also old new next others)) others)
              (tagged_under may (onward (next_of (made_under may old new turn spot)) (λ next. mixed_under may old new next turns)) turns)
              holds (ap hop same)
              (ap (λ (x : Step). tagged_under also (onward (next_of x) (λ next. mixed_under also old new next others)) others) same
              ∙ subst (λ (p : Option Spot). tagged_under also (onward p (λ next. mixed_under also old new next others)) others
              ≡ tagged_under may (onward p (λ next. mixed_under may old new next turns)) turns) (sym is) tags);
        }

    by : ((next : Spot) → All (FitsHop also) (tagged_under may (mixed_under may old new next turns) turns)
        → Refitted old new may also next turns) → (o : Option Spot) → next_of (made_under may old new turn spot) ≡ o
        → All (FitsHop also) (tagged_under may (onward (next_of (made_under may old new turn spot))
        (λ next. mixed_under may old new next turns))
        turns) → Refitted old new may also spot (turn ∷ turns)
    by later None ends rest = joined None turns ends refl refl (none turns turns)
      where
        none : (ts us : List Turn) → tagged_under also [] ts ≡ tagged_under may [] us
        none ts us = refl
    by later (Some next) on rest =
        let there = later next (subst (λ (p : Option Spot). All (FitsHop also)
        (tagged_under may (onward p (λ n. mixed_under may old new n turns))
        turns)) on rest) in
        joined (Some next) there.others on there.size there.route there.tags

-- A bad route refuses what it fits: it is bad under any holdings that let each of its relays hold the plan that it held.
pub bad_if_fits : (old new : Network) (may also : List Holding) (i j : ℕ) (spot : Spot) (turns : List Turn) (hops : List MixedHop)
    (kind : Kind)
    → All (FitsHop also) hops → BadUnder may old new i j spot turns hops kind
    → (others : List Turn) × BadUnder also old new i j spot others hops kind
bad_if_fits old new may also i j spot turns hops kind fits bad =
    let other = refitted old new may also turns spot (subst (All (FitsHop also)) bad.is_route fits) in (
      other.others,
      record {
        old_covered = bad.old_covered;
        new_covered = bad.new_covered;
        is_route = bad.is_route ∙ sym other.tags;
        each = ap length other.route ∙ bad.each ∙ sym other.size;
        some = subst (λ (n : ℕ). 1 ≤ n) (sym other.size) bad.some;
        few = subst (λ (n : ℕ). n ≤ 15) (sym other.size) bad.few;
        ends = subst (λ (hs : List Hop). EndsBadly old i hs kind ⊎ EndsBadly new j hs kind) (sym other.route) bad.ends;
      },
    )

pub fitted_not_safe : (old new : Network) (may also : List Holding) (i j : ℕ) (spot : Spot) (turns : List Turn) (hops : List MixedHop)
    (kind : Kind) → BadUnder may old new i j spot turns hops kind → All (FitsHop also) hops → (bound : ℕ) → bound ≤ 14
    → SafeUnder also old new bound → ⊥
fitted_not_safe old new may also i j spot turns hops kind bad fits bound le safe =
    let other = bad_if_fits old new may also i j spot turns hops kind fits bad in
    safe_not_bad_under also old new bound i j spot other.0 hops kind le safe other.1

-- with nothing said of any relay each may hold either plan, by computation
nothing_said_is_safe : (old new : Network) (bound : ℕ) → SafeUnder [] old new bound ≡ BothSafe old new bound
nothing_said_is_safe old new bound = refl

nothing_said_is_made : (old new : Network) → made_under [] old new ≡ made old new
nothing_said_is_made old new = refl
