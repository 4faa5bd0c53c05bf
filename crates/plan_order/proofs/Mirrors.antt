-- routes while the plans have changed their places
use Rattle.std.specs.Prelude.{ℕ, ◌≡◌, ◌⊎◌, List, [], ◌∷◌, length, slice_index_or, Option, Some, None, IsSomeAnd, refl}
use Rattle.std.specs.List.{All}
use Rattle.std.proofs.Common.{suc, sym, ◌∙◌, ap, subst, inl, inr}
use Rattle.std.proofs.lemmas.List.Elements.{All-cons, All-head, All-tail}
use Rattle.sccp_base.specs.Marks.{IsMarking}
use Rattle.plan_model.specs.declared.spot.Spot.{Spot}
use Rattle.plan_model.specs.declared.hop.Step.{Step}
use Rattle.plan_model.specs.declared.hop.Step.TheVariants.{Sent, Ended, Blocked, NoRow, Overgrown}
use Rattle.plan_model.specs.declared.hop.Hop.{Hop}
use Rattle.plan_model.specs.Network.{Network}
use Rattle.plan_model.specs.Next.{next_of}
use Rattle.plan_model.specs.Steps.{step}
use Rattle.plan_model.specs.Routes.{onward, route_by}
use Rattle.plan_model.specs.Spots.{IsSpotOf}
use Rattle.plan_model.specs.Verdicts.{last, MayEnd}
use Rattle.plan_mixed.specs.declared.which.Which.{Which}
use Rattle.plan_mixed.specs.declared.which.Which.TheVariants.{Old, New}
use Rattle.plan_mixed.specs.declared.holding.Holding.{Holding}
use Rattle.plan_mixed.specs.Holdings.{chosen, may_hold, MayHold}
use Rattle.plan_mixed.specs.Mixed.{held}
use Rattle.plan_change.specs.declared.turn.Turn.{Turn}
use Rattle.plan_change.specs.Mixture.{made_under, mixed_under, HaveMarkings, BothAllow, SafeUnder}
use Rattle.plan_change.specs.Changes.{IsLongestUnder}
use Rattle.plan_change.specs.Holdings.{DoSame}
use Rattle.plan_change.proofs.Holdings.{any_held, onward_same}
use Rattle.plan_change.proofs.Ranges.{other_spot}
use Rattle.plan_change.proofs.Verdicts.{settled}

-- the other one of the two plans
abbrev pub other : Which → Which
other Old = New
other New = Old

held_other : (old new : Network) (w : Which) → held new old w ≡ held old new (other w)
held_other old new Old = refl
held_other old new New = refl

-- if the plans have changed their places, each relay may hold no other plan than it may hold by the first list
abbrev pub IsMirror : Network → Network → List Holding → List Holding → Type 0
IsMirror old new may back = (node : ℕ) (w : Which) → MayHold back node w → MayHold may node (other w) ⊎ DoSame old new node

-- a turn with the same marks that gives the same step
abbrev IsAsTurn : (Turn → Spot → Step) → (Turn → Spot → Step) → Turn → Spot → Type 0
IsAsTurn f g turn spot = (t : Turn) × (t.marking ≡ turn.marking) × (f t spot ≡ g turn spot)

-- there is one by the first list
back_turn : (old new : Network) (may back : List Holding) → IsMirror old new may back → (turn : Turn) (spot : Spot)
    → IsAsTurn (made_under may old new) (made_under back new old) turn spot
back_turn old new may back mirror turn spot = by (mirror spot.node which (settled (may_hold back spot.node) turn.which))
  where
    which : Which
    which = chosen (may_hold back spot.node) turn.which

    by : MayHold may spot.node (other which) ⊎ DoSame old new spot.node
        → IsAsTurn (made_under may old new) (made_under back new old) turn spot
    by (inl holds) = (
      record { which = other which; marking = turn.marking },
      refl,
      ap (λ (w : Which). step (held old new w) spot turn.marking) holds
          ∙ sym (ap (λ (p : Network). step p spot turn.marking) (held_other old new which)),
    )
    by (inr same) = (
      turn,
      refl,
      any_held old new spot turn.marking (same spot turn.marking refl) (chosen (may_hold may spot.node) turn.which) (other which)
          ∙ sym (ap (λ (p : Network). step p spot turn.marking) (held_other old new which)),
    )

marked_cons : (t turn : Turn) (ts turns : List Turn) → t.marking ≡ turn.marking → (HaveMarkings turns → HaveMarkings ts)
    → HaveMarkings (turn ∷ turns) → HaveMarkings (t ∷ ts)
marked_cons t turn ts turns same later all =
    All-cons (λ (u : Turn). IsMarking u.marking) t ts
    (subst IsMarking (sym same) (All-head (λ (u : Turn). IsMarking u.marking) turn turns all))
    (later (All-tail (λ (u : Turn). IsMarking u.marking) turn turns all))

-- turns that give the same route, with marks in order if those have
abbrev AreAsTurns : (Turn → Spot → Step) → (Turn → Spot → Step) → List Turn → Spot → Type 0
AreAsTurns f g turns spot =
    (ts : List Turn) × (length ts ≡ length turns) × (route_by f spot ts ≡ route_by g spot turns)
    × (HaveMarkings turns → HaveMarkings ts)

-- there are such turns, if there is one for each turn and spot that gives the same step
same_route : (f g : Turn → Spot → Step) → ((turn : Turn) (spot : Spot) → IsAsTurn f g turn spot) → (turns : List Turn)
    (spot : Spot) → AreAsTurns f g turns spot
same_route f g each [] spot = ([], refl, refl, λ h. h)
same_route f g each (turn ∷ turns) spot = by (same_route f g each turns) (next_of (g turn spot)) refl
  where
    first : IsAsTurn f g turn spot
    first = each turn spot

    joined : (ts : List Turn) → ((next : Spot) → next_of (g turn spot) ≡ Some next → route_by f next ts ≡ route_by g next turns)
        → route_by f spot (first.0 ∷ ts) ≡ route_by g spot (turn ∷ turns)
    joined ts rest =
        ap (λ (x : Step). (let h : Hop = record { spot = spot; step = x } in h) ∷ onward (next_of x) (λ next. route_by f next ts)) first.2
        ∙ ap (λ (hs : List Hop). (let h : Hop = record { spot = spot; step = g turn spot } in h) ∷ hs)
        (onward_same (next_of (g turn spot)) (λ next. route_by f next ts) (λ next. route_by g next turns) rest)

    by : ((next : Spot) → AreAsTurns f g turns next) → (o : Option Spot) → next_of (g turn spot) ≡ o → AreAsTurns f g (turn ∷ turns) spot
    by later None ends = (
      first.0 ∷ turns,
      refl,
      joined turns (λ next on. absurd (let h : None ≡ Some next = sym ends ∙ on in cc)),
      marked_cons first.0 turn turns turns first.1 (λ h. h),
    )
    by later (Some there) on =
        let rest = later there in (
          first.0 ∷ rest.0,
          ap suc rest.1,
          joined rest.0 (λ next also. subst (λ (s : Spot). route_by f s rest.0 ≡ route_by g s turns)
              (let h : Some there ≡ Some next = sym on ∙ also in let e : there ≡ next = cc in e) rest.2),
          marked_cons first.0 turn rest.0 turns first.1 rest.3,
        )

ends_back : (old new : Network) (spot : Spot) (x : Step) → MayEnd (BothAllow old new spot) x → MayEnd (BothAllow new old spot) x
ends_back old new spot (Ended pc ssn target) h = (h.1, h.0)
ends_back old new spot (Blocked cause marks) h = h
ends_back old new spot (Sent next target) h = h
ends_back old new spot (NoRow cause) h = h
ends_back old new spot Overgrown h = h

last_back : (old new : Network) (spot : Spot) (o : Option Step) → IsSomeAnd o (MayEnd (BothAllow old new spot))
    → IsSomeAnd o (MayEnd (BothAllow new old spot))
last_back old new spot None h = h
last_back old new spot (Some x) h = ends_back old new spot x h

-- so a mixture that is safe is safe back
pub safe_back : (old new : Network) (may back : List Holding) (bound : ℕ) → IsMirror old new may back → SafeUnder may old new bound
    → SafeUnder back new old bound
safe_back old new may back bound mirror safe spot turns new_covered old_covered size =
    let found = same_route (made_under may old new) (made_under back new old) (back_turn old new may back mirror) turns spot in
    subst (λ (hops : List Hop). IsSomeAnd (last hops) (MayEnd (BothAllow new old spot))) found.2
    (last_back old new spot (last (mixed_under may old new spot found.0)) (safe spot found.0 old_covered new_covered (found.1 ∙ size)))

-- and its longest route is one back, if each list is the mirror of the other one
pub longest_back : (old new : Network) (may back : List Holding) (bound : ℕ) → length old.nodes ≡ length new.nodes
    → IsMirror new old back may → (o : Option Spot) (turns : List Turn) → IsLongestUnder may old new bound o turns
    → (p : Option Spot) × (ts : List Turn) × IsLongestUnder back new old bound p ts
longest_back old new may back bound same mirror None turns longest = (
  None,
  turns,
  (longest.0, longest.1, λ spot new_covered old_covered. longest.2 spot old_covered new_covered),
)
longest_back old new may back bound same mirror (Some spot) turns (tight, range) =
    let found = same_route (made_under back new old) (made_under may old new) (back_turn new old back may mirror) turns spot in (
      Some spot,
      found.0,
      (
        record {
          some = tight.some;
          old_covered = tight.new_covered;
          new_covered = tight.old_covered;
          count = found.1 ∙ tight.count;
          hops = ap length found.2 ∙ tight.hops;
        },
        record {
          markings = found.3 range.markings;
          spots = subst (All (λ (hop : Hop). IsSpotOf new hop.spot)) (sym found.2)
              (λ k d lt. other_spot old new (slice_index_or (mixed_under may old new spot turns) k d).spot same (range.spots k d lt));
        },
      ),
    )
