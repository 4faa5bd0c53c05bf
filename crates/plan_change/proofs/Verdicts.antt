-- what a walk shows of two plans
use Rattle.std.specs.Prelude.{ℕ, ◌≡◌, ◌≢◌, ◌+◌, ◌-◌, ◌<◌, ◌≤◌, ◌⊎◌, List, [], ◌∷◌, ◌++◌, length, get_or, Option, Some, None, IsSome}
use Rattle.std.specs.Prelude.{IsSomeAnd, slice_get, refl}
use Rattle.std.specs.List.{Contains}
use Rattle.std.proofs.Common.{sym, ◌∙◌, ap, subst, inl, inr, ⊎_elim, arith, length-append}
use Rattle.std.proofs.lemmas.Bool.{cases_lt}
use Rattle.std.proofs.lemmas.List.{get_or_past, length-map}
use Rattle.std.proofs.lemmas.Option.{slice_get_within, slice_get-get_or, get_or_from_slice_get}
use Rattle.plan_model.specs.declared.cover.Cover.{Cover}
use Rattle.plan_model.specs.declared.spot.Spot.{Spot}
use Rattle.plan_model.specs.declared.hop.Step.{Step}
use Rattle.plan_model.specs.declared.hop.Step.TheVariants.{Sent, Ended, Blocked, NoRow, Overgrown}
use Rattle.plan_model.specs.declared.hop.Hop.{Hop}
use Rattle.plan_model.specs.Network.{Network, IsPlan}
use Rattle.plan_model.specs.Next.{next_of}
use Rattle.plan_model.specs.Steps.{step}
use Rattle.plan_model.specs.Routes.{onward}
use Rattle.plan_model.specs.Covered.{Covers, Covered}
use Rattle.plan_model.specs.Verdicts.{last, MayEnd, HasSpot}
use Rattle.plan_model.proofs.Spots.{cover_at}
use Rattle.plan_model.proofs.Ways.{last-onward}
use Rattle.plan_classes.specs.Titles.{Titles, HasTitle}
use Rattle.plan_check.specs.Ranked.{Allows}
use Rattle.plan_check.proofs.Soundness.{some_of}
use Rattle.plan_mixed.specs.declared.which.Which.{Which}
use Rattle.plan_mixed.specs.declared.which.Which.TheVariants.{Old, New}
use Rattle.plan_model.specs.SameNodes.{SameNodes, without_rows}
use Rattle.plan_mixed.specs.Pairs.{place_range, pair, old_of, new_of, shared}
use Rattle.plan_mixed.specs.declared.holding.Holding.TheVariants.{Old as OnlyOld, New as OnlyNew, Either}
use Rattle.plan_mixed.specs.Holdings.{chosen, may_hold, MayHold}
use Rattle.plan_mixed.specs.Mixed.{held}
use Rattle.plan_mixed.proofs.Meeting.{meets, shared_exact}
use Rattle.plan_mixed.proofs.Pairing.{old_of_pair, new_of_pair}
use Rattle.plan_mixed.specs.declared.holding.Holding.{Holding}
use Rattle.plan_change.specs.declared.turn.Turn.{Turn}
use Rattle.plan_change.specs.declared.stop.Stop.{Stop}
use Rattle.plan_change.specs.declared.way.Way.{Way}
use Rattle.plan_change.specs.Mixture.{made, made_under, mixed_under, BothAllow, SafeUnder, TightUnder}
use Rattle.plan_change.specs.Changes.{NoneCovered}
use Rattle.plan_change.specs.Ways.{PairAllows, IsBadStep, IsBadHere, IsOneTurn, IsBehind, IsBadWay}
use Rattle.plan_change.specs.Stops.{IsAmong, GoesWell, LeadsInto, IsFromStart}
use Rattle.plan_change.specs.Walks.{stops_at, AreLayers, HasStop, HasFirst, IsOfPair, EndsWalk}
use Rattle.plan_change.proofs.Growing.{inside_has}
use Rattle.plan_change.proofs.Back.{of_all, as_held}

pub same_length : (old new : Network) → SameNodes old new → length old.nodes ≡ length new.nodes
same_length old new same = sym (length-map old.nodes without_rows) ∙ ap length same ∙ length-map new.nodes without_rows

-- no spot is among no stops
among_none : (stops : List Stop) (number : ℕ) (spot : Spot) → stops ≡ [] → IsAmong stops number spot → ⊥
among_none stops number spot none h = omega (arith, ap length none, h.2)

-- the last hop of the walk, and those past it, have no stop
abbrev pub IsThrough : List (List Stop) → ℕ → Type 0
IsThrough layers bound = (length layers ≡ bound + 1) × (stops_at layers bound ≡ [])

beyond : (layers : List (List Stop)) (bound hop : ℕ) → IsThrough layers bound → bound ≤ hop → stops_at layers hop ≡ []
beyond layers bound hop through le =
    ⊎_elim
    (λ (lt : bound < hop). get_or_past layers hop [] (omega (arith, through.0)))
    (λ (ge : hop ≤ bound). ap (stops_at layers) (let e : hop ≡ bound = omega (arith, le, ge) in e) ∙ through.1)
    (cases_lt bound hop)

-- a relay may hold what it holds
pub settled : (holding : Holding) (which : Which) → chosen holding (chosen holding which) ≡ chosen holding which
settled OnlyOld which = refl
settled OnlyNew which = refl
settled Either which = refl

-- what the titles of a stop do in a turn
in_turn : (may : List Holding) (old new : Network) (c : Titles) (stops : List Stop) (spot : Spot) (turn : Turn)
    → LeadsInto may old new c stops → HasTitle c spot
    → GoesWell old new c.cover stops (made_under may old new turn spot)
in_turn may old new c stops spot turn into has =
    by (chosen (may_hold may spot.node) turn.which) (settled (may_hold may spot.node) turn.which)
  where
    at : spot.node ≡ c.node
    at = ap (λ (s : Spot). s.node) has.2

    by : (which : Which) → MayHold may spot.node which → GoesWell old new c.cover stops (step (held old new which) spot turn.marking)
    by Old lets = into.0 (subst (λ (n : ℕ). MayHold may n Old) at lets) spot turn.marking has
    by New lets = into.1 (subst (λ (n : ℕ). MayHold may n New) at lets) spot turn.marking has

-- the mixed route of a spot of a hop ends well within the hops that are left
ends_well : (may : List Holding) (old new : Network) (layers : List (List Stop)) (bound number : ℕ) → AreLayers may old new layers
    → IsThrough layers bound
    → (turns : List Turn) (hop : ℕ) (spot : Spot) → IsAmong (stops_at layers hop) number spot → bound ≤ hop + length turns
    → IsSomeAnd (last (mixed_under may old new spot turns)) (MayEnd (PairAllows old new number))
ends_well may old new layers bound number are through [] hop spot among le =
    absurd (among_none (stops_at layers hop) number spot (beyond layers bound hop through (omega (arith, le))) among)
ends_well may old new layers bound number are through (turn ∷ turns) hop spot among le =
    ⊎_elim
    (λ (lt : hop < bound).
    let stop : Stop = among.1 in
    let into : LeadsInto may old new stop.class (stops_at layers (hop + 1)) =
    subst (λ (s : Stop). LeadsInto may old new s.class (stops_at layers (hop + 1))) among.3
    (are.onward hop (omega (arith, lt, through.0)) among.0 stop among.2) in
    let well : GoesWell old new number (stops_at layers (hop + 1)) (made_under may old new turn spot) =
    subst (λ (n : ℕ). GoesWell old new n (stops_at layers (hop + 1)) (made_under may old new turn spot)) among.4.0
    (in_turn may old new stop.class (stops_at layers (hop + 1)) spot turn into among.4.1) in
    by_step (λ next among. ends_well may old new layers bound number are through turns (hop + 1) next among (omega (arith, le)))
    (made_under may old new turn spot) refl well)
    (λ (ge : bound ≤ hop). absurd (among_none (stops_at layers hop) number spot (beyond layers bound hop through ge) among))
    (cases_lt hop bound)
  where
    hop_here : Hop
    hop_here = record { spot = spot; step = made_under may old new turn spot }

    stopped : (x : Step) → made_under may old new turn spot ≡ x → next_of x ≡ None → MayEnd (PairAllows old new number) x
        → IsSomeAnd (last (mixed_under may old new spot (turn ∷ turns))) (MayEnd (PairAllows old new number))
    stopped x e ends good =
        subst (λ (o : Option Spot). IsSomeAnd (last (hop_here ∷ onward o (λ next. mixed_under may old new next turns)))
        (MayEnd (PairAllows old new number)))
        (sym (ap next_of e ∙ ends))
        (subst (MayEnd (PairAllows old new number)) (sym e) good)

    by_step : ((next : Spot) → IsAmong (stops_at layers (hop + 1)) number next
        → IsSomeAnd (last (mixed_under may old new next turns)) (MayEnd (PairAllows old new number))) → (x : Step)
        → made_under may old new turn spot ≡ x
        → GoesWell old new number (stops_at layers (hop + 1)) x
        → IsSomeAnd (last (mixed_under may old new spot (turn ∷ turns))) (MayEnd (PairAllows old new number))
    by_step rest (Sent next target) e well =
        subst (λ (o : Option Spot). IsSomeAnd (last (hop_here ∷ onward o (λ next. mixed_under may old new next turns)))
        (MayEnd (PairAllows old new number)))
        (sym (ap next_of e))
        (last-onward hop_here (mixed_under may old new next turns) (MayEnd (PairAllows old new number)) (rest next well))
    by_step rest (Ended pc ssn target) e well = stopped (Ended pc ssn target) e refl well
    by_step rest (Blocked cause marks) e well = stopped (Blocked cause marks) e refl tt
    by_step rest (NoRow cause) e well = absurd well
    by_step rest Overgrown e well = absurd well

-- a cover that has a spot, with its number
record HasCover (plan : Network) (spot : Spot) : Type 0 where
  number : ℕ
  cover : Cover
  at : slice_get plan.covers number ≡ Some cover
  has : Covers cover spot

covering : (plan : Network) (spot : Spot) → Covered plan spot → HasCover plan spot
covering plan spot h = record { number = h.0; cover = h.1; at = slice_get-get_or plan.covers h.0 h.1 h.2 ∙ ap Some h.3; has = h.4 }

-- a spot that both plans cover is among those of the first hop
started : (may : List Holding) (old new : Network) (layers : List (List Stop)) (spot : Spot) → AreLayers may old new layers
    → (a : HasCover old spot) (b : HasCover new spot) → IsPlan old → IsPlan new → IsAmong (stops_at layers 0) (pair a.number b.number) spot
started may old new layers spot are a b is also =
    are.started a.number b.number a.cover b.cover a.at b.at (meets a.cover b.cover spot a.has b.has) spot
    ((shared_exact old.nodes new.nodes (pair a.number b.number) a.cover b.cover (shared (pair a.number b.number) a.cover b.cover)
    (cover_at old a.number a.cover is a.at) (cover_at new b.number b.cover also b.at)
    (meets a.cover b.cover spot a.has b.has) refl spot).1 (a.has, b.has))

-- an end that suits each pair of covers of a spot suits all its covers
suits_all : (old new : Network) (spot : Spot) (x : Step) → IsPlan new → (a : HasCover old spot) (b : HasCover new spot)
    → ((c : HasCover old spot) (d : HasCover new spot) → MayEnd (PairAllows old new (pair c.number d.number)) x)
    → MayEnd (BothAllow old new spot) x
suits_all old new spot (Sent next target) also a b each = each a b
suits_all old new spot (Blocked cause marks) also a b each = tt
suits_all old new spot (NoRow cause) also a b each = each a b
suits_all old new spot Overgrown also a b each = each a b
suits_all old new spot (Ended pc ssn target) also a b each = (
  λ k d lt has.
      let c : HasCover old spot =
      record { number = k; cover = get_or old.covers k d; at = slice_get-get_or old.covers k d lt; has = has } in
      let e : old_of (pair k b.number) ≡ k = old_of_pair k b.number (few b) in
      let there : Allows old k pc ssn = subst (λ (n : ℕ). Allows old n pc ssn) e (each c b).0 in
      subst (λ (o : Option Cover). IsSomeAnd o (λ q. Contains q.allowed (pc, ssn))) c.at there,
  λ k d lt has.
      let c : HasCover new spot =
      record { number = k; cover = get_or new.covers k d; at = slice_get-get_or new.covers k d lt; has = has } in
      let e : new_of (pair a.number k) ≡ k = new_of_pair a.number k (few c) in
      let there : Allows new k pc ssn = subst (λ (n : ℕ). Allows new n pc ssn) e (each a c).1 in
      subst (λ (o : Option Cover). IsSomeAnd o (λ q. Contains q.allowed (pc, ssn))) c.at there,
)
  where
    few : (d : HasCover new spot) → d.number < place_range
    few d = omega (arith, slice_get_within new.covers d.number d.cover d.at, also.cover_places)

-- a walk that ended without a bad title shows that the mixture is safe for its hops
pub through_safe : (may : List Holding) (old new : Network) (layers : List (List Stop)) (bound : ℕ) → IsPlan old → IsPlan new
    → AreLayers may old new layers
    → IsThrough layers bound → SafeUnder may old new bound
through_safe may old new layers bound is also are through spot turns old_covered new_covered size =
    let a = covering old spot old_covered in
    let b = covering new spot new_covered in
    let one = some_of (last (mixed_under may old new spot turns)) (MayEnd (PairAllows old new (pair a.number b.number))) (each a b) in
    subst (λ (o : Option Step). IsSomeAnd o (MayEnd (BothAllow old new spot))) (sym one.1)
    (suits_all old new spot one.0 also a b (λ c d. subst
    (λ (o : Option Step). IsSomeAnd o (MayEnd (PairAllows old new (pair c.number d.number)))) one.1 (each c d)))
  where
    each : (a : HasCover old spot) (b : HasCover new spot)
        → IsSomeAnd (last (mixed_under may old new spot turns)) (MayEnd (PairAllows old new (pair a.number b.number)))
    each a b = ends_well may old new layers bound (pair a.number b.number) are through turns 0 spot
        (started may old new layers spot are a b is also) (omega (arith, size))

-- without a stop at the first hop no spot is covered by both
pub none_covered : (may : List Holding) (old new : Network) (layers : List (List Stop)) → IsPlan old → IsPlan new
    → AreLayers may old new layers → IsThrough layers 0
    → NoneCovered old new
none_covered may old new layers is also are through spot old_covered new_covered =
    let a = covering old spot old_covered in
    let b = covering new spot new_covered in
    among_none (stops_at layers 0) (pair a.number b.number) spot through.1 (started may old new layers spot are a b is also)

-- the covers of a spot of the first hop
pub record HasBoth (old new : Network) (number : ℕ) (spot : Spot) : Type 0 where
  pub old_has : HasSpot old (old_of number) spot
  pub new_has : HasSpot new (new_of number) spot
  pub old_covered : Covered old spot
  pub new_covered : Covered new spot
  pub node : spot.node < length old.nodes

pub first_covered : (may : List Holding) (old new : Network) (layers : List (List Stop)) (number : ℕ) (spot : Spot) → IsPlan old
    → IsPlan new
    → AreLayers may old new layers → HasFirst layers number spot → HasBoth old new number spot
first_covered may old new layers number spot is also are h =
    record {
      old_has = subst (λ (n : ℕ). HasSpot old n spot) (sym (old_of_pair start.i start.j few) ∙ ap old_of number_is)
          (subst (λ (o : Option Cover). IsSomeAnd o (λ c. Covers c spot)) (sym start.old_at) both.0);
      new_has = subst (λ (n : ℕ). HasSpot new n spot) (sym (new_of_pair start.i start.j few) ∙ ap new_of number_is)
          (subst (λ (o : Option Cover). IsSomeAnd o (λ c. Covers c spot)) (sym start.new_at) both.1);
      old_covered = (
        start.i,
        start.a,
        slice_get_within old.covers start.i start.a start.old_at,
        get_or_from_slice_get old.covers start.i start.a start.a start.old_at,
        both.0,
      );
      new_covered = (
        start.j,
        start.b,
        slice_get_within new.covers start.j start.b start.new_at,
        get_or_from_slice_get new.covers start.j start.b start.b start.new_at,
        both.1,
      );
      node = omega (arith, both.0.node, (cover_at old start.i start.a is start.old_at).node);
    }
  where
    stop : (s : Stop) × (slice_get (stops_at layers 0) h.0 ≡ Some s) × ((s.class.cover ≡ number) × HasTitle s.class spot)
    stop = some_of (slice_get (stops_at layers 0) h.0) (λ s. (s.class.cover ≡ number) × HasTitle s.class spot) h.1

    start : IsFromStart old new stop.0
    start = of_all (IsFromStart old new) (stops_at layers 0) h.0 stop.0 stop.1 are.first

    few : start.j < place_range
    few = omega (arith, slice_get_within new.covers start.j start.b start.new_at, also.cover_places)

    number_is : pair start.i start.j ≡ number
    number_is = sym start.inside.cover ∙ stop.2.0

    both : Covers start.a spot × Covers start.b spot
    both = (shared_exact old.nodes new.nodes (pair start.i start.j) start.a start.b (shared (pair start.i start.j) start.a start.b)
        (cover_at old start.i start.a is start.old_at) (cover_at new start.j start.b also start.new_at) start.meet refl spot).0
        (inside_has (shared (pair start.i start.j) start.a start.b) stop.0.class spot start.inside stop.2.1)

-- one turn makes one hop
one_hop : (may : List Holding) (old new : Network) (spot : Spot) (turn : Turn)
    → mixed_under may old new spot (turn ∷ []) ≡ record { spot = spot; step = made_under may old new turn spot } ∷ []
one_hop may old new spot turn = by (next_of (made_under may old new turn spot))
  where
    by : (o : Option Spot) → (let h : Hop = record { spot = spot; step = made_under may old new turn spot } in h
        ∷ onward o (λ next. mixed_under may old new next [])) ≡ record { spot = spot; step = made_under may old new turn spot } ∷ []
    by None = refl
    by (Some s) = refl

last-append : (front : List Hop) (h : Hop) → last (front ++ h ∷ []) ≡ Some h.step
last-append [] h = refl
last-append (x ∷ []) h = refl
last-append (x ∷ y ∷ ys) h = last-append (y ∷ ys) h

-- the whole route of a way that follows this number of hops and has one turn of its own
behind_one : (may : List Holding) (old new : Network) (hops : ℕ) (way before : Way) (turn : Turn) → way.turns ≡ turn ∷ []
    → (b : IsBehind may old new hops way before) → mixed_under may old new before.spot before.turns ≡ b.front
    ++ record { spot = way.spot; step = made_under may old new turn way.spot } ∷ []
behind_one may old new hops way before turn one b = b.route
    ∙ ap (λ (hs : List Hop). b.front ++ hs) (ap (mixed_under may old new way.spot) one
    ∙ one_hop may old new way.spot turn)

pub tight_from : (may : List Holding) (old new : Network) (layers : List (List Stop)) (bound number : ℕ) (c : Titles) (way before : Way)
    → IsPlan old
    → IsPlan new → AreLayers may old new layers → 1 ≤ bound → IsOneTurn c way → IsBehind may old new (bound - 1) way before
    → HasFirst layers number before.spot → TightUnder may old new bound before.spot before.turns
tight_from may old new layers bound number c way before is also are some one behind first =
    let both = first_covered may old new layers number before.spot is also are first in
    record {
      some = some;
      old_covered = both.old_covered;
      new_covered = both.new_covered;
      count = omega (arith, behind.more, ap length one.one, some);
      hops = ap length (behind_one may old new (bound - 1) way before one.turn one.one behind) ∙ length-append behind.front _
          ∙ omega (arith, behind.count, some);
    }

-- a bad way, carried back
pub bad_from : (may : List Holding) (old new : Network) (layers : List (List Stop)) (hop number : ℕ) (c : Titles) (way before : Way)
    → hop < 15
    → c.cover ≡ number → IsBehind may old new hop way before → IsBadHere may old new c way ⊎ ((hop ≡ 14) × IsOneTurn c way)
    → IsBadWay may old new number before.spot before.turns
bad_from may old new layers hop number c way before lt cover behind (inl bad) =
    let whole = behind_one may old new hop way before bad.turn bad.one behind in
    record {
      each = ap length whole ∙ length-append behind.front _ ∙ omega (arith, behind.count, behind.more, ap length bad.one);
      some = omega (arith, behind.more, ap length bad.one);
      few = omega (arith, behind.more, ap length bad.one, lt);
      ends = inl (subst (λ (o : Option Step). IsSomeAnd o (IsBadStep old new number)) (sym (ap last whole ∙ last-append behind.front _))
          (subst (IsBadStep old new number)
          (sym (as_held may old new c.node bad.turn way.spot (ap (λ (s : Spot). s.node) bad.has.2) bad.lets))
          (subst (λ (n : ℕ). IsBadStep old new n (made old new bad.turn way.spot)) cover bad.bad)));
    }
bad_from may old new layers hop number c way before lt cover behind (inr long) =
    let whole = behind_one may old new hop way before long.1.turn long.1.one behind in
    record {
      each = ap length whole ∙ length-append behind.front _ ∙ omega (arith, behind.count, behind.more, ap length long.1.one);
      some = omega (arith, behind.more, ap length long.1.one);
      few = omega (arith, behind.more, ap length long.1.one, lt);
      ends = inr (omega (arith, behind.more, ap length long.1.one, long.0));
    }

-- the stop of a walk that shows a bad title
pub record ShowsBad (may : List Holding) (old new : Network) (layers : List (List Stop)) (hop place : ℕ) (way : Way) : Type 0 where
  pub stop : Stop
  pub at : slice_get (stops_at layers hop) place ≡ Some stop
  pub bad : IsBadHere may old new stop.class way ⊎ ((hop ≡ 14) × IsOneTurn stop.class way)
  pub has : HasTitle stop.class way.spot

pub shows_bad : (may : List Holding) (old new : Network) (layers : List (List Stop)) (hop place : ℕ) (way : Way) → length layers ≡ hop + 1
    → EndsWalk may old new layers place way → ShowsBad may old new layers hop place way
shows_bad may old new layers hop place way size ends = by ends.2
  where
    same : ends.0 ≡ hop
    same = omega (arith, size, ends.1)

    by : IsSomeAnd (slice_get (stops_at layers ends.0) place) (λ stop. IsBadHere may old new stop.class way)
        ⊎ ((ends.0 ≡ 14) × IsSomeAnd (slice_get (stops_at layers ends.0) place) (λ stop. IsOneTurn stop.class way))
        → ShowsBad may old new layers hop place way
    by (inl h) =
        let s = some_of (slice_get (stops_at layers ends.0) place) (λ stop. IsBadHere may old new stop.class way) h in
        record { stop = s.0; at = ap (λ (n : ℕ). slice_get (stops_at layers n) place) (sym same) ∙ s.1; bad = inl s.2; has = s.2.has }
    by (inr h) =
        let s = some_of (slice_get (stops_at layers ends.0) place) (λ stop. IsOneTurn stop.class way) h.1 in
        record {
          stop = s.0;
          at = ap (λ (n : ℕ). slice_get (stops_at layers n) place) (sym same)
              ∙ s.1;
          bad = inr (sym same ∙ h.0, s.2);
          has = s.2.has;
        }

pub some_stop : (layers : List (List Stop)) (hop : ℕ) → stops_at layers hop ≢ [] → HasStop layers hop 0
some_stop layers hop busy = by (stops_at layers hop) busy
  where
    by : (stops : List Stop) → stops ≢ [] → IsSome (slice_get stops 0)
    by [] none = absurd (none refl)
    by (s ∷ ss) none = refl

pub of_pair : (layers : List (List Stop)) (hop place : ℕ) (stop : Stop) → slice_get (stops_at layers hop) place ≡ Some stop
    → IsOfPair layers hop place stop.class.cover
of_pair layers hop place stop at = subst (λ (o : Option Stop). IsSomeAnd o (λ s. s.class.cover ≡ stop.class.cover)) (sym at) refl

pub one_stop : (layers : List (List Stop)) (hop place : ℕ) (s t : Stop) → slice_get (stops_at layers hop) place ≡ Some s
    → slice_get (stops_at layers hop) place ≡ Some t → s ≡ t
one_stop layers hop place s t e f = let h : Some s ≡ Some t = sym e ∙ f in cc
