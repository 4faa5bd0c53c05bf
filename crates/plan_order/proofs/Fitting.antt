-- what a bad mixed route says of other steps
use Rattle.std.specs.Prelude.{ℕ, ◌≡◌, ◌<◌, ◌≤◌, Bool, true, false, IsTrue, List, [], ◌∷◌, ◌++◌, length, slice_index_or, refl}
use Rattle.std.specs.List.{All, Any, AllPairs}
use Rattle.std.proofs.Common.{sym, ◌∙◌, subst, ⊎_elim}
use Rattle.std.proofs.lemmas.Bool.{false≢true, cases_lt}
use Rattle.std.proofs.lemmas.List.Elements.{All-cons, All-nil, All-append, All-head, All-tail}
use Rattle.plan_model.specs.declared.spot.Spot.{Spot}
use Rattle.plan_model.specs.declared.kind.Kind.{Kind}
use Rattle.plan_model.specs.Network.{Network}
use Rattle.plan_mixed.specs.declared.which.Which.{Which}
use Rattle.plan_mixed.specs.declared.which.Which.TheVariants.{Old, New}
use Rattle.plan_mixed.specs.declared.holding.Holding.{Holding}
use Rattle.plan_mixed.specs.Holdings.{chosen}
use Rattle.plan_change.specs.declared.turn.Turn.{Turn}
use Rattle.plan_change.specs.declared.mixed_hop.MixedHop.{MixedHop}
use Rattle.plan_change.specs.Mixture.{BadUnder}
use Rattle.plan_change.specs.Holdings.{FitsHop}
use Rattle.plan_change.proofs.Holdings.{fitted_not_safe}
use Rattle.plan_order.specs.declared.held.Held.{Held}
use Rattle.plan_order.specs.declared.known.Known.{Known}
use Rattle.plan_order.specs.Sets.{is_in, SameSet, Differs}
use Rattle.plan_order.specs.Steps.{during, IsSafeStep}
use Rattle.plan_order.specs.Orders.{IsDeadEnd}
use Rattle.plan_order.specs.Refusing.{lets_hold, lets, held_at, held_of, Refuses}
use Rattle.plan_order.specs.Searching.{IsKnown}
use Rattle.plan_order.proofs.Parts.{held_by, may_at, may_past}

lets_holding : (d s : Bool) (w : Which) → lets_hold w d s ≡ true → chosen (held_by d s) w ≡ w
lets_holding true s Old h = absurd (false≢true h)
lets_holding true s New h = refl
lets_holding false true w h = refl
lets_holding false false Old h = refl
lets_holding false false New h = absurd (false≢true h)

-- a step that lets the hop's relay hold the plan that it held fits the hop
lets_hop : (count : ℕ) (done step : List ℕ) (hop : MixedHop) → lets done step (held_at hop) ≡ true → FitsHop (during count done step) hop
lets_hop count done step hop h =
    ⊎_elim
    (λ (lt : node < count). subst (λ (m : Holding). chosen m hop.which ≡ hop.which) (sym (may_at count done step node lt))
    (lets_holding (is_in done node) (is_in step node) hop.which h))
    (λ (le : count ≤ node). subst (λ (m : Holding). chosen m hop.which ≡ hop.which) (sym (may_past count done step node le)) refl)
    (cases_lt node count)
  where
    node : ℕ
    node = hop.hop.spot.node

lets_hops : (count : ℕ) (done step : List ℕ) (hops : List MixedHop) → All (λ held. IsTrue (lets done step held)) (held_of hops)
    → All (FitsHop (during count done step)) hops
lets_hops count done step [] all = All-nil (FitsHop (during count done step))
lets_hops count done step (hop ∷ hops) all =
    All-cons (FitsHop (during count done step)) hop hops
    (lets_hop count done step hop (All-head (λ (held : Held). IsTrue (lets done step held)) (held_at hop) (held_of hops) all))
    (lets_hops count done step hops (All-tail (λ (held : Held). IsTrue (lets done step held)) (held_at hop) (held_of hops) all))

-- the relays of a bad mixed route refuse each step that lets them hold the same
pub bad_refuses : (old new : Network) (may : List Holding) (i j : ℕ) (spot : Spot) (turns : List Turn) (hops : List MixedHop) (kind : Kind)
    → BadUnder may old new i j spot turns hops kind → Refuses old new (held_of hops)
bad_refuses old new may i j spot turns hops kind bad done step all safe =
    fitted_not_safe old new may (during (length old.nodes) done step) i j spot turns hops kind bad
    (lets_hops (length old.nodes) done step hops all) safe.0 safe.1.0 safe.1.1

-- what is known after one more refusal
pub known_refusal : (old new : Network) (before after : Known) (refusal : List Held) → after.refusals ≡ before.refusals ++ refusal ∷ []
    → after.dead ≡ before.dead → after.wide ≡ before.wide → Refuses old new refusal → IsKnown old new before → IsKnown old new after
known_refusal old new before after refusal more same wide refuses known = record {
  classes = λ h. known.classes (sym wide ∙ h);
  apart = subst (AllPairs (λ (a : List ℕ) (b : List ℕ). SameSet a b → ⊥)) (sym same) known.apart;
  ends = λ h. subst (All (λ (set : List ℕ). All (Differs old new) set × IsDeadEnd old new set)) (sym same) (known.ends (sym wide ∙ h));
  refused = subst (All (Refuses old new)) (sym more)
      (All-append (Refuses old new) before.refusals (refusal ∷ []) known.refused
      (All-cons (Refuses old new) refusal [] refuses (All-nil (Refuses old new))));
}

-- a step that a refusal fits is not safe
pub refused_not_safe : (old new : Network) (known : Known) (done step : List ℕ) → IsKnown old new known
    → Any (λ refusal. All (λ held. IsTrue (lets done step held)) refusal) known.refusals → IsSafeStep old new done step → ⊥
refused_not_safe old new known done step is_known (k, refusal, lt, is, fits) safe =
    let refuses : Refuses old new (slice_index_or known.refusals k refusal) = is_known.refused k refusal lt in
    subst (Refuses old new) is refuses done step fits safe
