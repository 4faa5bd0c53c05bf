-- What a replay keeps.
use Rattle.std.proofs.Common.{◌≡◌, ◌<◌, ◌≤◌, ◌+◌, ◌-◌, ◌^◌, ℕ, zero, suc, List, [], ◌∷◌, ◌++◌, length, map, Option, Some, None, Result, Ok}
use Rattle.std.proofs.Common.{Err, refl, sym, ◌∙◌, ap, subst, arith, length-append, append_assoc, append-nil}
use Rattle.std.proofs.lemmas.List.{map-append, length-set, length-map}
use Rattle.std.proofs.lemmas.List.Elements.{All-nil, All-cons, All-append, All-head, All-tail}
use Rattle.std.proofs.lemmas.Option.{slice_get-map}
use Rattle.std.specs.List.{All}
use Rattle.std.specs.Prelude.{OnOk, OnErr, slice_get, unwrap_or}
use Rattle.std.specs.Option.{option_map}
use Rattle.plan_check.specs.Verified.{Verified}
use Rattle.plan_model.specs.Network.{Network, IsPlan}
use Rattle.plan_model.specs.SameNodes.{SameNodes, without_rows}
use Rattle.plan_model.specs.declared.node.Node.{Node}
use Rattle.relay_net.specs.Batches.{CanBeDone, Due, Incoming, applied_if_due, due_after}
use Rattle.relay_net.specs.Journeys.{journey}
use Rattle.relay_net.specs.States.{State, first_states, first_states_from, happened, applied, applied_at}
use Rattle.relay_net.specs.declared.happening.Happening.{Happening}
use Rattle.relay_net.specs.declared.served.Served.{Served}
use Rattle.relay_net.proofs.Delivering.{journey_can_be_done}
use Rattle.sccp_base.specs.declared.mark.Mark.{Mark}
use Rattle.live_plan.specs.Plans.{HasPlan}
use Rattle.sccp_replay.specs.Replay.{Standing, accepted, latest, plan_at, journey_by}
use Rattle.sccp_replay.specs.Replayers.{IsRouted, IsStanding}
use Rattle.sccp_replay.specs.Routings.{Routing, ArePlans, AtMostOneMore, HasRoom, IsPlanOf, ahead, plan_in, routing, standing}

-- only the first plan

first_length : (place : ℕ) (nodes : List Node) → length (first_states_from place nodes) ≡ length nodes
first_length place [] = refl
first_length place (node ∷ nodes) = ap suc (first_length (suc place) nodes)

pub first_plans : (first : Network) → IsPlan first → ArePlans first []
first_plans first is = record { few = omega arith; sound = is; alike = All-nil (IsPlanOf (length first.nodes)) }

pub first_standing : (first : Network) (later : List Network) (states : List State) (workers : ℕ) → ArePlans first later
    → states ≡ first_states first
    → IsStanding (record { workers = workers; first = first; later = later; states = states })
first_standing first later states workers are same = record { plans = are; states = ap length same ∙ first_length 0 first.nodes }

-- ---- one more plan

same_count : (old new : Network) → SameNodes old new → length new.nodes ≡ length old.nodes
same_count old new same = sym (length-map new.nodes without_rows) ∙ sym (ap length same) ∙ length-map old.nodes without_rows

pub more_plans : (first : Network) (later : List Network) (plan : Network) → ArePlans first later → length later + 3 < 2 ^ 32 → IsPlan plan
    → SameNodes first plan → ArePlans first (later ++ plan ∷ [])
more_plans first later plan are few is same = record {
  few = omega (arith, length-append later (plan ∷ []));
  sound = are.sound;
  alike = All-append (IsPlanOf (length first.nodes)) later (plan ∷ []) are.alike
      (All-cons (IsPlanOf (length first.nodes)) plan [] (is, same_count first plan same) (All-nil (IsPlanOf (length first.nodes))));
}

pub more_ahead : (at : Standing) (coming : List Verified) (plan : Verified)
    → ahead at (coming ++ plan ∷ []) ≡ record (ahead at coming) { later = (ahead at coming).later ++ plan.plan ∷ [] }
more_ahead at coming plan =
    ap (λ l. record at { later = l }) (ap (λ l. at.later ++ l) (map-append plan_in coming (plan ∷ []))
    ∙ sym (append_assoc at.later (map plan_in coming) (plan.plan ∷ [])))

one_more_plan : (first : Network) (later : List Network) (plan : Network) → HasRoom first later → IsPlan plan → SameNodes first plan
    → AtMostOneMore first later (later ++ plan ∷ [])
one_more_plan first later plan room is same =
    let few = room.few in
    record {
      plans = more_plans first later plan room.plans (omega (arith, few)) is same;
      few = omega
          (arith, length-append later (plan ∷ []));
    }

pub comes_or_not : {E : Type 0} (r : Result (Unit {0}) E) (at : Standing) (coming coming' : List Verified) (plan : Verified)
    → HasRoom at.first (ahead at coming).later
    → IsPlan plan.plan → SameNodes at.first plan.plan → OnOk r (coming' ≡ coming ++ plan ∷ [])
    → OnOk r (AtMostOneMore at.first (ahead at coming).later (ahead at coming').later)
comes_or_not (Ok done) at coming coming' plan room is same e =
    subst (λ cs. AtMostOneMore at.first (ahead at coming).later (ahead at cs).later) (sym e)
    (subst (λ (a : Standing). AtMostOneMore at.first (ahead at coming).later a.later) (sym (more_ahead at coming plan))
    (one_more_plan at.first (ahead at coming).later plan.plan room is same))
comes_or_not (Err fault) at coming coming' plan room is same e = tt

-- no plan is added
pub none_more : (first : Network) (later : List Network) → HasRoom first later → AtMostOneMore first later later
none_more first later room = record { plans = room.plans; few = omega arith }

-- the plans of a batch are accepted
pub all_ahead : (workers : ℕ) (first : Verified) (later coming : List Verified) (states : List State)
    → standing (routing workers first (later ++ coming)) states ≡ ahead (standing (routing workers first later) states) coming
all_ahead workers first later coming states = ap (λ l. record (standing (routing workers first later) states) { later = l })
    (map-append plan_in later coming)

pub none_ahead : (at : Standing) → ahead at [] ≡ at
none_ahead at = ap (λ l. record at { later = l }) (append-nil at.later)

-- ---- the plan of a number

each_is : {X : Type 0} (P : X → Type 0) (xs : List X) (i : ℕ) (d : X) → P d → All P xs → P (unwrap_or (slice_get xs i) d)
each_is P [] i d h all = h
each_is P (x ∷ xs) zero d h all = All-head P x xs all
each_is P (x ∷ xs) (suc i) d h all = each_is P xs i d h (All-tail P x xs all)

-- each is a plan with as many nodes as the first
pub plan_is : (at : Standing) (number : ℕ) → ArePlans at.first at.later → IsPlanOf (length at.first.nodes) (plan_at at number)
plan_is at number are =
    let P : Network → Type 0 = IsPlanOf (length at.first.nodes) in
    each_is P (at.first ∷ at.later) (number - 1) at.first (are.sound, refl) (All-cons P at.first at.later (are.sound, refl) are.alike)

pub has_plan : (r : Routing) (states : List State) (plans : List Verified) (n : ℕ) (a : Verified) → plans ≡ r.first ∷ r.later
    → HasPlan plans n a → a.plan ≡ plan_at (standing r states) n
has_plan r states plans n a is has =
    let at : slice_get (r.first ∷ r.later) (n - 1) ≡ Some a = subst (λ ps. slice_get ps (n - 1) ≡ Some a) is has.1 in
    sym (ap (λ o. unwrap_or o r.first.plan) (slice_get-map plan_in (r.first ∷ r.later) (n - 1) ∙ ap (option_map plan_in) at))

pub last_plan : (r : Routing) (states : List State) (plans : List Verified) (n : ℕ) (a : Verified) → plans ≡ r.first ∷ r.later
    → n ≡ length plans → HasPlan plans n a → a.plan ≡ latest (standing r states)
last_plan r states plans n a is long has =
    let same : n ≡ accepted (standing r states) = let e = ap length is in omega (arith, e, long, length-map r.later plan_in) in
    subst (λ k. a.plan ≡ plan_at (standing r states) k) same (has_plan r states plans n a is has)

at_place : (first : Verified) (later : List Verified) (i k : ℕ) (o : Option Verified) → i ≡ suc k → slice_get later k ≡ o
    → unwrap_or (slice_get (first.plan ∷ map plan_in later) i) first.plan ≡ unwrap_or (option_map plan_in o) first.plan
at_place first later i k o e at =
    subst (λ n. unwrap_or (slice_get (first.plan ∷ map plan_in later) n) first.plan ≡ unwrap_or (option_map plan_in o) first.plan) (sym e)
    (ap (λ p. unwrap_or p first.plan) (slice_get-map plan_in later k ∙ ap (option_map plan_in) at))

pub late_plan : (first : Verified) (later : List Verified) (states : List State) (number : ℕ) (a : Verified) → 2 ≤ number
    → slice_get later (number - 2) ≡ Some a → a.plan ≡ plan_at (standing (routing 1 first later) states) number
late_plan first later states number a le e = sym (at_place first later (number - 1) (number - 2) (Some a) (omega (arith, le)) e)

pub no_late_plan : (first : Verified) (later : List Verified) (states : List State) (number : ℕ) → 2 ≤ number
    → slice_get later (number - 2) ≡ None → first.plan ≡ plan_at (standing (routing 1 first later) states) number
no_late_plan first later states number le e = sym (at_place first later (number - 1) (number - 2) None (omega (arith, le)) e)

-- ---- a journey under the plan of a number

pub is_routed : (at : Standing) (markings : List (List Mark)) (x : Incoming) (served : Served) → ArePlans at.first at.later
    → x.entry < length at.first.nodes → served.journey ≡ journey_by at markings x served.number → IsRouted at markings x served
is_routed at markings x served are lt e =
    let plan : Network = plan_at at served.number in
    let is = plan_is at served.number are in
    record {
      journey = e;
      due = subst (λ j. CanBeDone (length at.first.nodes) (due_after x j.path j.end)) (sym e)
          (subst (λ n. CanBeDone n (due_after x (journey plan markings x.entry x.origin x.octets).path
          (journey plan markings x.entry x.origin x.octets).end)) is.1
          (journey_can_be_done plan markings x.entry x.origin x.octets is.0 (subst (λ n. x.entry < n) (sym is.1) lt)));
    }

-- ---- after a call that may have failed

applied_length : (plan : Network) (states : List State) (node : ℕ) (what : Happening)
    → length (applied plan states node what).states ≡ length states
applied_length plan states node what = by (slice_get states node) where
  by : (o : Option State) → length (applied_at plan states node what o).states ≡ length states
  by None = refl
  by (Some s) = length-set states node (happened plan node s what).state

due_length : (plan : Network) (states : List State) (d : Option Due) → length (applied_if_due plan states d).states ≡ length states
due_length plan states None = refl
due_length plan states (Some d) = applied_length plan states d.node d.what

-- the states changed, or did not
states_standing : (at : Standing) (states : List State) → IsStanding at → length states ≡ length at.states
    → IsStanding (record at { states = states })
states_standing at states is same = record { plans = is.plans; states = same ∙ is.states }

pub done_standing : {A E : Type 0} (r : Result A E) (at : Standing) (states : List State) (plan : Network) (d : Option Due) → IsStanding at
    → OnOk r (states ≡ (applied_if_due plan at.states d).states) → OnErr r (states ≡ at.states) → IsStanding (record at { states = states })
done_standing (Ok x) at states plan d is done stays = states_standing at states is (ap length done ∙ due_length plan at.states d)
done_standing (Err e) at states plan d is done stays = states_standing at states is (ap length stays)
