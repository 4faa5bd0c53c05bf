-- the relays that are left and stuck
use Rattle.std.specs.Prelude.{ℕ, ◌≡◌, ◌≢◌, ◌⊎◌, ◌≤◌, ◌+◌, true, false, IsTrue, List, [], ◌∷◌, ◌++◌, length, map, Some, refl}
use Rattle.std.specs.List.{All, AllPairs, Any, concat}
use Rattle.std.proofs.Common.{suc, sym, ◌∙◌, ap, subst, inl, inr, ⊎_elim, arith, take, get_or, ◌<◌}
use Rattle.std.proofs.lemmas.Bool.{cases_Bool, false≢true}
use Rattle.std.proofs.lemmas.List.{map-append, take_more}
use Rattle.std.proofs.lemmas.List.Elements.{All-cons, All-nil, All-append}
use Rattle.sccp_base.proofs.Among.{Among}
use Rattle.plan_model.specs.Network.{Network}
use Rattle.plan_mixed.specs.Mixed.{MixedReachAtLeast}
use Rattle.plan_order.specs.declared.safe_step.SafeStep.{SafeStep}
use Rattle.plan_order.specs.declared.stuck.Stuck.{Stuck}
use Rattle.plan_order.specs.declared.known.Known.{Known}
use Rattle.plan_order.specs.Sets.{is_in, AreStepSets, Differs}
use Rattle.plan_order.specs.Steps.{during, AreSteps, sets_of}
use Rattle.plan_order.specs.Orders.{IsOrder, HasDeadEnds, IsRefusal, IsStuck, IsLawfulRefusal}
use Rattle.plan_order.specs.Searching.{IsSplit, IsKnown, IsNextStep, IsWhy}
use Rattle.plan_order.proofs.Joining.{pairs_append, pairs_map}
use Rattle.plan_order.proofs.Members.{in-All, All-in, among-in}
use Rattle.plan_order.proofs.Pushed.{relays_of, relays_push, sets_push}

-- a relay that is left and cannot be next
pub stuck_one : (old new : Network) (done left : List ℕ) (node : ℕ) (stuck : Stuck) → IsSplit old new done left
    → is_in left node ≡ true → IsWhy old new done node (Some stuck) → IsStuck old new done stuck
stuck_one old new done left node stuck split inside why = record {
  differs = subst (Differs old new) (sym why.0) (in-All (Differs old new) left node split.after inside);
  left = subst (λ (n : ℕ). is_in done n ≡ false) (sym why.0) (split.apart node inside);
  why = subst (λ (n : ℕ). IsRefusal (during (length old.nodes) done (n ∷ [])) old new stuck.why) (sym why.0) why.1;
}

pub stuck_more : (old new : Network) (done : List ℕ) (stuck : List Stuck) (one : Stuck) → All (IsStuck old new done) stuck
    → IsStuck old new done one → All (IsStuck old new done) (stuck ++ one ∷ [])
stuck_more old new done stuck one all is =
    All-append (IsStuck old new done) stuck (one ∷ []) all (All-cons (IsStuck old new done) one [] is (All-nil (IsStuck old new done)))

any_node : (stuck : List Stuck) (n : ℕ) → Among n (map (λ (s : Stuck). s.node) stuck) → Any (λ (s : Stuck). s.node ≡ n) stuck
any_node [] n m = absurd m
any_node (s ∷ stuck) n m =
    ⊎_elim (λ (e : s.node ≡ n). (0, s, omega arith, refl, e))
    (λ (later : Among n (map (λ (t : Stuck). t.node) stuck)).
    let k = any_node stuck n later in (suc k.0, k.1, omega (arith, k.2), k.3, k.4)) m

-- the sets of the steps so far, and of one more
pub sets_more : (old new : Network) (done left : List ℕ) (steps : List SafeStep) (step : SafeStep) → IsSplit old new done left
    → relays_of steps ≡ done → IsNextStep old new done left step → AreStepSets (sets_of steps) → AreStepSets (sets_of (steps ++ step ∷ []))
sets_more old new done left steps step split is next sets = record {
  each = sets_push steps step sets.each (record { some = next.some; ascending = next.ascending });
  once = subst (AllPairs (λ (a : ℕ) (b : ℕ). a ≢ b)) (sym (relays_push steps step))
      (pairs_append (λ (a : ℕ) (b : ℕ). a ≢ b) (relays_of steps) step.nodes sets.once
      (pairs_map (λ (a : ℕ) (b : ℕ). a < b) (λ (a : ℕ) (b : ℕ). a ≢ b) step.nodes (λ a b lt e. omega (arith, lt, e)) next.ascending)
      (All-in (λ (a : ℕ). All (λ (b : ℕ). a ≢ b) step.nodes) (relays_of steps) (λ a h. All-in (λ (b : ℕ). a ≢ b) step.nodes (λ b k e.
      false≢true (sym (split.apart b (in-All (λ (m : ℕ). IsTrue (is_in left m)) step.nodes b next.among k))
      ∙ subst (λ (n : ℕ). is_in done n ≡ true) e (subst (λ (s : List ℕ). is_in s a ≡ true) is h))))));
}

-- no order, and each relay that is left is stuck
pub refusal_lawful : (old new : Network) (done left : List ℕ) (steps : List SafeStep) (stuck : List Stuck)
    → ((sets : List (List ℕ)) → IsOrder old new sets → ⊥) → IsSplit old new done left → AreSteps old new [] steps
    → concat (sets_of steps) ≡ done → AreStepSets (sets_of steps) → All (IsStuck old new done) stuck
    → map (λ (s : Stuck). s.node) stuck ≡ left → IsLawfulRefusal old new steps stuck
refusal_lawful old new done left steps stuck none split safe is sets all nodes = record {
  none = none;
  safe = safe;
  differ = subst (All (Differs old new)) (sym is) split.before;
  sets = sets;
  each = subst (λ (d : List ℕ). All (IsStuck old new d) stuck) (sym is) all;
  whole = λ n differs out. any_node stuck n (subst (Among n) (sym nodes)
      (among-in left n (split.whole n differs (subst (λ (d : List ℕ). is_in d n ≡ false) is out))));
  ordered = subst (AllPairs (λ (a : ℕ) (b : ℕ). a < b)) (sym nodes) split.ascending;
}

-- the search met many dead ends, or some step was too wide
pub undecided : (old new : Network) (known : Known) → IsKnown old new known → 256 ≤ length known.dead
    → HasDeadEnds old new 256 ⊎ MixedReachAtLeast old new old.limits.classes
undecided old new known is many =
    ⊎_elim (λ (h : known.wide ≡ true). inr (is.classes h))
    (λ (h : known.wide ≡ false). inl (known.dead, many, is.apart, is.ends h)) (cases_Bool known.wide)

-- one more relay of those that are stuck
pub nodes_more : (stuck : List Stuck) (one : Stuck) (xs : List ℕ) (i : ℕ) → i < length xs
    → map (λ (s : Stuck). s.node) stuck ≡ take i xs → one.node ≡ get_or xs i 0
    → map (λ (s : Stuck). s.node) (stuck ++ one ∷ []) ≡ take (i + 1) xs
nodes_more stuck one xs i lt nodes is =
    map-append (λ (s : Stuck). s.node) stuck (one ∷ []) ∙ ap (λ (ns : List ℕ). ns ++ one.node ∷ []) nodes
    ∙ ap (λ (n : ℕ). take i xs ++ n ∷ []) is ∙ sym (take_more xs i 0 lt)
