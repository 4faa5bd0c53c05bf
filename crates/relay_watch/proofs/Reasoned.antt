-- What a look at a waiting arrival says, and the search for the first that is a reason.
use Rattle.std.proofs.Common.{◌≡◌, ℕ, zero, suc, ◌+◌, ◌<◌, Bool, true, false, List, [], ◌∷◌, length, take, map, Some, refl}
use Rattle.std.proofs.Common.{sym, ◌∙◌, ap, subst, get_or, arith}
use Rattle.std.specs.Prelude.{◌==◌, nat_eq, not, unwrap_or, slice_get, Result, Ok, Err, IfOk}
use Rattle.std.proofs.lemmas.Bool.{eqb-true, eq-eqb, false≢true}
use Rattle.std.specs.Cmp.Lexicographic.{pointwise, nat_list_eq_equiv}
use Rattle.std.specs.List.{All}
use Rattle.std.proofs.lemmas.List.Elements.{All-more}
use Rattle.sccp_base.specs.declared.out_of_memory.OutOfMemory.{OutOfMemory}
use Rattle.sccp_message.specs.declared.message.Message.{Message}
use Rattle.plan_model.specs.Network.{Network, IsPlan}
use Rattle.relay_ways.specs.Explained.{AreConditions, AreShortest, IsHandled}
use Rattle.relay_ways.specs.Ways as relay
use Rattle.relay_ways.specs.declared.explanation.Explanation.{Explanation}
use Rattle.relay_watch.specs.Arrivals.{IsWaiting, data_of}
use Rattle.relay_watch.specs.Reasons.{IsNoReason, IsReason, AreReasons, IsFirst}
use Rattle.relay_watch.specs.declared.waiting.Waiting.{Waiting}
use Rattle.relay_watch.proofs.Data.{same_data}

-- a message with other data is not sent because of the arrival
pub other_data : (plan : Network) (node to : ℕ) (sent : Message) (w : Waiting) → IsPlan plan → IsWaiting w
    → pointwise nat_eq w.payload (data_of sent) ≡ false → IsNoReason plan node to sent w
other_data plan node to sent w is waits other here M like =
    let same : w.payload ≡ data_of sent = waits.data_is ∙ sym (ap (λ o. unwrap_or o [])
    (same_data plan node w.origin w.octets waits.message to sent M is waits.again waits.reads like)) in
    never (subst (λ (x : List ℕ). pointwise nat_eq w.payload x ≡ true) same (nat_list_eq_equiv.refl w.payload)) other
  where
    never : {b : Bool} → b ≡ true → b ≡ false → ⊥
    never e f = cc

pub not_so : (b : Bool) → not b ≡ true → b ≡ false
not_so true e = absurd (false≢true e)
not_so false e = refl

-- the ways that were asked for
pub asked : (plan : Network) (node to : ℕ) (sent : Message) (w : Waiting) (ways : List Explanation) → w.node ≡ node
    → AreConditions plan node w.origin w.octets to sent (map (λ x. x.condition) ways)
    → AreShortest to sent (relay.ways plan node w.origin w.octets) (map (λ x. x.condition) ways)
    → All (IsHandled plan node w.origin w.octets) ways → AreReasons plan node to sent w ways
asked plan node to sent w [] here are shortest handled = λ same M like. no_condition (are.exact M).1 like where
  no_condition : {P : Type 0} → (P → false ≡ true) → P → ⊥
  no_condition f p = let e = f p in cc
asked plan node to sent w (x ∷ xs) here are shortest handled = record {
  here = here;
  under = record { conditions = are; shortest = shortest; some = omega arith; handled = handled };
}

pub asked_of : (plan : Network) (node to : ℕ) (sent : Message) (w : Waiting) (r : Result (List Explanation) OutOfMemory) → w.node ≡ node
    → IfOk r (λ ways. AreConditions plan node w.origin w.octets to sent (map (λ x. x.condition) ways))
    → IfOk r (λ ways. AreShortest to sent (relay.ways plan node w.origin w.octets) (map (λ x. x.condition) ways))
    → IfOk r (All (IsHandled plan node w.origin w.octets)) → IfOk r (AreReasons plan node to sent w)
asked_of plan node to sent w (Ok ways) here are shortest handled = asked plan node to sent w ways here are shortest handled
asked_of plan node to sent w (Err fault) here are shortest handled = tt

-- none of the ways: no reason
pub no_ways : (plan : Network) (node to : ℕ) (sent : Message) (w : Waiting) (ways : List Explanation) → length ways ≡ 0
    → AreReasons plan node to sent w ways → IsNoReason plan node to sent w
no_ways plan node to sent w [] e are = are
no_ways plan node to sent w (x ∷ xs) e are = absurd (omega (arith, e))

pub some_ways : (plan : Network) (node to : ℕ) (sent : Message) (w : Waiting) (ways : List Explanation) → (length ways ≡ 0 → ⊥)
    → AreReasons plan node to sent w ways → IsReason plan node to sent w ways
some_ways plan node to sent w [] some are = absurd (some refl)
some_ways plan node to sent w (x ∷ xs) some are = are

-- what the test for no ways says
pub is_nothing : (b : Bool) (ways listed : List Explanation) → b ≡ (length listed == 0) → listed ≡ ways → b ≡ true → length ways ≡ 0
is_nothing b ways listed tests same e = ap length (sym same) ∙ eqb-true (length listed) 0 (sym tests ∙ e)

pub is_something : (b : Bool) (ways listed : List Explanation) → b ≡ (length listed == 0) → listed ≡ ways → b ≡ false → length ways ≡ 0 → ⊥
is_something b ways listed tests same e none =
    never (tests ∙ eq-eqb (length listed) 0 (ap length same ∙ none)) e
  where
    never : {c : Bool} → c ≡ true → c ≡ false → ⊥
    never f g = cc

pub at_place : {X : Type 0} (xs : List X) (i : ℕ) (x : X) → i < length xs → x ≡ get_or xs i x → slice_get xs i ≡ Some x
at_place [] i x inside is = absurd (omega (arith, inside))
at_place (y ∷ ys) zero x inside is = ap Some (sym is)
at_place (y ∷ ys) (suc i) x inside is = at_place ys i x (omega (arith, inside)) is

pub first_found : (plan : Network) (waiting : List Waiting) (node to : ℕ) (sent : Message) (place by : ℕ) (ways : List Explanation)
    (w : Waiting)
    → place < length waiting → w ≡ get_or waiting place w → w.number ≡ by → All (IsNoReason plan node to sent) (take place waiting)
    → (length ways ≡ 0 → ⊥) → AreReasons plan node to sent w ways
    → IsFirst plan waiting node to sent (record { place = place; by = by; ways = ways })
first_found plan waiting node to sent place by ways w inside is numbered before some are = record {
  arrival = w;
  at = at_place waiting place w inside is;
  numbered = numbered;
  reason = some_ways plan node to sent w ways some are;
  first = before;
}

pub one_passed : (plan : Network) (waiting : List Waiting) (node to : ℕ) (sent : Message) (place : ℕ) (ways : List Explanation)
    (w : Waiting)
    → place < length waiting → w ≡ get_or waiting place w → All (IsNoReason plan node to sent) (take place waiting)
    → length ways ≡ 0 → AreReasons plan node to sent w ways → All (IsNoReason plan node to sent) (take (place + 1) waiting)
one_passed plan waiting node to sent place ways w inside is before none are =
    All-more (IsNoReason plan node to sent) waiting place w inside before
    (subst (IsNoReason plan node to sent) is (no_ways plan node to sent w ways none are))
