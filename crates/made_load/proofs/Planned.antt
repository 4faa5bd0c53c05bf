-- The plan of each number is a plan.
use Rattle.std.proofs.Common.{◌≡◌, ◌≢◌, ℕ, ◌<◌, ◌≤◌, Bool, true, false, List, [], ◌∷◌, map, length, Option, None, refl, sym}
use Rattle.std.proofs.Common.{◌∙◌, ap, arith, get_or, inr}
use Rattle.std.specs.Prelude.{nat_lt, IfSome}
use Rattle.std.specs.List.{All, position, range_with_len}
use Rattle.std.specs.Option.{option_map, option_or}
use Rattle.std.proofs.lemmas.List.Elements.{All-nil, All-cons, All-map}
use Rattle.std.proofs.lemmas.List.FromFn.{get_or-map-range_with_len, length-map-range_with_len}
use Rattle.sccp_base.specs.Selector.{IsSelector}
use Rattle.plan_rules.proofs.FirstOf.{option_or-None, map-None}
use Rattle.plan_rules.specs.Rule.{Rule}
use Rattle.plan_rules.specs.Tables.{AreDistinct, IsRule, IsTable, makes_odd, strips_too_long}
use Rattle.plan_rules.specs.Target.{IsTarget, put_of, selector_of}
use Rattle.plan_rules.specs.declared.target.Target.{Target}
use Rattle.plan_model.proofs.Sound.{faultless_plan}
use Rattle.plan_model.specs.Limits.{standard}
use Rattle.plan_model.specs.Faults.{HasNumbers, first_bad_cover, first_in_nodes, first_limit, first_repeated_node, first_unknown_cover}
use Rattle.plan_model.specs.Faults.{is_unknown, no_cover, relays_to}
use Rattle.plan_model.specs.Network.{IsPlan, rows_in_all}
use Rattle.plan_model.specs.declared.node.Node.{Node}
use Rattle.plan_model.specs.declared.plan_fault.PlanFault.TheVariants.{Limit, Repeated, UnknownNode, RelayToSelf, BadCover}
use Rattle.made_load.proofs.Faultless.{each, few_digits, no_fault, row_if, sound_relays, targets_if}
use Rattle.made_load.specs.Relays.{cover, destination, load_plan, next_relay, onward, relay, relays, rows_of, selector}

-- ---- the tables

pub is_selector : IsSelector selector
is_selector = record { used = inr (inr (inr refl)); translation = omega arith; plan = omega arith; nature = omega arith }

each_target : (P : Target → Type 0) → ((i : ℕ) → P (onward i)) → ((d : ℕ) → P (destination d)) → (hands : Bool) (number i d : ℕ)
    → All P (targets_if hands number i d)
each_target P on at true number i d =
    All-cons P (onward (next_relay number i d)) (destination d ∷ []) (on (next_relay number i d))
    (All-cons P (destination d) [] (at d) (All-nil P))
each_target P on at false number i d = All-cons P (destination d) [] (at d) (All-nil P)

is_target : (t : Target) → put_of t ≡ [] → selector_of t ≡ None → IsTarget t
is_target t none same = record {
  put = rw none (omega arith);
  halves = rw none (All-nil (λ d. d < 16));
  selector = rw same tt;
}

is_rule : (hands : Bool) (number i d : ℕ) → IsRule (row_if hands number i d)
is_rule hands number i d = record {
  selector = is_selector;
  short = record {
    some = some hands;
    few = few hands;
    prefix = omega arith;
    puts = each_target (λ t. length (put_of t) ≤ 15) (λ j. omega arith) (λ k. omega arith) hands number i d;
  };
  targets = each_target IsTarget (λ j. is_target (onward j) refl refl) (λ k. is_target (destination k) refl refl) hands number i d;
}
  where
    some : (b : Bool) → 1 ≤ length (targets_if b number i d)
    some true = omega arith
    some false = omega arith

    few : (b : Bool) → length (targets_if b number i d) ≤ 8
    few true = omega arith
    few false = omega arith

-- the rows of a relay of which it is known whether it hands titles on
abbrev rows_if : Bool → ℕ → ℕ → List Rule
rows_if hands number i = map (row_if hands number i) (range_with_len 0 10)

distinct : (hands : Bool) (number i : ℕ) → AreDistinct (rows_if hands number i)
distinct hands number i j k d lt inside same =
    let few : k < 10 = omega (arith, inside, length-map-range_with_len (row_if hands number i) 0 10) in
    let first : get_or (rows_if hands number i) j d ≡ row_if hands number i j =
    get_or-map-range_with_len (row_if hands number i) 0 10 j j d (omega (arith, lt, few)) (omega arith) in
    let second : get_or (rows_if hands number i) k d ≡ row_if hands number i k =
    get_or-map-range_with_len (row_if hands number i) 0 10 k k d few (omega arith) in
    let prefixes : j ∷ [] ≡ k ∷ [] = sym (ap (λ (r : Rule). r.prefix) first) ∙ (same.2 ∙ ap (λ (r : Rule). r.prefix) second) in
    absurd (omega (arith, lt, head j k prefixes))
  where
    head : (x y : ℕ) → x ∷ [] ≡ y ∷ [] → x ≡ y
    head x y e = cc

is_table : (hands : Bool) (number i : ℕ) → IsTable (rows_if hands number i)
is_table hands number i = record {
  distinct = distinct hands number i;
  strips = strips hands;
  even = even hands;
  rules = All-map IsRule (row_if hands number i) (range_with_len 0 10)
      (each (λ d. IsRule (row_if hands number i d)) (is_rule hands number i) (range_with_len 0 10));
  kinds = All-map (λ r. All (λ t. IfSome (selector_of t) (λ s. s.kind ≢ 2)) r.targets) (row_if hands number i) (range_with_len 0 10)
      (each (λ d. All (λ t. IfSome (selector_of t) (λ s. s.kind ≢ 2)) (targets_if hands number i d))
      (λ d. each_target (λ t. IfSome (selector_of t) (λ s. s.kind ≢ 2)) (λ j. tt) (λ k. tt) hands number i d) (range_with_len 0 10));
}
  where
    strips : (b : Bool) → position strips_too_long (rows_if b number i) ≡ None
    strips true = refl
    strips false = refl

    even : (b : Bool) → position makes_odd (rows_if b number i) ≡ None
    even true = refl
    even false = refl

are_tables : (number : ℕ) → All (λ node. IsTable node.table) (relays number)
are_tables number = All-map (λ (n : Node). IsTable n.table) (relay number) (range_with_len 0 8)
    (each (λ i. IsTable (rows_of number i)) (λ i. is_table (nat_lt i 7) number i) (range_with_len 0 8))

-- ---- the plan

has_numbers : All HasNumbers (cover ∷ [])
has_numbers = All-cons HasNumbers cover [] (record { selector = is_selector; ssn = omega arith }) (All-nil HasNumbers)

none_of_six : {X : Type 0} (a b c d e f : Option X) → option_or a (option_or b (option_or c (option_or d (option_or e f)))) ≡ None
    → (a ≡ None) × (b ≡ None) × (c ≡ None) × (d ≡ None) × (e ≡ None) × (f ≡ None)
none_of_six a b c d e f h =
    let first = option_or-None a (option_or b (option_or c (option_or d (option_or e f)))) h in
    let second = option_or-None b (option_or c (option_or d (option_or e f))) first.1 in
    let third = option_or-None c (option_or d (option_or e f)) second.1 in
    let fourth = option_or-None d (option_or e f) third.1 in
    let fifth = option_or-None e f fourth.1 in
    (first.0, second.0, third.0, fourth.0, fifth.0, fifth.1)

pub is_plan : (number : ℕ) → IsPlan (load_plan number)
unfolding load_plan
is_plan number =
    let nodes : List Node = relays number in
    let limit = first_limit standard (length nodes) (rows_in_all nodes) (length (cover ∷ [])) in
    let unknown = option_or (first_in_nodes (λ node. is_unknown nodes) nodes) (first_unknown_cover (length nodes) (cover ∷ [])) in
    let to_self = first_in_nodes (λ node. relays_to node.pc) nodes in
    let bad = first_bad_cover (cover ∷ []) in
    let none = none_of_six (option_map Limit limit) (option_map Repeated (first_repeated_node nodes)) (option_map UnknownNode unknown)
    (option_map RelayToSelf to_self) (no_cover (cover ∷ [])) (option_map BadCover bad) (no_fault number) in
    faultless_plan standard nodes (cover ∷ []) (record { nodes = omega arith; rows = omega arith; covers = omega arith })
    (map-None Limit limit none.0) (map-None Repeated (first_repeated_node nodes) none.1)
    (map-None UnknownNode unknown none.2) (map-None RelayToSelf to_self none.3) (omega arith) (map-None BadCover bad none.5)
    (sound_relays number) few_digits (are_tables number) has_numbers
