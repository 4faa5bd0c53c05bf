-- The made relays and their cover make a plan.
use Rattle.std.proofs.Common.{◌≡◌, ℕ, zero, suc, ◌+◌, ◌%◌, ◌<◌, Bool, true, false, List, [], ◌∷◌, ◌++◌, map, Some, None, refl, sym, ◌∙◌, ap}
use Rattle.std.proofs.Common.{arith}
use Rattle.std.specs.Fmt.{digits}
use Rattle.std.specs.List.{All, range_with_len}
use Rattle.std.specs.Prelude.{nat_lt, if◌then◌else◌, min, option_to_list, codes, decimal, IfSome}
use Rattle.std.proofs.lemmas.List.Elements.{All-nil, All-cons, All-map}
use Rattle.plan_rules.specs.Rule.{Rule, rule}
use Rattle.plan_rules.specs.Target.{ssn_of}
use Rattle.plan_rules.specs.declared.target.Target.{Target}
use Rattle.plan_model.specs.Faults.{plan_fault, HasFewDigits}
use Rattle.plan_model.specs.Network.{IsNode, NamesSubsystems, IsSubsystem}
use Rattle.plan_model.specs.declared.cover.Cover.{Cover}
use Rattle.plan_model.specs.declared.node.Node.{Node}
use Rattle.plan_model.specs.declared.plan_fault.PlanFault.{PlanFault}
use Rattle.made_load.specs.Relays.{selector, destination, onward, next_relay, row_of, relay_point, relay, relays, cover}

-- the rows of a relay of which it is known whether it hands titles on
abbrev pub targets_if : Bool → ℕ → ℕ → ℕ → List Target
targets_if hands number i d = option_to_list (if hands then Some (onward (next_relay number i d)) else None) ++ destination d ∷ []

abbrev pub row_if : Bool → ℕ → ℕ → ℕ → Rule
row_if hands number i d = rule selector None (d ∷ []) (targets_if hands number i d)

-- ---- the plan

-- only the remainder of the number by three matters
next_by_remainder : (number i d : ℕ) → next_relay number i d ≡ next_relay (number % 3) i d
next_by_remainder number i d = ap (λ n. min 7 (i + 1 + n)) (omega arith)

-- the relays, by the relay to which they hand titles on
abbrev row_by : (ℕ → ℕ → ℕ) → ℕ → ℕ → Rule
row_by next i d = rule selector None (d ∷ []) (option_to_list (if nat_lt i 7 then Some (onward (next i d)) else None) ++ destination d ∷ [])

abbrev relay_by : (ℕ → ℕ → ℕ) → ℕ → Node
relay_by next i = record {
  name = codes "n" ++ decimal i;
  pc = relay_point i;
  subsystems = [];
  concerned = [];
  table = map (row_by next i)
      (range_with_len 0 10);
}

abbrev relays_by : (ℕ → ℕ → ℕ) → List Node
relays_by next = map (relay_by next) (range_with_len 0 8)

by_remainder : (number : ℕ) → relays number ≡ relays (number % 3)
by_remainder number = ap relays_by (λ j i d. next_by_remainder number i d j)

no_fault_of : (remainder : ℕ) → remainder < 3 → plan_fault (relays remainder) (cover ∷ []) ≡ None
unfolding digits
no_fault_of zero lt = refl
no_fault_of (suc zero) lt = refl
no_fault_of (suc (suc zero)) lt = refl
no_fault_of (suc (suc (suc n))) lt = absurd (omega (arith, lt))

pub no_fault : (number : ℕ) → plan_fault (relays number) (cover ∷ []) ≡ None
no_fault number = ap (λ nodes. plan_fault nodes (cover ∷ [])) (by_remainder number) ∙ no_fault_of (number % 3) (omega arith)

-- so building them gives no fault
pub never : (number : ℕ) (nodes : List Node) (covers : List Cover) (fault : PlanFault) → nodes ≡ relays number → covers ≡ cover ∷ []
    → plan_fault nodes covers ≡ Some fault → ⊥
never number nodes covers fault same one is =
    let none : plan_fault nodes covers ≡ None = ap (λ ns. plan_fault ns covers) same ∙ ap (λ cs. plan_fault (relays number) cs) one
    ∙ no_fault number in
    let both : None ≡ Some fault = sym none ∙ is in cc

-- ---- what the relays and the cover keep by themselves

abbrev NamesSubsystem : Target → Type 0
NamesSubsystem t = IfSome (ssn_of t) IsSubsystem

named_row : (number i d : ℕ) → NamesSubsystems (row_of number i d)
named_row number i d = by (nat_lt i 7) where
  last : All NamesSubsystem (destination d ∷ [])
  last = All-cons NamesSubsystem (destination d) [] (omega arith, omega arith) (All-nil NamesSubsystem)

  by : (hands : Bool) → NamesSubsystems (row_if hands number i d)
  by true = record { own = tt; targets = All-cons NamesSubsystem (onward (next_relay number i d)) (destination d ∷ []) tt last }
  by false = record { own = tt; targets = last }

pub each : {X : Type 0} (P : X → Type 0) → ((x : X) → P x) → (xs : List X) → All P xs
each P h [] = All-nil P
each P h (x ∷ xs) = All-cons P x xs (h x) (each P h xs)

sound_relay : (number i : ℕ) → IsNode (relay number i)
sound_relay number i = record {
  subsystems = All-nil _;
  each_subsystem = λ k l d below lt. absurd (omega (arith, lt));
  each_concerned = λ k l d below lt. absurd (omega (arith, lt));
  named = All-map NamesSubsystems (row_of number i) (range_with_len 0 10)
      (each (λ d. NamesSubsystems (row_of number i d)) (named_row number i) (range_with_len 0 10));
}

pub sound_relays : (number : ℕ) → All IsNode (relays number)
sound_relays number = All-map IsNode (relay number) (range_with_len 0 8)
    (each (λ i. IsNode (relay number i)) (sound_relay number) (range_with_len 0 8))

pub few_digits : All HasFewDigits (cover ∷ [])
few_digits = All-cons HasFewDigits cover [] (record { least = omega arith; most = omega arith }) (All-nil HasFewDigits)
