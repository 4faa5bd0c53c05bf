-- The plan that is made from a number.
use Rattle.std.specs.Prelude.{ℕ, ◌+◌, ◌*◌, ◌%◌, min, nat_lt, List, [], ◌∷◌, ◌++◌, map, codes, decimal, Option, Some, None, option_to_list}
use Rattle.std.specs.Prelude.{if◌then◌else◌}
use Rattle.std.specs.List.{range_with_len}
use Rattle.sccp_base.specs.Selector.{Numbers, numbers}
use Rattle.plan_rules.specs.Rule.{Rule, rule}
use Rattle.plan_rules.specs.declared.target.Target.{Target}
use Rattle.plan_rules.specs.declared.target.Target.TheVariants.{Relay, Final}
use Rattle.plan_model.specs.Network.{Network, network}
use Rattle.plan_model.specs.declared.cover.Cover.{Cover}
use Rattle.plan_model.specs.declared.node.Node.{Node}

-- relay i, from 0 to 7, is at 1-i-1
abbrev pub relay_point : ℕ → ℕ
relay_point i = 2048 + 8 * i + 1

-- titles whose first digit is d are for 2-d-0
abbrev pub end_point : ℕ → ℕ
end_point d = 4096 + 8 * d

abbrev pub selector : Numbers
selector = numbers 4 0 1 4

abbrev pub destination : ℕ → Target
destination d = Final (end_point d) (Some 6)

-- a relay hands titles on to one of the next three, which their first digit and the number choose
abbrev pub next_relay : ℕ → ℕ → ℕ → ℕ
next_relay number i d = min 7 (i + 1 + (number + i + d) % 3)

abbrev pub onward : ℕ → Target
onward i = Relay (relay_point i) 0 [] None None

-- all relays but the last hand titles on
abbrev pub first_target : ℕ → ℕ → ℕ → Option Target
first_target number i d = if nat_lt i 7 then Some (onward (next_relay number i d)) else None

-- to another relay first, and otherwise straight to the destination
abbrev pub targets : ℕ → ℕ → ℕ → List Target
targets number i d = option_to_list (first_target number i d) ++ destination d ∷ []

-- the row of relay i for titles that begin with d
abbrev pub row_of : ℕ → ℕ → ℕ → Rule
row_of number i d = rule selector None (d ∷ []) (targets number i d)

abbrev pub rows_of : ℕ → ℕ → List Rule
rows_of number i = map (row_of number i) (range_with_len 0 10)

-- relay i with its rows, without subsystems
abbrev pub relay : ℕ → ℕ → Node
relay number i =
    record { name = codes "n" ++ decimal i; pc = relay_point i; subsystems = []; concerned = []; table = rows_of number i }

abbrev pub relays : ℕ → List Node
relays number = map (relay number) (range_with_len 0 8)

-- titles of ten digits at the first relay are for their destinations
abbrev pub cover : Cover
cover = record {
  node = 0;
  selector = selector;
  ssn = 6;
  prefix = [];
  least = 10;
  most = 10;
  allowed = map (λ d. (end_point d, 6))
      (range_with_len 0 10);
}

unfoldable pub load_plan : ℕ → Network
load_plan number = network (relays number) (cover ∷ [])
