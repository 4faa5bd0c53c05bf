-- Calls of a place over a list in memory, counted from 0. The listed ones are refused.
use Rattle.std.specs.Prelude.{◌==◌, ◌+◌, ◌-◌, ◌^◌, min, ℕ, List, Bool}
use Rattle.std.specs.List.{list_any}

-- the call of that number is to be refused
abbrev pub is_listed : List ℕ → ℕ → Bool
is_listed refusing call = list_any (λ number. number == call) refusing

-- the count after one more, which stays at its largest value
abbrev pub next_count : ℕ → ℕ
next_count count = min (count + 1) (2 ^ 64 - 1)

-- the number of plans seen after one more entry, at most all of them
abbrev pub next_seen : ℕ → ℕ → ℕ
next_seen all seen = min (seen + 1) all
