-- How many workers there may be.
use Rattle.std.specs.Prelude.{ℕ, ◌&&◌, Bool, nat_le, List, Option, Some, None, option_and_then, if◌then◌else◌}
use Rattle.sccp_base.specs.Text.{decimal_of}

-- a number of workers: one to sixteen
abbrev pub is_crew : ℕ → Bool
is_crew workers = nat_le 1 workers && nat_le workers 16

-- one to ten decimal digits that spell one
abbrev pub workers_in : List ℕ → Option ℕ
workers_in word = option_and_then (λ workers. if is_crew workers then Some workers else None) (decimal_of 10 word)
