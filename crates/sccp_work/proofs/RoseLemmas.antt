-- A count that rose did so over a longer stretch too.
use Rattle.std.proofs.Common.{◌≡◌, ◌<◌, ◌≤◌, ◌⊎◌, ℕ, arith, inl, inr}
use Rattle.std.proofs.Math.Nat.{eq-or-lt_of_le}
use Rattle.sccp_io.specs.Faults.{Rose}

pub Rose-before : (b m a : ℕ) → b ≤ m → Rose m a → Rose b a
Rose-before b m a le (inl h) = inl (omega arith)
Rose-before b m a le (inr e) = inr e

pub Rose-after : (b m a : ℕ) → b ≤ m → Rose b m → m ≤ a → Rose b a
Rose-after b m a le (inl h) more = inl (omega arith)
Rose-after b m a le (inr h) more = by (eq-or-lt_of_le more) where
  by : (m ≡ a) ⊎ (m < a) → Rose b a
  by (inl e) = inr (omega arith)
  by (inr l) = inl (omega arith)
