use Rattle.std.proofs.Common.{◌≡◌, drop}
use Rattle.std.specs.List.{AllWithin}
use Rattle.plan_rules.specs.FirstOf.{first_of}
use Rattle.plan_model.specs.Faults.{cover_place_at, first_bad_cover, HasNumbers}
use Rattle.plan_model.proofs.faults.first_bad_cover.Given as goal

-- the first bad cover is found from this one on, and those before it have their numbers in range
abbrev pub invariant-loop-i : goal.invariant-loop-i
invariant-loop-i l = record {
  ahead : first_of cover_place_at l.i (drop l.i l.covers) ≡ first_bad_cover l.covers;
  numbers : AllWithin HasNumbers l.covers 0 l.i;
}
