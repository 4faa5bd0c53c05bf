-- the first fault of a check, and what no fault shows
use Rattle.std.specs.Prelude.{ℕ, ◌≡◌, ◌≤◌, List, Option, Some, None, IsSome, refl}
use Rattle.std.proofs.Common.{subst}
use Rattle.plan_model.specs.Network.{Network, IsPlan}
use Rattle.plan_model.specs.Verdicts.{Safe, Tight}
use Rattle.plan_classes.specs.Titles.{Titles}
use Rattle.plan_classes.specs.Classes.{start_of}
use Rattle.plan_check.specs.declared.longest.Longest.{Longest}
use Rattle.plan_check.specs.declared.check_fault.CheckFault.{CheckFault}
use Rattle.plan_check.specs.declared.check_fault.CheckFault.TheVariants.{NoStart, NoRank, NotLower, BadEnd, NotTight, OutOfMemory}
use Rattle.plan_check.specs.Ranking.{rank_in}
use Rattle.plan_check.specs.Ranked.{IsRanked}
use Rattle.plan_check.specs.Checks.{IsTableFault, IsCheckFault, Passes}
use Rattle.plan_check.proofs.Causes.{ranked_faultless}
use Rattle.plan_check.proofs.Greatest.{starts_ranked, same_greatest}
use Rattle.plan_check.proofs.Soundness.{ranked_safe}

-- an option is not both
pub none-some : {X : Type 0} (o : Option X) → o ≡ None → IsSome o → ⊥
none-some None e h = cc
none-some (Some x) e h = cc

table_faultless : (plan : Network) (ranks : List (Titles × ℕ)) (fault : CheckFault) → IsRanked plan (rank_in ranks)
    → IsTableFault plan ranks fault → fault ≡ OutOfMemory
table_faultless plan ranks fault ranked h =
    ranked_faultless plan (rank_in ranks) h.class h.rank fault
    (ranked h.class h.rank h.first.has)
    h.fails

-- if every test passes, the only fault is a lack of memory
pub faultless : (plan : Network) (ranks : List (Titles × ℕ)) (longest : Longest) (fault : CheckFault)
    → IsCheckFault plan ranks longest fault → (bound : ℕ) → Passes plan ranks longest bound → fault ≡ OutOfMemory
faultless plan ranks longest (NoStart number) h bound passes =
    absurd (none-some (rank_in ranks (start_of number h.cover)) h.lacks
    (starts_ranked plan (rank_in ranks) bound passes.start.each number h.cover h.at))
faultless plan ranks longest (NoRank c) h bound passes = table_faultless plan ranks (NoRank c) passes.ranked h.1
faultless plan ranks longest (NotLower c) h bound passes = table_faultless plan ranks (NotLower c) passes.ranked h.1
faultless plan ranks longest (BadEnd c) h bound passes = table_faultless plan ranks (BadEnd c) passes.ranked h.1
faultless plan ranks longest NotTight h bound passes = absurd
    (h.loose (subst (λ (n : ℕ). Tight plan n longest.spot longest.markings)
    (same_greatest plan (rank_in ranks) bound h.bound passes.start h.start) passes.tight))
faultless plan ranks longest OutOfMemory h bound passes = refl

-- a plan that passes is safe for its bound, which is from 1 to 14
pub passed_safe : (plan : Network) (ranks : List (Titles × ℕ)) (longest : Longest) (bound : ℕ) → IsPlan plan
    → Passes plan ranks longest bound → (1 ≤ bound) × (bound ≤ 14) × Safe plan bound
passed_safe plan ranks longest bound is passes =
    let first = passes.ranked (start_of passes.start.number passes.start.cover) bound passes.start.reached in
    (first.low, first.high, ranked_safe plan (rank_in ranks) bound is passes.ranked passes.start.each)
