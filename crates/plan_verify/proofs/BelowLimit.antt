-- Each class that an accepted plan reaches has a rank, so there are fewer of them than the plan's limit.
use Rattle.std.specs.Prelude.{ℕ, ◌≡◌, ◌≢◌, ◌<◌, ◌≤◌, true, List, [], ◌∷◌, length, Option, Some, IsSome, IsSomeAnd, slice_get, refl}
use Rattle.std.specs.Bool.{Decides}
use Rattle.std.specs.Cmp.{eq_by_cmp_equiv}
use Rattle.std.specs.List.{All, AllPairs}
use Rattle.std.specs.Ordering.{is_eq, eq_by_cmp}
use Rattle.std.proofs.Common.{sym, ap, subst, ◌∙◌, ⊎_elim, arith}
use Rattle.std.proofs.lemmas.List.Folds.{Any-from_list_any}
use Rattle.std.proofs.lemmas.Map.Made.{IsDistinct-from_AllPairs}
use Rattle.std.proofs.lemmas.Map.Steps.{length-le_from_keys}
use Rattle.plan_model.specs.Network.{Network}
use Rattle.plan_classes.specs.declared.leads.Image.TheVariants.{Next}
use Rattle.plan_classes.specs.Titles.{Titles}
use Rattle.plan_classes.specs.Classes.{start_of, Reachable, ReachesAtLeast}
use Rattle.plan_classes.specs.Classes.Reachable.{Start, Part, Onward}
use Rattle.plan_classes.proofs.Ordered.{class_total, same_class}
use Rattle.plan_check.specs.Ranking.{rank_in, class_cmp}
use Rattle.plan_check.specs.Ranked.{RanksUpTo, IsRanked, IsRankedOpen, IsRankedDecided, StartsBelow}
use Rattle.plan_check.proofs.Orders.{own_class}
use Rattle.plan_check.proofs.Soundness.{some_of}
use Rattle.plan_verify.specs.declared.outcome.Greatest.{Greatest}
use Rattle.plan_verify.specs.Searching.{IsSound, IsBelowLimit, HasStart}

-- the table has this class
abbrev HasRank : List (Titles × ℕ) → Titles → Type 0
HasRank ranks c = (r : ℕ) × (rank_in ranks c ≡ Some r)

ranked_some : (ranks : List (Titles × ℕ)) (P : ℕ → Type 0) (c : Titles) → IsSomeAnd (rank_in ranks c) P → HasRank ranks c
ranked_some ranks P c h = let s = some_of (rank_in ranks c) P h in (s.0, s.1)

-- if the starts have ranks, what is reached from them has
reached_ranked : (plan : Network) (ranks : List (Titles × ℕ)) (bound depth : ℕ) (c : Titles) → IsRanked plan (rank_in ranks)
    → StartsBelow plan (rank_in ranks) bound → Reachable plan depth c → HasRank ranks c
reached_ranked plan ranks bound depth c ranked starts (Start number cover at) =
    ranked_some ranks (λ r. r ≤ bound) (start_of number cover) (starts number cover at)
reached_ranked plan ranks bound depth c ranked starts (Part d above part reached apart contains) =
    let up = reached_ranked plan ranks bound d above ranked starts reached in
    ⊎_elim
    (λ (by : IsRankedOpen plan (rank_in ranks) above up.0). ranked_some ranks (λ r. r ≤ up.0) part
    (subst (RanksUpTo (rank_in ranks) up.0) contains.2 (by.parts contains.0 part contains.1)))
    (λ (by : IsRankedDecided plan (rank_in ranks) above up.0). absurd (apart by.decided))
    (ranked above up.0 up.1).follows
reached_ranked plan ranks bound depth c ranked starts (Onward d above next place reached lt decided reaches image) =
    let up = reached_ranked plan ranks bound d above ranked starts reached in
    ⊎_elim
    (λ (by : IsRankedOpen plan (rank_in ranks) above up.0). absurd (by.undecided decided))
    (λ (by : IsRankedDecided plan (rank_in ranks) above up.0). ranked_some ranks (λ r. r < up.0) next
    (by.leads place (Next next) reaches image))
    (ranked above up.0 up.1).follows

class_decides : (a b : Titles) → Decides (eq_by_cmp class_cmp a b) (a ≡ b)
class_decides a b = (same_class a b, λ e. subst (λ (d : Titles). is_eq (class_cmp a d) ≡ true) e (own_class a))

-- classes that have ranks, none of them twice, are no more than the table has
no_more : (ranks : List (Titles × ℕ)) (cs : List Titles) → AllPairs (λ c d. c ≢ d) cs → All (HasRank ranks) cs
    → length cs ≤ length ranks
no_more ranks cs apart ranked =
    length-le_from_keys (eq_by_cmp_equiv class_total) cs ranks (IsDistinct-from_AllPairs class_decides cs apart)
    (λ q held.
    let h = Any-from_list_any (eq_by_cmp class_cmp q) cs held in
    let r = ranked h.0 h.1 h.2 in
    let its : rank_in ranks q ≡ Some r.0 = ap (rank_in ranks) (same_class q h.1 h.4 ∙ sym h.3) ∙ r.1 in
    subst (λ (o : Option ℕ). IsSome o) (sym its) refl)

some_class : (ranks : List (Titles × ℕ)) (c : Titles) (r : ℕ) → rank_in ranks c ≡ Some r → 1 ≤ length ranks
some_class [] c r e = absurd (cc)
some_class (x ∷ xs) c r e = omega arith

-- a plan whose starts have ranks in a table with room reaches fewer classes than its limit
pub fewer_reached : (plan : Network) (ranks : List (Titles × ℕ)) (g : Greatest) → IsSound plan ranks
    → StartsBelow plan (rank_in ranks) g.rank → HasStart plan ranks g → IsBelowLimit plan ranks
    → ReachesAtLeast plan plan.limits.classes → ⊥
fewer_reached plan ranks g sound starts has room reached =
    let s = some_of (slice_get plan.covers g.cover) (λ cover. rank_in ranks (start_of g.cover cover) ≡ Some g.rank) has in
    omega (
      arith,
      room,
      reached.1,
      some_class ranks (start_of g.cover s.0) g.rank s.2,
      no_more ranks reached.0 reached.2
          (λ k d lt. let r = reached.3 k d lt in reached_ranked plan ranks g.rank r.0 _ sound.ranked starts r.1),
    )
