-- the classes of a hop, one place after another
use Rattle.std.specs.Prelude.{ℕ, ◌≡◌, ◌+◌, ◌<◌, ◌≤◌, List, length, Some, slice_get}
use Rattle.std.proofs.Common.{sym, ◌∙◌, ap, subst, ⊎_elim, arith, length-append}
use Rattle.std.proofs.lemmas.Bool.{cases_lt}
use Rattle.std.proofs.lemmas.List.{length-map}
use Rattle.std.proofs.lemmas.Option.{slice_get_within}
use Rattle.plan_model.specs.Network.{Network}
use Rattle.plan_classes.specs.Titles.{Titles}
use Rattle.plan_classes.specs.Classes.{Decided}
use Rattle.plan_check.specs.Ranking.{rank_in, classes_in}
use Rattle.plan_unused.specs.declared.seen.Seen.{Seen}
use Rattle.plan_unused.specs.Walks.{IsMore, IsSettled, IsEntry, KeepsPlaces, AreRanks, Grows}
use Rattle.plan_unused.proofs.Places.{place_of, ranked_at, at_later, at_earlier}
use Rattle.plan_unused.proofs.Settling.{Keeps, settled_more}

pub entry_later : (before after : List (Titles × ℕ)) (place : ℕ) (c : Titles) (r : ℕ) → Keeps before after → KeepsPlaces before after
    → IsEntry before place c r → IsEntry after place c r
entry_later before after place c r keeps places h =
    record {
      at = subst (λ (cs : List Titles). slice_get cs place ≡ Some c) (sym places.1) (at_later (classes_in before) places.0 place c h.at);
      rank = keeps c r h.rank;
    }

-- a table that grows is no shorter
pub longer : (before after : List (Titles × ℕ)) → KeepsPlaces before after → length before ≤ length after
longer before after places =
    omega (
      arith,
      length-map before (λ (e : Titles × ℕ). e.0),
      length-map after (λ (e : Titles × ℕ). e.0),
      ap (λ (cs : List Titles). length cs) places.1,
      length-append (classes_in before) places.0,
    )

-- the stops of the hop up to a place are settled
abbrev pub AreVisited : Network → ℕ → List (Titles × ℕ) → Seen → List (Titles × ℕ) → ℕ → Type 0
AreVisited plan depth before seen met count = (place : ℕ) (c : Titles) → place < count → IsEntry before place c depth → Decided plan c
    → IsSettled plan seen met c depth

-- one more place was visited
pub visited_next : (plan : Network) (depth : ℕ) (s t : Seen) (before here after : List (Titles × ℕ)) (count : ℕ)
    → IsMore s t → Keeps before here → KeepsPlaces before here → Keeps here after
    → ((c : Titles) → IsEntry here count c depth → Decided plan c → IsSettled plan t after c depth)
    → AreVisited plan depth before s here count → AreVisited plan depth before t after (count + 1)
visited_next plan depth s t before here after count more keeps places on own so_far place c lt is decided =
    ⊎_elim
    (λ (l : place < count). settled_more plan s t here after c depth more on (so_far place c l is decided))
    (λ (l : count ≤ place).
    let same : place ≡ count = omega (arith, l, lt) in
    own c (subst (λ (n : ℕ). IsEntry here n c depth) same (entry_later before here place c depth keeps places is)) decided)
    (cases_lt place count)

-- no place is left
pub visited_all : (plan : Network) (depth : ℕ) (s : Seen) (before here : List (Titles × ℕ)) (count : ℕ) → length before ≤ count
    → AreVisited plan depth before s here count → (c : Titles) → rank_in before c ≡ Some depth → Decided plan c
    → IsSettled plan s here c depth
visited_all plan depth s before here count le so_far c has decided =
    let place = place_of before c depth has in
    so_far place.0 c (omega (
      arith,
      slice_get_within (classes_in before) place.0 c place.1,
      length-map before (λ (e : Titles × ℕ). e.0),
      le,
    )) (record { at = place.1; rank = has }) decided

-- the classes that were met before have places before those of the next hop
pub earlier_places : (plan : Network) (depth : ℕ) (before after : List (Titles × ℕ)) (next : ℕ) → AreRanks plan depth before
    → Grows plan (depth + 1) before after → next ≤ length before → (place : ℕ) (c : Titles) → place < next
    → IsEntry after place c (depth + 1) → ⊥
earlier_places plan depth before after next ranks grows le place c lt is =
    let lt_classes : place < length (classes_in before) = omega (arith, lt, le, length-map before (λ (e : Titles × ℕ). e.0)) in
    let was = ranked_at before place c (at_earlier (classes_in before) grows.places.0 place c lt_classes
    (subst (λ (cs : List Titles). slice_get cs place ≡ Some c) grows.places.1 is.at)) in
    let one : Some was.0 ≡ Some (depth + 1) = sym (grows.kept c was.0 was.1) ∙ is.rank in
    let same : was.0 ≡ depth + 1 = cc in
    absurd (omega (arith, same, (ranks c was.0 was.1).0))
