-- the walk covers what every title uses
use Rattle.std.specs.Prelude.{ℕ, ◌≡◌, ◌+◌, ◌<◌, ◌≤◌, ◌⊎◌, IsTrue, IsSome, List, [], ◌∷◌, length, take, Option, Some}
use Rattle.std.specs.Prelude.{IsSomeAnd, slice_get, refl}
use Rattle.std.specs.List.{All}
use Rattle.std.specs.Option.{option_map_or}
use Rattle.std.proofs.Common.{zero, suc, sym, ◌∙◌, ap, subst, ⊎_elim, arith, length-take-le}
use Rattle.sccp_base.specs.declared.mark.Mark.{Mark}
use Rattle.plan_rules.specs.Rule.{Rule}
use Rattle.plan_model.specs.declared.cover.Cover.{Cover}
use Rattle.plan_model.specs.declared.spot.Spot.{Spot}
use Rattle.plan_model.specs.declared.hop.Step.TheVariants.{Sent}
use Rattle.plan_model.specs.Network.{Network, IsPlan}
use Rattle.plan_model.specs.RowFor.{row_of}
use Rattle.plan_model.specs.Covered.{Covers}
use Rattle.plan_model.specs.Steps.{step}
use Rattle.plan_model.proofs.Cutting.{sent_is}
use Rattle.plan_model.proofs.Spots.{cover_at}
use Rattle.plan_model.proofs.Ways.{Sends}
use Rattle.plan_classes.specs.Titles.{Titles, IsClass, IsPart, HasTitle, parts_of}
use Rattle.plan_classes.specs.Classes.{start_of, sample_of, Decided, class_row, IsReached, Reaches}
use Rattle.plan_classes.proofs.Images.{sample_member}
use Rattle.plan_classes.proofs.Deciding.{open_digits}
use Rattle.plan_classes.proofs.Parting.{same_spot, splits_parts}
use Rattle.plan_classes.proofs.Starting.{start_exact}
use Rattle.plan_check.specs.Ranking.{rank_in}
use Rattle.plan_check.proofs.Soundness.{some_of}
use Rattle.plan_unused.specs.declared.survey.RowPlace.{RowPlace}
use Rattle.plan_unused.specs.declared.survey.TargetPlace.{TargetPlace}
use Rattle.plan_unused.specs.declared.seen.Seen.{Seen}
use Rattle.plan_unused.specs.Met.{IsMet}
use Rattle.plan_unused.specs.Uses.{HasRow, TakesTarget, UsesRelay, UsesRow, UsesTarget, HasGap}
use Rattle.plan_unused.specs.Walks.{row_at, target_at, has_relay, has_row, has_target, gap_in, IsWhole, IsRankedBy, IsSettled}
use Rattle.plan_unused.specs.Walks.{IsWalk}
use Rattle.plan_unused.proofs.Sending.{does, hop_sends}
use Rattle.plan_unused.proofs.Fits.{sent_by, IsSentBy}
use Rattle.plan_unused.proofs.Meeting.{meets_class}

-- a decided class of the table that has the title
pub record IsAt (plan : Network) (met : List (Titles × ℕ)) (number depth : ℕ) (spot : Spot) : Type 0 where
  pub class : Titles
  pub rank : ℕ
  pub ranked : rank_in met class ≡ Some rank
  pub few : rank ≤ depth
  pub decided : Decided plan class
  pub title : HasTitle class spot
  pub cover : class.cover ≡ number

at_deeper : (plan : Network) (met : List (Titles × ℕ)) (number a b : ℕ) (spot : Spot) → a ≤ b → IsAt plan met number a spot
    → IsAt plan met number b spot
at_deeper plan met number a b spot le h =
    record {
      class = h.class;
      rank = h.rank;
      ranked = h.ranked;
      few = omega (arith, h.few, le);
      decided = h.decided;
      title = h.title;
      cover = h.cover;
    }

-- what the walk knows of a class of the table
abbrev IsKnown : Network → ℕ → List (Titles × ℕ) → Seen → Titles → ℕ → Type 0
IsKnown plan last met seen c r = Decided plan c × (IsSettled plan seen met c r ⊎ (r ≡ last))

abbrev IsInParts : Network → List (Titles × ℕ) → Titles → ℕ → Type 0
IsInParts plan met c r = (Decided plan c → ⊥) × All (λ part. IsRankedBy met part r) (parts_of c)

own : (plan : Network) (met : List (Titles × ℕ)) (c : Titles) (r : ℕ) (spot : Spot) → rank_in met c ≡ Some r → HasTitle c spot
    → Decided plan c → IsAt plan met c.cover r spot
own plan met c r spot e has decided =
    record { class = c; rank = r; ranked = e; few = omega arith; decided = decided; title = has; cover = refl }

-- down to the decided part that has the title
settle : (plan : Network) (met : List (Titles × ℕ)) (seen : Seen) (last first : ℕ) → IsPlan plan
    → IsWalk plan last first met seen → (fuel : ℕ) (c : Titles) (r : ℕ) (spot : Spot) → c.most ≤ fuel → rank_in met c ≡ Some r
    → HasTitle c spot → IsAt plan met c.cover r spot
settle plan met seen last first is walk zero c r spot le e has =
    ⊎_elim
    (λ (h : IsKnown plan last met seen c r). own plan met c r spot e has h.0)
    (λ (h : IsInParts plan met c r). absurd (let more = open_digits plan c h.0 in omega (arith, le, more)))
    (walk.known c r e)
settle plan met seen last first is walk (suc n) c r spot le e has =
    ⊎_elim
    (λ (h : IsKnown plan last met seen c r). own plan met c r spot e has h.0)
    (λ (h : IsInParts plan met c r).
    let class : IsClass c = (meets_class plan is r c (walk.ranks c r e).1).0 in
    let splits = splits_parts c class (open_digits plan c h.0) in
    let found = splits.whole has.0 has.1 in
    let part : IsPart c found.1 = subst (IsPart c) found.3 (splits.each found.0 found.1 found.2) in
    let ranked : IsRankedBy met found.1 r = subst (λ p. IsRankedBy met p r) found.3 (h.1 found.0 found.1 found.2) in
    let at = settle plan met seen last first is walk n found.1 ranked.0 spot (omega (arith, part.fewer, le)) ranked.1
    (has.0, found.4, has.2 ∙ sym (same_spot c found.1 has.0 part)) in
    subst (λ number. IsAt plan met number r spot) part.cover (at_deeper plan met found.1.cover ranked.0 r spot ranked.2 at))
    (walk.known c r e)

-- along the hops of a route
trace : (plan : Network) (met : List (Titles × ℕ)) (seen : Seen) (first : ℕ) → IsPlan plan → IsWalk plan 14 first met seen
    → (s : Spot) (ms : List (List Mark)) (spot : Spot) (number depth : ℕ) → IsAt plan met number depth s → depth + length ms ≤ 13
    → Sends (does plan) s ms spot → IsAt plan met number (depth + length ms) spot
trace plan met seen first is walk s [] spot number depth at few same =
    at_deeper plan met number depth (depth + 0) spot (omega arith) (subst (IsAt plan met number depth) same at)
trace plan met seen first is walk s (m ∷ ms) spot number depth at few sends =
    at_deeper plan met number (depth + 1 + length ms) (depth + length (m ∷ ms)) spot (omega arith)
    (trace plan met seen first is walk sends.0 ms spot number (depth + 1) on (omega (arith, few)) sends.2)
  where
    class : IsClass at.class × (at.class.node < length plan.nodes)
    class = meets_class plan is at.rank at.class (walk.ranks at.class at.rank at.ranked).1

    sent : (target : ℕ) × (step plan s m ≡ Sent sends.0 target)
    sent = sent_is (step plan s m) sends.0 sends.1

    by : IsSentBy plan at.class sends.0
    by = sent_by plan at.class at.title.0 m sends.0 sent.0 is class.0 class.1 at.decided at.title.1
        (sym (ap (λ (z : Spot). step plan z m) at.title.2) ∙ sent.1)

    settled : IsSettled plan seen met at.class at.rank
    settled = ⊎_elim
        (λ (h : Decided plan at.class × (IsSettled plan seen met at.class at.rank ⊎ (at.rank ≡ 14))). ⊎_elim
        (λ (k : IsSettled plan seen met at.class at.rank). k)
        (λ (late : at.rank ≡ 14). absurd (omega (arith, late, at.few, few)))
        h.1)
        (λ (h : (Decided plan at.class → ⊥) × All (λ part. IsRankedBy met part at.rank) (parts_of at.class)). absurd (h.0 at.decided))
        (walk.known at.class at.rank at.ranked)

    ranked : IsRankedBy met by.next (at.rank + 1)
    ranked = settled.onward (omega (arith, at.few, few)) by.place by.next by.reached by.has

    on : IsAt plan met number (depth + 1) sends.0
    on = subst (λ n. IsAt plan met n (depth + 1) sends.0) (by.cover ∙ at.cover)
        (at_deeper plan met by.next.cover ranked.0 (depth + 1) sends.0 (omega (arith, ranked.2, at.few))
        (settle plan met seen 14 first is walk by.next.most by.next ranked.0 sends.0 (omega arith) ranked.1 by.title))

-- a settled class that has the title
pub record IsFound (plan : Network) (seen : Seen) (met : List (Titles × ℕ)) (number : ℕ) (spot : Spot) : Type 0 where
  pub class : Titles
  pub rank : ℕ
  pub is_class : IsClass class
  pub decided : Decided plan class
  pub title : HasTitle class spot
  pub cover : class.cover ≡ number
  pub settled : IsSettled plan seen met class rank

found : (plan : Network) (met : List (Titles × ℕ)) (seen : Seen) (first number : ℕ) (spot : Spot) → IsPlan plan
    → IsWalk plan 14 first met seen → IsMet plan number spot → IsFound plan seen met number spot
found plan met seen first number spot is walk m =
    record {
      class = at.class;
      rank = at.rank;
      is_class = (meets_class plan is at.rank at.class (walk.ranks at.class at.rank at.ranked).1).0;
      decided = at.decided;
      title = at.title;
      cover = at.cover;
      settled = ⊎_elim
          (λ (h : Decided plan at.class × (IsSettled plan seen met at.class at.rank ⊎ (at.rank ≡ 14))). ⊎_elim
          (λ (k : IsSettled plan seen met at.class at.rank). k)
          (λ (late : at.rank ≡ 14). absurd (omega (arith, late, at.few, m.few, hop.1, size)))
          h.1)
          (λ (h : (Decided plan at.class → ⊥) × All (λ part. IsRankedBy met part at.rank) (parts_of at.class)). absurd (h.0 at.decided))
          (walk.known at.class at.rank at.ranked);
    }
  where
    hop : (n : ℕ) × (n < length m.markings) × Sends (does plan) m.start (take n m.markings) spot
    hop = hop_sends plan m.start m.markings spot m.meets

    size : length (take hop.0 m.markings) ≡ hop.0
    size = length-take-le hop.0 m.markings (omega (arith, hop.1))

    cover : (c : Cover) × (slice_get plan.covers number ≡ Some c) × Covers c m.start
    cover = some_of (slice_get plan.covers number) (λ c. Covers c m.start) m.covered

    started : HasTitle (start_of number cover.0) m.start
    started = (start_exact plan.nodes number cover.0 (start_of number cover.0)
        (cover_at plan number cover.0 is cover.1) refl m.start).1 cover.2

    ranked : IsRankedBy met (start_of number cover.0) 0
    ranked = walk.starts number cover.0 cover.1

    start : IsAt plan met number 0 m.start
    start = at_deeper plan met number ranked.0 0 m.start ranked.2
        (settle plan met seen 14 first is walk (start_of number cover.0).most (start_of number cover.0) ranked.0 m.start (omega arith)
        ranked.1 started)

    at : IsAt plan met number (0 + length (take hop.0 m.markings)) spot
    at = trace plan met seen first is walk m.start (take hop.0 m.markings) spot number 0 start (omega (arith, size, hop.1, m.few)) hop.2

-- the row of a title is that of its class
row_is : (plan : Network) (c : Titles) (spot : Spot) → IsClass c → Decided plan c → (has : HasTitle c spot)
    → row_of plan spot ≡ class_row plan c
row_is plan c spot class decided has =
    ap (row_of plan) has.2 ∙ decided has.0 (sample_of c) has.1 (sample_member c class)

node_is : (c : Titles) (spot : Spot) → HasTitle c spot → spot.node ≡ c.node
node_is c spot has = ap (λ (s : Spot). s.node) has.2

row_there : (plan : Network) (c : Titles) (n r : ℕ) (spot : Spot) (row : Rule) → HasTitle c spot → spot.node ≡ n → HasRow plan n r row
    → HasRow plan c.node r row
row_there plan c n r spot row has same at = subst (λ k. HasRow plan k r row) (sym same ∙ node_is c spot has) at

-- what some marking leaves the first open one for a title, it does for its class
takes_reaches : (plan : Network) (c : Titles) (spot : Spot) (t : ℕ) → IsClass c → Decided plan c → HasTitle c spot → TakesTarget plan spot t
    → Reaches plan c t
takes_reaches plan c spot t class decided has takes =
    subst (λ (o : Option Rule). IsSomeAnd (slice_get plan.nodes c.node) (λ node. IsReached node c.ssn
    (option_map_or (λ (r : Rule). r.targets) o []) t)) (decided has.0 (sample_of c) has.1 (sample_member c class))
    (subst (λ (s : Spot). TakesTarget plan s t) has.2 takes)

pub whole_from : (plan : Network) (met : List (Titles × ℕ)) (seen : Seen) (first : ℕ) → IsPlan plan → IsWalk plan 14 first met seen
    → IsWhole plan seen
whole_from plan met seen first is walk =
    record { relays = relays; rows = rows; targets = targets; gaps = gaps }
  where
    relays : (n : ℕ) → UsesRelay plan n → IsTrue (has_relay seen n)
    relays n h =
        let f = found plan met seen first h.0 h.1 is walk h.2 in
        subst (λ k. IsTrue (has_relay seen k)) (sym (node_is f.class h.1 f.title) ∙ h.3) f.settled.relay

    rows : (place : RowPlace) → UsesRow plan place.node place.row → IsTrue (has_row seen place)
    rows place h =
        let f = found plan met seen first h.0 h.1 is walk h.2 in
        subst (λ k. IsTrue (has_row seen (row_at k place.row))) (sym (node_is f.class h.1 f.title) ∙ h.3.node)
        (f.settled.row place.row h.3.row (sym (row_is plan f.class h.1 f.is_class f.decided f.title) ∙ h.3.counts)
        (row_there plan f.class place.node place.row h.1 h.3.row f.title h.3.node h.3.at))

    targets : (place : TargetPlace) → UsesTarget plan place.node place.row place.target → IsTrue (has_target seen place)
    targets place h =
        let f = found plan met seen first h.0 h.1 is walk h.2 in
        subst (λ k. IsTrue (has_target seen (target_at k place.row place.target))) (sym (node_is f.class h.1 f.title) ∙ h.3.node)
        (f.settled.target place.row h.3.row (sym (row_is plan f.class h.1 f.is_class f.decided f.title) ∙ h.3.counts)
        (row_there plan f.class place.node place.row h.1 h.3.row f.title h.3.node h.3.at) place.target
        (takes_reaches plan f.class h.1 place.target f.is_class f.decided f.title h.4))

    gaps : (number : ℕ) (spot : Spot) → HasGap plan number spot → IsSome (gap_in seen number)
    gaps number spot h =
        let f = found plan met seen first number spot is walk h.0 in
        subst (λ k. IsSome (gap_in seen k)) f.cover
        (f.settled.gap (sym (row_is plan f.class spot f.is_class f.decided f.title) ∙ h.1))
