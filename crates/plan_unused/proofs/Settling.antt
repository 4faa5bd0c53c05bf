-- stops that were looked at, and the walk from hop to hop
use Rattle.std.specs.Prelude.{ℕ, ◌≡◌, ◌+◌, ◌^◌, ◌<◌, ◌≤◌, ◌⊎◌, IsTrue, IsSome, List, [], ◌∷◌, length, get_or, Option}
use Rattle.std.specs.Prelude.{Some, None}
use Rattle.std.specs.Prelude.{IsSomeAnd, slice_get, refl}
use Rattle.std.specs.List.{All}
use Rattle.std.specs.Option.{option_and_then, option_map_or}
use Rattle.std.proofs.Common.{zero, suc, sym, ◌∙◌, ap, subst, inl, inr, ⊎_elim, arith}
use Rattle.std.proofs.lemmas.Bool.{cases_lt}
use Rattle.std.proofs.lemmas.Option.{slice_get_within, get_or_from_slice_get}
use Rattle.std.proofs.lemmas.List.Elements.{All-weaker}
use Rattle.std.proofs.lemmas.List.Sums.{sum_by-cons}
use Rattle.sccp_base.specs.Selector.{Numbers}
use Rattle.sccp_base.proofs.Among.{All-among, Among-slice_get}
use Rattle.plan_rules.specs.Rule.{Rule}
use Rattle.plan_rules.specs.declared.target.Target.{Target}
use Rattle.plan_rules.specs.Rows.{row}
use Rattle.plan_rules.specs.Tables.{IsTable, SameTitles}
use Rattle.plan_model.specs.declared.node.Node.{Node}
use Rattle.plan_model.specs.declared.cover.Cover.{Cover}
use Rattle.plan_model.specs.Network.{Network, IsPlan, rows_in_all}
use Rattle.plan_model.specs.RowFor.{row_for}
use Rattle.plan_classes.specs.Titles.{Titles, parts_of, spot_of}
use Rattle.plan_classes.specs.Classes.{start_of, sample_of, Decided, IsReached, Reaches, class_row, class_targets}
use Rattle.plan_classes.proofs.Openings.{first_open-at}
use Rattle.plan_classes.proofs.Taking.{row_targets}
use Rattle.plan_check.specs.Ranking.{rank_in}
use Rattle.plan_check.proofs.Soundness.{some_of}
use Rattle.plan_unused.specs.declared.survey.RowPlace.{RowPlace}
use Rattle.plan_unused.specs.declared.seen.Seen.{Seen}
use Rattle.plan_unused.specs.Uses.{HasRow}
use Rattle.plan_unused.specs.Fitting.{fitting, HasFitting}
use Rattle.plan_unused.specs.Meets.{Meets}
use Rattle.plan_unused.specs.Meets.Meets.{Start}
use Rattle.plan_unused.specs.Walks.{row_at, target_at, has_relay, has_row, has_target, gap_in, IsSeen, IsMore, IsRankedBy, AreRanks, IsPut}
use Rattle.plan_unused.specs.Walks.{Grows, MayEnter, IsFollowed, IsSettled, IsEntry, IsWalk}
use Rattle.plan_unused.proofs.Meeting.{meets_class}
use Rattle.plan_unused.proofs.Growing.{ranked_more, ranks_grown}

pub more_none : (s : Seen) → IsMore s s
more_none s = record { relays = λ n h. h; rows = λ p h. h; targets = λ p h. h; gaps = λ n h. h }

pub more_on : (a b c : Seen) → IsMore a b → IsMore b c → IsMore a c
more_on a b c h k =
    record {
      relays = λ n g. k.relays n (h.relays n g);
      rows = λ p g. k.rows p (h.rows p g);
      targets = λ p g. k.targets p (h.targets p g);
      gaps = λ n g. k.gaps n (h.gaps n g);
    }

-- ranks that stay
abbrev pub Keeps : List (Titles × ℕ) → List (Titles × ℕ) → Type 0
Keeps before after = (c : Titles) (r : ℕ) → rank_in before c ≡ Some r → rank_in after c ≡ Some r

pub followed_more : (plan : Network) (s t : Seen) (before after : List (Titles × ℕ)) (c : Titles) (depth row target : ℕ) → IsMore s t
    → Keeps before after → IsFollowed plan s before c depth row target → IsFollowed plan t after c depth row target
followed_more plan s t before after c depth row target more keeps h =
    record {
      noted = λ reached. more.targets (target_at c.node row target) (h.noted reached);
      onward = λ few next reached has. ranked_more before after next (depth + 1) keeps (h.onward few next reached has);
    }

pub settled_more : (plan : Network) (s t : Seen) (before after : List (Titles × ℕ)) (c : Titles) (depth : ℕ) → IsMore s t
    → Keeps before after → IsSettled plan s before c depth → IsSettled plan t after c depth
settled_more plan s t before after c depth more keeps h =
    record {
      relay = more.relays c.node h.relay;
      row = λ r row counts at. more.rows (row_at c.node r) (h.row r row counts at);
      target = λ r row counts at k reached. more.targets (target_at c.node r k) (h.target r row counts at k reached);
      onward = λ few k next reached has. ranked_more before after next (depth + 1) keeps (h.onward few k next reached has);
      gap = λ none. more.gaps c.cover (h.gap none);
    }

-- a reached target is one of the row's
pub reaches_within : (plan : Network) (c : Titles) (row : Rule) (t : ℕ) → class_row plan c ≡ Some row → Reaches plan c t
    → t < length row.targets
reaches_within plan c row t counts reached =
    let node = some_of (slice_get plan.nodes c.node) (λ n. IsReached n c.ssn (class_targets plan c) t) reached in
    let at = first_open-at node.0 c.ssn node.2.0 0 (class_targets plan c) (t, node.2.1) node.2.2 in
    let lt : at.0 < length (class_targets plan c) = slice_get_within (class_targets plan c) at.0 node.2.1 at.2 in
    omega (arith, at.1, lt, ap (λ (ts : List Target). length ts) (row_targets plan c row counts))

pub past_target : (plan : Network) (seen : Seen) (met : List (Titles × ℕ)) (c : Titles) (depth r t : ℕ) (row : Rule)
    → class_row plan c ≡ Some row → length row.targets ≤ t → IsFollowed plan seen met c depth r t
past_target plan seen met c depth r t row counts le =
    record {
      noted = λ reached. absurd (let lt = reaches_within plan c row t counts reached in omega (arith, lt, le));
      onward = λ few next reached has. absurd (let lt = reaches_within plan c row t counts reached in omega (arith, lt, le));
    }

-- one more target was followed
pub followed_next : (plan : Network) (s t : Seen) (before after : List (Titles × ℕ)) (c : Titles) (depth r i : ℕ) → IsMore s t
    → Keeps before after → ((k : ℕ) → k < i → IsFollowed plan s before c depth r k) → IsFollowed plan t after c depth r i
    → (k : ℕ) → k < i + 1 → IsFollowed plan t after c depth r k
followed_next plan s t before after c depth r i more keeps so_far here k lt =
    ⊎_elim
    (λ (l : k < i). followed_more plan s t before after c depth r k more keeps (so_far k l))
    (λ (l : i ≤ k). let same : i ≡ k = omega (arith, l, lt) in subst (IsFollowed plan t after c depth r) same here)
    (cases_lt k i)

pub followed_all : (plan : Network) (seen : Seen) (met : List (Titles × ℕ)) (c : Titles) (depth r count : ℕ) (row : Rule)
    → class_row plan c ≡ Some row → length row.targets ≤ count → ((k : ℕ) → k < count → IsFollowed plan seen met c depth r k) → (k : ℕ)
    → IsFollowed plan seen met c depth r k
followed_all plan seen met c depth r count row counts le so_far k =
    ⊎_elim (λ (l : k < count). so_far k l) (λ (l : count ≤ k). past_target plan seen met c depth r k row counts (omega (arith, l, le)))
    (cases_lt k count)

-- a row is at one place of its table
one_place : (plan : Network) (n r q : ℕ) (row : Rule) → IsPlan plan → HasRow plan n r row → HasRow plan n q row → r ≡ q
one_place plan n r q row is h k =
    ⊎_elim (λ (lt : r < q). absurd (apart r q lt at_r at_q))
    (λ (le : q ≤ r). ⊎_elim (λ (lt : q < r). absurd (apart q r lt at_q at_r)) (λ (back : r ≤ q). omega (arith, le, back)) (cases_lt q r))
    (cases_lt r q)
  where
    node : (x : Node) × (slice_get plan.nodes n ≡ Some x) × (slice_get x.table r ≡ Some row)
    node = some_of (slice_get plan.nodes n) (λ x. slice_get x.table r ≡ Some row) h

    other : (x : Node) × (slice_get plan.nodes n ≡ Some x) × (slice_get x.table q ≡ Some row)
    other = some_of (slice_get plan.nodes n) (λ x. slice_get x.table q ≡ Some row) k

    same : other.0 ≡ node.0
    same = let e : Some other.0 ≡ Some node.0 = sym other.1 ∙ node.1 in cc

    at_r : slice_get node.0.table r ≡ Some row
    at_r = node.2

    at_q : slice_get node.0.table q ≡ Some row
    at_q = subst (λ (x : Node). slice_get x.table q ≡ Some row) same other.2

    table : IsTable node.0.table
    table = All-among (λ (x : Node). IsTable x.table) node.0 plan.nodes is.tables (Among-slice_get plan.nodes n node.0 node.1)

    apart : (i j : ℕ) → i < j → slice_get node.0.table i ≡ Some row → slice_get node.0.table j ≡ Some row → ⊥
    apart i j lt a b =
        let at_i = get_or_from_slice_get node.0.table i row row a in
        let at_j = get_or_from_slice_get node.0.table j row row b in
        let titles : SameTitles row row = (refl, refl, refl) in
        table.distinct i j row lt (slice_get_within node.0.table j row b)
        (subst (λ (x : Rule). SameTitles x (get_or node.0.table j row)) (sym at_i) (subst (SameTitles row) (sym at_j) titles))

one_row : (plan : Network) (c : Titles) (a b : Rule) → class_row plan c ≡ Some a → class_row plan c ≡ Some b → a ≡ b
one_row plan c a b h k = let e : Some a ≡ Some b = sym h ∙ k in cc

no_row : (plan : Network) (c : Titles) (row : Rule) → class_row plan c ≡ None → class_row plan c ≡ Some row → ⊥
no_row plan c row none some = let e : None ≡ Some row = sym none ∙ some in absurd (cc)

-- a stop with a row was looked at
pub settled_row : (plan : Network) (seen : Seen) (met : List (Titles × ℕ)) (c : Titles) (depth : ℕ) (place : RowPlace) (row : Rule)
    → IsPlan plan → place.node ≡ c.node → class_row plan c ≡ Some row → HasRow plan c.node place.row row
    → IsTrue (has_relay seen place.node) → IsTrue (has_row seen place)
    → ((t : ℕ) → IsFollowed plan seen met c depth place.row t) → IsSettled plan seen met c depth
settled_row plan seen met c depth place row is here counts at relay noted followed =
    record {
      relay = subst (λ n. IsTrue (has_relay seen n)) here relay;
      row = λ r own k there. subst (λ q. IsTrue (has_row seen (row_at c.node q))) (sym (same r own k there))
          (subst (λ n. IsTrue (has_row seen (row_at n place.row))) here noted);
      target = λ r own k there t reached. subst (λ q. IsTrue (has_target seen (target_at c.node q t))) (sym (same r own k there))
          ((followed t).noted reached);
      onward = λ few t next reached has. (followed t).onward few next reached has;
      gap = λ none. absurd (no_row plan c row none counts);
    }
  where
    same : (r : ℕ) (own : Rule) → class_row plan c ≡ Some own → HasRow plan c.node r own → r ≡ place.row
    same r own k there = one_place plan c.node r place.row row is (subst (HasRow plan c.node r) (one_row plan c own row k counts) there) at

-- a stop without a row was looked at
pub settled_gap : (plan : Network) (seen : Seen) (met : List (Titles × ℕ)) (c : Titles) (depth : ℕ) → class_row plan c ≡ None
    → IsTrue (has_relay seen c.node) → IsSome (gap_in seen c.cover) → IsSettled plan seen met c depth
settled_gap plan seen met c depth none relay gap =
    record {
      relay = relay;
      row = λ r own k there. absurd (no_row plan c own none k);
      target = λ r own k there t reached. absurd (no_row plan c own none k);
      onward = λ few t next reached has. absurd (nothing t next has);
      gap = λ h. gap;
    }
  where
    empty : (t : ℕ) (next : Titles) → IsSomeAnd (slice_get (let none : List Target = [] in none) t) (λ x. fitting plan c x ≡ Some next) → ⊥
    empty zero next h = h
    empty (suc t) next h = h

    nothing : (t : ℕ) (next : Titles) → HasFitting plan c t next → ⊥
    nothing t next has = empty t next (subst (λ (o : Option Rule). IsSomeAnd (slice_get (option_map_or (λ (r : Rule). r.targets) o []) t)
        (λ x. fitting plan c x ≡ Some next)) none has)

-- the row that is looked up is the class's
pub looked_up : (plan : Network) (node : Node) (c : Titles) (s : Numbers) (ssn : ℕ) (digits : List ℕ) (o : Option ℕ)
    → slice_get plan.nodes c.node ≡ Some node → s ≡ c.selector → ssn ≡ c.ssn → digits ≡ sample_of c
    → option_and_then (slice_get node.table) o ≡ row node.table s ssn digits → option_and_then (slice_get node.table) o ≡ class_row plan c
looked_up plan node c s ssn digits o at selectors ssns same found =
    found
    ∙ (ap (λ (x : Numbers). row node.table x ssn digits) selectors
    ∙ (ap (λ (x : ℕ). row node.table c.selector x digits) ssns
    ∙ (ap (row node.table c.selector c.ssn) same
    ∙ sym (ap (option_and_then (λ (n : Node). row_for n (spot_of c (sample_of c)))) at))))

-- a table has no more rows than the plan may have
rows_of_one : (nodes : List Node) (k : ℕ) (node : Node) → slice_get nodes k ≡ Some node → length node.table ≤ rows_in_all nodes
rows_of_one [] zero node e = absurd (cc)
rows_of_one [] (suc k) node e = absurd (cc)
rows_of_one (x ∷ xs) zero node e =
    let same : x ≡ node = cc in
    omega (arith, sum_by-cons (λ (n : Node). length n.table) x xs, ap (λ (n : Node). length n.table) same)
rows_of_one (x ∷ xs) (suc k) node e =
    omega (arith, sum_by-cons (λ (n : Node). length n.table) x xs, rows_of_one xs k node e)

pub short_table : (plan : Network) (k : ℕ) (node : Node) → IsPlan plan → slice_get plan.nodes k ≡ Some node
    → length node.table < 2 ^ 32
short_table plan k node is at = omega (arith, rows_of_one plan.nodes k node at, is.row_places)

-- the first hop
nothing_ranked : (c : Titles) (r : ℕ) → rank_in [] c ≡ Some r → ⊥
nothing_ranked c r e = absurd (cc)

pub no_ranks : (plan : Network) (depth : ℕ) → AreRanks plan depth []
no_ranks plan depth c r e = absurd (nothing_ranked c r e)

pub may_start : (plan : Network) (number : ℕ) (s : Titles) → IsPlan plan
    → IsSomeAnd (slice_get plan.covers number) (λ c. s ≡ start_of number c) → MayEnter plan 0 s
may_start plan number s is h =
    let cover = some_of (slice_get plan.covers number) (λ c. s ≡ start_of number c) h in
    let meets : Meets plan 0 s = subst (Meets plan 0) (sym cover.2) (Start number cover.0 cover.1) in
    record { node = (meets_class plan is 0 s meets).1; meets = meets }

pub starts_more : (plan : Network) (before after : List (Titles × ℕ)) (n : ℕ) (s : Titles) → Keeps before after → IsRankedBy after s 0
    → IsSomeAnd (slice_get plan.covers n) (λ c. s ≡ start_of n c)
    → ((number : ℕ) (cover : Cover) → number < n → slice_get plan.covers number ≡ Some cover → IsRankedBy before (start_of number cover) 0)
    → (number : ℕ) (cover : Cover) → number < n + 1 → slice_get plan.covers number ≡ Some cover → IsRankedBy after (start_of number cover) 0
starts_more plan before after n s keeps ranked is so_far number cover lt at =
    ⊎_elim
    (λ (l : number < n). ranked_more before after (start_of number cover) 0 keeps (so_far number cover l at))
    (λ (l : n ≤ number).
    let same : n ≡ number = omega (arith, l, lt) in
    let own = some_of (slice_get plan.covers n) (λ c. s ≡ start_of n c) is in
    let one : Some own.0 ≡ Some cover = sym own.1 ∙ (ap (slice_get plan.covers) same ∙ at) in
    let cover_is : own.0 ≡ cover = cc in
    subst (λ (x : Titles). IsRankedBy after x 0) (own.2 ∙ (ap (start_of n) cover_is ∙ ap (λ (k : ℕ). start_of k cover) same)) ranked)
    (cases_lt number n)

-- what is known of a class that was put
put_known : (plan : Network) (depth r : ℕ) (met : List (Titles × ℕ)) (seen : Seen) (c : Titles) → r ≡ depth → IsPut plan depth met c
    → (Decided plan c × (IsSettled plan seen met c r ⊎ (r ≡ depth)))
    ⊎ ((Decided plan c → ⊥) × All (λ part. IsRankedBy met part r) (parts_of c))
put_known plan depth r met seen c same (inl h) = inl (h, inr same)
put_known plan depth r met seen c same (inr h) =
    inr (h.0, subst (λ n. All (λ part. IsRankedBy met part n) (parts_of c)) (sym same) h.1)

pub walk_first : (plan : Network) (met : List (Titles × ℕ)) (count : ℕ) (seen : Seen) → Grows plan 0 [] met → length plan.covers ≤ count
    → ((number : ℕ) (cover : Cover) → number < count → slice_get plan.covers number ≡ Some cover → IsRankedBy met (start_of number cover) 0)
    → IsSeen plan seen → IsWalk plan 0 0 met seen
walk_first plan met count seen g le starts sound =
    record {
      ranks = ranks_grown plan 0 [] met g (no_ranks plan 0);
      sound = sound;
      starts = λ number cover at. starts number cover
          (let lt : number < length plan.covers = slice_get_within plan.covers number cover at in omega (arith, lt, le)) at;
      earlier = λ place c lt is. absurd (omega (arith, lt));
      known = λ c r e. ⊎_elim
          (λ (old : rank_in [] c ≡ Some r). absurd (nothing_ranked c r old))
          (λ (new : (r ≡ 0) × Meets plan 0 c × IsPut plan 0 met c). put_known plan 0 r met seen c new.0 new.2)
          (g.added c r e);
    }

-- the next hop
pub deeper_ranks : (plan : Network) (depth : ℕ) (met : List (Titles × ℕ)) → AreRanks plan depth met → AreRanks plan (depth + 1) met
deeper_ranks plan depth met ranks c r e = let h = ranks c r e in (omega (arith, h.0), h.1)

pub ranked_earlier : (plan : Network) (depth : ℕ) (before after : List (Titles × ℕ)) (c : Titles) → Grows plan (depth + 1) before after
    → rank_in after c ≡ Some depth → rank_in before c ≡ Some depth
ranked_earlier plan depth before after c g at =
    ⊎_elim
    (λ (old : rank_in before c ≡ Some depth). old)
    (λ (new : (depth ≡ depth + 1) × Meets plan (depth + 1) c × IsPut plan (depth + 1) after c). absurd (omega (arith, new.0)))
    (g.added c depth at)

-- a class that has this hop as its rank, also after classes were put at the next one
pub may_visit : (plan : Network) (depth first : ℕ) (before after : List (Titles × ℕ)) (seen : Seen) (c : Titles) → IsPlan plan
    → IsWalk plan depth first before seen → Grows plan (depth + 1) before after → rank_in after c ≡ Some depth → MayEnter plan depth c
may_visit plan depth first before after seen c is walk g at =
    let meets : Meets plan depth c = (walk.ranks c depth (ranked_earlier plan depth before after c g at)).1 in
    record { node = (meets_class plan is depth c meets).1; meets = meets }

pub walk_next : (plan : Network) (depth first next : ℕ) (before after : List (Titles × ℕ)) (s t : Seen)
    → IsWalk plan depth first before s
    → Grows plan (depth + 1) before after → IsSeen plan t → IsMore s t
    → ((c : Titles) → rank_in before c ≡ Some depth → Decided plan c → IsSettled plan t after c depth)
    → ((place : ℕ) (c : Titles) → place < next → IsEntry after place c (depth + 1) → ⊥) → IsWalk plan (depth + 1) next after t
walk_next plan depth first next before after s t walk g sound more settled earlier =
    record {
      ranks = ranks_grown plan (depth + 1) before after g (deeper_ranks plan depth before walk.ranks);
      sound = sound;
      starts = λ number cover at. ranked_more before after (start_of number cover) 0 g.kept (walk.starts number cover at);
      earlier = earlier;
      known = λ c r e. ⊎_elim (λ (old : rank_in before c ≡ Some r). was c r old (walk.known c r old))
          (λ (new : (r ≡ depth + 1) × Meets plan (depth + 1) c × IsPut plan (depth + 1) after c).
          put_known plan (depth + 1) r after t c new.0 new.2)
          (g.added c r e);
    }
  where
    was : (c : Titles) (r : ℕ) → rank_in before c ≡ Some r → (Decided plan c × (IsSettled plan s before c r ⊎ (r ≡ depth)))
        ⊎ ((Decided plan c → ⊥) × All (λ part. IsRankedBy before part r) (parts_of c))
        → (Decided plan c × (IsSettled plan t after c r ⊎ (r ≡ depth + 1)))
        ⊎ ((Decided plan c → ⊥) × All (λ part. IsRankedBy after part r) (parts_of c))
    was c r at (inl h) = inl (
      h.0,
      inl (⊎_elim
          (λ (k : IsSettled plan s before c r). settled_more plan s t before after c r more g.kept k)
          (λ (k : r ≡ depth). subst (IsSettled plan t after c) (sym k)
          (settled c (subst (λ (n : ℕ). rank_in before c ≡ Some n) k at) h.0))
          h.1),
    )
    was c r at (inr h) = inr (
      h.0,
      All-weaker (λ part. IsRankedBy before part r) (λ part. IsRankedBy after part r)
          (λ part p. ranked_more before after part r g.kept p) (parts_of c) h.1,
    )
