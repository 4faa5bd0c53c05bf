-- the rank of a class by what its parts or its targets lead to
use Rattle.std.specs.Prelude.{ℕ, ◌≡◌, ◌+◌, ◌-◌, ◌≤◌, ◌<◌, List, length, take, Option, Some, None, IsSome, IsSomeAnd, slice_get, max}
use Rattle.std.specs.Prelude.{get_or}
use Rattle.std.specs.List.{All, Any}
use Rattle.std.proofs.Common.{sym, ◌∙◌, ap, subst, inl, inr, ⊎_elim, arith, take_all}
use Rattle.std.proofs.lemmas.Bool.{cases_lt}
use Rattle.std.proofs.lemmas.List.{get_or-take, length-take}
use Rattle.std.proofs.lemmas.List.Elements.{All-weaker, All-more}
use Rattle.plan_model.specs.Network.{Network}
use Rattle.plan_classes.specs.declared.leads.Image.{Image}
use Rattle.plan_classes.specs.declared.leads.Image.TheVariants.{Next, Ends, NotEquipped, TooLong}
use Rattle.plan_classes.specs.Titles.{Titles, IsClass, parts_of}
use Rattle.plan_classes.specs.Classes.{Decided, Reachable, Reaches, HasImage, IsReached, class_row, class_targets}
use Rattle.plan_classes.specs.Classes.Reachable.{Part, Onward}
use Rattle.plan_classes.proofs.Openings.{reached_place}
use Rattle.plan_classes.proofs.Taking.{one_image}
use Rattle.plan_check.specs.Ranking.{rank_in}
use Rattle.plan_check.specs.Ranked.{RanksUpTo, LeadsWell}
use Rattle.plan_check.proofs.Greatest.{wider}
use Rattle.plan_check.proofs.Soundness.{some_of}
use Rattle.plan_verify.specs.Attained.{RanksFrom, LeadsHigh, IsAttainedOpen, IsAttainedDecided}
use Rattle.plan_verify.specs.Searching.{Keeps, IsSound, IsBorneOut, IsLedTo}
use Rattle.plan_verify.proofs.Keeping.{some_kept, leads_kept, high_kept}

below_wider : (o : Option ℕ) (m n : ℕ) → m ≤ n → IsSomeAnd o (λ s. s < m) → IsSomeAnd o (λ s. s < n)
below_wider None m n le h = h
below_wider (Some s) m n le h = omega arith

from_wider : (o : Option ℕ) (m n : ℕ) → n ≤ m → IsSomeAnd o (λ s. m ≤ s) → IsSomeAnd o (λ s. n ≤ s)
from_wider None m n le h = h
from_wider (Some s) m n le h = omega arith

-- the parts are ranked with one more of them
pub parts_ranked : (old new : List (Titles × ℕ)) (ps : List Titles) (i rank other : ℕ) (p : Titles) → i < length ps → p ≡ get_or ps i p
    → Keeps old new → rank_in new p ≡ Some other → All (RanksUpTo (rank_in old) rank) (take i ps)
    → All (RanksUpTo (rank_in new) (max rank other)) (take (i + 1) ps)
parts_ranked old new ps i rank other p lt at keeps here before =
    All-more (RanksUpTo (rank_in new) (max rank other)) ps i p lt
    (All-weaker (RanksUpTo (rank_in old) rank) (RanksUpTo (rank_in new) (max rank other))
    (λ q h. wider (rank_in new q) rank (max rank other) (omega arith) (some_kept old new (λ s. s ≤ rank) q keeps h)) (take i ps) before)
    (subst (RanksUpTo (rank_in new) (max rank other)) at (subst (λ (o : Option ℕ). IsSomeAnd o (λ s. s ≤ max rank other)) (sym here)
    (let le : other ≤ max rank other = omega arith in le)))

-- some part so far has the greatest rank
pub parts_attained : (old new : List (Titles × ℕ)) (ps : List Titles) (i rank other : ℕ) (p : Titles) → i < length ps → p ≡ get_or ps i p
    → Keeps old new → rank_in new p ≡ Some other → (2 ≤ rank → Any (RanksFrom (rank_in old) rank) (take i ps)) → 2 ≤ max rank other
    → Any (RanksFrom (rank_in new) (max rank other)) (take (i + 1) ps)
parts_attained old new ps i rank other p lt at keeps here before two =
    ⊎_elim
    (λ (more : rank < other).
    let le : max rank other ≤ other = omega arith in (
      i,
      p,
      omega (arith, length-take (i + 1) ps),
      get_or-take (i + 1) ps i p (omega arith)
          ∙ sym at,
      subst (λ (o : Option ℕ). IsSomeAnd o (λ s. max rank other ≤ s)) (sym here) le,
    ))
    (λ (less : other ≤ rank).
    let was = before (omega arith) in
    let inside : was.0 < i = omega (arith, was.2, length-take i ps) in (
      was.0,
      was.1,
      omega (arith, was.2, length-take i ps, length-take (i + 1) ps),
      get_or-take (i + 1) ps was.0 was.1 (omega arith) ∙ sym (get_or-take i ps was.0 was.1 inside) ∙ was.3,
      from_wider (rank_in new was.1) rank (max rank other) (omega arith) (some_kept old new (λ s. rank ≤ s) was.1 keeps was.4),
    ))
    (cases_lt rank other)

-- a class whose parts are all ranked
pub open_borne : (plan : Network) (ranks : List (Titles × ℕ)) (c : Titles) (ps : List Titles) (rank n : ℕ) → ps ≡ parts_of c → length ps ≤ n
    → IsClass c → c.node < length plan.nodes → c.cover < length plan.covers → (Decided plan c → ⊥) → 0 < c.most → 1 ≤ rank → rank ≤ 14
    → All (RanksUpTo (rank_in ranks) rank) (take n ps) → (2 ≤ rank → Any (RanksFrom (rank_in ranks) rank) (take n ps))
    → IsBorneOut plan (rank_in ranks) c rank
open_borne plan ranks c ps rank n same all is node cover undecided more low high below some =
    record {
      ranked = record {
        low = low;
        high = high;
        class = is;
        node = node;
        cover = cover;
        follows = inl
            (record {
              undecided = undecided;
              more = more;
              parts = subst (All (RanksUpTo (rank_in ranks) rank)) (take_all n ps all
                  ∙ same) below;
            });
      };
      attained = λ two. inl (record {
        undecided = undecided;
        part = subst (Any (RanksFrom (rank_in ranks) rank)) (take_all n ps all
            ∙ same) (some two);
      });
    }

pub part_reached : (plan : Network) (depth : ℕ) (c : Titles) (ps qs : List Titles) (i : ℕ) (p : Titles) → ps ≡ parts_of c → qs ≡ ps
    → i < length qs → p ≡ get_or qs i p → Reachable plan depth c → (Decided plan c → ⊥) → Reachable plan depth p
part_reached plan depth c ps qs i p are same lt at reached apart =
    Part depth c p reached apart (
      i,
      omega (arith, ap length (same ∙ are)),
      sym (at
          ∙ ap (λ (xs : List Titles). get_or xs i p) (same ∙ are)),
    )

leads_wider : (plan : Network) (ranks : List (Titles × ℕ)) (cover m n : ℕ) (i : Image) → m ≤ n → LeadsWell plan (rank_in ranks) cover m i
    → LeadsWell plan (rank_in ranks) cover n i
leads_wider plan ranks cover m n (Next next) le h = below_wider (rank_in ranks next) m n le h
leads_wider plan ranks cover m n (Ends pc ssn) le h = h
leads_wider plan ranks cover m n NotEquipped le h = h
leads_wider plan ranks cover m n TooLong le h = h

-- one more target leads well
pub targets_led : (plan : Network) (old new : List (Titles × ℕ)) (c : Titles) (i rank other : ℕ) → Keeps old new →
    ((image : Image) → Reaches plan c i → HasImage plan c i image → LeadsWell plan (rank_in new) c.cover other image) →
    ((place : ℕ) (image : Image) → place < i → Reaches plan c place → HasImage plan c place image
    → LeadsWell plan (rank_in old) c.cover rank image) →
    (place : ℕ) (image : Image) → place < i + 1 → Reaches plan c place → HasImage plan c place image
    → LeadsWell plan (rank_in new) c.cover (max rank other) image
targets_led plan old new c i rank other keeps here before place image lt reached has =
    ⊎_elim
    (λ (l : place < i). leads_wider plan new c.cover rank (max rank other) image (omega arith)
    (leads_kept plan old new c.cover rank image keeps (before place image l reached has)))
    (λ (g : i ≤ place).
    let same : place ≡ i = omega arith in
    leads_wider plan new c.cover other (max rank other) image (omega arith)
    (here image (subst (λ (k : ℕ). Reaches plan c k) same reached) (subst (λ (k : ℕ). HasImage plan c k image) same has)))
    (cases_lt place i)

-- some target so far leads to a class one rank below the greatest
pub targets_high : (plan : Network) (old new : List (Titles × ℕ)) (c : Titles) (rank other : ℕ) → Keeps old new
    → (2 ≤ other → LeadsHigh plan (rank_in new) c (other - 1)) → (2 ≤ rank → LeadsHigh plan (rank_in old) c (rank - 1)) → 2 ≤ max rank other
    → LeadsHigh plan (rank_in new) c (max rank other - 1)
targets_high plan old new c rank other keeps here before two =
    ⊎_elim
    (λ (more : rank < other). subst (λ (n : ℕ). LeadsHigh plan (rank_in new) c n)
    (let e : other - 1 ≡ max rank other - 1 = omega arith in e) (here (omega arith)))
    (λ (less : other ≤ rank). subst (λ (n : ℕ). LeadsHigh plan (rank_in new) c n) (let e : rank - 1 ≡ max rank other - 1 = omega arith in e)
    (high_kept plan old new c (rank - 1) keeps (before (omega arith))))
    (cases_lt rank other)

-- a reached image is reachable
pub image_reached : (plan : Network) (depth place : ℕ) (c next : Titles) → HasImage plan c place (Next next) → Reaches plan c place
    → Decided plan c → depth < 14 → Reachable plan depth c → Reachable plan (depth + 1) next
image_reached plan depth place c next has reached decided lt at = Onward depth c next place at lt decided reached has

-- if a target leads to a ranked class, the rank is one more
pub led_next_rank : (plan : Network) (ranks : List (Titles × ℕ)) (c next : Titles) (place other : ℕ) → HasImage plan c place (Next next)
    → Reaches plan c place → rank_in ranks next ≡ Some other → IsLedTo plan (rank_in ranks) c place (other + 1)
led_next_rank plan ranks c next place other has reached here =
    record {
      well = λ image r h. subst (LeadsWell plan (rank_in ranks) c.cover (other + 1)) (one_image plan c place (Next next) image has h)
          (subst (λ (o : Option ℕ). IsSomeAnd o (λ s. s < other + 1)) (sym here) (let lt : other < other + 1 = omega arith in lt));
      low = omega arith;
      high = λ two. record {
        place = place;
        next = next;
        leads = (reached, has);
        high = subst
            (λ (o : Option ℕ). IsSomeAnd o (λ s. other + 1 - 1 ≤ s)) (sym here) (let le : other + 1 - 1 ≤ other = omega arith in le);
      };
    }

-- a target that is never the first open one
pub led_never : (plan : Network) (ranks : List (Titles × ℕ)) (c : Titles) (place : ℕ) → (Reaches plan c place → ⊥)
    → IsLedTo plan (rank_in ranks) c place 1
led_never plan ranks c place none =
    record { well = λ image r h. absurd (none r); low = omega arith; high = λ two. absurd (omega (arith, two)) }

reaches_inside : (plan : Network) (c : Titles) (place : ℕ) → Reaches plan c place → place < length (class_targets plan c)
reaches_inside plan c place h =
    elim (slice_get plan.nodes c.node) as (λ o. IsSomeAnd o (λ node. IsReached node c.ssn (class_targets plan c) place)
    → place < length (class_targets plan c)) [
      | None ↦ λ k. absurd k
      | Some node ↦ λ k. reached_place node c.ssn (class_targets plan c) place k
    ] h

-- a decided class whose reached targets all lead well
pub decided_borne : (plan : Network) (ranks : List (Titles × ℕ)) (c : Titles) (rank n : ℕ) → IsClass c → c.node < length plan.nodes
    → c.cover < length plan.covers → Decided plan c → IsSome (class_row plan c) → length (class_targets plan c) ≤ n → 1 ≤ rank → rank ≤ 14
    → ((place : ℕ) (image : Image) → place < n → Reaches plan c place → HasImage plan c place image
    → LeadsWell plan (rank_in ranks) c.cover rank image) → (2 ≤ rank → LeadsHigh plan (rank_in ranks) c (rank - 1))
    → IsBorneOut plan (rank_in ranks) c rank
decided_borne plan ranks c rank n is node cover decided some all low high leads attained =
    record {
      ranked = record {
        low = low;
        high = high;
        class = is;
        node = node;
        cover = cover;
        follows = inr
            (record {
              decided = decided;
              row = some;
              leads = λ place image reached has. leads place image
                  (omega (arith, reaches_inside plan c place reached)) reached has;
            });
      };
      attained = λ two. inr (record { decided = decided; next = attained two });
    }

-- an undecided class of at least some rank has a part of at least that rank
pub high_part : (plan : Network) (ranks : List (Titles × ℕ)) (c : Titles) (least : ℕ) (ps : List Titles) → IsSound plan ranks
    → RanksFrom (rank_in ranks) least c → 2 ≤ least → (Decided plan c → ⊥) → ps ≡ parts_of c → Any (RanksFrom (rank_in ranks) least) ps
high_part plan ranks c least ps sound high two undecided same =
    let s = some_of (rank_in ranks c) (λ r. least ≤ r) high in
    ⊎_elim
    (λ (by : IsAttainedOpen plan (rank_in ranks) c s.0).
    subst (Any (RanksFrom (rank_in ranks) least)) (sym same)
    (by.part.0, by.part.1, by.part.2, by.part.3, from_wider (rank_in ranks by.part.1) s.0 least s.2 by.part.4))
    (λ (by : IsAttainedDecided plan (rank_in ranks) c s.0). absurd (undecided by.decided))
    (sound.attained c s.0 s.1 (omega (arith, s.2)))

-- a decided class of at least some rank leads to one that is at most one rank lower
pub high_next : (plan : Network) (ranks : List (Titles × ℕ)) (c : Titles) (least : ℕ) → IsSound plan ranks
    → RanksFrom (rank_in ranks) least c → 2 ≤ least → Decided plan c → LeadsHigh plan (rank_in ranks) c (least - 1)
high_next plan ranks c least sound high two decided =
    let s = some_of (rank_in ranks c) (λ r. least ≤ r) high in
    ⊎_elim
    (λ (by : IsAttainedOpen plan (rank_in ranks) c s.0). absurd (by.undecided decided))
    (λ (by : IsAttainedDecided plan (rank_in ranks) c s.0).
    record {
      place = by.next.place;
      next = by.next.next;
      leads = by.next.leads;
      high = from_wider (rank_in ranks by.next.next) (s.0 - 1)
          (least - 1) (let le : least ≤ s.0 = s.2 in omega arith) by.next.high;
    })
    (sound.attained c s.0 s.1 (omega (arith, s.2)))

-- if no class up to the end of a list has that rank, none of the list has
pub none_high : (ranks : List (Titles × ℕ)) (least n : ℕ) (ps : List Titles) → length ps ≤ n
    → All (λ p. RanksFrom (rank_in ranks) least p → ⊥) (take n ps) → Any (RanksFrom (rank_in ranks) least) ps → ⊥
none_high ranks least n ps all none some =
    let whole : All (λ p. RanksFrom (rank_in ranks) least p → ⊥) ps = subst (All (λ p. RanksFrom (rank_in ranks) least p → ⊥))
    (take_all n ps all) none in
    whole some.0 some.1 some.2 (subst (RanksFrom (rank_in ranks) least) (sym some.3) some.4)
