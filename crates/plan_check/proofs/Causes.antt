-- what passes the tests of a class, and why a class fails one
use Rattle.std.specs.Prelude.{ℕ, ◌≡◌, ◌<◌, ◌≤◌, List, length, Option, Some, None, IsSome, IsSomeAnd, refl}
use Rattle.std.specs.List.{All, Contains}
use Rattle.std.proofs.Common.{sym, subst, inl, inr, ⊎_elim}
use Rattle.std.proofs.lemmas.List.Elements.{All-weaker, All-contains}
use Rattle.plan_model.specs.Network.{Network}
use Rattle.plan_classes.specs.declared.leads.Image.{Image}
use Rattle.plan_classes.specs.declared.leads.Image.TheVariants.{Next, Ends, NotEquipped, TooLong}
use Rattle.plan_classes.specs.Titles.{Titles, IsClass, parts_of}
use Rattle.plan_classes.specs.Classes.{Decided, class_row}
use Rattle.plan_classes.proofs.Deciding.{open_digits}
use Rattle.plan_check.specs.declared.check_fault.CheckFault.{CheckFault}
use Rattle.plan_check.specs.declared.check_fault.CheckFault.TheVariants.{NoStart, NoRank, NotLower, BadEnd, NotTight, OutOfMemory}
use Rattle.plan_check.specs.Ranked.{RanksUpTo, LeadsWell, IsRankedDecided, IsRankedOpen, IsRankedClass}
use Rattle.plan_check.specs.Checks.{LeadsTo, MayLead, NextHasRank, NextIsLower, HasGoodEnds, HasRanks, IsLower, IsClassFault}

-- an undecided class of the plan has no end
pub open_ends : (plan : Network) (c : Titles) → c.cover < length plan.covers → c.node < length plan.nodes → (Decided plan c → ⊥)
    → HasGoodEnds plan c
open_ends plan c cover node undecided = record {
  cover = cover;
  node = node;
  row = λ d. absurd (undecided d);
  ends = λ d image led. absurd
      (undecided d);
}

pub open_ranks : (plan : Network) (rank : Titles → Option ℕ) (c : Titles) → (Decided plan c → ⊥)
    → All (λ part. IsSome (rank part)) (parts_of c) → HasRanks plan rank c
open_ranks plan rank c undecided parts = record { parts = λ u. parts; next = λ d image led. absurd (undecided d) }

-- the images are those to which reached targets lead, and no others
pub record AreLed (plan : Network) (c : Titles) (images : List Image) : Type 0 where
  pub each : All (LeadsTo plan c) images
  pub every : (image : Image) → LeadsTo plan c image → Contains images image

pub led_at : (plan : Network) (c : Titles) (slice images : List Image) → slice ≡ images → All (LeadsTo plan c) images
    → ((image : Image) → LeadsTo plan c image → Contains images image) → AreLed plan c slice
led_at plan c slice images same each every = subst (AreLed plan c) (sym same) (record { each = each; every = every })

all_led : (plan : Network) (c : Titles) (images : List Image) (P : Image → Type 0) → AreLed plan c images → All P images → (image : Image)
    → LeadsTo plan c image → P image
all_led plan c images P is all image led = All-contains P images image all (is.every image led)

led_all : (plan : Network) (c : Titles) (images : List Image) (P : Image → Type 0) → AreLed plan c images
    → ((image : Image) → LeadsTo plan c image → P image) → All P images
led_all plan c images P is led = All-weaker (LeadsTo plan c) P led images is.each

-- a target that leads on to a lower rank, or to an end that the cover allows, leads well
leads_well : (plan : Network) (rank : Titles → Option ℕ) (cover r : ℕ) (image : Image) → MayLead plan cover image → NextIsLower rank r image
    → LeadsWell plan rank cover r image
leads_well plan rank cover r (Next next) may lower = lower
leads_well plan rank cover r (Ends pc ssn) may lower = may
leads_well plan rank cover r NotEquipped may lower = may
leads_well plan rank cover r TooLong may lower = may

may_lead : (plan : Network) (rank : Titles → Option ℕ) (cover r : ℕ) (image : Image) → LeadsWell plan rank cover r image
    → MayLead plan cover image
may_lead plan rank cover r (Next next) well = tt
may_lead plan rank cover r (Ends pc ssn) well = well
may_lead plan rank cover r NotEquipped well = well
may_lead plan rank cover r TooLong well = well

next_is_lower : (plan : Network) (rank : Titles → Option ℕ) (cover r : ℕ) (image : Image) → LeadsWell plan rank cover r image
    → NextIsLower rank r image
next_is_lower plan rank cover r (Next next) well = well
next_is_lower plan rank cover r (Ends pc ssn) well = tt
next_is_lower plan rank cover r NotEquipped well = tt
next_is_lower plan rank cover r TooLong well = tt

-- a rank within a bound is a rank
pub some_rank : (o : Option ℕ) (P : ℕ → Type 0) → IsSomeAnd o P → IsSome o
some_rank None P h = absurd h
some_rank (Some r) P h = refl

next_has_rank : (rank : Titles → Option ℕ) (r : ℕ) (image : Image) → NextIsLower rank r image → NextHasRank rank image
next_has_rank rank r (Next next) lower = some_rank (rank next) (λ s. s < r) lower
next_has_rank rank r (Ends pc ssn) lower = tt
next_has_rank rank r NotEquipped lower = tt
next_has_rank rank r TooLong lower = tt

-- a class that passes the tests is ranked
pub decided_ranked : (plan : Network) (rank : Titles → Option ℕ) (c : Titles) (r : ℕ) → IsClass c → c.cover < length plan.covers
    → c.node < length plan.nodes → Decided plan c → IsSome (class_row plan c) → (images : List Image) → AreLed plan c images
    → All (MayLead plan c.cover) images → (1 ≤ r) × (r ≤ 14) × All (NextIsLower rank r) images → IsRankedClass plan rank c r
decided_ranked plan rank c r class cover node decided row images is may lower = record {
  low = lower.0;
  high = lower.1;
  class = class;
  node = node;
  cover = cover;
  follows = inr (record {
    decided = decided;
    row = row;
    leads = λ place image reached has.
        let led : LeadsTo plan c image = (place, reached, has) in
        leads_well plan rank c.cover r image (all_led plan c images (MayLead plan c.cover) is may image led)
        (all_led plan c images (NextIsLower rank r) is lower.2 image led);
  });
}

pub open_ranked : (plan : Network) (rank : Titles → Option ℕ) (c : Titles) (r : ℕ) → IsClass c → c.cover < length plan.covers
    → c.node < length plan.nodes → (Decided plan c → ⊥) → (1 ≤ r) × (r ≤ 14) × All (RanksUpTo rank r) (parts_of c)
    → IsRankedClass plan rank c r
open_ranked plan rank c r class cover node undecided lower = record {
  low = lower.0;
  high = lower.1;
  class = class;
  node = node;
  cover = cover;
  follows = inl (record { undecided = undecided; more = open_digits plan c undecided; parts = lower.2 });
}

-- what the tests of a decided class show, test by test: each one holds if it passes, and does not hold if it fails
pub decided_ends : (plan : Network) (c : Titles) → c.cover < length plan.covers → c.node < length plan.nodes → Decided plan c
    → IsSome (class_row plan c) → (images : List Image) → AreLed plan c images → All (MayLead plan c.cover) images → HasGoodEnds plan c
decided_ends plan c cover node decided row images is may = record {
  cover = cover;
  node = node;
  row = λ d. row;
  ends = λ d. all_led plan c images (MayLead plan c.cover) is may;
}

pub decided_ranks : (plan : Network) (rank : Titles → Option ℕ) (c : Titles) → Decided plan c → (images : List Image) → AreLed plan c images
    → All (NextHasRank rank) images → HasRanks plan rank c
decided_ranks plan rank c decided images is has = record {
  parts = λ undecided. absurd (undecided decided);
  next = λ d. all_led plan c images (NextHasRank rank) is has;
}

pub no_good_ends : (plan : Network) (c : Titles) → Decided plan c → (images : List Image) → AreLed plan c images
    → (All (MayLead plan c.cover) images → ⊥) → HasGoodEnds plan c → ⊥
no_good_ends plan c decided images is fails good = fails (led_all plan c images (MayLead plan c.cover) is (good.ends decided))

pub no_ranks : (plan : Network) (rank : Titles → Option ℕ) (c : Titles) → Decided plan c → (images : List Image) → AreLed plan c images
    → (All (NextHasRank rank) images → ⊥) → HasRanks plan rank c → ⊥
no_ranks plan rank c decided images is fails ranks = fails (led_all plan c images (NextHasRank rank) is (ranks.next decided))

pub not_lower : (plan : Network) (rank : Titles → Option ℕ) (c : Titles) (r : ℕ) → Decided plan c → (images : List Image)
    → AreLed plan c images → ((1 ≤ r) × (r ≤ 14) × All (NextIsLower rank r) images → ⊥) → IsLower plan rank c r → ⊥
not_lower plan rank c r decided images is fails lower = fails
    (lower.low, lower.high, led_all plan c images (NextIsLower rank r) is (lower.next decided))

-- a class that is ranked passes the tests
ranked_ends : (plan : Network) (rank : Titles → Option ℕ) (c : Titles) (r : ℕ) → IsRankedClass plan rank c r → HasGoodEnds plan c
ranked_ends plan rank c r h =
    ⊎_elim
    (λ (by : IsRankedOpen plan rank c r). open_ends plan c h.cover h.node by.undecided)
    (λ (by : IsRankedDecided plan rank c r). record {
      cover = h.cover;
      node = h.node;
      row = λ d. by.row;
      ends = λ d image led. may_lead plan rank c.cover r image
          (by.leads led.0 image led.1 led.2);
    })
    h.follows

ranked_ranks : (plan : Network) (rank : Titles → Option ℕ) (c : Titles) (r : ℕ) → IsRankedClass plan rank c r → HasRanks plan rank c
ranked_ranks plan rank c r h =
    ⊎_elim
    (λ (by : IsRankedOpen plan rank c r). open_ranks plan rank c by.undecided
    (All-weaker (RanksUpTo rank r) (λ part. IsSome (rank part)) (λ part up. some_rank (rank part) (λ s. s ≤ r) up)
    (parts_of c) by.parts))
    (λ (by : IsRankedDecided plan rank c r). record {
      parts = λ u. absurd (u by.decided);
      next = λ d image led. next_has_rank rank r image
          (next_is_lower plan rank c.cover r image (by.leads led.0 image led.1 led.2));
    })
    h.follows

ranked_lower : (plan : Network) (rank : Titles → Option ℕ) (c : Titles) (r : ℕ) → IsRankedClass plan rank c r → IsLower plan rank c r
ranked_lower plan rank c r h =
    ⊎_elim
    (λ (by : IsRankedOpen plan rank c r). record {
      low = h.low;
      high = h.high;
      parts = λ u. by.parts;
      next = λ d image led. absurd
          (by.undecided d);
    })
    (λ (by : IsRankedDecided plan rank c r). record {
      low = h.low;
      high = h.high;
      parts = λ u. absurd
          (u by.decided);
      next = λ d image led. next_is_lower plan rank c.cover r image (by.leads led.0 image led.1 led.2);
    })
    h.follows

-- a class that is ranked has no fault except a lack of memory
pub ranked_faultless : (plan : Network) (rank : Titles → Option ℕ) (c : Titles) (r : ℕ) (fault : CheckFault) → IsRankedClass plan rank c r
    → IsClassFault plan rank c r fault → fault ≡ OutOfMemory
ranked_faultless plan rank c r (BadEnd d) h f = absurd (f.1 (ranked_ends plan rank c r h))
ranked_faultless plan rank c r (NoRank d) h f = absurd (f.2 (ranked_ranks plan rank c r h))
ranked_faultless plan rank c r (NotLower d) h f = absurd (f.3 (ranked_lower plan rank c r h))
ranked_faultless plan rank c r (NoStart number) h f = absurd f
ranked_faultless plan rank c r NotTight h f = absurd f
ranked_faultless plan rank c r OutOfMemory h f = refl
