-- a cover is within another one exactly if its titles are the other's
use Rattle.std.specs.Prelude.{ℕ, ◌≡◌, ◌-◌, ◌<◌, ◌≤◌, ◌↔◌, nat_eq, true, List, ◌∷◌, ◌++◌, length, drop, replicate, refl}
use Rattle.std.specs.List.{starts_with}
use Rattle.std.proofs.Common.{sym, ◌∙◌, ap, ⊎_elim, arith, append_assoc, length-append}
use Rattle.std.proofs.lemmas.Bool.{cases_lt}
use Rattle.std.proofs.lemmas.List.{length-replicate}
use Rattle.std.proofs.lemmas.List.Elements.{All-replicate}
use Rattle.sccp_base.proofs.Prefix.{split-starts_with, starts_with-split, fits-starts_with, front_split}
use Rattle.plan_model.specs.declared.node.Node.{Node}
use Rattle.plan_model.specs.declared.cover.Cover.{Cover}
use Rattle.plan_model.specs.declared.spot.Spot.{Spot}
use Rattle.plan_model.specs.Network.{IsCover}
use Rattle.plan_model.specs.Covered.{Covers}
use Rattle.plan_classes.specs.Titles.{Titles, IsClass, IsMember, spot_of}
use Rattle.plan_classes.specs.Classes.{start_of, sample_of}
use Rattle.plan_classes.proofs.Images.{sample_member, next_member, within_known}
use Rattle.plan_classes.proofs.Starting.{member_covered}
use Rattle.plan_covers.specs.Needless.{IsWithin}

-- what begins the prefix begins each title
pub begins_all : (digits p q : List ℕ) → starts_with nat_eq digits p ≡ true → starts_with nat_eq p q ≡ true
    → starts_with nat_eq digits q ≡ true
begins_all digits p q h k =
    starts_with-split digits q (drop (length q) p ++ drop (length p) digits)
    (split-starts_with digits p h ∙ (ap (λ (ds : List ℕ). ds ++ drop (length p) digits) (split-starts_with p q k)
    ∙ append_assoc q (drop (length q) p) (drop (length p) digits)))

-- what begins a title, and is no longer than its beginning, begins that one
begins_front : (digits p q : List ℕ) → starts_with nat_eq digits p ≡ true → starts_with nat_eq digits q ≡ true → length q ≤ length p
    → starts_with nat_eq p q ≡ true
begins_front digits p q h k le =
    let z = front_split p q (drop (length p) digits) (drop (length q) digits)
    (sym (split-starts_with digits p h) ∙ split-starts_with digits q k) le in
    starts_with-split p q z.0 z.1

pub covers_within : (a b : Cover) (spot : Spot) → IsWithin a b → Covers a spot → Covers b spot
covers_within a b spot w h =
    record {
      node = sym w.node ∙ h.node;
      selector = sym w.selector ∙ h.selector;
      ssn = sym w.ssn ∙ h.ssn;
      decimal = h.decimal;
      begins = (begins_all spot.digits a.prefix b.prefix h.begins w.prefix);
      least = omega (arith, w.least, h.least, fits-starts_with spot.digits a.prefix h.begins);
      most = omega (arith, w.most, h.most);
    }

start_class : (nodes : List Node) (a : Cover) → IsCover nodes a → IsClass (start_of 0 a)
start_class nodes a is =
    record { range = omega (arith, is.range); room = omega (arith, is.room, is.most) }

-- a member with only zeros after the prefix
long_member : (c : Titles) → IsClass c → IsMember c (c.known ++ replicate c.most 0)
long_member c is =
    record {
      rest = replicate c.most 0;
      whole = refl;
      decimal = All-replicate (λ d. d < 10) c.most 0 (omega arith);
      least = omega (arith, length-replicate {A = ℕ} c.most 0, is.range);
      most = omega (arith, length-replicate {A = ℕ} c.most 0);
    }

pub within_from : (nodes : List Node) (a b : Cover) → IsCover nodes a → ((spot : Spot) → Covers a spot → Covers b spot) → IsWithin a b
within_from nodes a b is all =
    record {
      node = sym short.node;
      selector = sym short.selector;
      ssn = sym short.ssn;
      prefix = (begins_front (sample_of c) a.prefix b.prefix (starts_with-split (sample_of c) a.prefix (replicate c.least 0) refl)
          short.begins no_longer);
      least = omega (arith, short.least, length-append a.prefix (replicate c.least 0), length-replicate {A = ℕ} c.least 0);
      most = omega (arith, long.most, length-append a.prefix (replicate c.most 0), length-replicate {A = ℕ} c.most 0, is.room);
    }
  where
    c : Titles
    c = start_of 0 a

    class : IsClass c
    class = start_class nodes a is

    has : (digits : List ℕ) → IsMember c digits → Covers b (spot_of c digits)
    has digits m = all (spot_of c digits) (member_covered nodes 0 a digits is m)

    short : Covers b (spot_of c (sample_of c))
    short = has (sample_of c) (sample_member c class)

    long : Covers b (spot_of c (c.known ++ replicate c.most 0))
    long = has (c.known ++ replicate c.most 0) (long_member c class)

    no_longer : length b.prefix ≤ length a.prefix
    no_longer =
        ⊎_elim
        (λ (more : 0 < c.most).
        within_known c.known b.prefix (replicate (c.least - 1) 0) (replicate (c.least - 1) 0) 0 1
        (has (c.known ++ (0 ∷ replicate (c.least - 1) 0)) (next_member c 0 class more (omega arith))).begins
        (has (c.known ++ (1 ∷ replicate (c.least - 1) 0)) (next_member c 1 class more (omega arith))).begins
        (λ z. omega arith))
        (λ (none : c.most ≤ 0).
        omega (
          arith,
          fits-starts_with (sample_of c) b.prefix short.begins,
          length-append a.prefix (replicate c.least 0),
          length-replicate {A = ℕ} c.least 0,
          class.range,
        ))
        (cases_lt 0 c.most)

pub titles_within : (nodes : List Node) (a b : Cover) → IsCover nodes a → IsCover nodes b
    → IsWithin a b ↔ ((spot : Spot) → Covers a spot → Covers b spot)
titles_within nodes a b is other = (λ w spot h. covers_within a b spot w h, within_from nodes a b is)
