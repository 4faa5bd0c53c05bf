-- a cover has exactly the titles of its start
use Rattle.std.specs.Prelude.{ℕ, ◌≡◌, ◌<◌, ◌↔◌, List, length, drop, refl}
use Rattle.std.specs.List.{All}
use Rattle.std.proofs.Common.{sym, ap, subst, arith, length-append, length-drop}
use Rattle.std.proofs.lemmas.List.Elements.{All-append, All-drop}
use Rattle.sccp_base.proofs.Prefix.{split-starts_with, starts_with-split}
use Rattle.plan_model.specs.declared.node.Node.{Node}
use Rattle.plan_model.specs.declared.cover.Cover.{Cover}
use Rattle.plan_model.specs.declared.spot.Spot.{Spot}
use Rattle.plan_model.specs.Network.{IsCover}
use Rattle.plan_model.specs.Covered.{Covers}
use Rattle.plan_classes.specs.Titles.{Titles, IsMember, HasTitle, spot_of}
use Rattle.plan_classes.specs.Classes.{start_of}

pub start_member : (number : ℕ) (cover : Cover) (spot : Spot) → Covers cover spot → IsMember (start_of number cover) spot.digits
start_member number cover spot h =
    record {
      rest = drop (length cover.prefix) spot.digits;
      whole = split-starts_with spot.digits cover.prefix h.begins;
      decimal = All-drop (λ d. d < 10) (length cover.prefix) spot.digits h.decimal;
      least = omega (arith, length-drop (length cover.prefix) spot.digits, h.least);
      most = omega (arith, length-drop (length cover.prefix) spot.digits, h.most);
    }

pub start_spot : (number : ℕ) (cover : Cover) (spot : Spot) → Covers cover spot → spot_of (start_of number cover) spot.digits ≡ spot
start_spot number cover spot h = λ i. record { node = h.node i; selector = h.selector i; ssn = h.ssn i; digits = spot.digits }

pub member_covered : (nodes : List Node) (number : ℕ) (cover : Cover) (digits : List ℕ) → IsCover nodes cover
    → IsMember (start_of number cover) digits → Covers cover (spot_of (start_of number cover) digits)
member_covered nodes number cover digits is m =
    record {
      node = refl;
      selector = refl;
      ssn = refl;
      decimal = subst (All (λ d. d < 10)) (sym m.whole) (All-append (λ d. d < 10) cover.prefix m.rest is.decimal m.decimal);
      begins = starts_with-split digits cover.prefix m.rest m.whole;
      least = omega (arith, ap length m.whole, length-append cover.prefix m.rest, m.least);
      most = omega (arith, ap length m.whole, length-append cover.prefix m.rest, m.most, is.room);
    }

pub start_exact : (nodes : List Node) (number : ℕ) (cover : Cover) (c : Titles) → IsCover nodes cover → c ≡ start_of number cover
    → (spot : Spot) → HasTitle c spot ↔ Covers cover spot
start_exact nodes number cover c is e spot =
    subst (λ (x : Titles). HasTitle x spot ↔ Covers cover spot) (sym e) (
      λ h. subst (Covers cover) (sym h.2) (member_covered nodes number cover h.0 is h.1),
      λ h. (spot.digits, start_member number cover spot h, sym (start_spot number cover spot h)),
    )
