-- what it is to be a title of a class
use Rattle.std.specs.Prelude.{ℕ, ◌≡◌, ◌+◌, ◌<◌, ◌≤◌, nat_eq, true, List, length, drop}
use Rattle.std.specs.List.{All, starts_with}
use Rattle.std.proofs.Common.{sym, ◌∙◌, ap, subst, arith, length-drop}
use Rattle.std.proofs.Math.Seq.{drop-append_seam}
use Rattle.sccp_base.proofs.Prefix.{split-starts_with, starts_with-split}
use Rattle.plan_classes.specs.Titles.{Titles, IsMember}

pub member_begins : (c : Titles) (digits : List ℕ) → IsMember c digits → starts_with nat_eq digits c.known ≡ true
member_begins c digits m = starts_with-split digits c.known m.rest m.whole

pub member_decimal : (c : Titles) (digits : List ℕ) → IsMember c digits → All (λ d. d < 10) (drop (length c.known) digits)
member_decimal c digits m = subst (All (λ d. d < 10)) (sym (ap (drop (length c.known)) m.whole ∙ drop-append_seam c.known m.rest)) m.decimal

pub member_from : (c : Titles) (digits : List ℕ) → starts_with nat_eq digits c.known ≡ true → length c.known + c.least ≤ length digits
    → length digits ≤ length c.known + c.most → All (λ d. d < 10) (drop (length c.known) digits) → IsMember c digits
member_from c digits begins least most decimal =
    record {
      rest = drop (length c.known) digits;
      whole = split-starts_with digits c.known begins;
      decimal = decimal;
      least = omega (arith, length-drop (length c.known) digits, least);
      most = omega (arith, length-drop (length c.known) digits, most);
    }
