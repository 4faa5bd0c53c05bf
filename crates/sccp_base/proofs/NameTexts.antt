-- A text is a name exactly if the tests of a name say so.
use Rattle.std.specs.Prelude.{ℕ, ◌≡◌, ◌&&◌, nat_le, Bool, true, List, length, Option, Some, None, refl}
use Rattle.std.specs.List.{list_all}
use Rattle.std.specs.Option.{SomeIff}
use Rattle.std.proofs.Common.{ap, inl, inr}
use Rattle.std.proofs.lemmas.Bool.{and_parts, and_from, cases_Bool, leb-true, le-leb}
use Rattle.std.proofs.lemmas.List.Sums.{AllPass-from_list_all, list_all-from_AllPass}
use Rattle.sccp_base.specs.Names.{IsName, is_name_octet, name_of}

abbrev tests : List ℕ → Bool
tests text = nat_le 1 (length text) && nat_le (length text) 16 && list_all is_name_octet text

is_name : (text : List ℕ) → tests text ≡ true → IsName text
is_name text h =
    let p = and_parts (nat_le 1 (length text) && nat_le (length text) 16) (list_all is_name_octet text) h in
    let q = and_parts (nat_le 1 (length text)) (nat_le (length text) 16) p.0 in
    record {
      some = leb-true 1 (length text) q.0;
      most = leb-true (length text) 16 q.1;
      each = AllPass-from_list_all is_name_octet text p.1;
    }

passes : (text : List ℕ) → IsName text → tests text ≡ true
passes text h =
    and_from (nat_le 1 (length text) && nat_le (length text) 16) (list_all is_name_octet text)
    (and_from (nat_le 1 (length text)) (nat_le (length text) 16) (le-leb 1 (length text) h.some) (le-leb (length text) 16 h.most))
    (list_all-from_AllPass is_name_octet text h.each)

pub named : (text : List ℕ) (o : Option (List ℕ)) → SomeIff o (IsName text) text → o ≡ name_of text
unfolding name_of
named text None not =
    elim (cases_Bool (tests text)) [
      | inl h ↦ absurd (not (is_name text h))
      | inr h ↦ rw h refl
    ]
named text (Some x) h = rw (passes text h.0) (ap Some h.1)
