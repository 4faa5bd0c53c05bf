-- The first octets of a file say whether it is a capture, whatever follows.
use Rattle.std.proofs.Common.{◌≡◌, ◌≤◌, ℕ, List, ◌++◌, length, ◌&&◌, leb, true, sym, ◌∙◌, ap, arith, length-append}
use Rattle.std.proofs.lemmas.Bool.{and_parts, le-leb, leb-true}
use Rattle.capture_file.proofs.UnitLemmas.{kind_of-append}
use Rattle.capture_file.specs.Units.{kind_of}
use Rattle.watch_items.specs.Front.{is_capture, is_known}

enough : (n : ℕ) → 4 ≤ n → leb 4 n ≡ true
enough n le = le-leb 4 n le

pub same_front : (octets rest : List ℕ) → 4 ≤ length octets → is_capture (octets ++ rest) ≡ is_capture octets
same_front octets rest le =
    ap (λ b. b && is_known (kind_of (octets ++ rest))) (enough (length (octets ++ rest)) (omega (arith, length-append octets rest, le))
    ∙ sym (enough (length octets) le))
    ∙ ap (λ k. leb 4 (length octets) && is_known k) (kind_of-append octets rest le)

-- a capture has four octets
pub four : (octets : List ℕ) → is_capture octets ≡ true → 4 ≤ length octets
four octets is = leb-true 4 (length octets) (and_parts (leb 4 (length octets)) (is_known (kind_of octets)) is).0
