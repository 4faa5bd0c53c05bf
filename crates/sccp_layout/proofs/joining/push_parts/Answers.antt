use Rattle.std.proofs.Common.{◌≡◌, ◌+◌, ◌++◌, ◌∷◌, ◌&&◌, ℕ, List, eqb, [], length, get_or, drop, sym, ap, ◌∙◌, append_assoc, arith}
use Rattle.std.specs.List.{flat_map}
use Rattle.sccp_layout.specs.Joining.{number_octets, spelled_parts}
use Rattle.sccp_layout.proofs.Pieces.{at_place, short_here}
use Rattle.sccp_layout.proofs.joining.push_parts.Goals as goal

pub loop-i-preserved : goal.loop-i-preserved
loop-i-preserved c =
    let l = c.args.layout.now in
    let i : ℕ = c.loop-i.i in
    let xs = c.args.variable.now in
    let x = c.index-variable-from.result in
    let found : x ≡ get_or xs i x = c.index-variable-from.is ∙ ap (λ (k : ℕ). get_or xs k x) c.from.ensures in
    let here : drop i xs ≡ x ∷ drop (i + 1) xs = at_place xs i x (omega (arith, c.requires.count))
    ∙ ap (λ (y : List ℕ). y ∷ drop (i + 1) xs) (sym found) in
    let before = c.loop-i.octets.items in
    let number = number_octets (l.long && eqb i 2) (length x) in
    let rest = flat_map (λ piece. piece) (spelled_parts l (i + 1) (drop (i + 1) xs)) in
    let total = ap (λ (ys : List (List ℕ)). before ++ flat_map (λ piece. piece) (spelled_parts l i ys)) (sym here)
    ∙ c.loop-i.invariant.pushed in
    record {
      short = (short_here l i (drop i xs) x (drop (i + 1) xs) [] here c.loop-i.invariant.short).others;
      pushed = rw (
        c.in_ok-extend_from_slice.ensures.items,
        c.in_ok-push_number.ensures,
        c.as_slice-part.ensures,
        c.is_long.ensures,
        append_assoc before number x,
        append_assoc before (number ++ x) rest,
      ) total;
    }
