use Rattle.std.proofs.Common.{List, ◌≡◌, ◌+◌, ◌-◌, ◌++◌, ◌∷◌, ◌&&◌, ℕ, eqb, cond, [], length, get_or, drop, refl, sym, ap, ◌∙◌, subst}
use Rattle.std.proofs.Common.{arith}
use Rattle.std.proofs.lemmas.List.{drop_all}
use Rattle.std.proofs.lemmas.Result.{err_from_is_err_and}
use Rattle.sccp_base.proofs.Halves.{bool_byte_is}
use Rattle.sccp_layout.specs.Places.{width, pointer_place, after_pointers}
use Rattle.sccp_layout.specs.Joining.{spelled_parts, optional_pieces, pointers_to, with_numbers, is_memory, Gives}
use Rattle.sccp_layout.proofs.Pieces.{at_place, short_here, most_small, width_small, pointers_to-part, numbers_go_on, numbers_end}
use Rattle.sccp_layout.proofs.joining.with_pointers.Goals as goal

pub returns-in_err-octets : goal.returns-in_err-octets
returns-in_err-octets c =
    let l = c.args.layout.now in
    let i : ℕ = c.loop-i.i in
    let xs = c.args.variable.now in
    let x = get_or xs i [] in
    let opt = optional_pieces l c.args.params.now in
    let pointer : ℕ = c.loop-i.place - c.pointer_place_of.result - c.from.result in
    let is : pointer ≡ c.loop-i.place - (pointer_place l i + cond l.long 1 0) =
    omega (arith, c.pointer_place_of.ensures, c.from.ensures, bool_byte_is l.long) in
    let next : ℕ = c.loop-i.place + (length x + width (l.long && eqb i 2)) in
    let p = err_from_is_err_and c.from_residual.result c.from_residual.ensures.1 in
    let all = pointers_to l i c.loop-i.place (spelled_parts l i (drop i xs) ++ opt) in
    let total = with_numbers l 0 c.args.octets.items (pointers_to l 0 (after_pointers l) (spelled_parts l 0 xs ++ opt)) in
    let split = pointers_to-part l i c.loop-i.place next pointer (drop i xs) x (drop (i + 1) xs) opt
    (at_place xs i [] (omega (arith, c.requires.count))) is refl in
    rw (p.1, p.2) (numbers_end (is_memory c.in_err-octets.field-0.0) l i pointer c.loop-i.octets.items
    (pointers_to l (i + 1) next (spelled_parts l (i + 1) (drop (i + 1) xs)
    ++ opt)) all c.in_err-octets.field-0.0 total split c.in_err-octets.ensures c.loop-i.invariant.pointed)

pub loop-i-preserved : goal.loop-i-preserved
loop-i-preserved c =
    let l = c.args.layout.now in
    let i : ℕ = c.loop-i.i in
    let xs = c.args.variable.now in
    let x = c.index-variable-from.result in
    let opt = optional_pieces l c.args.params.now in
    let pointer : ℕ = c.loop-i.place - c.pointer_place_of.result - c.from.result in
    let is : pointer ≡ c.loop-i.place - (pointer_place l i + cond l.long 1 0) =
    omega (arith, c.pointer_place_of.ensures, c.from.ensures, bool_byte_is l.long) in
    let found : x ≡ get_or xs i x = c.index-variable-from.is ∙ ap (λ (k : ℕ). get_or xs k x) c.from-in-loop-i.ensures in
    let here : drop i xs ≡ x ∷ drop (i + 1) xs = at_place xs i x (omega (arith, c.requires.count))
    ∙ ap (λ (y : List ℕ). y ∷ drop (i + 1) xs) (sym found) in
    let next : ℕ = c.loop-i.place + (length c.as_slice-length.result.now + c.width_of.result) in
    let next_is : next ≡ c.loop-i.place + (length x + width (l.long && eqb i 2)) =
    rw (c.as_slice-length.ensures, c.width_of.ensures, c.is_long.ensures) refl in
    let short = short_here l i (drop i xs) x (drop (i + 1) xs) [] here c.loop-i.invariant.short in
    let all = pointers_to l i c.loop-i.place (spelled_parts l i (drop i xs) ++ opt) in
    let total = with_numbers l 0 c.args.octets.items (pointers_to l 0 (after_pointers l) (spelled_parts l 0 xs ++ opt)) in
    let split = pointers_to-part l i c.loop-i.place next pointer (drop i xs) x (drop (i + 1) xs) opt here is next_is in
    record {
      short = short.others;
      behind = omega arith;
      near = omega (arith, short.here, next_is, most_small (l.long && eqb i 2), width_small (l.long && eqb i 2));
      pointed = numbers_go_on l i pointer c.loop-i.octets.items c.in_ok-octets.octets.items
          (pointers_to l (i + 1) next (spelled_parts l (i + 1) (drop (i + 1) xs)
          ++ opt)) all total split c.in_ok-octets.ensures c.loop-i.invariant.pointed;
    }

pub returns : goal.returns
returns c =
    let l = c.args.layout.now in
    let end : c.loop-i.i ≡ l.variable = omega arith in
    let none : drop l.variable c.args.variable.now ≡ [] = drop_all l.variable c.args.variable.now (omega (arith, c.requires.count)) in
    let pointed = rw end at c.loop-i.invariant.pointed in
    let all = rw none at pointed in
    subst (Gives (λ v. v.items) c.with_optional_pointer.result) all c.with_optional_pointer.ensures
