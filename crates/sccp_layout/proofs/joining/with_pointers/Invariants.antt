use Rattle.std.proofs.Common.{◌≡◌, ◌≤◌, ◌+◌, ◌*◌, ◌++◌, [], None, drop}
use Rattle.sccp_layout.specs.Places.{after_pointers}
use Rattle.sccp_layout.specs.Joining.{first_long, spelled_parts, optional_pieces, pointers_to, with_numbers}
use Rattle.sccp_layout.proofs.joining.with_pointers.Given as goal

abbrev pub invariant-loop-i : goal.invariant-loop-i
invariant-loop-i l = record {
  short : first_long l.layout l.i (drop l.i l.variable) [] ≡ None;
  behind : after_pointers l.layout ≤ l.place;
  near : l.place ≤ after_pointers l.layout + 65537 * l.i;
  pointed : with_numbers l.layout l.i l.octets.items (pointers_to l.layout l.i l.place (spelled_parts l.layout l.i (drop l.i l.variable)
      ++ optional_pieces l.layout l.params))
      ≡ with_numbers l.layout 0 l.initial.octets.items (pointers_to l.layout 0 (after_pointers l.layout)
      (spelled_parts l.layout 0 l.variable ++ optional_pieces l.layout l.params));
}
