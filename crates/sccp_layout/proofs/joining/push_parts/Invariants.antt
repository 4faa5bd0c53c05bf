use Rattle.std.proofs.Common.{◌≡◌, ◌++◌, [], None, drop}
use Rattle.std.specs.List.{flat_map}
use Rattle.sccp_layout.specs.Joining.{first_long, spelled_parts}
use Rattle.sccp_layout.proofs.joining.push_parts.Given as goal

abbrev pub invariant-loop-i : goal.invariant-loop-i
invariant-loop-i l = record {
  short : first_long l.layout l.i (drop l.i l.variable) [] ≡ None;
  pushed : l.octets.items ++ flat_map (λ piece. piece) (spelled_parts l.layout l.i (drop l.i l.variable)) ≡ l.initial.octets.items
      ++ flat_map (λ piece. piece) (spelled_parts l.layout 0 l.variable);
}
