use Rattle.std.proofs.Common.{◌≡◌, ◌≢◌, ◌++◌, drop, take}
use Rattle.std.specs.Prelude.{IsTrue}
use Rattle.std.specs.List.{flat_map, AllByRecursion}
use Rattle.sccp_layout.specs.Joining.{spelled_parameter, are_short}
use Rattle.sccp_layout.proofs.joining.push_params.Given as goal

abbrev pub invariant-loop-param : goal.invariant-loop-param
invariant-loop-param l = record {
  short : IsTrue (are_short (drop l.param-index l.params));
  pushed : l.octets.items ++ flat_map spelled_parameter (drop l.param-index l.params) ≡ l.initial.octets.items
      ++ flat_map spelled_parameter l.params;
  named : AllByRecursion (λ p. p.name ≢ 0) (take l.param-index l.params);
}
