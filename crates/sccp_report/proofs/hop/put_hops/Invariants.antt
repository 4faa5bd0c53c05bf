use Rattle.std.proofs.Common.{◌≡◌, ◌++◌, drop}
use Rattle.sccp_report.specs.Hops.{hops_text}
use Rattle.sccp_report.proofs.hop.put_hops.Given as goal

-- the lines so far and those of the hops that are left
abbrev pub invariant-loop-i : goal.invariant-loop-i
invariant-loop-i l = l.text ++ hops_text l.plan (drop l.i l.hops) (drop l.i l.markings) ≡ l.initial.text
    ++ hops_text l.plan l.hops l.markings
