-- What showing every cut of a message ends with.
use Rattle.std.proofs.Common.{◌≡◌, ℕ, List, Some, sym, subst}
use Rattle.sccp_tool.specs.Cuts.{CutsCause}
use Rattle.sccp_tool.specs.Task.{Cuts}
use Rattle.sccp_work.specs.declared.status.Status.{Status}
use Rattle.sccp_work.specs.declared.status.Status.TheVariants.{Done, Usage}
use Rattle.sccp_tool.proofs.Causes.{Causes}

is_done : (t s : Status) → CutsCause t → s ≡ Done → s ≡ t
is_done Done s cause e = e
is_done t s cause e = absurd cause

only : (s : Status) → s ≡ Done → CutsCause s
only s is = subst CutsCause (sym is) tt

pub cuts_causes : (octets : List ℕ) → Causes (Some (Cuts octets))
cuts_causes octets = record {
  only = λ c s text h. only s h.2.0;
  usage = λ contents text h. absurd (only Usage h.2.0);
  always = λ c t s text cause h. is_done t s cause h.2.0;
  refused = λ c s text cause h. absurd cause;
  tells = λ c s text taken taken' is ends. tt;
  journeys = λ c s b a is o. tt;
  files = λ c has. tt;
}
