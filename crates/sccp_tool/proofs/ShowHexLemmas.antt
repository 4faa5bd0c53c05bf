-- What showing a message ends with.
use Rattle.std.proofs.Common.{◌≡◌, ℕ, List, Some, refl, sym, subst}
use Rattle.sccp_tool.specs.ShowHex.{ShowHexCause}
use Rattle.sccp_tool.specs.Task.{ShowHex}
use Rattle.sccp_work.specs.declared.status.Status.{Status}
use Rattle.sccp_work.specs.declared.status.Status.TheVariants.{Done, Usage}
use Rattle.sccp_tool.proofs.Causes.{Causes}

is_done : (t s : Status) → ShowHexCause t → s ≡ Done → s ≡ t
is_done Done s cause e = e
is_done t s cause e = absurd cause

never_usage : (s : Status) → s ≡ Usage → s ≡ Done → ⊥
never_usage s e f = cc

pub show_hex_causes : (octets : List ℕ) → Causes (Some (ShowHex octets))
show_hex_causes octets = record {
  only = λ c s text h. subst ShowHexCause (sym h.2.0) tt;
  usage = λ contents text h. absurd (never_usage Usage refl h.2.0);
  always = λ c t s text cause h. is_done t s cause h.2.0;
  refused = λ c s text cause h. absurd cause;
  tells = λ c s text taken taken' is ends. tt;
  journeys = λ c s b a is o. tt;
  files = λ c has. tt;
}
