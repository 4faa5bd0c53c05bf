-- Traces that fix the plan of each message.
use Rattle.std.specs.Prelude.{◌≡◌, ℕ, List, ◌∷◌, ◌++◌, Option, Some, Ok}
use Rattle.std.specs.List.{Contains}
use Rattle.plan_model.specs.Network.{Network}
use Rattle.plan_text.specs.PlanText.{plan_within}
use Rattle.relay_net.specs.Batches.{Incoming, Due}
use Rattle.sccp_io.specs.Files.{Contents}
use Rattle.sccp_report.specs.Roles.{routed, later, alone, role_of}
use Rattle.sccp_work.specs.PlanFile.{PlanFile}
use Rattle.trace_text.specs.declared.line.Numbered.{Numbered}
use Rattle.sccp_replay.specs.Trace.{lines_in}

-- a fence is among these lines, or another line that stands alone
abbrev pub HasFence : Network → List Numbered → Type 0
HasFence first lines = (line : Numbered) × Contains lines line × (d : Option Due) × (role_of first line.line ≡ alone d)

-- Between each line that names a plan and each message that is routed there is one, whichever of the two is first.
pub record IsFenced (first : Network) (lines : List Numbered) : Type 0 where
  pub plan_first : (b c a : List Numbered) (p m : Numbered) (name : List ℕ) (x : Incoming) → lines ≡ b ++ p ∷ (c ++ m ∷ a)
      → role_of first p.line ≡ later name → role_of first m.line ≡ routed x → HasFence first c
  pub message_first : (b c a : List Numbered) (m p : Numbered) (x : Incoming) (name : List ℕ) → lines ≡ b ++ m ∷ (c ++ p ∷ a)
      → role_of first m.line ≡ routed x → role_of first p.line ≡ later name → HasFence first c

-- so are the lines of a trace file, under the plan of a plan file
abbrev pub HasFences : Contents → PlanFile → List ℕ → Type 0
HasFences c file trace = (octets : List ℕ) (first : Network) → c file.name ≡ Some octets → plan_within file.limits octets ≡ Ok first
    → IsFenced first (lines_in c trace)
