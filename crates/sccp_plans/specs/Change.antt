-- The command that says whether relays may hold either of two plans.
use Rattle.std.specs.Prelude.{◌≡◌, ℕ, List, Option}
use Rattle.plan_model.specs.declared.kind.Kind.{Kind}
use Rattle.plan_model.specs.declared.spot.Spot.{Spot}
use Rattle.plan_model.specs.Network.{Network}
use Rattle.plan_model.specs.SameNodes.{SameNodes}
use Rattle.plan_mixed.specs.Mixed.{MixedReachAtLeast}
use Rattle.plan_change.specs.Changes.{IsMixedSafeFor, IsLawfulChange}
use Rattle.plan_change.specs.Mixture.{BothBad}
use Rattle.plan_change.specs.declared.answer.Change.{Change}
use Rattle.plan_change.specs.declared.answer.Change.TheVariants as changes
use Rattle.plan_change.specs.declared.mixed_hop.MixedHop.{MixedHop}
use Rattle.plan_change.specs.declared.turn.Turn.{Turn}
use Rattle.sccp_io.specs.Files.{Contents}
use Rattle.sccp_report.specs.Changes.{change_text}
use Rattle.sccp_work.specs.PlanFile.{PlanFile}
use Rattle.sccp_work.specs.Questions.{mixture_of}
use Rattle.sccp_work.specs.Work.{Work}
use Rattle.sccp_work.specs.declared.status.Status.{Status}
use Rattle.sccp_work.specs.declared.status.Status.TheVariants.{Done, Refused, TooWide, OtherNodes}
use Rattle.sccp_plans.specs.Texts.{other_nodes}
use Rattle.sccp_plans.specs.TwoPlans.{with_both, asked_of_both, IsGiven, BothTell, BothCause, BothSure}

abbrev pub change_status : Change → Status
change_status (changes.Kept bound spot turns) = Done
change_status (changes.Broken old_cover new_cover spot turns hops kind) = Refused
change_status changes.TooWide = TooWide

-- the two plans side by side
abbrev pub mixed_work : Network → Network → Work
mixed_work old new = asked_of_both (mixture_of old new) change_status (change_text old new) old new

abbrev pub change_work : PlanFile → PlanFile → Work
change_work old new = with_both old new mixed_work

-- ---- what the code gives while the work is done

-- the answer on two plans and its text, as the work has them
abbrev pub IsAnswered : Network → Network → Status → List ℕ → Type 0
IsAnswered old new status text = IsGiven (mixture_of old new) change_status (change_text old new) old new status text

-- what the text says

-- of two accepted plans: they have other nodes, or the text is of a lawful answer on their mixture
pub data TellsMixture (old new : Network) (given : Status) (text : List ℕ) : Type 0 where
  is_other : (SameNodes old new → ⊥) → given ≡ OtherNodes → text ≡ other_nodes → TellsMixture old new given text
  is_told : SameNodes old new → (change : Change) → IsLawfulChange old new change → given ≡ change_status change
      → text ≡ change_text old new change → TellsMixture old new given text

-- of both files, the old one's plan first
abbrev pub ChangeTells : Option Contents → PlanFile → PlanFile → Status → Option (List ℕ) → Option (List ℕ) → Type 0
ChangeTells = BothTell TellsMixture

-- ---- the causes

-- Three facts on two plans, a definition each. Every mixed route of a title that both cover ends well within some bound up
-- to 14; or a bad one is there; or they reach too many classes together.
abbrev pub IsMixable : Network → Network → Type 0
IsMixable old new = (bound : ℕ) × IsMixedSafeFor old new bound

abbrev pub IsUnmixable : Network → Network → Type 0
IsUnmixable old new =
    (old_cover : ℕ) × (new_cover : ℕ) × (spot : Spot) × (turns : List Turn) × (hops : List MixedHop) × (kind : Kind)
    × BothBad old new old_cover new_cover spot turns hops kind

abbrev pub IsWideMixture : Network → Network → Type 0
IsWideMixture old new = MixedReachAtLeast old new old.limits.classes

-- the cause of each answer
abbrev pub ChangeCause : Option Contents → PlanFile → PlanFile → Status → Type 0
ChangeCause = BothCause IsMixable IsUnmixable IsWideMixture

-- what gives an answer for sure: what is safe and wide may be reported as too wide as well
abbrev pub ChangeSure : Option Contents → PlanFile → PlanFile → Status → Type 0
ChangeSure = BothSure IsMixable IsWideMixture
