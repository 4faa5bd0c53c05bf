-- The commands that ask something of the plans of two files, the old one and the new one.
use Rattle.std.specs.Prelude.{◌≡◌, ◌⊎◌, ℕ, List, Option, if◌then◌else◌, codes}
use Rattle.std.specs.Io.KnownBytes.{append_known}
use Rattle.plan_model.specs.Network.{Network}
use Rattle.plan_model.specs.SameNodes.{SameNodes, same_nodes}
use Rattle.sccp_io.specs.Files.{Contents}
use Rattle.sccp_plans.specs.Texts.{other_nodes}
use Rattle.sccp_work.specs.AcceptedPlan.{with_accepted, IsSurelySafe, TellsPlan}
use Rattle.sccp_work.specs.Limit.{HasLongFile}
use Rattle.sccp_work.specs.PlanFile.{PlanFile}
use Rattle.sccp_work.specs.Plans.{HasPlan, HasBadPlan}
use Rattle.sccp_work.specs.Questions.{Question, Reply, IsTrueOf}
use Rattle.sccp_work.specs.Verdict.{IsSafe, IsBad, IsWide, IsOnVerdict}
use Rattle.sccp_work.specs.Work.{Work, ask, answered}
use Rattle.sccp_work.specs.declared.status.Status.{Status}
use Rattle.sccp_work.specs.declared.status.Status.TheVariants.{Done, Refused, BadPlan, TooWide, TooLong, OtherNodes}

-- the word before each line on the old plan, and on the new one
unfoldable pub old_word : List ℕ
old_word = codes "old "

unfoldable pub new_word : List ℕ
new_word = codes "new "

-- both plans are accepted, and the work goes on with them
abbrev pub with_both : PlanFile → PlanFile → (Network → Network → Work) → Work
with_both old new next = with_accepted old_word old (λ p. with_accepted new_word new (λ q. next p q))

-- two plans of the same nodes are asked something, and the reply gives the answer and its text
abbrev pub asked_of_both : (question : Question) → (Reply question → Status) → (Reply question → List ℕ) → Network → Network → Work
asked_of_both question status text old new =
    if same_nodes old new then ask question (λ reply. answered (status reply, text reply)) else answered (OtherNodes, other_nodes)

-- what the code gives: the answer on two plans and its text, as the work has them
abbrev pub IsGiven : (question : Question) → (Reply question → Status) → (Reply question → List ℕ) → Network → Network → Status
    → List ℕ → Type 0
IsGiven question status text old new given told =
    ((SameNodes old new → ⊥) × (given ≡ OtherNodes) × (told ≡ other_nodes))
    ⊎ ((reply : Reply question) × IsTrueOf question reply × (given ≡ status reply) × (told ≡ text reply))

-- ---- what the text says

-- of both files, the old one's plan first
abbrev pub TellsBoth : (Network → Network → Status → List ℕ → Type 0) → Option Contents → PlanFile → PlanFile → Status → List ℕ → Type 0
TellsBoth told contents old new given text =
    HasPlan contents old (λ p. TellsPlan old_word p (λ s rest. HasPlan contents new
    (λ q. TellsPlan new_word q (told p q) s rest)) given text)

-- the sink took such a text if the answer is one that a verdict or a reply gives
abbrev pub BothTell : (Network → Network → Status → List ℕ → Type 0) → Option Contents → PlanFile → PlanFile → Status
    → Option (List ℕ) → Option (List ℕ) → Type 0
BothTell told contents old new given taken taken' =
    IsOnVerdict given → (text : List ℕ) × (taken' ≡ append_known taken text) × TellsBoth told contents old new given text

-- ---- the causes

-- both files have plans that are safe in this sense, and this holds of the two
abbrev pub HavePlans : Option Contents → PlanFile → PlanFile → (Network → Type 0) → (Network → Network → Type 0) → Type 0
HavePlans contents old new safe holds = HasPlan contents old (λ p. safe p × HasPlan contents new (λ q. safe q × holds p q))

-- a plan of one of the files holds this, the new one's after an old one that is safe in this sense
abbrev pub HasEither : Option Contents → PlanFile → PlanFile → (Network → Type 0) → (PlanFile → Type 0) → Type 0
HasEither contents old new safe holds = holds old ⊎ HasPlan contents old (λ p. safe p × holds new)

-- The cause of each answer. The first three facts on two plans of the same nodes give `Done`, `Refused` and `TooWide`.
abbrev pub BothCause : (good bad wide : Network → Network → Type 0) → Option Contents → PlanFile → PlanFile → Status → Type 0
BothCause good bad wide contents old new Done = HavePlans contents old new IsSafe (λ p q. SameNodes p q × good p q)
BothCause good bad wide contents old new Refused = HasEither contents old new IsSafe (λ file. HasPlan contents file IsBad)
    ⊎ HavePlans contents old new IsSafe (λ p q. SameNodes p q × bad p q)
BothCause good bad wide contents old new TooWide = HasEither contents old new IsSafe (λ file. HasPlan contents file IsWide)
    ⊎ HavePlans contents old new IsSafe (λ p q. SameNodes p q × wide p q)
BothCause good bad wide contents old new OtherNodes = HavePlans contents old new IsSafe (λ p q. SameNodes p q → ⊥)
BothCause good bad wide contents old new BadPlan = HasEither contents old new IsSafe (HasBadPlan contents)
BothCause good bad wide contents old new TooLong = HasEither contents old new IsSafe (HasLongFile contents)
BothCause good bad wide contents old new answer = ⊥

-- what gives an answer for sure: what is safe and wide may be reported as too wide as well
abbrev pub BothSure : (good wide : Network → Network → Type 0) → Option Contents → PlanFile → PlanFile → Status → Type 0
BothSure good wide contents old new Done =
    HavePlans contents old new IsSurelySafe (λ p q. SameNodes p q × good p q × (wide p q → ⊥))
BothSure good wide contents old new OtherNodes = HavePlans contents old new IsSurelySafe (λ p q. SameNodes p q → ⊥)
BothSure good wide contents old new BadPlan = HasEither contents old new IsSurelySafe (HasBadPlan contents)
BothSure good wide contents old new TooLong = HasEither contents old new IsSurelySafe (HasLongFile contents)
BothSure good wide contents old new answer = ⊥
