-- What is to be proved of the work of a command: the causes of its answers, what its text says, and the files that it may read.
use Rattle.std.proofs.Common.{◌≡◌, ◌⊎◌, ℕ, List, Option, Some}
use Rattle.std.specs.Io.KnownBytes.{append_known}
use Rattle.sccp_io.specs.Files.{Contents}
use Rattle.sccp_work.specs.Verdict.{IsOnVerdict}
use Rattle.sccp_work.specs.Work.{Work, Ends, HasFiles}
use Rattle.sccp_work.specs.declared.status.Status.{Status}
use Rattle.sccp_work.specs.declared.status.Status.TheVariants.{Refused, Usage, TooWide}

pub record WorkCauses (work : Work) (cause sure : Contents → Status → Type 0)
    (told : Contents → Status → Option (List ℕ) → Option (List ℕ) → Type 0) (there : Contents → Type 0) : Type 0 where
  -- the work ends with an answer only if the answer's cause holds
  pub only : (c : Contents) (s : Status) (text : List ℕ) → Ends (Some c) work s text → cause c s
  -- the usage line is no answer of it
  pub usage : (contents : Option Contents) (text : List ℕ) → Ends contents work Usage text → ⊥
  -- if a cause gives an answer for sure, the work ends with no other
  pub always : (c : Contents) (t s : Status) (text : List ℕ) → sure c t → Ends (Some c) work s text → s ≡ t
  pub refused : (c : Contents) (s : Status) (text : List ℕ) → cause c Refused → Ends (Some c) work s text → (s ≡ Refused) ⊎ (s ≡ TooWide)
  -- what is written on a verdict is its text
  pub tells : (c : Contents) (s : Status) (text : List ℕ) (taken taken' : Option (List ℕ)) → taken' ≡ append_known taken text
      → (IsOnVerdict s → Ends (Some c) work s text) → told c s taken taken'
  -- the work reads no other files than those that are there
  pub files : (c : Contents) → there c → HasFiles c work
