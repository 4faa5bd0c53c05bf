-- What a call has to do, in the order in which it does it, and how far it can get.
use Rattle.std.specs.Prelude.{◌≡◌, ◌⊎◌, ℕ, List, [], ◌++◌, Option, Some}
use Rattle.std.specs.Io.{StartsWith}
use Rattle.plan_model.specs.Network.{Network}
use Rattle.plan_verify.specs.declared.verdict.Verdict.{Verdict}
use Rattle.sccp_io.specs.Files.{Contents, Reads}
use Rattle.sccp_work.specs.Numbers.{Batch, AreNumbers}
use Rattle.sccp_work.specs.Questions.{Question, verdict_on, Reply, IsTrueOf}
use Rattle.sccp_work.specs.declared.status.Status.{Status}

-- the work that is left
pub data Work : Type 0 where
  -- nothing is left, and this is the answer
  finish : Status → Work
  -- this text is written
  print : List ℕ → Work → Work
  -- the file of this name is read, and what follows depends on its octets
  read : List ℕ → (List ℕ → Work) → Work
  -- plans are asked something, and what follows depends on the reply
  ask : (question : Question) → (Reply question → Work) → Work
  -- the file that was begun last is read on, which may fail
  read_on : Work → Work
  -- the messages of a batch are routed, and what follows depends on the numbers of the plans under which they are
  serve : Batch → (List ℕ → Work) → Work

-- the plan is verified, and what follows depends on the verdict
abbrev pub judge : Network → (Verdict → Work) → Work
judge plan next = ask (verdict_on plan) next

-- the whole work of an answer and its text
abbrev pub answered : Status × List ℕ → Work
answered a = print a.1 (finish a.0)

-- all is done: the work ends with this answer, and this is all that it writes
abbrev pub Ends : Option Contents → Work → Status → List ℕ → Type 0
Ends contents (finish s) status text = (status ≡ s) × (text ≡ [])
Ends contents (print t w) status text = (rest : List ℕ) × (text ≡ t ++ rest) × Ends contents w status rest
Ends contents (read name f) status text = (octets : List ℕ) × Reads contents name octets × Ends contents (f octets) status text
Ends contents (ask question f) status text =
    (reply : Reply question) × IsTrueOf question reply × Ends contents (f reply) status text
Ends contents (read_on w) status text = Ends contents w status text
Ends contents (serve batch f) status text = (numbers : List ℕ) × AreNumbers batch numbers × Ends contents (f numbers) status text

-- the work reaches the reading of a file, and this is all that it writes before it
abbrev pub ComesToReading : Option Contents → Work → List ℕ → Type 0
ComesToReading contents (finish s) text = ⊥
ComesToReading contents (print t w) text = (rest : List ℕ) × (text ≡ t ++ rest) × ComesToReading contents w rest
ComesToReading contents (read name f) text =
    (text ≡ []) ⊎ ((octets : List ℕ) × Reads contents name octets × ComesToReading contents (f octets) text)
ComesToReading contents (ask question f) text =
    (reply : Reply question) × IsTrueOf question reply × ComesToReading contents (f reply) text
ComesToReading contents (read_on w) text = (text ≡ []) ⊎ ComesToReading contents w text
ComesToReading contents (serve batch f) text = (numbers : List ℕ) × AreNumbers batch numbers × ComesToReading contents (f numbers) text

-- what the work writes begins with this text
abbrev pub BeginsWith : Option Contents → Work → List ℕ → Type 0
BeginsWith contents (finish s) text = text ≡ []
BeginsWith contents (print t w) text =
    StartsWith t text ⊎ ((rest : List ℕ) × (text ≡ t ++ rest) × BeginsWith contents w rest)
BeginsWith contents (read name f) text =
    (text ≡ []) ⊎ ((octets : List ℕ) × Reads contents name octets × BeginsWith contents (f octets) text)
BeginsWith contents (ask question f) text =
    (text ≡ []) ⊎ ((reply : Reply question) × IsTrueOf question reply × BeginsWith contents (f reply) text)
BeginsWith contents (read_on w) text = BeginsWith contents w text
BeginsWith contents (serve batch f) text = (text ≡ []) ⊎ ((numbers : List ℕ) × AreNumbers batch numbers
    × BeginsWith contents (f numbers) text)

-- each file that the work may read is there, whatever the replies
abbrev pub HasFiles : Contents → Work → Type 0
HasFiles c (finish s) = Unit {0}
HasFiles c (print t w) = HasFiles c w
HasFiles c (read name f) = (octets : List ℕ) × (c name ≡ Some octets) × HasFiles c (f octets)
HasFiles c (ask question f) = (reply : Reply question) → IsTrueOf question reply → HasFiles c (f reply)
HasFiles c (read_on w) = HasFiles c w
HasFiles c (serve batch f) = (numbers : List ℕ) → AreNumbers batch numbers → HasFiles c (f numbers)
