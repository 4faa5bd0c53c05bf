-- The answers that a work can end with.
use Rattle.std.proofs.Common.{ℕ, List, Option, sym, subst}
use Rattle.sccp_io.specs.Files.{Contents}
use Rattle.sccp_work.specs.Questions.{Reply}
use Rattle.sccp_work.specs.Work.{Work, finish, print, read, read_on, ask, serve, Ends}
use Rattle.sccp_work.specs.declared.status.Status.{Status}

-- this holds of each answer that the work may end with, whatever files, replies and numbers it finds
abbrev pub Finishes : (Status → Type 0) → Work → Type 0
Finishes holds (finish s) = holds s
Finishes holds (print t w) = Finishes holds w
Finishes holds (read name f) = (octets : List ℕ) → Finishes holds (f octets)
Finishes holds (ask question f) = (reply : Reply question) → Finishes holds (f reply)
Finishes holds (read_on w) = Finishes holds w
Finishes holds (serve batch f) = (numbers : List ℕ) → Finishes holds (f numbers)

pub answer_holds : (holds : Status → Type 0) (k : Option Contents) (w : Work) (s : Status) (text : List ℕ) → Finishes holds w
    → Ends k w s text → holds s
answer_holds holds k (finish z) s text h e = subst holds (sym e.0) h
answer_holds holds k (print t w) s text h e = answer_holds holds k w s e.0 h e.2
answer_holds holds k (read name f) s text h e = answer_holds holds k (f e.0) s text (h e.0) e.2
answer_holds holds k (ask question f) s text h e = answer_holds holds k (f e.0) s text (h e.0) e.2
answer_holds holds k (read_on w) s text h e = answer_holds holds k w s text h e
answer_holds holds k (serve batch f) s text h e = answer_holds holds k (f e.0) s text (h e.0) e.2
