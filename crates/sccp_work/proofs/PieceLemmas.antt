-- The steps of a loop over a file that is read in pieces.
use Rattle.std.proofs.Common.{◌≡◌, ℕ, List, [], ◌++◌, take, false, Option, Some, None, Result, Ok, Err, refl, sym, ◌∙◌, ap, subst}
use Rattle.std.specs.Prelude.{is_none}
use Rattle.std.specs.Io.KnownBytes.{prepend_known, IsAtEnd}
use Rattle.sccp_io.specs.Faults.{HasCause}
use Rattle.sccp_io.specs.Files.{Contents, Reads, whole, lacks, BeginsFile, TakesNext}
use Rattle.sccp_io.specs.declared.fault.IoFault.{IoFault}
use Rattle.sccp_work.specs.Ending.{Works}
use Rattle.sccp_work.specs.Moment.{Moment}
use Rattle.sccp_work.specs.Pieces.{EndsAs, MayCome, GoesOn}
use Rattle.sccp_work.specs.Reading.{reading_stop}
use Rattle.sccp_work.specs.Work.{Work, read, ComesToReading}
use Rattle.sccp_work.specs.declared.status.Status.{Status}
use Rattle.sccp_work.specs.declared.stop.Stop.{Stop}
use Rattle.sccp_work.specs.declared.stop.Stop.TheVariants.{Memory}
use Rattle.sccp_work.proofs.ReadingLemmas.{reading_stop-Read, reading_stop-Write, reading_stop-Answered}
use Rattle.sccp_work.proofs.WorkLemmas.{Moved, Works-memory, Works-read, Works-reading, Works-moved, Works-failed}

-- ---- what may still follow

pub may_come : (left : Option (List ℕ)) → (rest : List ℕ) × MayCome left rest
may_come None = ([], tt)
may_come (Some octets) = (octets, refl)

may_end : (left : Option (List ℕ)) → IsAtEnd left → MayCome left []
may_end None end = tt
may_end (Some octets) end = end

may_more : (piece rest : List ℕ) (left : Option (List ℕ)) → MayCome left rest → MayCome (prepend_known piece left) (piece ++ rest)
may_more piece rest None h = tt
may_more piece rest (Some octets) h = ap (λ r. piece ++ r) h

-- after the beginning it is the whole file
may_whole : (k : Option Contents) (name rest : List ℕ) (left : Option (List ℕ)) → lacks k name ≡ false → left ≡ whole k name
    → MayCome left rest → Reads k name rest
may_whole None name rest left there is may = tt
may_whole (Some c) name rest left there is may = by (c name) left there is may where
  by : (o left : Option (List ℕ)) → is_none o ≡ false → left ≡ o → MayCome left rest → o ≡ Some rest
  by None left there is may = cc
  by (Some octets) left there is may = ap Some (subst (λ l. MayCome l rest) is may)

-- ---- the calls of the files

-- the sink stayed, and the contents of the files
pub record Untouched (b m : Moment) : Type 0 where
  pub contents : m.contents ≡ b.contents
  pub sound : m.sound ≡ b.sound
  pub taken : m.taken ≡ b.taken
  pub write_faults : m.write_faults ≡ b.write_faults

moves : {T : Type 0} (r : Result T IoFault) (b m : Moment) → HasCause b.read_faults m.read_faults r → Untouched b m → Moved b m
moves r b m cause u = record
    { contents = u.contents; sound = u.sound; read_faults = cause.later; taken = u.taken; write_faults = u.write_faults }

-- the file could not be begun
pub begin_fails : (name : List ℕ) (f : List ℕ → Work) (fault : IoFault) (stop : Stop) (left left' : Option (List ℕ)) (b m : Moment)
    → BeginsFile {T = Unit {0}} name (Err fault) b.contents b.sound left left' b.read_faults m.read_faults
    → Untouched b m → stop ≡ reading_stop fault → Works (read name f) (Err stop) b m
begin_fails name f fault stop left left' b m begins u is =
    Works-reading name f stop b m (moves (Err fault) b m begins.cause u) (λ sound there. (begins.spared sound there).same)
    (λ e. begins.cause.failed (ap Err (reading_stop-Read fault stop is e))) (reading_stop-Write fault stop is)
    (λ s. reading_stop-Answered fault stop s is)

-- it was begun
pub begun : (name : List ℕ) (f : List ℕ → Work) (left left' : Option (List ℕ)) (b m : Moment)
    → BeginsFile {T = Unit {0}} name (Ok tt) b.contents b.sound left left' b.read_faults m.read_faults
    → Untouched b m → GoesOn (read name f) f left' b m
begun name f left left' b m begins u = λ rest may result after h.
    Works-read name f rest result b m after (moves {T = Unit {0}} (Ok tt) b m begins.cause u)
    (λ sound there. (begins.spared sound there).same)
    (may_whole b.contents name rest left' begins.found begins.all_left may) h

-- a piece could not be taken
pub take_fails : (work : Work) (next : List ℕ → Work) (fault : IoFault) (stop : Stop) (buffer : List ℕ) (left left' : Option (List ℕ))
    (first b m : Moment) → GoesOn work next left first b → ((rest : List ℕ) → ComesToReading b.contents (next rest) [])
    → TakesNext buffer (Err fault) b.sound left left' b.read_faults m.read_faults
    → Untouched b m → stop ≡ reading_stop fault → Works work (Err stop) first m
take_fails work next fault stop buffer left left' first b m all reads takes u is =
    let may = may_come left in
    all may.0 may.1 (Err stop) m (Works-failed (next may.0) stop b m (moves (Err fault) b m takes.cause u)
    (λ sound. (takes.spared sound).same) (reads may.0)
    (λ e. takes.cause.failed (ap Err (reading_stop-Read fault stop is e))) (reading_stop-Write fault stop is)
    (λ s. reading_stop-Answered fault stop s is))

-- a piece was taken
pub piece_taken : (work : Work) (next next' : List ℕ → Work) (n : ℕ) (buffer piece : List ℕ) (left left' : Option (List ℕ))
    (first b m : Moment) → GoesOn work next left first b
    → TakesNext buffer (Ok n) b.sound left left' b.read_faults m.read_faults → piece ≡ take n buffer
    → ((rest : List ℕ) → next (piece ++ rest) ≡ next' rest) → Untouched b m → GoesOn work next' left' first m
piece_taken work next next' n buffer piece left left' first b m all takes is same u = λ rest may result after h.
    let taken : prepend_known piece left' ≡ left = ap (λ p. prepend_known p left') is ∙ sym takes.next in
    all (piece ++ rest) (subst (λ l. MayCome l (piece ++ rest)) taken (may_more piece rest left' may)) result after
    (Works-moved (next (piece ++ rest)) result b m after (moves (Ok n) b m takes.cause u) (λ sound. (takes.spared sound).same)
    (subst (λ w. Works w result m after) (sym (same rest)) h))

-- the end of the file was found
pub end_found : (work : Work) (next : List ℕ → Work) (n : ℕ) (buffer : List ℕ) (left left' : Option (List ℕ)) (first b m : Moment)
    → GoesOn work next left first b → TakesNext buffer (Ok n) b.sound left left' b.read_faults m.read_faults → n ≡ 0
    → Untouched b m → EndsAs work (next []) first m
end_found work next n buffer left left' first b m all takes none u = λ result after h.
    let nothing : take n buffer ≡ [] = ap (λ k. take k buffer) none in
    let may : MayCome left [] = subst (λ l. MayCome l []) (sym takes.next)
    (subst (λ p. MayCome (prepend_known p left') []) (sym nothing) (may_more [] [] left' (may_end left' (takes.end none)))) in
    all [] may result after (Works-moved (next []) result b m after (moves (Ok n) b m takes.cause u)
    (λ sound. (takes.spared sound).same) h)

-- ---- what is done with a piece

-- more of the work is done, whatever follows of the file
pub done_on : (work : Work) (next next' : List ℕ → Work) (left : Option (List ℕ)) (first mid now : Moment)
    → GoesOn work next left first mid → ((rest : List ℕ) → EndsAs (next rest) (next' rest) mid now) → GoesOn work next' left first now
done_on work next next' left first mid now all more = λ rest may result after h. all rest may result after (more rest result after h)

-- the rest of the work is done, whatever follows of the file
pub done_all : (work : Work) (next : List ℕ → Work) (left : Option (List ℕ)) (result : Result Status Stop) (first mid now : Moment)
    → GoesOn work next left first mid → ((rest : List ℕ) → Works (next rest) result mid now) → Works work result first now
done_all work next left result first mid now all rest =
    let may = may_come left in
    all may.0 may.1 result now (rest may.0)

-- memory was wanting
pub memory_wanting : (work : Work) (next : List ℕ → Work) (left : Option (List ℕ)) (first now : Moment)
    → GoesOn work next left first now → Works work (Err Memory) first now
memory_wanting work next left first now all = done_all work next left (Err Memory) first now now all (λ rest. Works-memory (next rest) now)
