-- The steps of the loop over a trace that is read in pieces.
use Rattle.std.proofs.Common.{◌≡◌, ℕ, ◌+◌, List, [], ◌++◌, length, take, Bool, true, false, Option, Some, None, Result, Ok, Err, IsTrue}
use Rattle.std.proofs.Common.{refl, sym, ◌∙◌, ap, subst}
use Rattle.std.specs.Prelude.{is_some}
use Rattle.std.specs.Io.KnownBytes.{prepend_known}
use Rattle.sccp_io.specs.Faults.{Rose, HasCause}
use Rattle.sccp_io.specs.Files.{Contents, Reads, whole, lacks, BeginsFile, TakesNext}
use Rattle.sccp_io.specs.declared.fault.IoFault.{IoFault}
use Rattle.trace_text.specs.Told.{ahead, beginning, with_front, only}
use Rattle.trace_text.specs.Told as reading
use Rattle.trace_text.proofs.ReaderLemmas.{ahead-fault}
use Rattle.trace_text.specs.declared.line.Numbered.{Numbered}
use Rattle.trace_text.specs.declared.line_fault.LineFault.{LineFault}
use Rattle.sccp_work.specs.Ending.{Works}
use Rattle.sccp_work.specs.Moment.{Moment}
use Rattle.sccp_replay.specs.Replay.{Standing, closing_of, lines_work, trace_work}
use Rattle.sccp_work.specs.Reading.{reading_stop}
use Rattle.sccp_replay.specs.Replaying.{MayCome, rest_work, GoesOn}
use Rattle.sccp_replay.specs.Trace.{trace_of}
use Rattle.sccp_work.specs.Work.{Work, read}
use Rattle.sccp_work.specs.declared.status.Status.{Status}
use Rattle.sccp_work.specs.declared.stop.Stop.{Stop}
use Rattle.sccp_work.specs.declared.stop.Stop.TheVariants.{Answered, Read, Write, Memory}
use Rattle.sccp_work.proofs.ReadingLemmas.{reading_stop-Read, reading_stop-Write, reading_stop-Answered}
use Rattle.sccp_replay.proofs.Streaming.{at_beginning, piece_taken, reads_on}
use Rattle.sccp_replay.proofs.TakeSteps.{may_come, may_end, fault_ends}
use Rattle.sccp_work.proofs.WorkLemmas.{Moved, Works-read, Works-reading, Works-moved, Works-failed}

-- what was begun may follow whole
pub told_whole : (k : Option Contents) (name rest : List ℕ) (left : Option (List ℕ)) → lacks k name ≡ false → left ≡ whole k name
    → MayCome left rest → Reads k name rest
told_whole None name rest left there is may = tt
told_whole (Some c) name rest left there is may = by (c name) left there is may where
  by : (o : Option (List ℕ)) (left : Option (List ℕ)) → Rattle.std.specs.Prelude.is_none o ≡ false → left ≡ o → MayCome left rest
      → o ≡ Some rest
  by None left there is may = cc
  by (Some octets) left there is may = ap Some (subst (λ l. MayCome l rest) is may)

-- the trace was begun
pub begun : (name : List ℕ) (at : Standing) (left : Option (List ℕ)) (before now : Moment) → Moved before now
    → (IsTrue before.sound → lacks before.contents name ≡ false → now.read_faults ≡ before.read_faults)
    → lacks before.contents name ≡ false → left ≡ whole before.contents name
    → GoesOn (read name (λ octets. trace_work at (trace_of octets))) 0 at [] [] beginning left before now
begun name at left before now moved spared there is = λ rest may result after h.
    Works-read name (λ octets. trace_work at (trace_of octets)) rest result before now after moved spared
    (told_whole before.contents name rest left there is may)
    (subst (λ w. Works w result now after) (at_beginning at rest) h)

may_more : (piece rest : List ℕ) (left : Option (List ℕ)) → MayCome left rest → MayCome (prepend_known piece left) (piece ++ rest)
may_more piece rest None h = tt
may_more piece rest (Some octets) h = ap (λ r. piece ++ r) h

-- a piece was taken, and its lines wait
pub piece_waits : (work : Work) (count : ℕ) (at : Standing) (batch waiting : List Numbered) (reader reader' : reading.Standing)
    (left left' : Option (List ℕ)) (piece : List ℕ) (lines : List Numbered) (first before now : Moment)
    → GoesOn work count at batch waiting reader left first before → left ≡ prepend_known piece left'
    → ((rest : List ℕ) → ahead reader true (piece ++ rest) ≡ with_front lines (ahead reader' true rest))
    → Moved before now → (IsTrue before.sound → now.read_faults ≡ before.read_faults)
    → GoesOn work (count + length lines) at batch (waiting ++ lines) reader' left' first now
piece_waits work count at batch waiting reader reader' left left' piece lines first before now all taken fed moved spared =
    λ rest may result after h.
    all (piece ++ rest) (subst (λ l. MayCome l (piece ++ rest)) (sym taken) (may_more piece rest left' may)) result after
    (Works-moved (rest_work count at batch waiting reader (piece ++ rest)) result before now after moved spared
    (subst (λ w. Works w result now after) (sym (piece_taken count at batch waiting reader reader' piece rest lines (fed rest))) h))

-- the trace could not be read on, or memory was wanting
pub piece_fails : (work : Work) (count : ℕ) (at : Standing) (batch waiting : List Numbered) (reader : reading.Standing)
    (left : Option (List ℕ)) (rest : List ℕ) (stop : Stop) (first before now : Moment)
    → GoesOn work count at batch waiting reader left first before → MayCome left rest → Moved before now
    → (IsTrue before.sound → now.read_faults ≡ before.read_faults) → (stop ≡ Read → Rose before.read_faults now.read_faults)
    → (stop ≡ Write → ⊥) → ((s : Status) → stop ≡ Answered s → ⊥)
    → Works work (Err stop) first now
piece_fails work count at batch waiting reader left rest stop first before now all may moved spared failed no_writing no_answer =
    all rest may (Err stop) now (Works-failed (rest_work count at batch waiting reader rest) stop before now moved spared
    (reads_on before.contents (closing_of (count + length (ahead reader true rest).lines) (ahead reader true rest).fault)
    (waiting ++ (ahead reader true rest).lines) at batch) failed no_writing no_answer)

-- ---- the calls of the files

-- the sink stayed, and the contents of the files
pub record Untouched (b m : Moment) : Type 0 where
  pub contents : m.contents ≡ b.contents
  pub sound : m.sound ≡ b.sound
  pub taken : m.taken ≡ b.taken
  pub write_faults : m.write_faults ≡ b.write_faults

moves : {T : Type 0} (r : Result T IoFault) (b m : Moment) → HasCause b.read_faults m.read_faults r → Untouched b m → Moved b m
moves r b m cause u = record
    { contents = u.contents; sound = u.sound; read_faults = cause.later; taken = u.taken; write_faults = u.write_faults }

-- the trace could not be begun
pub begin_fails : (name : List ℕ) (f : List ℕ → Work) (fault : IoFault) (stop : Stop) (left left' : Option (List ℕ)) (b m : Moment)
    → BeginsFile {T = Unit {0}} name (Err fault) b.contents b.sound left left' b.read_faults m.read_faults
    → Untouched b m → stop ≡ reading_stop fault → Works (read name f) (Err stop) b m
begin_fails name f fault stop left left' b m begins u is =
    Works-reading name f stop b m (moves (Err fault) b m begins.cause u) (λ sound there. (begins.spared sound there).same)
    (λ e. begins.cause.failed (ap Err (reading_stop-Read fault stop is e))) (reading_stop-Write fault stop is)
    (λ s. reading_stop-Answered fault stop s is)

-- it was begun
pub trace_begun : (name : List ℕ) (at : Standing) (batch : List Numbered) (reader : reading.Standing) (left left' : Option (List ℕ))
    (b m : Moment) → BeginsFile {T = Unit {0}} name (Ok tt) b.contents b.sound left left' b.read_faults m.read_faults
    → Untouched b m → batch ≡ [] → reader ≡ beginning → GoesOn (read name (λ octets. trace_work at (trace_of octets))) 0 at batch
    [] reader left' b m
trace_begun name at batch reader left left' b m begins u none starts =
    let work : Work = read name (λ octets. trace_work at (trace_of octets)) in
    let goes : GoesOn work 0 at [] [] beginning left' b m = begun name at left' b m (moves {T = Unit {0}} (Ok tt) b m begins.cause u)
    (λ sound there. (begins.spared sound there).same) begins.found begins.all_left in
    subst (λ s. GoesOn work 0 at batch [] s left' b m) (sym starts) (subst (λ l. GoesOn work 0 at l [] beginning left' b m) (sym none) goes)

-- a piece could not be taken
pub take_fails : (work : Work) (count : ℕ) (at : Standing) (batch : List Numbered) (reader : reading.Standing) (fault : IoFault)
    (stop : Stop) (buffer : List ℕ) (left left' : Option (List ℕ)) (first b m : Moment)
    → GoesOn work count at batch [] reader left first b → TakesNext buffer (Err fault) b.sound left left' b.read_faults m.read_faults
    → Untouched b m → stop ≡ reading_stop fault → Works work (Err stop) first m
take_fails work count at batch reader fault stop buffer left left' first b m all takes u is =
    let may = may_come left in
    piece_fails work count at batch [] reader left may.0 stop first b m all may.1 (moves (Err fault) b m takes.cause u)
    (λ sound. (takes.spared sound).same)
    (λ e. takes.cause.failed (ap Err (reading_stop-Read fault stop is e))) (reading_stop-Write fault stop is)
    (λ s. reading_stop-Answered fault stop s is)

-- a piece was taken, and memory was wanting
pub take_memory : (work : Work) (count : ℕ) (at : Standing) (batch : List Numbered) (reader : reading.Standing) (n : ℕ) (buffer : List ℕ)
    (left left' : Option (List ℕ)) (first b m : Moment)
    → GoesOn work count at batch [] reader left first b → TakesNext buffer (Ok n) b.sound left left' b.read_faults m.read_faults
    → Untouched b m → Works work (Err Memory) first m
take_memory work count at batch reader n buffer left left' first b m all takes u =
    let may = may_come left in
    piece_fails work count at batch [] reader left may.0 Memory first b m all may.1 (moves (Ok n) b m takes.cause u)
    (λ sound. (takes.spared sound).same)
    (λ e. absurd cc) (λ e. cc) (λ s e. cc)

-- a piece was taken and fed: its lines wait
pub piece_fed : (work : Work) (count : ℕ) (at : Standing) (batch : List Numbered) (reader reader' : reading.Standing) (n : ℕ)
    (buffer piece : List ℕ) (lines : List Numbered) (left left' : Option (List ℕ)) (first b m : Moment)
    → GoesOn work count at batch [] reader left first b → TakesNext buffer (Ok n) b.sound left left' b.read_faults m.read_faults
    → piece ≡ take n buffer
    → ((whole : Bool) (rest : List ℕ) → ahead reader whole (piece ++ rest) ≡ with_front lines (ahead reader' whole rest)) → Untouched b m
    → GoesOn work (count + length lines) at batch lines reader' left' first m
piece_fed work count at batch reader reader' n buffer piece lines left left' first b m all takes is fed u =
    piece_waits work count at batch [] reader reader' left left' piece lines first b m all (takes.next
    ∙ ap (λ p. prepend_known p left') (sym is)) (fed true)
    (moves (Ok n) b m takes.cause u) (λ sound. (takes.spared sound).same)

-- the end of the file was found
pub end_found : (work : Work) (count : ℕ) (at : Standing) (batch : List Numbered) (reader : reading.Standing) (n : ℕ) (buffer : List ℕ)
    (left left' : Option (List ℕ)) (result : Result Status Stop) (first b m after : Moment)
    → GoesOn work count at batch [] reader left first b → TakesNext buffer (Ok n) b.sound left left' b.read_faults m.read_faults → n ≡ 0
    → Untouched b m
    → Works (rest_work count at batch [] reader []) result m after → Works work result first after
end_found work count at batch reader n buffer left left' result first b m after all takes none u h =
    let nothing : take n buffer ≡ [] = ap (λ k. take k buffer) none in
    let may : MayCome left [] = subst (λ l. MayCome l []) (sym takes.next)
    (subst (λ p. MayCome (prepend_known p left') []) (sym nothing) (may_more [] [] left' (may_end left' (takes.end none)))) in
    all [] may result after (Works-moved (rest_work count at batch [] reader []) result b m after (moves (Ok n) b m takes.cause u)
    (λ sound. (takes.spared sound).same) h)

-- no fault was reported
pub no_fault : (fault : Option LineFault) → false ≡ is_some fault → fault ≡ None
no_fault None e = refl
no_fault (Some fault) e = absurd cc

-- there is a fault, and the last batch is done
pub fault_stands : (work : Work) (count : ℕ) (at : Standing) (batch : List Numbered) (reader : reading.Standing) (left : Option (List ℕ))
    (fault : Option LineFault) (result : Result Status Stop) (first mid now : Moment)
    → GoesOn work count at batch [] reader left first mid → true ≡ is_some fault → reader.fault ≡ fault
    → Works (lines_work (closing_of count fault) at batch []) result mid now → Works work result first now
fault_stands work count at batch reader left fault result first mid now all some stands h =
    fault_ends work count at batch reader left fault result first mid now all
    (λ rest. ahead-fault reader.fault reader true rest (some ∙ ap is_some (sym stands)) ∙ ap only stands) h
