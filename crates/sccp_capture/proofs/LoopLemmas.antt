-- The steps of the loop over a capture file.
use Rattle.std.proofs.Common.{◌≡◌, ℕ, List, [], ◌∷◌, ◌++◌, take, Bool, true, Option, Result, Ok, Err, refl, sym, ◌∙◌, ap, subst, inl}
use Rattle.std.specs.Prelude.{is_some}
use Rattle.plan_model.specs.Network.{Network}
use Rattle.capture_file.specs.Packets.{Captured, only, with_front}
use Rattle.capture_file.specs.Standings.{ahead}
use Rattle.capture_file.specs.Standings as reading
use Rattle.capture_file.specs.declared.file_fault.FileFault.{FileFault}
use Rattle.capture_file.proofs.ReaderLemmas.{ahead-fault}
use Rattle.capture_trace.specs.Traced.{Standing}
use Rattle.capture_trace.specs.Traced as traced
use Rattle.sccp_capture.specs.Printing.{end_work, file_work, octets_work, packets_work, told_work}
use Rattle.sccp_capture.specs.Steps.{PrintsPackets}
use Rattle.sccp_io.specs.Files.{Contents, TakesNext, BeginsFile}
use Rattle.sccp_io.specs.declared.fault.IoFault.{IoFault}
use Rattle.sccp_work.specs.Ending.{Works}
use Rattle.sccp_work.specs.Moment.{Moment}
use Rattle.sccp_work.specs.Pieces.{GoesOn}
use Rattle.sccp_work.specs.Reading.{reading_stop}
use Rattle.sccp_work.specs.Work.{Work, ComesToReading}
use Rattle.sccp_work.specs.declared.status.Status.{Status}
use Rattle.sccp_work.specs.declared.stop.Stop.{Stop}
use Rattle.sccp_work.specs.declared.stop.Stop.TheVariants.{Memory}
use Rattle.sccp_work.proofs.PieceLemmas.{Untouched, begun, take_fails, piece_taken, end_found, done_on, done_all, memory_wanting}

-- what is left to be done, of a file that goes on so
abbrev pub rest_work : Network → Standing → reading.Standing → List ℕ → Work
rest_work plan s reader rest = told_work plan s (ahead reader true rest)

-- the packets of a piece were not printed yet
abbrev pub packets_first : Network → Standing → List Captured → reading.Standing → List ℕ → Work
packets_first plan s packets reader rest = told_work plan s (with_front packets (ahead reader true rest))

-- whatever is left, the file is read on before anything more is written
reads_on : (k : Option Contents) (plan : Network) (fault : Option FileFault) (packets : List Captured) (s : Standing)
    → ComesToReading k (packets_work plan fault packets s) []
unfolding packets_work
reads_on k plan fault [] s = inl refl
reads_on k plan fault (packet ∷ packets) s = inl refl

-- the file was begun
pub file_begun : (plan : Network) (name : List ℕ) (reader : reading.Standing) (s : Standing) (left left' : Option (List ℕ)) (b m : Moment)
    → BeginsFile {T = Unit {0}} name (Ok tt) b.contents b.sound left left' b.read_faults m.read_faults → Untouched b m
    → reader ≡ reading.beginning → s ≡ traced.beginning → GoesOn (file_work plan name) (rest_work plan s reader) left' b m
file_begun plan name reader s left left' b m begins u starts none =
    rw (starts, none) (begun name (octets_work plan) left left' b m begins u)

-- a piece could not be taken
pub piece_fails : (work : Work) (plan : Network) (s : Standing) (reader : reading.Standing) (fault : IoFault) (stop : Stop)
    (buffer : List ℕ) (left left' : Option (List ℕ)) (first b m : Moment) → GoesOn work (rest_work plan s reader) left first b
    → TakesNext buffer (Err fault) b.sound left left' b.read_faults m.read_faults
    → Untouched b m → stop ≡ reading_stop fault → Works work (Err stop) first m
piece_fails work plan s reader fault stop buffer left left' first b m all takes u is =
    take_fails work (rest_work plan s reader) fault stop buffer left left' first b m all
    (λ rest. reads_on b.contents plan (ahead reader true rest).fault (ahead reader true rest).packets s) takes u is

-- a piece was taken and fed
pub piece_fed : (work : Work) (plan : Network) (s : Standing) (reader reader' : reading.Standing) (n : ℕ) (buffer piece : List ℕ)
    (packets : List Captured) (left left' : Option (List ℕ)) (first b m : Moment) → GoesOn work (rest_work plan s reader) left first b
    → TakesNext buffer (Ok n) b.sound left left' b.read_faults m.read_faults → piece ≡ take n buffer
    → ((whole : Bool) (rest : List ℕ) → ahead reader whole (piece ++ rest) ≡ with_front packets (ahead reader' whole rest))
    → Untouched b m → GoesOn work (packets_first plan s packets reader') left' first m
piece_fed work plan s reader reader' n buffer piece packets left left' first b m all takes is fed u =
    piece_taken work (rest_work plan s reader) (packets_first plan s packets reader') n buffer piece left left' first b m all takes is
    (λ rest. ap (told_work plan s) (fed true rest)) u

-- a piece was taken, and memory was wanting
pub piece_lost : (work : Work) (plan : Network) (s : Standing) (reader : reading.Standing) (n : ℕ) (buffer : List ℕ)
    (left left' : Option (List ℕ)) (first b m : Moment) → GoesOn work (rest_work plan s reader) left first b
    → TakesNext buffer (Ok n) b.sound left left' b.read_faults m.read_faults → Untouched b m → Works work (Err Memory) first m
piece_lost work plan s reader n buffer left left' first b m all takes u =
    let piece : List ℕ = take n buffer in
    memory_wanting work (λ rest. rest_work plan s reader (piece ++ rest)) left' first m
    (piece_taken work (rest_work plan s reader) (λ rest. rest_work plan s reader (piece ++ rest)) n buffer piece left left' first b m all
    takes refl (λ rest. refl) u)

-- its packets were printed
pub piece_printed : (work : Work) (plan : Network) (s s' : Standing) (reader : reading.Standing) (packets : List Captured)
    (left : Option (List ℕ)) (first mid now : Moment) → GoesOn work (packets_first plan s packets reader) left first mid
    → PrintsPackets {T = Unit {0}} plan packets s (Ok tt) s' mid now → GoesOn work (rest_work plan s' reader) left first now
piece_printed work plan s s' reader packets left first mid now all prints =
    done_on work (packets_first plan s packets reader) (rest_work plan s' reader) left first mid now all
    (λ rest. prints (ahead reader true rest).fault (ahead reader true rest).packets)

-- they could not be
pub piece_unprinted : (work : Work) (plan : Network) (s s' : Standing) (reader : reading.Standing) (packets : List Captured)
    (left : Option (List ℕ)) (stop : Stop) (first mid now : Moment) → GoesOn work (packets_first plan s packets reader) left first mid
    → PrintsPackets {T = Unit {0}} plan packets s (Err stop) s' mid now → Works work (Err stop) first now
piece_unprinted work plan s s' reader packets left stop first mid now all prints =
    done_all work (packets_first plan s packets reader) left (Err stop) first mid now all
    (λ rest. prints (ahead reader true rest).fault (ahead reader true rest).packets)

only_end : (plan : Network) (s : Standing) (fault : Option FileFault) → told_work plan s (only fault) ≡ end_work fault s
unfolding packets_work
only_end plan s fault = refl

-- the reader has met a fault
pub fault_met : (work : Work) (plan : Network) (s : Standing) (reader : reading.Standing) (left : Option (List ℕ))
    (fault : Option FileFault) (result : Result Status Stop) (first mid now : Moment) → GoesOn work (rest_work plan s reader) left first mid
    → true ≡ is_some fault → reader.fault ≡ fault → Works (end_work fault s) result mid now → Works work result first now
fault_met work plan s reader left fault result first mid now all some is h =
    done_all work (rest_work plan s reader) left result first mid now all
    (λ rest. subst (λ w. Works w result mid now) (sym (ap (told_work plan s) (stands rest) ∙ only_end plan s fault)) h) where
      stands : (rest : List ℕ) → ahead reader true rest ≡ only fault
      stands rest = ahead-fault reader.fault reader true rest (some ∙ ap is_some (sym is)) ∙ ap only is

-- the end of the file was found
pub file_ended : (work : Work) (plan : Network) (s : Standing) (reader : reading.Standing) (n : ℕ) (buffer : List ℕ)
    (left left' : Option (List ℕ)) (fault : Option FileFault) (result : Result Status Stop) (first b m after : Moment)
    → GoesOn work (rest_work plan s reader) left first b → TakesNext buffer (Ok n) b.sound left left' b.read_faults m.read_faults → n ≡ 0
    → Untouched b m → only fault ≡ ahead reader true [] → Works (end_work fault s) result m after → Works work result first after
file_ended work plan s reader n buffer left left' fault result first b m after all takes none u is h =
    end_found work (rest_work plan s reader) n buffer left left' first b m all takes none u result after
    (subst (λ w. Works w result m after) (sym (only_end plan s fault) ∙ ap (told_work plan s) is) h)
