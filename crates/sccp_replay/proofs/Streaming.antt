-- A trace that is read in pieces.
use Rattle.std.proofs.Common.{◌≡◌, ℕ, ◌+◌, List, [], ◌∷◌, ◌++◌, length, Bool, true, false, cond, Option, refl, sym, ◌∙◌, ap, append_assoc}
use Rattle.std.proofs.Common.{arith, inl}
use Rattle.std.proofs.lemmas.List.{length-append}
use Rattle.sccp_report.specs.Roles.{Role, routed, later, aside, alone, role_of}
use Rattle.trace_text.specs.Told.{ahead, beginning, with_front}
use Rattle.trace_text.specs.Told as reading
use Rattle.trace_text.specs.declared.line.Numbered.{Numbered}
use Rattle.sccp_replay.specs.Replay.{Standing, closing_of, is_full, batch_printed, line_work, lines_work, trace_work}
use Rattle.sccp_replay.specs.Replaying.{rest_work, work_behind}
use Rattle.sccp_replay.specs.Trace.{trace_of}
use Rattle.sccp_io.specs.Files.{Contents}
use Rattle.sccp_work.specs.Work.{Work, ComesToReading}
use Rattle.sccp_work.specs.declared.status.Status.{Status}

-- before the first piece
pub at_beginning : (at : Standing) (octets : List ℕ) → rest_work 0 at [] [] beginning octets ≡ trace_work at (trace_of octets)
at_beginning at octets = ap (λ n. lines_work (closing_of n (trace_of octets).fault) at [] (trace_of octets).lines) (omega arith)

-- the lines that a piece completes wait from now on
pub piece_taken : (count : ℕ) (at : Standing) (batch waiting : List Numbered) (reader reader' : reading.Standing) (piece rest : List ℕ)
    (lines : List Numbered)
    → ahead reader true (piece ++ rest) ≡ with_front lines (ahead reader' true rest)
    → rest_work count at batch waiting reader (piece ++ rest) ≡ rest_work (count + length lines) at batch (waiting ++ lines) reader' rest
piece_taken count at batch waiting reader reader' piece rest lines e =
    ap (work_behind count at batch waiting) e
    ∙ ap (λ n. lines_work (closing_of n (ahead reader' true rest).fault) at batch (waiting ++ (lines ++ (ahead reader' true rest).lines)))
    (omega (arith, length-append lines (ahead reader' true rest).lines))
    ∙ ap (λ ls. lines_work (closing_of (count + length lines + length (ahead reader' true rest).lines)
    (ahead reader' true rest).fault) at batch ls) (sym (append_assoc waiting lines (ahead reader' true rest).lines))

gathered_reads : (k : Option Contents) (at : Standing) (batch : List Numbered) (next : Standing → List Numbered → Work)
    → ComesToReading k (next at batch) []
    → ComesToReading k (cond (is_full batch) (batch_printed at batch (λ at'. next at' [])) (next at batch)) []
gathered_reads k at batch next h = by (is_full batch) where
  by : (b : Bool) → ComesToReading k (cond b (batch_printed at batch (λ at'. next at' [])) (next at batch)) []
  by true = inl refl
  by false = h

line_reads : (k : Option Contents) (at : Standing) (batch : List Numbered) (line : Numbered) (r : Role) (next : Standing → List Numbered
    → Work) → ComesToReading k (next at (batch ++ line ∷ [])) []
    → ComesToReading k (line_work at batch line r next) []
line_reads k at batch line (alone d) next h = inl refl
line_reads k at batch line (routed x) next h = gathered_reads k at (batch ++ line ∷ []) next h
line_reads k at batch line (later name) next h = gathered_reads k at (batch ++ line ∷ []) next h
line_reads k at batch line aside next h = gathered_reads k at (batch ++ line ∷ []) next h

-- whatever lines are still to follow, the trace is read on before anything more is written
pub reads_on : (k : Option Contents) (closing : Status × List ℕ) (lines : List Numbered) (at : Standing) (batch : List Numbered)
    → ComesToReading k (lines_work closing at batch lines) []
unfolding lines_work
reads_on k closing [] at batch = inl refl
reads_on k closing (line ∷ lines) at batch =
    line_reads k at batch line (role_of at.first line.line) (λ at' batch'. lines_work closing at' batch' lines)
    (reads_on k closing lines at (batch ++ line ∷ []))
