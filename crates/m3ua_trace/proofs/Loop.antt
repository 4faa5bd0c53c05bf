-- One more line of the trace.
use Rattle.std.proofs.Common.{◌≡◌, ℕ, ◌+◌, List, [], ◌∷◌, ◌++◌, length, Result, Ok, Err, refl, sym, ◌∙◌, ap, subst, append_assoc, arith}
use Rattle.std.proofs.lemmas.List.{append-nil}
use Rattle.plan_model.specs.Network.{Network}
use Rattle.trace_text.specs.Lines.{TextLine, lines_of}
use Rattle.trace_text.specs.declared.line_fault.LineFault.{LineFault}
use Rattle.m3ua_trace.specs.Traces.{and_octets, octets_of_line, octets_of_lines, text_of_octets, trace_text, trace_if_read, trace_of}
use Rattle.m3ua_trace.specs.Traces.{IsTraceOf}
use Rattle.m3ua_trace.proofs.Traces.{ok, ok_octets, err_octets, is_trace}

-- a text and a trace after it, or only the fault
abbrev pub behind : List ℕ → Result (List ℕ) LineFault → Result (List ℕ) LineFault
behind text (Ok more) = Ok (text ++ more)
behind text (Err fault) = Err fault

joined : (plan : Network) (text octets : List ℕ) (more : Result (List (List ℕ)) LineFault)
    → behind text (trace_if_read plan (and_octets (Ok octets) more)) ≡ behind (text ++ (text_of_octets plan octets ++ 10 ∷ []))
    (trace_if_read plan more)
unfolding trace_text
joined plan text octets (Ok messages) =
    ap Ok (ap (λ l. text ++ l) (sym (append_assoc (text_of_octets plan octets) (10 ∷ []) (trace_text plan messages)))
    ∙ sym (append_assoc text (text_of_octets plan octets ++ 10 ∷ []) (trace_text plan messages)))
joined plan text octets (Err fault) = refl

-- a line without a fault
pub one_more : (plan : Network) (text octets : List ℕ) (number : ℕ) (line : TextLine) (lines : List TextLine)
    → octets_of_line number line ≡ Ok octets
    → behind text (trace_if_read plan (octets_of_lines number (line ∷ lines))) ≡ behind (text ++ (text_of_octets plan octets ++ 10 ∷ []))
    (trace_if_read plan (octets_of_lines (number + 1) lines))
one_more plan text octets number line lines e =
    ap (λ here. behind text (trace_if_read plan (and_octets here (octets_of_lines (number + 1) lines)))) e
    ∙ joined plan text octets (octets_of_lines (number + 1) lines)

-- a line with a fault
pub one_bad : (plan : Network) (text : List ℕ) (fault : LineFault) (number : ℕ) (line : TextLine) (lines : List TextLine)
    → octets_of_line number line ≡ Err fault
    → behind text (trace_if_read plan (octets_of_lines number (line ∷ lines))) ≡ Err fault
one_bad plan text fault number line lines e =
    ap (λ here. behind text (trace_if_read plan (and_octets here (octets_of_lines (number + 1) lines)))) e

-- no line is left
pub at_end : (plan : Network) (text rest : List ℕ) (number : ℕ) → length rest ≡ 0
    → behind text (trace_if_read plan (octets_of_lines number (lines_of rest))) ≡ Ok text
unfolding trace_text
at_end plan text [] number e = ap Ok (append-nil text)
at_end plan text (octet ∷ octets) number e = absurd (omega arith)

-- what the loop gives is a trace
pub is_traced : (plan : Network) (file text : List ℕ) → trace_of plan file ≡ Ok text → IsTraceOf plan file text
is_traced plan file text e = by (octets_of_lines 1 (lines_of file)) refl e where
  by : (r : Result (List (List ℕ)) LineFault) → octets_of_lines 1 (lines_of file) ≡ r → trace_if_read plan r ≡ ok text
      → IsTraceOf plan file text
  by (Ok messages) read f = subst (IsTraceOf plan file) (ok_octets f) (is_trace plan file messages read)
  by (Err fault) read f = absurd (err_octets f)
