-- The lines that are made of messages are a trace without a fault.
use Rattle.std.proofs.Common.{◌≡◌, ℕ, ◌+◌, ◌-◌, ◌<◌, ◌≤◌, Bool, true, false, cond, ltb, eqb, not, ◌||◌, List, [], ◌∷◌, length, take}
use Rattle.std.proofs.Common.{get_or, Option, Some, None, Result, Ok, Err, IfSome, refl, ◌∙◌, ap, subst, length-append, length-take}
use Rattle.std.proofs.Common.{arith}
use Rattle.std.specs.Prelude.{codes, decimal, find, option_and_then, nat_le, ◌&&◌}
use Rattle.std.specs.List.{AllByRecursion, list_all}
use Rattle.std.specs.Result.{result_ok}
use Rattle.std.proofs.Math.Dec.{eqb-suc-zero}
use Rattle.std.proofs.lemmas.Bool.{and_parts, leb-true, le-ltb, ltb-false, or_parts}
use Rattle.std.proofs.lemmas.List.Sums.{AllPass-from_list_all}
use Rattle.hex.specs.Hex.{IsBytes, decode_of}
use Rattle.hex.specs.declared.error.FromHexError.{FromHexError}
use Rattle.hex.proofs.HexLemmas.{decode_of-ok}
use Rattle.m3ua_data.specs.Carried.{Payload, carried_of}
use Rattle.m3ua_data.specs.Reading.{reading}
use Rattle.m3ua_data.specs.declared.fault.DataFault.{DataFault}
use Rattle.m3ua_data.specs.declared.fault.DataFault.TheVariants as faults
use Rattle.m3ua_data.specs.declared.tagged.Tagged.{Tagged}
use Rattle.plan_model.specs.Network.{Network, has_point}
use Rattle.plan_model.specs.declared.node.Node.{Node}
use Rattle.sccp_base.specs.Names.{IsName, is_name_octet, name_of}
use Rattle.trace_text.proofs.LineLemmas.{lines_of-line}
use Rattle.trace_text.specs.Forms.{line_of}
use Rattle.trace_text.specs.Hex.{hex_word}
use Rattle.trace_text.specs.Lines.{TextLine, text_line, lines_of, held, content_of, without_return}
use Rattle.trace_text.specs.Told.{told, told_lines, numbered, numbered_content, with_number, and_then, with_front}
use Rattle.trace_text.specs.declared.line.Line.{Line}
use Rattle.trace_text.specs.declared.line.Line.TheVariants.{Skip}
use Rattle.trace_text.specs.declared.line_fault.LineFault.{LineFault}
use Rattle.trace_text.specs.declared.line_fault.LineKind.TheVariants as kinds
use Rattle.m3ua_trace.specs.Imported.{Imported, Refused, OtherService, OtherPoint, UnknownNode, NoOctets, Message, fault_number, name_at}
use Rattle.m3ua_trace.specs.Imported.{for_node, from_payload, from_carried, from_reading, imported, imported_text, trace_line}
use Rattle.m3ua_trace.specs.Traces.{octets_in, held_octets, octets_if_held, octets_of_line, and_octets, octets_of_lines, text_of_octets}
use Rattle.m3ua_trace.specs.Traces.{line_of_octets, trace_text, trace_lines, IsTraceOf}
use Rattle.m3ua_trace.proofs.Messages.{line-again, line-plain, length-line}
use Rattle.m3ua_trace.proofs.Numbers.{length-three}
use Rattle.m3ua_trace.proofs.Payloads.{IsCarried, carried_in}
use Rattle.m3ua_trace.proofs.Plain.{IsPlain, plain-append, plain-decimal, one_line, keeps_all}

abbrev pub ok : List ℕ → Result (List ℕ) LineFault
ok octets = Ok octets

abbrev pub failed : LineFault → Result (List ℕ) LineFault
failed fault = Err fault

abbrev all_ok : List (List ℕ) → Result (List (List ℕ)) LineFault
all_ok messages = Ok messages

abbrev all_failed : LineFault → Result (List (List ℕ)) LineFault
all_failed fault = Err fault

some_octets : {x y : List ℕ} → Some x ≡ Some y → x ≡ y
some_octets e = cc

none_octets : {y : List ℕ} → None ≡ Some y → ⊥
none_octets e = cc

-- a text is one short line, and is read as a line of a trace
record IsPrinted (text : List ℕ) (line : Line) : Type 0 where
  plain : IsPlain text
  short : length text ≤ 8192
  reads : line_of text ≡ Some line

-- ---- the line of a message

-- the numbers of what becomes of a message are in range
abbrev HasRange : Imported → Type 0
HasRange (Refused fault) = fault < 256
HasRange (OtherService service) = service < 256
HasRange (Message name origin octets) = IsName name × (origin < 16384) × IsBytes octets × (0 < length octets) × (length octets ≤ 4072)
HasRange other = Unit {0}

range_of_node : (name : Option (List ℕ)) (origin : ℕ) (octets : List ℕ) → IfSome name IsName → origin < 16384 → IsBytes octets
    → length octets ≤ 4072 → HasRange (for_node name origin octets)
range_of_node None origin octets h small bytes short = tt
range_of_node (Some name) origin octets h small bytes short = by octets bytes short where
  by : (octets : List ℕ) → IsBytes octets → length octets ≤ 4072
      → HasRange (cond (eqb (length octets) 0) NoOctets (Message name origin octets))
  by [] bytes short = tt
  by (octet ∷ octets) bytes short = rw (eqb-suc-zero (length octets)) (h, small, bytes, omega arith, short)

-- a text that is read as a name is one
name_is : (text name : List ℕ) → name_of text ≡ Some name → IsName name
unfolding name_of
name_is text name e = by (nat_le 1 (length text) && nat_le (length text) 16 && list_all is_name_octet text) refl e where
  by : (b : Bool) → (nat_le 1 (length text) && nat_le (length text) 16 && list_all is_name_octet text) ≡ b
      → cond b (Some text) None ≡ Some name → IsName name
  by true is f =
      let p = and_parts (nat_le 1 (length text) && nat_le (length text) 16) (list_all is_name_octet text) is in
      let q = and_parts (nat_le 1 (length text)) (nat_le (length text) 16) p.0 in
      subst IsName (some_octets f) (record {
        some = leb-true 1 (length text) q.0;
        most = leb-true
            (length text) 16 q.1;
        each = AllPass-from_list_all is_name_octet text p.1;
      })
  by false is f = absurd (none_octets f)

-- a node's name is one
is_name : (o : Option Node) → IfSome (option_and_then (λ node. name_of node.name) o) IsName
is_name None = tt
is_name (Some node) = named_by (name_of node.name) refl where
  named_by : (n : Option (List ℕ)) → name_of node.name ≡ n → IfSome n IsName
  named_by None e = tt
  named_by (Some name) e = name_is node.name name e

-- ---- what becomes of octets

range_of_payload : (plan : Network) (b : List ℕ) (p : Payload) → length b ≤ 4096 → IsCarried b p → HasRange (from_payload plan p)
range_of_payload plan b p short h = by_service (eqb p.service 3) where
  by_point : (long : Bool) → (ltb 16383 p.origin || ltb 16383 p.destination) ≡ long
      → HasRange (cond long OtherPoint (for_node (name_at plan p.destination) p.origin p.payload))
  by_point true e = tt
  by_point false e =
      let q = or_parts (ltb 16383 p.origin) (ltb 16383 p.destination) e in
      let small : p.origin ≤ 16383 = ltb-false 16383 p.origin q.0 in
      range_of_node (name_at plan p.destination) p.origin p.payload (is_name (find (has_point p.destination) plan.nodes))
      (omega arith) h.payload.bytes (omega (arith, h.payload.short))

  by_service : (is : Bool) → HasRange (cond (not is) (OtherService p.service)
      (cond (ltb 16383 p.origin || ltb 16383 p.destination) OtherPoint (for_node (name_at plan p.destination) p.origin p.payload)))
  by_service true = by_point (ltb 16383 p.origin || ltb 16383 p.destination) refl
  by_service false = h.service

fault_small : (fault : DataFault) → fault_number fault < 256
fault_small faults.Short = omega arith
fault_small faults.BadHeader = omega arith
fault_small faults.BadLength = omega arith
fault_small (faults.BadParameter i) = omega arith
fault_small faults.NoData = omega arith
fault_small (faults.BadField tag) = omega arith
fault_small faults.OutOfMemory = omega arith

range_of_carried : (plan : Network) (b : List ℕ) (o : Option Payload) → length b ≤ 4096 → ((p : Payload) → o ≡ Some p → IsCarried b p)
    → HasRange (from_carried plan o)
range_of_carried plan b None short h = fault_small faults.NoData
range_of_carried plan b (Some p) short h = range_of_payload plan b p short (h p refl)

range_of_imported : (plan : Network) (b : List ℕ) → IsBytes b → length b ≤ 4096 → HasRange (imported plan b)
range_of_imported plan b bytes short = by (reading b) refl where
  by : (r : Result (List Tagged) DataFault) → reading b ≡ r → HasRange (from_reading plan r)
  by (Ok params) e = range_of_carried plan b (carried_of params) short (λ p is. carried_in b params p bytes e is)
  by (Err fault) e = fault_small fault

-- ---- each line that is printed

printed_line : (x : Imported) → HasRange x → IsPrinted (imported_text x) (trace_line x)
unfolding imported_text line_of
printed_line (Refused fault) h =
    record {
      plain = plain-append (codes "# refused ") (decimal fault) refl (plain-decimal fault (omega arith));
      short = omega
          (arith, length-three fault (omega arith), length-append (codes "# refused ") (decimal fault));
      reads = refl;
    }
printed_line (OtherService service) h =
    record {
      plain = plain-append (codes "# service ") (decimal service) refl (plain-decimal service (omega arith));
      short = omega
          (arith, length-three service (omega arith), length-append (codes "# service ") (decimal service));
      reads = refl;
    }
printed_line OtherPoint h = record { plain = refl; short = omega arith; reads = refl }
printed_line UnknownNode h = record { plain = refl; short = omega arith; reads = refl }
printed_line NoOctets h = record { plain = refl; short = omega arith; reads = refl }
printed_line (Message name origin octets) h =
    record {
      plain = line-plain name octets origin h.0 h.1 h.2;
      short = omega
          (arith, length-line name octets origin h.0 h.1, h.4);
      reads = line-again name octets origin h.0 h.1 h.2 h.3;
    }

empty_line : IsPrinted [] Skip
unfolding line_of
empty_line = record { plain = refl; short = omega arith; reads = refl }

-- octets that a line of the file can hold
record IsHeld (octets : List ℕ) : Type 0 where
  bytes : IsBytes octets
  short : length octets ≤ 4096

printed_octets : (plan : Network) (octets : List ℕ) → IsHeld octets → IsPrinted (text_of_octets plan octets) (line_of_octets plan octets)
printed_octets plan [] h = empty_line
printed_octets plan (octet ∷ octets) h = rw (eqb-suc-zero (length octets))
    (printed_line (imported plan (octet ∷ octets)) (range_of_imported plan (octet ∷ octets) h.bytes h.short))

-- ---- the lines of the file

pub ok_octets : {x y : List ℕ} → ok x ≡ ok y → x ≡ y
ok_octets e = cc

pub err_octets : {fault : LineFault} {y : List ℕ} → failed fault ≡ ok y → ⊥
err_octets e = cc

held_word : (word octets : List ℕ) → length word ≤ 8192 → hex_word word ≡ Some octets → IsHeld octets
held_word [] octets short e = absurd (none_octets e)
held_word (digit ∷ digits) octets short e = by (decode_of (digit ∷ digits)) refl e where
  by : (r : Result (List ℕ) FromHexError) → decode_of (digit ∷ digits) ≡ r → result_ok r ≡ Some octets → IsHeld octets
  by (Ok xs) is f =
      let d = decode_of-ok (digit ∷ digits) xs is in
      subst IsHeld (some_octets f) (record { bytes = d.3; short = omega (arith, d.2) })
  by (Err fault) is f = absurd (none_octets f)

held_content : (number : ℕ) (content octets : List ℕ) → length content ≤ 8192 → held_octets number content ≡ ok octets → IsHeld octets
held_content number [] octets short e = subst IsHeld (ok_octets e) (record { bytes = λ i. omega arith; short = omega arith })
held_content number (digit ∷ digits) octets short e = by (hex_word (digit ∷ digits)) refl (not_empty (eqb-suc-zero (length digits)) e) where
  not_empty : {b : Bool} → b ≡ false → cond b (ok []) (octets_in number (hex_word (digit ∷ digits))) ≡ ok octets
      → octets_in number (hex_word (digit ∷ digits)) ≡ ok octets
  not_empty is f = subst (λ b. cond b (ok []) (octets_in number (hex_word (digit ∷ digits))) ≡ ok octets) is f

  by : (o : Option (List ℕ)) → hex_word (digit ∷ digits) ≡ o → octets_in number o ≡ ok octets → IsHeld octets
  by None is f = absurd (err_octets f)
  by (Some xs) is f = subst IsHeld (ok_octets f) (held_word (digit ∷ digits) xs short is)

content_short : (line : TextLine) → length line.octets ≤ 8192 → length (cond line.ended (without_return line.octets) line.octets) ≤ 8192
content_short line short = by line.ended where
  cut : (b : Bool) → length (cond b (take (length line.octets - 1) line.octets) line.octets) ≤ 8192
  cut true = omega (arith, length-take (length line.octets - 1) line.octets)
  cut false = short

  by : (ended : Bool) → length (cond ended (without_return line.octets) line.octets) ≤ 8192
  by true = cut (eqb (get_or line.octets (length line.octets - 1) 0) 13)
  by false = short

-- a line that holds octets is within the limits
record IsWithin (number : ℕ) (octets : List ℕ) : Type 0 where
  few : number ≤ 1000000
  held : IsHeld octets

line_within : (number : ℕ) (line : TextLine) (octets : List ℕ) → octets_of_line number line ≡ ok octets → IsWithin number octets
unfolding content_of
line_within number line octets e = by_number (ltb 1000000 number) refl e where
  by_size : number ≤ 1000000 → (long : Bool) → ltb 8192 (length line.octets) ≡ long
      → octets_if_held number (held (cond long (Some (record { number = number; kind = kinds.TooLong })) None) line) ≡ ok octets
      → IsWithin number octets
  by_size few true is f = absurd (err_octets f)
  by_size few false is f =
      let short : length line.octets ≤ 8192 = ltb-false 8192 (length line.octets) is in
      record {
        few = few;
        held = held_content number (cond line.ended (without_return line.octets) line.octets) octets
            (content_short line short) f;
      }

  by_number : (many : Bool) → ltb 1000000 number ≡ many
      → octets_if_held number (held (cond many (Some (record { number = number; kind = kinds.TooMany }))
      (cond (ltb 8192 (length line.octets)) (Some (record { number = number; kind = kinds.TooLong })) None)) line) ≡ ok octets
      → IsWithin number octets
  by_number true is f = absurd (err_octets f)
  by_number false is f = by_size (ltb-false 1000000 number is) (ltb 8192 (length line.octets)) refl f

-- ---- all of them

-- the octets of all lines can be held, and the last line is within the limit
record AreWithin (number : ℕ) (messages : List (List ℕ)) : Type 0 where
  each : AllByRecursion IsHeld messages
  few : number ≤ 1000001 → number + length messages ≤ 1000001

lists_are : {x y : List (List ℕ)} → all_ok x ≡ all_ok y → x ≡ y
lists_are e = cc

no_lists : {fault : LineFault} {y : List (List ℕ)} → all_failed fault ≡ all_ok y → ⊥
no_lists e = cc

lines_within : (number : ℕ) (lines : List TextLine) (messages : List (List ℕ)) → octets_of_lines number lines ≡ Ok messages
    → AreWithin number messages
lines_within number [] messages e = subst (AreWithin number) (lists_are e) (record { each = tt; few = λ le. omega arith })
lines_within number (line ∷ lines) messages e =
    by (octets_of_line number line) (octets_of_lines (number + 1) lines) refl
    (λ others rest. lines_within (number + 1) lines others rest) e where
      by : (here : Result (List ℕ) LineFault) (more : Result (List (List ℕ)) LineFault) → octets_of_line number line ≡ here
          → ((others : List (List ℕ)) → more ≡ Ok others → AreWithin (number + 1) others) → and_octets here more ≡ Ok messages
          → AreWithin number messages
      by (Err fault) more is rest f = absurd (no_lists f)
      by (Ok octets) (Err fault) is rest f = absurd (no_lists f)
      by (Ok octets) (Ok others) is rest f =
          let here : IsWithin number octets = line_within number line octets is in
          let later : AreWithin (number + 1) others = rest others refl in
          subst (AreWithin number) (lists_are f) (record
          { each = (here.held, later.each); few = λ le. omega (arith, later.few (omega (arith, here.few))) })

content_is : (number : ℕ) (text : List ℕ) → IsPlain text → length text ≤ 8192 → number ≤ 1000000
    → content_of number (text_line text true) ≡ Ok text
unfolding content_of
content_is number text plain short few = rw (le-ltb 1000000 number few, le-ltb 8192 (length text) short) (ap Ok (keeps_all text plain))

numbered_is : (number : ℕ) (text : List ℕ) (line : Line) → IsPrinted text line → number ≤ 1000000
    → numbered number (text_line text true) ≡ Ok (record { number = number; line = line })
numbered_is number text line h few = ap (numbered_content number) (content_is number text h.plain h.short few)
    ∙ ap (with_number number) h.reads

told_all : (plan : Network) (number : ℕ) (messages : List (List ℕ)) → AllByRecursion IsHeld messages → number + length messages ≤ 1000001
    → told_lines true number (lines_of (trace_text plan messages)) ≡ record { lines = trace_lines plan number messages; fault = None }
unfolding trace_text
told_all plan number [] h few = refl
told_all plan number (octets ∷ messages) h few =
    let here : IsPrinted (text_of_octets plan octets) (line_of_octets plan octets) = printed_octets plan octets h.0 in
    ap (told_lines true number) (lines_of-line (text_of_octets plan octets) (trace_text plan messages)
    (one_line (text_of_octets plan octets) here.plain))
    ∙ ap (λ r. and_then r (told_lines true (number + 1) (lines_of (trace_text plan messages))))
    (numbered_is number (text_of_octets plan octets) (line_of_octets plan octets) here (omega arith))
    ∙ ap (λ told. with_front (record { number = number; line = line_of_octets plan octets } ∷ []) told)
    (told_all plan (number + 1) messages h.1 (omega arith))

-- the trace of a file has no faulty line, and these lines
pub is_trace : (plan : Network) (file : List ℕ) (messages : List (List ℕ)) → octets_of_lines 1 (lines_of file) ≡ Ok messages
    → IsTraceOf plan file (trace_text plan messages)
is_trace plan file messages e =
    let w : AreWithin 1 messages = lines_within 1 (lines_of file) messages e in
    record { messages = messages; read = e; lines = told_all plan 1 messages w.each (w.few (omega arith)) }
