-- One more line of a text.
use Rattle.std.proofs.Common.{◌≡◌, ℕ, ◌+◌, List, [], ◌∷◌, ◌++◌, length, Result, Ok, Err, refl, sym, ◌∙◌, ap, append_assoc, append-nil}
use Rattle.std.proofs.Common.{arith}
use Rattle.m3ua_trace.specs.Traces.{and_octets, octets_of_line, octets_of_lines}
use Rattle.watch_items.specs.Items.{item_of, items_from, items_if_read}
use Rattle.watch_items.specs.Steps.{behind}
use Rattle.watch_items.specs.declared.item.Item.{Item}
use Rattle.trace_text.specs.Lines.{TextLine, lines_of}
use Rattle.trace_text.specs.declared.line_fault.LineFault.{LineFault}

abbrev ok : List Item → Result (List Item) LineFault
ok items = Ok items

abbrev failed : LineFault → Result (List Item) LineFault
failed fault = Err fault

-- the items of the lines that are left, which begin at that number
abbrev pub left : ℕ → List ℕ → Result (List Item) LineFault
left number rest = items_if_read number (octets_of_lines number (lines_of rest))

joined : (items : List Item) (number : ℕ) (octets : List ℕ) (more : Result (List (List ℕ)) LineFault)
    → behind items (items_if_read number (and_octets (Ok octets) more))
    ≡ behind (items ++ item_of number octets ∷ []) (items_if_read (number + 1) more)
unfolding items_from
joined items number octets (Ok messages) = ap ok (sym (append_assoc items (item_of number octets ∷ []) (items_from (number + 1) messages)))
joined items number octets (Err fault) = refl

-- a line without a fault
pub one_more : (items : List Item) (number : ℕ) (octets : List ℕ) (line : TextLine) (lines : List TextLine)
    → octets_of_line number line ≡ Ok octets
    → behind items (items_if_read number (octets_of_lines number (line ∷ lines)))
    ≡ behind (items ++ item_of number octets ∷ []) (items_if_read (number + 1) (octets_of_lines (number + 1) lines))
one_more items number octets line lines e =
    ap (λ here. behind items (items_if_read number (and_octets here (octets_of_lines (number + 1) lines)))) e
    ∙ joined items number octets (octets_of_lines (number + 1) lines)

-- a line with a fault
pub one_bad : (items : List Item) (number : ℕ) (fault : LineFault) (line : TextLine) (lines : List TextLine)
    → octets_of_line number line ≡ Err fault → behind items (items_if_read number (octets_of_lines number (line ∷ lines))) ≡ Err fault
one_bad items number fault line lines e =
    ap (λ here. behind items (items_if_read number (and_octets here (octets_of_lines (number + 1) lines)))) e

-- no line is left
pub at_end : (items : List Item) (number : ℕ) (rest : List ℕ) → length rest ≡ 0 → behind items (left number rest) ≡ Ok items
unfolding items_from
at_end items number [] e = ap ok (append-nil items)
at_end items number (octet ∷ octets) e = absurd (omega arith)

-- the fault of all is that of the text
pub fault_is : (items : List Item) (r : Result (List Item) LineFault) (fault : LineFault) → behind items r ≡ Err fault → r ≡ Err fault
fault_is items (Ok more) fault e = absurd (none e) where
  none : {x : List Item} → ok x ≡ failed fault → ⊥
  none f = cc
fault_is items (Err other) fault e = e

-- nothing was before
pub from_nothing : (r : Result (List Item) LineFault) (items : List Item) → behind [] r ≡ Ok items → r ≡ Ok items
from_nothing (Ok more) items e = e
from_nothing (Err fault) items e = cc
