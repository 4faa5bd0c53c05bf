-- What the calls give that take one line, or one piece of a capture, after the other.
use Rattle.std.specs.Prelude.{◌≡◌, ℕ, List, [], ◌∷◌, ◌++◌, Result, Ok, Err}
use Rattle.m3ua_trace.specs.Traces.{octets_of_line}
use Rattle.m3ua_trace.specs.declared.import_error.ImportError.{ImportError}
use Rattle.m3ua_trace.specs.declared.import_error.ImportError.TheVariants as errors
use Rattle.trace_text.specs.Lines.{TextLine}
use Rattle.trace_text.specs.declared.line_fault.LineFault.{LineFault}
use Rattle.watch_items.specs.Captures.{State, after_items, ahead}
use Rattle.watch_items.specs.Items.{item_of, items_of}
use Rattle.watch_items.specs.declared.item.Item.{Item}

-- the item of a line or its fault, unless memory ran out
abbrev pub GivesItem : ℕ → TextLine → Result Item ImportError → Type 0
GivesItem number line (Ok item) = (octets : List ℕ) × (octets_of_line number line ≡ Ok octets) × (item ≡ item_of number octets)
GivesItem number line (Err errors.Memory) = Unit {0}
GivesItem number line (Err (errors.Line fault)) = octets_of_line number line ≡ Err fault

-- it is put after the others
abbrev pub TakesLine : {T : Type 0} → ℕ → TextLine → List Item → List Item → Result T ImportError → Type 0
TakesLine number line old new (Ok done) =
    (octets : List ℕ) × (octets_of_line number line ≡ Ok octets) × (new ≡ old ++ item_of number octets ∷ [])
TakesLine number line old new (Err errors.Memory) = Unit {0}
TakesLine number line old new (Err (errors.Line fault)) = octets_of_line number line ≡ Err fault

-- items after others, or only the fault
abbrev pub behind : List Item → Result (List Item) LineFault → Result (List Item) LineFault
behind items (Ok more) = Ok (items ++ more)
behind items (Err fault) = Err fault

-- the items of a text are put after others
abbrev pub TakesLines : {T : Type 0} → List ℕ → List Item → List Item → Result T ImportError → Type 0
TakesLines text old new (Ok done) = behind old (items_of text) ≡ Ok new
TakesLines text old new (Err errors.Memory) = Unit {0}
TakesLines text old new (Err (errors.Line fault)) = items_of text ≡ Err fault

-- ---- a capture

-- A piece of the file was taken. Whatever follows it, what was ahead are the items that were appended, and then what is ahead now.
pub record Feeds (old : State) (piece : List ℕ) (before after : List Item) (new : State) : Type 0 where
  pub more : List Item
  pub appended : after ≡ before ++ more
  pub goes_on : (rest : List ℕ) → ahead old (piece ++ rest) ≡ after_items more (ahead new rest)
