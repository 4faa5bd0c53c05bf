-- What a file gives, be it a capture or a text.
use Rattle.std.specs.Prelude.{ℕ, if◌then◌else◌, List, Result, Ok, Err}
use Rattle.capture_trace.specs.declared.ending.Ending.TheVariants.{Whole}
use Rattle.trace_text.specs.declared.line_fault.LineFault.{LineFault}
use Rattle.watch_items.specs.Captures.{Heard, heard}
use Rattle.watch_items.specs.Front.{is_capture}
use Rattle.watch_items.specs.Items.{items_of}
use Rattle.watch_items.specs.declared.item.Item.{Item}

-- a text is whole
abbrev pub whole : List Item → Heard
whole items = record { items = items; ending = Whole }

abbrev pub if_read : Result (List Item) LineFault → Result Heard LineFault
if_read (Ok items) = Ok (whole items)
if_read (Err fault) = Err fault

-- A capture always gives its items. A text gives its items, or its first line that is no word of hexadecimal digits or breaks a limit of
-- lines.
abbrev pub heard_in : List ℕ → Result Heard LineFault
heard_in octets = if is_capture octets then Ok (heard octets) else if_read (items_of octets)
