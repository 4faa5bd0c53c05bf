-- The parts of a message, or the first fault: the type, the length, each variable part in order, the optional part.
use Rattle.std.specs.Prelude.{ℕ, ◌+◌, Bool, true, false, not, ◌||◌, ◌==◌, nat_lt, if◌then◌else◌, List, [], ◌∷◌, length, slice_range, Option}
use Rattle.std.specs.Prelude.{Some, None, Result, Ok, Err}
use Rattle.std.specs.Option.{ok_or}
use Rattle.std.specs.List.{range_with_len}
use Rattle.sccp_base.specs.Answers.{◌>>=◌, all_ok, Answers}
use Rattle.sccp_layout.specs.declared.shape.Layout.{Layout}
use Rattle.sccp_layout.specs.declared.parts.Parts.{Parts}
use Rattle.sccp_layout.specs.declared.parts.SplitFault.{SplitFault}
use Rattle.sccp_layout.specs.declared.parts.SplitFault.TheVariants.{UnknownType, Short, BadPointer, BadPart, BadOptional, OutOfMemory}
use Rattle.sccp_layout.specs.Parameter.{Parameter}
use Rattle.sccp_layout.specs.Table.{layout_of}
use Rattle.sccp_layout.specs.Places.{pointer, place, after_pointers, names_place, part, listed}

-- want of memory is the only fault whose cause is not given
abbrev pub is_memory : SplitFault → Bool
is_memory OutOfMemory = true
is_memory UnknownType = false
is_memory Short = false
is_memory (BadPointer i) = false
is_memory (BadPart i) = false
is_memory BadOptional = false

-- the answer is the expected one, or memory ran out; view is what a clause sees of the answer's value
abbrev pub Gives : {X Y : Type 0} → (X → Y) → Result X SplitFault → Result Y SplitFault → Type 0
Gives view result expected = Answers is_memory view result expected

-- variable part i, or its fault
abbrev pub part_at : Layout → List ℕ → ℕ → Result (List ℕ) SplitFault
part_at l b i = if names_place l b i then ok_or (part l b i) (BadPart i) else Err (BadPointer i)

-- the optional parameters; a pointer of 0 says that there is no optional part
abbrev pub params_at : Layout → List ℕ → Result (List Parameter) SplitFault
params_at l b =
    if not l.optional || (pointer l b l.variable == 0) then Ok []
    else if names_place l b l.variable then ok_or (listed b (place l b l.variable)) BadOptional
    else Err (BadPointer l.variable)

-- the parts by a layout
unfoldable pub parts_by : ℕ → Layout → List ℕ → Result Parts SplitFault
parts_by code l b = if nat_lt (length b) (after_pointers l) then Err Short else do
  variable ← all_ok (part_at l b) (range_with_len 0 l.variable)
  params ← params_at l b
  Ok (record { code = code; fixed = slice_range b 1 (1 + l.fixed); variable = variable; params = params })

-- the parts, if the type is known
abbrev pub parts_if : Option Layout → ℕ → List ℕ → Result Parts SplitFault
parts_if None code b = Err UnknownType
parts_if (Some l) code b = parts_by code l b

-- the parts of a message, by the layout of its type
abbrev pub parts_of : List ℕ → Result Parts SplitFault
parts_of [] = Err Short
parts_of (code ∷ rest) = parts_if (layout_of code) code (code ∷ rest)
