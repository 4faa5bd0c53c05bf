-- The forms of a line of a trace. The fields of a line are parted by one blank (32).
use Rattle.std.specs.Prelude.{ℕ, Bool, true, ◌&&◌, ◌==◌, nat_le, List, [], ◌∷◌, length, Option, Some, None, option_map, option_and_then}
use Rattle.std.specs.Prelude.{if◌then◌else◌, codes}
use Rattle.std.specs.List.{list_all}
use Rattle.std.specs.Str.{bytes_eq}
use Rattle.sccp_base.specs.Names.{name_of}
use Rattle.sccp_base.specs.Text.{cut_at, byte_of, point_code_of}
use Rattle.trace_text.specs.Hex.{hex_word}
use Rattle.trace_text.specs.declared.line.Line.{Line}
use Rattle.trace_text.specs.declared.line.Line.TheVariants.{Msg, Pause, Resume, NoSccp, Up, Down, Tick, Plan, Fence, Skip}

-- an octet that the name of a file may have: a visible one of ASCII, 21 to 7E hexadecimal
abbrev pub is_visible : ℕ → Bool
is_visible octet = nat_le 33 octet && nat_le octet 126

-- the name of a file has 1 to 255 of them
abbrev pub is_file_name : List ℕ → Bool
is_file_name text = nat_le 1 (length text) && (nat_le (length text) 255 && list_all is_visible text)

abbrev pub file_name : List ℕ → Option (List ℕ)
file_name text = if is_file_name text then Some text else None

-- NODE POINT
unfoldable pub node_and_point : List ℕ → Option (List ℕ × ℕ)
node_and_point text =
    option_and_then (λ fields. option_and_then (λ node. option_map (λ point. (node, point)) (point_code_of fields.1)) (name_of fields.0))
    (cut_at 32 text)

-- NODE SSN
unfoldable pub node_and_subsystem : List ℕ → Option (List ℕ × ℕ)
node_and_subsystem text =
    option_and_then (λ fields. option_and_then (λ node. option_map (λ ssn. (node, ssn)) (byte_of fields.1)) (name_of fields.0))
    (cut_at 32 text)

-- NODE POINT HEX
unfoldable pub message : List ℕ → Option Line
message text =
    option_and_then (λ node. option_and_then (λ origin. option_and_then
    (λ point. option_and_then (λ name. option_map (λ octets. Msg name point octets)
    (hex_word origin.1)) (name_of node.0)) (point_code_of origin.0)) (cut_at 32 node.1)) (cut_at 32 text)

-- a line of a word and more fields
unfoldable pub line_of_fields : List ℕ → List ℕ → Option Line
line_of_fields word fields =
    if bytes_eq word (codes "msg") then message fields
    else if bytes_eq word (codes "pause") then option_map (λ x. Pause x.0 x.1) (node_and_point fields)
    else if bytes_eq word (codes "resume") then option_map (λ x. Resume x.0 x.1) (node_and_point fields)
    else if bytes_eq word (codes "no-sccp") then option_map (λ x. NoSccp x.0 x.1) (node_and_point fields)
    else if bytes_eq word (codes "up") then option_map (λ x. Up x.0 x.1) (node_and_subsystem fields)
    else if bytes_eq word (codes "down") then option_map (λ x. Down x.0 x.1) (node_and_subsystem fields)
    else if bytes_eq word (codes "tick") then option_map Tick (name_of fields)
    else if bytes_eq word (codes "plan") then option_map Plan (file_name fields)
    else None

-- a line of one word, or of a word and what follows the blank
abbrev pub line_of_cut : List ℕ → Option (List ℕ × List ℕ) → Option Line
line_of_cut text None = if bytes_eq text (codes "fence") then Some Fence else None
line_of_cut text (Some fields) = line_of_fields fields.0 fields.1

-- an empty line, or one that begins with # (35)
abbrev pub is_skipped : List ℕ → Bool
is_skipped [] = true
is_skipped (octet ∷ octets) = octet == 35

-- the line that these octets write, if they write one
unfoldable pub line_of : List ℕ → Option Line
line_of text = if is_skipped text then Some Skip else line_of_cut text (cut_at 32 text)
