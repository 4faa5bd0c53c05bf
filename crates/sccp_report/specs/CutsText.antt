-- The printed text of every cut of a message: a line for each number of octets.
use Rattle.std.specs.Prelude.{ℕ, ◌+◌, List, [], ◌∷◌, ◌++◌, codes, decimal, Option, Some, None}
use Rattle.sccp_message.specs.Survey.{surveyed}
use Rattle.sccp_message.specs.declared.fault.DecodeFault.{DecodeFault}
use Rattle.sccp_report.specs.MessageText.{undecodable_line}

-- whether the first octets are a message, or the line that says why they are none
unfoldable pub cut_text : Option DecodeFault → List ℕ
cut_text None = codes "ok\n"
cut_text (Some fault) = undecodable_line fault

-- the same after their number
unfoldable pub cut_line : ℕ → Option DecodeFault → List ℕ
cut_line n fault = decimal n ++ codes " " ++ cut_text fault

-- a line for each, numbered from n on
abbrev pub cut_lines : ℕ → List (Option DecodeFault) → List ℕ
cut_lines n [] = []
cut_lines n (fault ∷ faults) = cut_line n fault ++ cut_lines (n + 1) faults

-- the lines of octets, from none of them to all
unfoldable pub cuts_text : List ℕ → List ℕ
cuts_text octets = cut_lines 0 (surveyed octets)
