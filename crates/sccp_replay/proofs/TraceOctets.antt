-- The octets of a message in a trace are octets.
use Rattle.std.proofs.Common.{◌≡◌, ℕ, List, [], ◌∷◌, length, Bool, true, false, cond, Option, Some, None, Result, Ok, Err, IfSome, refl, ap}
use Rattle.std.proofs.Common.{subst}
use Rattle.std.specs.Prelude.{codes, ◌||◌, ◌+◌}
use Rattle.std.specs.List.{AllByRecursion}
use Rattle.std.specs.Option.{option_map, option_and_then}
use Rattle.std.specs.Result.{result_ok}
use Rattle.std.specs.Str.{bytes_eq}
use Rattle.hex.specs.Hex.{decode_of}
use Rattle.hex.specs.declared.error.FromHexError.{FromHexError}
use Rattle.hex.proofs.HexLemmas.{decode_of-ok}
use Rattle.sccp_address.proofs.Kept.{AreOctets, are_octets}
use Rattle.sccp_address.specs.declared.address.Address.{Address}
use Rattle.sccp_base.specs.Names.{name_of}
use Rattle.sccp_base.specs.Text.{point_code_of}
use Rattle.sccp_message.specs.Reading.{reading}
use Rattle.sccp_message.specs.declared.fault.DecodeFault.{DecodeFault}
use Rattle.sccp_message.specs.declared.message.Message.{Message}
use Rattle.sccp_message.specs.Unitdata.{called_of}
use Rattle.plan_model.specs.Network.{Network}
use Rattle.relay_net.specs.Batches.{Incoming}
use Rattle.sccp_report.specs.Roles.{routed, alone, role_by_called, role_of_message, role_at, is_for_management, management_data, status_due}
use Rattle.sccp_report.specs.Roles.{named}
use Rattle.sccp_base.specs.Text.{cut_at}
use Rattle.trace_text.specs.Forms.{file_name, node_and_point, node_and_subsystem, message, line_of_fields, line_of_cut, is_skipped, line_of}
use Rattle.trace_text.specs.Hex.{hex_word}
use Rattle.trace_text.specs.Lines.{TextLine, lines_of, limit_of, content_of}
use Rattle.trace_text.specs.Told.{only, and_then, with_number, numbered_content, numbered, told_lines}
use Rattle.trace_text.specs.declared.fed.Fed.{Fed}
use Rattle.sccp_replay.specs.Trace.{trace_of}
use Rattle.trace_text.specs.declared.line.Line.{Line}
use Rattle.trace_text.specs.declared.line.Line.TheVariants.{Msg, Pause, Resume, NoSccp, Up, Down, Tick, Plan, Fence, Skip}
use Rattle.trace_text.specs.declared.line.Numbered.{Numbered}
use Rattle.trace_text.specs.declared.line_fault.LineFault.{LineFault}
use Rattle.sccp_replay.proofs.Telling.{HasOctets}

abbrev OfOctets : Line → Type 0
OfOctets (Msg node origin octets) = AreOctets octets
OfOctets line = Unit {0}

abbrev Fine : Option Line → Type 0
Fine line = IfSome line OfOctets

-- ---- the line of some fields

either : (b : Bool) (x y : Option Line) → Fine x → Fine y → Fine (cond b x y)
either true x y p q = p
either false x y p q = q

mapped : {A : Type 0} (f : A → Line) (o : Option A) → ((a : A) → OfOctets (f a)) → Fine (option_map f o)
mapped f None h = tt
mapped f (Some a) h = h a

bytes : (digits octets : List ℕ) → result_ok (decode_of digits) ≡ Some octets → AreOctets octets
bytes digits octets e = by (decode_of digits) refl e where
  some : {a b : List ℕ} → Some a ≡ Some b → a ≡ b
  some f = cc

  none : {b : List ℕ} → None ≡ Some b → ⊥
  none f = cc

  by : (r : Result (List ℕ) FromHexError) → decode_of digits ≡ r → result_ok r ≡ Some octets → AreOctets octets
  by (Ok xs) is f = subst AreOctets (some f) (are_octets xs (decode_of-ok digits xs is).3)
  by (Err fault) is f = absurd (none f)

spelt : (word octets : List ℕ) → hex_word word ≡ Some octets → AreOctets octets
spelt [] octets e = absurd (none e) where
  none : {b : List ℕ} → None ≡ Some b → ⊥
  none f = cc
spelt (digit ∷ digits) octets e = bytes (digit ∷ digits) octets e

worded : (node : List ℕ) (pc : ℕ) (word : List ℕ) → Fine (option_map (λ octets. Msg node pc octets) (hex_word word))
worded node pc word = by (hex_word word) refl where
  by : (o : Option (List ℕ)) → hex_word word ≡ o → Fine (option_map (λ octets. Msg node pc octets) o)
  by None e = tt
  by (Some octets) e = spelt word octets e

named_by : (word : List ℕ) (pc : ℕ) (name : Option (List ℕ))
    → Fine (option_and_then (λ name. option_map (λ octets. Msg name pc octets) (hex_word word)) name)
named_by word pc None = tt
named_by word pc (Some name) = worded name pc word

from_point : (word node : List ℕ) (pc : Option ℕ)
    → Fine (option_and_then (λ point. option_and_then (λ name. option_map (λ octets. Msg name point octets) (hex_word word))
    (name_of node)) pc)
from_point word node None = tt
from_point word node (Some pc) = named_by word pc (name_of node)

from_rest : (node : List ℕ) (cut : Option (List ℕ × List ℕ))
    → Fine (option_and_then (λ origin. option_and_then (λ point. option_and_then
    (λ name. option_map (λ octets. Msg name point octets) (hex_word origin.1)) (name_of node)) (point_code_of origin.0)) cut)
from_rest node None = tt
from_rest node (Some origin) = from_point origin.1 node (point_code_of origin.0)

from_fields : (cut : Option (List ℕ × List ℕ))
    → Fine (option_and_then (λ node. option_and_then (λ origin. option_and_then
    (λ point. option_and_then (λ name. option_map (λ octets. Msg name point octets) (hex_word origin.1)) (name_of node.0))
    (point_code_of origin.0)) (cut_at 32 node.1)) cut)
from_fields None = tt
from_fields (Some node) = from_rest node.0 (cut_at 32 node.1)

of_message : (text : List ℕ) → Fine (message text)
unfolding message
of_message text = from_fields (cut_at 32 text)

fields_fine : (word fields : List ℕ) → Fine (line_of_fields word fields)
unfolding line_of_fields
fields_fine w f =
    either (bytes_eq w (codes "msg")) _ _ (of_message f)
    (either (bytes_eq w (codes "pause")) _ _ (mapped (λ x. Pause x.0 x.1) (node_and_point f) (λ x. tt))
    (either (bytes_eq w (codes "resume")) _ _ (mapped (λ x. Resume x.0 x.1) (node_and_point f) (λ x. tt))
    (either (bytes_eq w (codes "no-sccp")) _ _ (mapped (λ x. NoSccp x.0 x.1) (node_and_point f) (λ x. tt))
    (either (bytes_eq w (codes "up")) _ _ (mapped (λ x. Up x.0 x.1) (node_and_subsystem f) (λ x. tt))
    (either (bytes_eq w (codes "down")) _ _ (mapped (λ x. Down x.0 x.1) (node_and_subsystem f) (λ x. tt))
    (either (bytes_eq w (codes "tick")) _ _ (mapped Tick (name_of f) (λ x. tt))
    (either (bytes_eq w (codes "plan")) _ _ (mapped Plan (file_name f) (λ x. tt)) tt)))))))

cut_fine : (text : List ℕ) (cut : Option (List ℕ × List ℕ)) → Fine (line_of_cut text cut)
cut_fine text None = either (bytes_eq text (codes "fence")) (Some Fence) None tt tt
cut_fine text (Some fields) = fields_fine fields.0 fields.1

line_fine : (content : List ℕ) → Fine (line_of content)
unfolding line_of
line_fine content = either (is_skipped content) (Some Skip) (line_of_cut content (cut_at 32 content)) tt
    (cut_fine content (cut_at 32 content))

-- ---- the role of such a line

by_called : (x y : Incoming) (m : Message) (a : Option Address) → role_by_called x m a ≡ routed y → x ≡ y
by_called x y m None e = cc
by_called x y m (Some a) e = by (is_for_management a) e where
  same : routed x ≡ routed y → x ≡ y
  same f = cc

  by : (b : Bool) → cond b (alone (option_map (status_due x) (management_data m))) (routed x) ≡ routed y → x ≡ y
  by true f = cc
  by false f = same f

by_octets : (x y : Incoming) (r : Result Message DecodeFault) → role_of_message x r ≡ routed y → x ≡ y
by_octets x y (Ok m) e = by_called x y m (called_of m) e
by_octets x y (Err fault) e = cc

by_node : (origin : ℕ) (octets : List ℕ) (node : Option ℕ) (y : Incoming) → role_at origin octets node ≡ routed y → octets ≡ y.octets
by_node origin octets None y e = cc
by_node origin octets (Some entry) y e = ap (λ z. z.octets)
    (by_octets (record { entry = entry; origin = origin; octets = octets }) y (reading octets) e)

role_fine : (first : Network) (number : ℕ) (line : Line) → OfOctets line → HasOctets first (record { number = number; line = line })
role_fine first number (Msg node origin octets) h = λ x e. subst AreOctets (by_node origin octets (named first node) x e) h
role_fine first number (Pause node pc) h = λ x e. cc
role_fine first number (Resume node pc) h = λ x e. cc
role_fine first number (NoSccp node pc) h = λ x e. cc
role_fine first number (Up node ssn) h = λ x e. cc
role_fine first number (Down node ssn) h = λ x e. cc
role_fine first number (Tick node) h = λ x e. cc
role_fine first number (Plan file) h = λ x e. cc
role_fine first number Fence h = λ x e. cc
role_fine first number Skip h = λ x e. cc

-- ---- all lines

behind : (first : Network) (r : Result Numbered LineFault) (rest : Fed) → ((l : Numbered) → r ≡ Ok l → HasOctets first l)
    → AllByRecursion (HasOctets first) rest.lines → AllByRecursion (HasOctets first) (and_then r rest).lines
behind first (Ok l) rest h all = (h l refl, all)
behind first (Err fault) rest h all = tt

same_line : {E : Type 0} (r : Result Numbered E) (k l : Numbered) → r ≡ Ok k → r ≡ Ok l → k ≡ l
same_line r k l e f = cc

held : (first : Network) (number : ℕ) (r : Result (List ℕ) LineFault) (l : Numbered) → numbered_content number r ≡ Ok l → HasOctets first l
held first number (Err fault) l e = cc
held first number (Ok content) l e = by (line_of content) (line_fine content) e where
  by : (o : Option Line) → Fine o → with_number number o ≡ Ok l → HasOctets first l
  by None h f = cc
  by (Some line) h f = subst (HasOctets first) (same_line (with_number number (Some line))
      (record { number = number; line = line }) l refl f) (role_fine first number line h)

from_number : (first : Network) (number : ℕ) (lines : List TextLine) → AllByRecursion (HasOctets first) (told_lines true number lines).lines
from_number first number [] = tt
from_number first number (line ∷ lines) = by (line.ended || true) (from_number first (number + 1) lines) where
  by : (b : Bool) → AllByRecursion (HasOctets first) (told_lines true (number + 1) lines).lines
      → AllByRecursion (HasOctets first) (cond b (and_then (numbered number line) (told_lines true (number + 1) lines))
      (only (limit_of number (length line.octets)))).lines
  by true all = behind first (numbered number line) (told_lines true (number + 1) lines)
      (λ l e. held first number (content_of number line) l e) all
  by false all = tt

pub trace_octets : (first : Network) (text : List ℕ) → AllByRecursion (HasOctets first) (trace_of text).lines
trace_octets first text = from_number first 1 (lines_of text)
