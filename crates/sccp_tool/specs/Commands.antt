-- The words of the command line: the name of a command, and after it the command's own words. The word `wide` before a command
-- that reads a plan asks for the same under the wide limits.
use Rattle.std.specs.Prelude.{ℕ, List, [], ◌∷◌, Option, None, if◌then◌else◌, codes, string_bytes, String, map}
use Rattle.std.specs.Str.{bytes_eq}
use Rattle.std.specs.declared.alloc.Global.{Global}
use Rattle.plan_model.specs.Limits.{standard, wide}
use Rattle.plan_model.specs.declared.limits.Limits.{Limits}
use Rattle.sccp_tool.specs.Replay.{replay_words}
use Rattle.sccp_tool.specs.Capture.{capture_words}
use Rattle.sccp_tool.specs.Conform.{conform_words}
use Rattle.sccp_tool.specs.Covers.{covers_words}
use Rattle.sccp_tool.specs.Cuts.{cuts_words}
use Rattle.sccp_tool.specs.Import.{import_words}
use Rattle.sccp_tool.specs.Change.{change_words}
use Rattle.sccp_tool.specs.Connect.{connect_words}
use Rattle.sccp_tool.specs.Load.{load_words}
use Rattle.sccp_tool.specs.Margin.{margin_words}
use Rattle.sccp_tool.specs.Order.{order_words}
use Rattle.sccp_tool.specs.Route.{route_words}
use Rattle.sccp_tool.specs.SendOn.{send_on_words}
use Rattle.sccp_tool.specs.Show.{show_words}
use Rattle.sccp_tool.specs.ShowHex.{show_hex_words}
use Rattle.sccp_tool.specs.Task.{Task}
use Rattle.sccp_tool.specs.Unused.{unused_words}
use Rattle.sccp_tool.specs.Verify.{verify_words}

-- the commands that send messages over the relays of a plan, or take them from a file
unfoldable pub further_plan_command_of : Limits → List ℕ → List (List ℕ) → Option Task
further_plan_command_of limits name words =
    if bytes_eq name (codes "replay") then replay_words limits words
    else if bytes_eq name (codes "import") then import_words limits words
    else if bytes_eq name (codes "capture") then capture_words limits words
    else if bytes_eq name (codes "conform") then conform_words limits words
    else if bytes_eq name (codes "connect") then connect_words limits words
    else if bytes_eq name (codes "send-on") then send_on_words limits words
    else None

-- the commands that read a plan, under these limits
unfoldable pub plan_command_of : Limits → List ℕ → List (List ℕ) → Option Task
plan_command_of limits name words =
    if bytes_eq name (codes "verify") then verify_words limits words
    else if bytes_eq name (codes "covers") then covers_words limits words
    else if bytes_eq name (codes "unused") then unused_words limits words
    else if bytes_eq name (codes "margin") then margin_words limits words
    else if bytes_eq name (codes "change") then change_words limits words
    else if bytes_eq name (codes "order") then order_words limits words
    else if bytes_eq name (codes "route") then route_words limits words
    else further_plan_command_of limits name words

-- the commands by their names
unfoldable pub command_of : List ℕ → List (List ℕ) → Option Task
command_of name words =
    if bytes_eq name (codes "show-hex") then show_hex_words words
    else if bytes_eq name (codes "show") then show_words words
    else if bytes_eq name (codes "load") then load_words words
    else if bytes_eq name (codes "cuts") then cuts_words words
    else plan_command_of standard name words

-- the words after `wide`: a command that reads a plan
abbrev pub wide_of : List (List ℕ) → Option Task
wide_of [] = None
wide_of (name ∷ words) = plan_command_of wide name words

-- none if the words have none of the shapes
abbrev pub task_of : List (List ℕ) → Option Task
task_of [] = None
task_of (name ∷ words) = if bytes_eq name (codes "wide") then wide_of words else command_of name words

-- the words as texts
abbrev pub texts : List (String Global) → List (List ℕ)
texts words = map string_bytes words
