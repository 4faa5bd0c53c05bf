-- The command that makes a plan and messages from a number, and counts what becomes of the messages.
use Rattle.std.specs.Prelude.{◌≡◌, ℕ, nat_le, List, [], ◌∷◌, ◌++◌, codes, Option, Some, None, option_and_then, if◌then◌else◌}
use Rattle.std.specs.Io.KnownBytes.{append_known}
use Rattle.std.specs.Option.{option_map}
use Rattle.sccp_base.specs.Text.{decimal_of}
use Rattle.made_load.specs.Loads.{AddUp, load_counts}
use Rattle.made_load.specs.Relays.{load_plan}
use Rattle.made_load.specs.declared.counts.Counts.{Counts}
use Rattle.sccp_report.specs.Values.{numbered}
use Rattle.sccp_replay.specs.Workers.{workers_in}
use Rattle.sccp_work.specs.Accepting.{if_accepted}
use Rattle.sccp_tool.specs.LoadTrace.{load_lines, replay_counts}
use Rattle.sccp_tool.specs.Task.{Task, Load}
use Rattle.sccp_work.specs.Work.{Work, answered}
use Rattle.sccp_work.specs.declared.status.Status.{Status}
use Rattle.sccp_work.specs.declared.status.Status.TheVariants.{Done}

-- one to ten decimal digits that spell a number up to the given one
abbrev pub number_to : ℕ → List ℕ → Option ℕ
number_to most word = option_and_then (λ n. if nat_le n most then Some n else None) (decimal_of 10 word)

-- a number of 32 bits, how many messages, and the number of workers
unfoldable pub load_of : List ℕ → List ℕ → List ℕ → Option Task
load_of number size workers =
    option_and_then (λ n. option_and_then (λ s. option_map (λ w. Load n s w) (workers_in workers)) (number_to 100000 size))
    (number_to 4294967295 number)

-- NUMBER SIZE WORKERS
unfoldable pub load_words : List (List ℕ) → Option Task
load_words (number ∷ size ∷ workers ∷ []) = load_of number size workers
load_words words = None

unfoldable pub count_line : List ℕ → ℕ → List ℕ
count_line name count = numbered name count ++ codes "\n"

unfoldable pub counts_text : Counts → List ℕ
counts_text c =
    count_line (codes "messages ") c.messages ++ count_line (codes "ended ") c.ended
    ++ count_line (codes "returned ") c.returned ++ count_line (codes "translations ") c.translations

-- the plan is verified as any other; if it is not accepted, its verdict is printed
abbrev pub load_work : ℕ → ℕ → Work
load_work number size = if_accepted [] (load_plan number) (λ accepted. answered (Done, counts_text (load_counts number size)))

-- the cause of each answer: the plan of each number is accepted
abbrev pub LoadCause : Status → Type 0
LoadCause Done = Unit {0}
LoadCause answer = ⊥

-- The sink took the counts of exactly these messages. Those that ended and those that were returned are all of them, and the
-- translations are one to six times as many. They are what is counted of the replay of the number's trace over its plan.
abbrev pub LoadTells : ℕ → ℕ → Status → Option (List ℕ) → Option (List ℕ) → Type 0
LoadTells number size given taken taken' = given ≡ Done →
    (taken' ≡ append_known taken (counts_text (load_counts number size))) × AddUp size (load_counts number size)
    × (load_counts number size ≡ replay_counts (load_plan number) (load_lines number size))
