-- The printed lines at the end of a capture.
use Rattle.std.specs.Prelude.{ℕ, ◌+◌, List, [], ◌∷◌, ◌++◌, codes, decimal}
use Rattle.std.specs.List.{flat_map}
use Rattle.plan_model.specs.Network.{Network}
use Rattle.sccp_report.specs.Hops.{node_text}
use Rattle.relay_watch.specs.declared.counts.Counts.{Counts}
use Rattle.relay_watch.specs.declared.summary.Summary.{Summary}
use Rattle.relay_watch.specs.declared.tally.Tally.{Tally}
use Rattle.watch_text.specs.Lines.{unanswered_line}

-- a count after its name
unfoldable pub counted : List ℕ → ℕ → List ℕ
counted name count = name ++ decimal count

-- the counts of the messages that a relay sent
unfoldable pub sent_counts : Counts → List ℕ
sent_counts c = counted (codes " sent ") c.sent ++ counted (codes " plain ") c.plain ++ counted (codes " failing ") c.failing
    ++ counted (codes " unexplained ") c.unexplained

-- the count of the arrivals that nothing answered
unfoldable pub unanswered_count : Counts → List ℕ
unanswered_count c = counted (codes " unanswered ") c.unanswered

-- the counts of everything else
unfoldable pub other_counts : Counts → List ℕ
other_counts c = unanswered_count c ++ counted (codes " others ") c.others ++ counted (codes " markings ") c.markings

-- the counts of a relay
unfoldable pub counts_line : List ℕ → Counts → List ℕ
counts_line name c = codes "relay " ++ name ++ counted (codes " arrived ") c.arrived ++ sent_counts c ++ other_counts c ++ codes "\n"

-- how often a target was taken: the row of the relay, and the target of the row, both from 0
unfoldable pub target_line : List ℕ → ℕ → ℕ → ℕ → List ℕ
target_line name row target count =
    codes "relay " ++ name ++ codes " target " ++ decimal row ++ codes "/" ++ decimal target ++ counted (codes " taken ") count
    ++ codes "\n"

-- the targets of a row from a place on
abbrev pub target_lines : List ℕ → ℕ → ℕ → List ℕ → List ℕ
target_lines name row target [] = []
target_lines name row target (count ∷ counts) = target_line name row target count ++ target_lines name row (target + 1) counts

-- the rows of a relay from a place on
abbrev pub row_lines : List ℕ → ℕ → List (List ℕ) → List ℕ
row_lines name row [] = []
row_lines name row (counts ∷ rows) = target_lines name row 0 counts ++ row_lines name (row + 1) rows

-- the lines of a relay
unfoldable pub tally_lines : List ℕ → Tally → List ℕ
tally_lines name t = counts_line name t.counts ++ row_lines name 0 t.taken

-- the relays of the plan from a place on
abbrev pub relay_lines : Network → ℕ → List Tally → List ℕ
relay_lines plan node [] = []
relay_lines plan node (t ∷ ts) = tally_lines (node_text plan node) t ++ relay_lines plan (node + 1) ts

-- how many messages were judged, and how many of them are unexplained
unfoldable pub end_line : ℕ → ℕ → List ℕ
end_line events unexplained = counted (codes "end ") events ++ counted (codes " unexplained ") unexplained ++ codes "\n"

-- the arrivals that nothing answered; of each relay its counts and how often each target was taken; and the last line
unfoldable pub summary_text : Network → Summary → List ℕ
summary_text plan s =
    flat_map (unanswered_line plan) s.unanswered ++ relay_lines plan 0 s.relays ++ end_line s.events s.unexplained
