-- The printed text of what a plan has and no covered title uses.
use Rattle.std.specs.Prelude.{ℕ, ◌<◌, List, [], ◌++◌, length, codes, decimal, Option, slice_get}
use Rattle.std.specs.List.{All, flat_map}
use Rattle.std.specs.Option.{option_and_then, option_map_or}
use Rattle.plan_covers.specs.declared.needless.Needless.{Needless}
use Rattle.plan_model.specs.Network.{Network}
use Rattle.plan_model.specs.Steps.{step}
use Rattle.plan_rules.specs.Rule.{Rule}
use Rattle.plan_unused.specs.declared.survey.Gap.{Gap}
use Rattle.plan_unused.specs.declared.survey.RowPlace.{RowPlace}
use Rattle.plan_unused.specs.declared.survey.Survey.{Survey}
use Rattle.plan_unused.specs.declared.survey.Survey.TheVariants.{Unused as UnusedParts, TooWide}
use Rattle.plan_unused.specs.declared.survey.TargetPlace.{TargetPlace}
use Rattle.plan_unused.specs.declared.survey.Unused.{Unused}
use Rattle.sccp_report.specs.Hops.{node_text, spot_text, step_text}
use Rattle.sccp_report.specs.Values.{or_dash, numbered, digits_text, selector_text}
use Rattle.sccp_report.specs.Limits.{too_wide_line}

-- a row: its selector, its subsystem number and its prefix
unfoldable pub row_text : Rule → List ℕ
row_text row = selector_text row.selector ++ codes " " ++ or_dash decimal row.ssn ++ codes " " ++ digits_text row.prefix

-- the row at a place of the plan
abbrev pub row_at : Network → RowPlace → Option Rule
row_at plan place = option_and_then (λ node. slice_get node.table place.row) (slice_get plan.nodes place.node)

-- the name of a node after these words
unfoldable pub at_node : List ℕ → Network → ℕ → List ℕ
at_node words plan node = words ++ node_text plan node

-- a relay that no covered title gets to
unfoldable pub unused_relay_line : Network → ℕ → List ℕ
unused_relay_line plan node = at_node (codes "unused relay ") plan node ++ codes "\n"

-- the name of a node, and the place of a row in its table
unfoldable pub at_row : List ℕ → Network → ℕ → ℕ → List ℕ
at_row words plan node row = at_node words plan node ++ numbered (codes " ") row

-- the last number of a line
unfoldable pub last_number : List ℕ → ℕ → List ℕ
last_number name number = numbered name number ++ codes "\n"

-- a row that counts for no covered title: its relay, its place in the table, and what it is
unfoldable pub unused_row_line : Network → RowPlace → List ℕ
unused_row_line plan place =
    at_row (codes "unused row ") plan place.node place.row ++ codes " " ++ option_map_or row_text (row_at plan place) [] ++ codes "\n"

-- a target that no covered title takes: its relay, the place of its row, and its own among the row's targets
unfoldable pub unused_target_line : Network → TargetPlace → List ℕ
unused_target_line plan place =
    at_row (codes "unused target ") plan place.node place.row ++ last_number (codes " ") place.target

-- a cover that adds nothing to another one
unfoldable pub needless_line : Needless → List ℕ
needless_line needless = numbered (codes "unused cover ") needless.cover ++ last_number (codes " within ") needless.within

-- a title of a cover at a relay that has no row for it, and what the relay does with it while nothing is prohibited
unfoldable pub gap_line : Network → Gap → List ℕ
gap_line plan gap =
    numbered (codes "gap cover ") gap.cover ++ step_text plan (step plan gap.spot []) ++ codes " " ++ spot_text plan gap.spot
    ++ codes "\n"

-- how many relays
unfoldable pub relays_words : ℕ → List ℕ
relays_words relays = codes "unused " ++ numbered (codes "relays ") relays

-- how many targets and covers
unfoldable pub covers_words : ℕ → ℕ → List ℕ
covers_words targets covers = numbered (codes " targets ") targets ++ numbered (codes " covers ") covers

-- how many of each
abbrev pub totals_line : Unused → List ℕ
totals_line found =
    relays_words (length found.relays) ++ numbered (codes " rows ") (length found.rows)
    ++ covers_words (length found.targets) (length found.covers)
    ++ last_number (codes " gaps ") (length found.gaps)

-- a line for each, in the order of the plan, and how many there are
abbrev pub unused_text : Network → Unused → List ℕ
unused_text plan found =
    flat_map (unused_relay_line plan) found.relays ++ flat_map (unused_row_line plan) found.rows
    ++ flat_map (unused_target_line plan) found.targets ++ flat_map needless_line found.covers ++ flat_map (gap_line plan) found.gaps
    ++ totals_line found

abbrev pub survey_text : Network → Survey → List ℕ
survey_text plan (UnusedParts found) = unused_text plan found
survey_text plan TooWide = too_wide_line plan.limits

-- each title that a survey shows is at a node of the plan
abbrev pub HasGapsIn : Network → Survey → Type 0
HasGapsIn plan (UnusedParts found) = All (λ gap. gap.spot.node < length plan.nodes) found.gaps
HasGapsIn plan TooWide = Unit {0}
