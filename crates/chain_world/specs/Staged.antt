-- A line as running relays find it: by their sections, their records of data, and the octets on their links.
use Rattle.std.specs.Prelude.{ℕ, zero, suc, ◌+◌, Bool, ◌&&◌, if◌then◌else◌, List, [], ◌∷◌, find, filter_map, map, position, slice_get, take}
use Rattle.std.specs.Prelude.{Option, Some, None, is_some, option_map, option_and_then}
use Rattle.std.specs.Option.{option_map_or}
use Rattle.sccp_message.specs.Reading.{reading}
use Rattle.plan_model.specs.Network as plans
use Rattle.plan_model.specs.Network.{has_point}
use Rattle.sccp_scrc.specs.Arriving.{point_of}
use Rattle.sccp_couple.specs.declared.section.Section.{Section}
use Rattle.sccp_couple.specs.Sections.{is_that, other_of, is_near_of}
use Rattle.sccp_couple.specs.Events as couplings
use Rattle.couple_chain.specs.Line as lines
use Rattle.couple_chain.specs.Line.{piece_for}
use Rattle.couple_chain.specs.Logged.{logged}
use Rattle.couple_chain.specs.World.{is_node}
use Rattle.couple_chain.specs.declared.passed.Passed.{Passed}
use Rattle.couple_chain.specs.Relays.{Relaying}
use Rattle.chain_world.specs.declared.line.Line.{Line}
use Rattle.chain_world.specs.declared.line.Piece.{Piece}
use Rattle.chain_world.specs.declared.link.Link.{Link}
use Rattle.chain_world.specs.declared.stage.Stage.{Stage}
use Rattle.chain_world.specs.Kept.{network_of}
use Rattle.chain_world.specs.Links.{octets_on, gone_from}
use Rattle.chain_world.specs.Offering.{if_read}

-- a piece as the definition has it
abbrev pub told_piece : Piece → couplings.Piece
told_piece p = record { more = p.more; payload = p.payload }

-- the pair of this near section, at a relay that is given by its place in the plan
abbrev pub stage_with : List Section → ℕ → Section → Option Stage
stage_with sections node near = option_map (λ far. record { node = node; near = near; far = far }) (other_of sections near)

-- the pair of these sections whose near one has this point and remote
abbrev pub stage_of : List Section → ℕ → ℕ → ℕ → Option Stage
stage_of sections node point remote = option_and_then (stage_with sections node) (find (is_near_of point remote) sections)

-- the first of two pairs if it is there, otherwise the second
abbrev pub or_stage : Option Stage → Option Stage → Option Stage
or_stage (Some stage) later = Some stage
or_stage None later = later

-- The pair whose near section has this point and remote, at the first relay that has one. The first relay of the list has the
-- place `node`.
abbrev pub first_in : ℕ → List Relaying → ℕ → ℕ → Option Stage
first_in node [] point remote = None
first_in node (r ∷ relays) point remote = or_stage (stage_of r.sections node point remote) (first_in (node + 1) relays point remote)

-- the sections of the relay at a place
abbrev pub sections_at : List Relaying → ℕ → List Section
sections_at relays node = option_map_or (λ r. r.sections) (slice_get relays node) []

-- the next pair, if its near section's own reference is the remote of the far section before it
abbrev pub joined_to : Stage → Stage → Option Stage
joined_to stage next = if is_that stage.far.remote next.near.own then Some next else None

-- The pair after one, at the relay at this place. Its near section has the point of the relay before, and as its remote the
-- own reference of that relay's far section.
abbrev pub next_in : plans.Network → List Relaying → Stage → ℕ → Option Stage
next_in plan relays stage node = option_and_then (joined_to stage)
    (stage_of (sections_at relays node) node (point_of plan stage.node) stage.far.own)

-- both sections have a remote
abbrev pub is_open : Stage → Bool
is_open stage = is_some stage.near.remote && is_some stage.far.remote

-- The pairs that follow from an open one. If its far section has an end's point, that is only this pair. Otherwise those from
-- the next pair follow.
abbrev pub stages_onward : (Stage → Option (List Stage)) → plans.Network → List Relaying → Stage → Option ℕ → Option (List Stage)
stages_onward rest plan relays stage None = Some (stage ∷ [])
stages_onward rest plan relays stage (Some node) = option_map (λ stages. stage ∷ stages)
    (option_and_then rest (next_in plan relays stage node))

-- The pairs that follow from one, at most `most` of them. There are none if one of them is not open, if one has no next pair,
-- or if there are more.
abbrev pub stages_from : plans.Network → List Relaying → ℕ → Stage → Option (List Stage)
stages_from plan relays zero stage = None
stages_from plan relays (suc most) stage =
    if is_open stage then stages_onward (λ next. stages_from plan relays most next) plan relays stage
    (position (has_point stage.far.point) plan.nodes) else None

-- what these octets carry, if they are a DT1 with this destination reference
abbrev pub piece_in : Option ℕ → List ℕ → Option couplings.Piece
piece_in remote octets = option_and_then (piece_for remote) (if_read (reading octets))

-- what those DT1 among them carry that have this destination reference, in order
abbrev pub pieces_in : Option ℕ → List (List ℕ) → List couplings.Piece
pieces_in remote octets = filter_map (piece_in remote) octets

-- a line as the definition has it, with the points of its relays in place of their places
abbrev pub told_line : plans.Network → Line → lines.Line
told_line plan l = record {
  path = map (point_of plan) l.path;
  end_point = l.far;
  forth_in = map told_piece l.forth_in;
  forth_out = map told_piece l.forth_out;
  back_in = map told_piece l.back_in;
  back_out = map told_piece l.back_out;
}

-- what the sections of the relay at a place passed on
abbrev pub passed_at : List Relaying → ℕ → List Passed
passed_at relays node = option_map_or (λ r. r.passed) (slice_get relays node) []

-- what a link has delivered
abbrev pub delivered_by : List Link → ℕ → ℕ → List (List ℕ)
delivered_by links from to = take (gone_from links from to) (octets_on links from to)

-- The line over these pairs, of which the first and the last are given again. What went in is read from the relays' records,
-- and what came out from the links.
abbrev pub over : plans.Network → List Relaying → List Link → ℕ → List Stage → Stage → Stage → lines.Line
over plan relays links point path first last = record {
  path = map (λ stage. point_of plan stage.node) path;
  end_point = last.far.point;
  forth_in = logged first.near.own (passed_at relays first.node);
  forth_out = pieces_in last.far.remote (delivered_by links (point_of plan last.node) last.far.point);
  back_in = logged last.far.own (passed_at relays last.node);
  back_out = pieces_in first.near.remote (delivered_by links (point_of plan first.node) point);
}

-- the last of the pairs, of which the first is given apart
abbrev pub last_stage : Stage → List Stage → Stage
last_stage stage [] = stage
last_stage stage (next ∷ rest) = last_stage next rest

-- the line over the pairs, if there are any
abbrev pub line_by : plans.Network → List Relaying → List Link → ℕ → Option (List Stage) → Option lines.Line
line_by plan relays links point None = None
line_by plan relays links point (Some []) = None
line_by plan relays links point (Some (first ∷ rest)) = Some (over plan relays links point (first ∷ rest) first (last_stage first rest))

-- the line from an end's point and the reference that it gave, over at most 15 pairs
abbrev pub line_in : plans.Network → List Relaying → List Link → ℕ → ℕ → Option lines.Line
line_in plan relays links point reference =
    if is_node (network_of plan) point then None else line_by plan relays links point
    (option_and_then (stages_from plan relays 15) (first_in 0 relays point reference))
