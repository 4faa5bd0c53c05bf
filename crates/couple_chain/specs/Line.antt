-- A connection over several relays: the pairs that it goes through, and the data that entered and left them.
use Rattle.std.specs.Prelude.{◌≡◌, ℕ, zero, suc, ◌≤◌, Bool, true, false, not, ◌&&◌, ◌==◌, if◌then◌else◌, List, [], ◌∷◌, ◌++◌, length, map}
use Rattle.std.specs.Prelude.{filter, find, filter_map, flat_map, Option, Some, None, option_and_then}
use Rattle.std.specs.List.{list_any, list_all}
use Rattle.sccp_message.specs.declared.message.Message.{Message}
use Rattle.sccp_couple.specs.declared.section.Section.{Section}
use Rattle.sccp_couple.specs.Sections.{is_that, section_at, is_established, is_near_of}
use Rattle.sccp_couple.specs.Events.{Piece, Data, data_of}
use Rattle.sccp_couple.specs.Runs.{Pair, Moment}
use Rattle.couple_chain.specs.World.{Network, is_node, World}

-- a pair that a relay has at this moment, with its two sections
pub record Leg : Type 0 where
  pub node : ℕ
  pub pair : Pair
  pub near : Section
  pub far : Section

-- the leg of a pair and its two sections, if both are there
abbrev pub leg_with : ℕ → Pair → Option Section → Option Section → Option Leg
leg_with node pair (Some near) (Some far) = Some (record { node = node; pair = pair; near = near; far = far })
leg_with node pair _ _ = None

-- the leg of a pair at a moment of its relay
abbrev pub leg_of : Moment → ℕ → Pair → Option Leg
leg_of m node pair = leg_with node pair (section_at m.sections pair.near) (section_at m.sections pair.far)

-- the pair's near section has this point and remote
abbrev pub is_from : List Section → ℕ → ℕ → Option Section → Bool
is_from sections point remote None = false
is_from sections point remote (Some near) = is_near_of point remote near

-- the pair is there, and its near section has this point and remote
abbrev pub starts_at : Moment → ℕ → ℕ → Pair → Bool
starts_at m point remote pair = pair.stands && is_from m.sections point remote (section_at m.sections pair.near)

-- the pair of the relay whose near section has this point and remote
abbrev pub leg_from : World → ℕ → ℕ → ℕ → Option Leg
leg_from w point remote node = option_and_then (leg_of (w.moments node) node)
    (find (starts_at (w.moments node) point remote) (w.moments node).pairs)

-- the first of two legs if it is there, otherwise the later one
abbrev pub or_else : Option Leg → Option Leg → Option Leg
or_else (Some leg) later = Some leg
or_else None later = later

-- the first leg at these relays whose near section has this point and remote
abbrev pub first_leg : World → ℕ → ℕ → List ℕ → Option Leg
first_leg w point remote [] = None
first_leg w point remote (node ∷ nodes) = or_else (leg_from w point remote node) (first_leg w point remote nodes)

-- The leg after one, at the relay whose point its far section has. The near section there has the first relay's point, and
-- the far section's own reference as its remote.
abbrev pub next_leg : World → Leg → Option Leg
next_leg w leg = leg_from w leg.node leg.far.own leg.far.point

-- the leg before the others, if there is a list of others
abbrev pub before : Leg → Option (List Leg) → Option (List Leg)
before leg None = None
before leg (Some legs) = Some (leg ∷ legs)

-- the next leg, if the far section's remote is the next near section's own reference
abbrev pub if_joined : Leg → Leg → Option Leg
if_joined leg next = if is_that leg.far.remote next.near.own then Some next else None

-- The legs that follow from one, at most `most` of them. All are established, and each far section's remote is the next near
-- section's own reference. After the last one there is an end.
abbrev pub legs_from : Network → World → ℕ → Option Leg → Option (List Leg)
legs_from network w most None = None
legs_from network w zero (Some leg) = None
legs_from network w (suc most) (Some leg) =
    if not (is_established (w.moments leg.node).sections leg.near) then None
    else if is_node network leg.far.point
    then before leg (legs_from network w most (option_and_then (if_joined leg) (next_leg w leg)))
    else Some (leg ∷ [])

-- the legs of the line from an end's point with the reference that it gave; there are at most 15
abbrev pub legs : Network → World → ℕ → ℕ → Option (List Leg)
legs network w point remote =
    if is_node network point then None else legs_from network w 15 (first_leg w point remote network.nodes)

-- what a DT1 carries, if it has this DLR
abbrev pub piece_if_for : Option ℕ → Option Data → Option Piece
piece_if_for dlr None = None
piece_if_for dlr (Some d) = if is_that dlr d.dlr then Some d.piece else None

-- what a message carries, if it is a DT1 with this DLR
abbrev pub piece_for : Option ℕ → Message → Option Piece
piece_for dlr message = piece_if_for dlr (data_of message)

-- what those DT1 of a list carry that have this DLR
abbrev pub pieces_for : Option ℕ → List Message → List Piece
pieces_for dlr messages = filter_map (piece_for dlr) messages

-- A connection over several relays. What an end was handed is what its link delivered.
pub record Line : Type 0 where
  pub path : List ℕ
  pub end_point : ℕ
  pub forth_in : List Piece
  pub forth_out : List Piece
  pub back_in : List Piece
  pub back_out : List Piece

-- the last of a leg and the legs after it
abbrev pub last_of : Leg → List Leg → Leg
last_of leg [] = leg
last_of leg (next ∷ rest) = last_of next rest

-- the line over a path, of which the first and the last leg are given again
abbrev pub line_from : World → ℕ → List Leg → Leg → Leg → Line
line_from w point path first last = record {
  path = map (λ leg. leg.node) path;
  end_point = last.far.point;
  forth_in = first.pair.passed_near;
  forth_out = pieces_for last.far.remote (w.arrived last.node last.far.point);
  back_in = last.pair.passed_far;
  back_out = pieces_for first.near.remote (w.arrived first.node point);
}

-- the line over these legs, if there are any
abbrev pub line_of : World → ℕ → Option (List Leg) → Option Line
line_of w point None = None
line_of w point (Some []) = None
line_of w point (Some (first ∷ rest)) = Some (line_from w point (first ∷ rest) first (last_of first rest))

-- the line from an end's point and the reference that it gave
abbrev pub line : Network → World → ℕ → ℕ → Option Line
line network w point reference = line_of w point (legs network w point reference)

-- the own references of the two sections of a pair
abbrev pub both_of : Pair → List ℕ
both_of pair = pair.near ∷ pair.far ∷ []

-- the own references that a relay gave, each as often as it gave it
abbrev pub given : Moment → List ℕ
given m = flat_map both_of m.pairs

-- how many times a number is in a list
abbrev pub times : ℕ → List ℕ → ℕ
times n ns = length (filter (λ m. m == n) ns)

-- no relay gave one own reference to two sections
abbrev pub IsFresh : Network → World → Type 0
IsFresh network w = (node own : ℕ) → is_node network node ≡ true → times own (given (w.moments node)) ≤ 1

-- each number is in the list only once
abbrev pub no_repeat : List ℕ → Bool
no_repeat [] = true
no_repeat (n ∷ ns) = not (list_any (λ m. m == n) ns) && no_repeat ns

-- the same as a test: no relay gave one own reference to two sections
abbrev pub is_fresh : Network → World → Bool
is_fresh network w = list_all (λ node. no_repeat (given (w.moments node))) network.nodes

-- no link holds a message
abbrev pub IsSettled : World → Type 0
IsSettled w = (from to : ℕ) → w.waiting from to ≡ []

-- the first list is the beginning of the second one
pub record Begins {A : Type 0} (front whole : List A) : Type 0 where
  pub rest : List A
  pub is : front ++ rest ≡ whole

-- what came out of a line is the beginning of what went in
pub record IsInOrder (l : Line) : Type 0 where
  pub forth : Begins l.forth_out l.forth_in
  pub back : Begins l.back_out l.back_in

-- all that went in has left
pub record IsThrough (l : Line) : Type 0 where
  pub forth : l.forth_out ≡ l.forth_in
  pub back : l.back_out ≡ l.back_in

-- a near section of this relay with the point and remote
pub record HasNear (w : World) (node point remote own : ℕ) : Type 0 where
  pub section : Section
  pub at : section_at (w.moments node).sections own ≡ Some section
  pub near : section.near ≡ true
  pub point_is : section.point ≡ point
  pub remote_is : section.remote ≡ Some remote
